-- The values of a package that are kept.
use Rattle.std.specs.Prelude.{◌≡◌, List, length, map, take}
use Rattle.aml_terms.specs.Trees.{Tree, view}
use Rattle.aml_decode.specs.declared.values.Kept.{Kept}

-- All values that were read are counted, and of them the first 255 are kept, which is as many as a package may have.
pub record IsKept (kept : Kept) (read : List Tree) : Type 0 where
  pub counted : kept.count ≡ length read
  pub first : map view kept.values ≡ take 255 read
