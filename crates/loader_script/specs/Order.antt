-- The order of the files' names.
use Rattle.std.specs.Prelude.{ℕ, suc, List, [], ◌∷◌}
use Rattle.std.specs.List.{AllByRecursion}
use Rattle.std.specs.List.Sorted.{IsPermutation, IsSortedByKey}
use Rattle.std.specs.Cmp.Lexicographic.{slice_cmp}
use Rattle.std.specs.Ordering.{nat_cmp}
use Rattle.vt_outside.specs.Name.{in_field, IsName}
use Rattle.loader_script.specs.declared.refusing.FileInfo.{FileInfo}
use Rattle.loader_script.specs.declared.order.NameOrder.{NameOrder}
use Rattle.loader_script.specs.declared.order.NameRow.{NameRow}

-- the rows of files, the first of which has this index
abbrev pub rows_from : ℕ → List FileInfo → List NameRow
rows_from index [] = []
rows_from index (file ∷ files) = record { field = in_field file.name; index = index } ∷ rows_from (suc index) files

-- the rows are those of the files, in the order of their fields, and each field is a name's
pub record IsOrderOf (files : List FileInfo) (order : NameOrder) : Type 0 where
  pub rows : IsPermutation (rows_from 0 files) order.rows.items
  pub sorted : IsSortedByKey (λ (row : NameRow). row.field) (slice_cmp nat_cmp) order.rows.items
  pub names : AllByRecursion (λ (file : FileInfo). IsName file.name) files
