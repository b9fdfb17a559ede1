-- The end behind structures that can be written.
use Rattle.std.proofs.Common.{◌≡◌, List, [], ◌∷◌, ◌++◌, sym, subst}
use Rattle.smbios_model.specs.declared.smbios.Body.TheVariants.{End}
use Rattle.smbios_model.specs.declared.smbios.Structure.{Structure}
use Rattle.smbios_build.specs.Buildable.{AreBuildable}
use Rattle.test_machines.specs.Unended.{AreUnended}

with_end : (structures : List Structure) (end : Structure) → end.body ≡ End → AreUnended structures → AreBuildable (structures ++ end ∷ [])
with_end [] end is_end each = is_end
with_end (s ∷ []) end is_end each = (each.0.0, each.0.1, is_end)
with_end (s ∷ next ∷ others) end is_end each = (each.0.0, each.0.1, with_end (next ∷ others) end is_end each.1)

pub ended : (structures : List Structure) (end : Structure) (all : List Structure) → all ≡ structures ++ end ∷ [] → end.body ≡ End
    → AreUnended structures → AreBuildable all
ended structures end all same is_end each = subst AreBuildable (sym same) (with_end structures end is_end each)
