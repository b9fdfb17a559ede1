-- Structures to which others are still added.
use Rattle.std.specs.Prelude.{◌≢◌, List}
use Rattle.std.specs.List.{AllByRecursion}
use Rattle.smbios_model.specs.declared.smbios.Body.TheVariants.{End}
use Rattle.smbios_model.specs.declared.smbios.Structure.{Structure}
use Rattle.smbios_build.specs.Buildable.{IsBuildable}

-- each can be written, and none is the end
abbrev pub AreUnended : List Structure → Type 0
AreUnended structures = AllByRecursion (λ s. (s.body ≢ End) × IsBuildable s.body) structures
