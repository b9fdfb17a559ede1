-- The address of a bridge's configuration space is got back from the MCFG.
use Rattle.std.proofs.Common.{◌≡◌, Bool, true, false, cond, ◌==◌, Some, None, option_map, refl, sym}
use Rattle.std.proofs.lemmas.Bool.{eqb-true}
use Rattle.machine_desc.specs.declared.machine.Acpi.{Acpi}
use Rattle.machine_desc.specs.declared.device_parts.Bridge.{Bridge}
use Rattle.acpi_model.specs.MachineMcfg.{if_mapped, mcfg_of_bridge, ecam_in}

-- the address of configuration space is the one that the MCFG tells, and 0 without one
told : (acpi : Acpi) (b : Bridge) (none : Bool) → (b.ecam == 0) ≡ none
    → ecam_in (option_map (mcfg_of_bridge acpi) (cond none None (Some b))) ≡ b.ecam
told acpi b true is = sym (eqb-true b.ecam 0 is)
told acpi b false is = refl

pub ecam_back : (acpi : Acpi) (b : Bridge) → ecam_in (option_map (mcfg_of_bridge acpi) (if_mapped b)) ≡ b.ecam
ecam_back acpi b = told acpi b (b.ecam == 0) refl
