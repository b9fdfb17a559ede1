-- The MCFG of a machine (PCI Firmware Specification 3.3, 4.1.2), and the address that one tells.
use Rattle.std.specs.Prelude.{ℕ, List, [], ◌∷◌, Option, Some, None, option_and_then, ◌==◌, if◌then◌else◌}
use Rattle.std.specs.Option.{option_map_or}
use Rattle.machine_desc.specs.declared.machine.Acpi.{Acpi}
use Rattle.machine_desc.specs.declared.device_parts.Bridge.{Bridge}
use Rattle.acpi_records.specs.declared.mcfg.Mcfg.{Mcfg}
use Rattle.acpi_records.specs.declared.mcfg.McfgAllocation.{McfgAllocation}
use Rattle.acpi_records.specs.Header.{head_of}

-- a bridge whose configuration space is in memory
abbrev pub if_mapped : Bridge → Option Bridge
if_mapped b = if b.ecam == 0 then None else Some b

abbrev pub mapped : Option Bridge → Option Bridge
mapped bridge = option_and_then if_mapped bridge

-- one allocation, of all buses of the bridge, in segment group 0
abbrev pub mcfg_of_bridge : Acpi → Bridge → Mcfg
mcfg_of_bridge acpi b =
    record { head = head_of acpi 1; allocations = record { base = b.ecam; segment = 0; last_bus = b.last_bus } ∷ [] }

-- the address that the first allocation of a table tells, and 0 where there is none
abbrev pub base_in : List McfgAllocation → ℕ
base_in [] = 0
base_in (a ∷ others) = a.base

abbrev pub ecam_in : Option Mcfg → ℕ
ecam_in mcfg = option_map_or (λ (t : Mcfg). base_in t.allocations) mcfg 0
