-- How many bytes the structures of an accepted machine have.
use Rattle.std.proofs.Common.{◌<◌, ◌≤◌, List, [], ◌∷◌, ◌++◌, length, arith}
use Rattle.machine_desc.specs.declared.machine.Machine.{Machine}
use Rattle.machine_desc.specs.Rules.{IsAccepted}
use Rattle.smbios_model.specs.declared.smbios.Structure.{Structure}
use Rattle.smbios_model.specs.declared.smbios.Body.TheVariants.{System}
use Rattle.smbios_model.specs.SystemInformation.{system_of}
use Rattle.smbios_model.specs.MachineStructures.{structures_in, bios_part}
use Rattle.smbios_build.specs.Spelling.{structures_bytes}
use Rattle.smbios_build.proofs.Accepted.{accepted_small}
use Rattle.vm_image.specs.Image.{structures_file}

-- a structure has a byte, whatever stands before it
some_bytes : (front : List Structure) (s : Structure) (back : List Structure) → 0 < length (structures_bytes (front ++ s ∷ back))
some_bytes [] s back = omega arith
some_bytes (first ∷ front) s back = omega arith

-- some, and few
pub structures_size : (m : Machine) → IsAccepted m → (0 < length (structures_file m)) × (length (structures_file m) ≤ 262144)
structures_size m accepted = (
  some_bytes (structures_in (bios_part m.firmware)) (record { handle = 0x0100; body = System (system_of m.system) }) _,
  omega (arith, accepted_small m accepted),
)
