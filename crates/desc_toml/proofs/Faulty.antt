-- Bytes that aren't read have the fault that is told.
use Rattle.std.proofs.Common.{◌≡◌, ℕ, List, Some, None, refl, ap}
use Rattle.vt_outside.specs.Readings.{IsFaultOf}
use Rattle.machine_desc.specs.declared.machine.Machine.{Machine}
use Rattle.desc_toml.specs.declared.fault.DescFault.{DescFault}
use Rattle.desc_toml.specs.declared.fault.DescFault.TheVariants.{NotToml, UnknownKey, MissingKey, WrongKind, OutOfRange, Broken, OutOfMemory}
use Rattle.desc_toml.specs.Reading.{read_of, Reads, fault_in, fault_of, reported}

pub fault_told : (bytes : List ℕ) (fault : DescFault) → IsFaultOf (reported fault) (read_of bytes) → (fault ≡ OutOfMemory → ⊥) → fault_of bytes ≡ Some fault
fault_told bytes NotToml fails other = ap fault_in fails
fault_told bytes (UnknownKey table index key) fails other = ap fault_in fails
fault_told bytes (MissingKey table index key) fails other = ap fault_in fails
fault_told bytes (WrongKind table index key) fails other = ap fault_in fails
fault_told bytes (OutOfRange table index key) fails other = ap fault_in fails
fault_told bytes (Broken rule index) fails other = ap fault_in fails
fault_told bytes OutOfMemory fails other = absurd (other refl)

pub none_read : (bytes : List ℕ) (machine : Machine) → Reads bytes machine → fault_of bytes ≡ None
none_read bytes machine is = ap fault_in is
