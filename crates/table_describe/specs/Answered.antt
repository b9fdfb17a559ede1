-- What is answered of a candidate, by the item that was found to fail.
use Rattle.std.specs.Prelude.{ℕ, Option, Some, None, Result, Ok, Err}
use Rattle.vt_outside.specs.declared.fault.OutOfMemory.{OutOfMemory}
use Rattle.machine_desc.specs.declared.machine.Machine.{Machine}
use Rattle.table_describe.specs.declared.description.DescribeFault.{DescribeFault}
use Rattle.table_describe.specs.declared.description.DescribeFault.TheVariants.{NotProfile, OutOfMemory as NoMemory}

abbrev pub answered : Machine → Result (Option ℕ) OutOfMemory → Result Machine DescribeFault
answered m (Ok None) = Ok m
answered m (Ok (Some item)) = Err (NotProfile item)
answered m (Err fault) = Err NoMemory
