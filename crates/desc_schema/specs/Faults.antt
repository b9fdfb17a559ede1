-- Where a walk finds a fault, and the fault that an error of the code reports.
use Rattle.std.specs.Prelude.{ℕ, Option, Some, None}
use Rattle.desc_schema.specs.declared.fault.Place.{Place}
use Rattle.desc_schema.specs.declared.fault.KeyPlace.{KeyPlace}
use Rattle.desc_schema.specs.declared.fault.WalkFault.{WalkFault}
use Rattle.desc_schema.specs.declared.fault.WalkError.{WalkError}
use Rattle.desc_schema.specs.declared.fault.WalkError.TheVariants as errors

-- the place of the key of a number
abbrev pub key_at : Place → ℕ → KeyPlace
key_at place number = record { table = place.table; index = place.index; key = number }

-- the place of a table of this number that stands alone
abbrev pub alone : ℕ → Place
alone table = record { table = table; index = 0 }

-- the fault of the walk that an error reports, or none where memory ran out
abbrev pub reported : WalkError → Option WalkFault
reported errors.OutOfMemory = None
reported (errors.Fault fault) = Some fault
