-- The values of rows are read one after the other.
use Rattle.std.proofs.Common.{◌≡◌, ℕ, ◌≤◌, List, ◌++◌, length, drop, Result, Ok, Err}
use Rattle.vt_layout.specs.declared.row.Row.{Row}
use Rattle.vt_layout.specs.declared.value.Value.{Value}
use Rattle.vt_layout.specs.declared.record_reader.RecordFault.{RecordFault}
use Rattle.vt_layout.specs.Rows.{size}
use Rattle.vt_layout.specs.Records.{values_said}

-- the values that were read, and those that will be
abbrev pub behind : List Value → Result (List Value) RecordFault → Result (List Value) RecordFault
behind before (Err fault) = Err fault
behind before (Ok more) = Ok (before ++ more)

-- The area that is left reaches to the end of the rows from an index on, and what was read and what they say is what all say.
pub record IsNext (rows : List Row) (k : ℕ) (left : List ℕ) (strings : List (List ℕ)) (before : List Value)
    (all : Result (List Value) RecordFault) : Type 0 where
  pub within : size (drop k rows) ≤ length left
  pub says : behind before (values_said (drop k rows) left strings) ≡ all
