-- No fault that reading gives is want of memory.
use Rattle.std.proofs.Common.{◌≡◌, ℕ, ◌+◌, Bool, true, false, not, cond, List, [], ◌∷◌, Option, Some, None, Err, refl, ap, ◌∙◌}
use Rattle.std.specs.Prelude.{nat_lt}
use Rattle.std.specs.Str.{bytes_eq}
use Rattle.vt_outside.specs.Readings.{◌into◌}
use Rattle.std.specs.Option.{ok_or}
use Rattle.vt_bytes.specs.Memory.{Memory, is_ram, with_bytes}
use Rattle.memory_dump.specs.Dump.{last_line}
use Rattle.memory_dump.specs.Rows.{blank, is_fill}
use Rattle.memory_dump.specs.Reading.{dump_so, ended, fault_of_row, header_of, lines_of, read_so, row_of, row_so, rows_so, unless}
use Rattle.memory_dump.specs.declared.row.Row.{Row}
use Rattle.memory_dump.specs.declared.header.Header.{Header}
use Rattle.memory_dump.specs.declared.fault.DumpFault.{DumpFault}
use Rattle.memory_dump.specs.declared.fault.DumpFault.TheVariants.{BadHeader, BadLine, OutOfOrder, AllFill, NotRam, OutOfMemory}

abbrev Never : List (List ℕ) → List ℕ → Type 0
Never lines rest = (m : Memory) (number from : ℕ) → rows_so m number from lines rest ≡ Err OutOfMemory → ⊥

not_ended : (m : Memory) (number : ℕ) (lines : List (List ℕ)) (rest : List ℕ) → ended m number lines rest ≡ Err OutOfMemory → ⊥
not_ended m number [] [] is = cc
not_ended m number [] (byte ∷ rest) is = cc
not_ended m number (line ∷ lines) rest is = cc

not_row : (number : ℕ) (ram below fill : Bool)
    → cond ram (Some (NotRam number)) (cond below (Some (OutOfOrder number)) (cond fill (Some (AllFill number)) None)) ≡ Some OutOfMemory → ⊥
not_row number true below fill is = cc
not_row number false true fill is = cc
not_row number false false true is = cc
not_row number false false false is = cc

not_fault : (m : Memory) (number from : ℕ) (row : Row) → fault_of_row m number from row ≡ Some OutOfMemory → ⊥
unfolding fault_of_row
not_fault m number from row is = not_row number (not (is_ram m.top row.address)) (nat_lt row.address from) (is_fill m.fill row.bytes) is

never_row : (m : Memory) (number from : ℕ) (lines : List (List ℕ)) (rest : List ℕ) (row : Row) (fault : Option DumpFault) → Never lines rest
    → fault_of_row m number from row ≡ fault
    → (unless fault row into (λ r. rows_so (with_bytes m r.address r.bytes) (number + 1) (r.address + 1) lines rest)) ≡ Err OutOfMemory → ⊥
never_row m number from lines rest row None later same is = later (with_bytes m row.address row.bytes) (number + 1) (row.address + 1) is
never_row m number from lines rest row (Some fault) later same is =
    let told : fault ≡ OutOfMemory = cc in
    not_fault m number from row (same ∙ ap (λ (f : DumpFault). Some f) told)

never_found : (m : Memory) (number from : ℕ) (lines : List (List ℕ)) (rest : List ℕ) (found : Option Row) → Never lines rest
    → ((ok_or found (BadLine number) into (λ r. unless (fault_of_row m number from r) r))
    into (λ r. rows_so (with_bytes m r.address r.bytes) (number + 1) (r.address + 1) lines rest)) ≡ Err OutOfMemory → ⊥
never_found m number from lines rest None later is = cc
never_found m number from lines rest (Some row) later is =
    never_row m number from lines rest row (fault_of_row m number from row) later refl is

never_line : (m : Memory) (number from : ℕ) (line : List ℕ) (lines : List (List ℕ)) (rest : List ℕ) (test : Bool) → Never lines rest
    → cond test (ended m number lines rest)
    (row_so m number from line into (λ r. rows_so (with_bytes m r.address r.bytes) (number + 1) (r.address + 1) lines rest)) ≡ Err OutOfMemory → ⊥
never_line m number from line lines rest true later is = not_ended m number lines rest is
never_line m number from line lines rest false later is = never_found m number from lines rest (row_of line) later is

never : (lines : List (List ℕ)) (rest : List ℕ) → Never lines rest
unfolding rows_so
never [] rest m number from is = cc
never (line ∷ lines) rest m number from is = never_line m number from line lines rest (bytes_eq line last_line) (never lines rest) is

never_header : (lines : List (List ℕ)) (rest : List ℕ) (found : Option Header)
    → (ok_or found BadHeader into (λ h. rows_so (blank h.top h.fill) 2 0 lines rest)) ≡ Err OutOfMemory → ⊥
never_header lines rest None is = cc
never_header lines rest (Some h) is = never lines rest (blank h.top h.fill) 2 0 is

never_dump : (lines : List (List ℕ)) (rest : List ℕ) → dump_so lines rest ≡ Err OutOfMemory → ⊥
unfolding dump_so
never_dump [] rest is = cc
never_dump (line ∷ lines) rest is = never_header lines rest (header_of line) is

pub never_want : (bytes : List ℕ) → read_so bytes ≡ Err OutOfMemory → ⊥
unfolding read_so
never_want bytes is = never_dump (lines_of bytes).whole (lines_of bytes).rest is
