-- Each front of a text but the whole is cut off.
use Rattle.std.proofs.Common.{◌≡◌, ◌≢◌, ℕ, ◌+◌, ◌<◌, ◌⊎◌, inl, inr, ◌==◌, false, List, [], ◌∷◌, ◌++◌, length, Err, Some, refl, ap, sym, subst, ◌∙◌}
use Rattle.std.proofs.Common.{arith, append_assoc, length-append}
use Rattle.std.specs.List.{flat_map}
use Rattle.std.proofs.lemmas.List.{append-nil}
use Rattle.vt_bytes.specs.Memory.{Memory, IsMemory, IsTop, with_bytes}
use Rattle.memory_dump.specs.Dump.{dump, header_line, last_line}
use Rattle.guest_memory.specs.Bytes.{HoldsBytes}
use Rattle.memory_dump.specs.Rows.{AreRows, Ascend, Rows, blank, rows_of, text_of, text_of_row}
use Rattle.memory_dump.specs.Reading.{Lines, behind_so, lines_of, read_so, row_of, rows_so}
use Rattle.memory_dump.specs.declared.row.Row.{Row}
use Rattle.memory_dump.specs.declared.fault.DumpFault.TheVariants.{Truncated}
use Rattle.memory_dump.proofs.ReadDigits.{HasNoFeed}
use Rattle.memory_dump.proofs.Lines.{lines_of-none}
use Rattle.memory_dump.proofs.Spelled.{header_front, header_line-front, header_no_feed, last_front, last_line-front, last_no_feed, length-row}
use Rattle.memory_dump.proofs.Spelled.{row_front, row_no_feed, row_of-spelled, row_text-front}
use Rattle.memory_dump.proofs.Said.{fault-none, read-cut, rows-taken, said-cut, said-line}
use Rattle.memory_dump.proofs.PutRows.{blank_lawful}
use Rattle.memory_dump.proofs.RowsTell.{rows_are_lawful}
use Rattle.memory_dump.proofs.TextOfRows.{dump_is}
use Rattle.memory_dump.proofs.ReadAgain.{blank_ascends, ram_small, read-first, text_is}

-- a front of a line and of what follows it ends before the line's line feed, or behind it
abbrev Behind : List ℕ → List ℕ → List ℕ → List ℕ → Type 0
Behind line text front rest = (more : List ℕ) × (front ≡ line ++ more) × (text ≡ more ++ rest)

cut_line : (line text front rest : List ℕ) → HasNoFeed line → (line ++ 10 ∷ []) ++ text ≡ front ++ rest
    → HasNoFeed front ⊎ Behind (line ++ 10 ∷ []) text front rest
cut_line line text [] rest none is = inl tt
cut_line [] text (byte ∷ front) rest none is =
    let first : 10 ≡ byte = cc in
    let others : text ≡ front ++ rest = cc in
    inr (front, ap (λ (b : ℕ). b ∷ front) (sym first), others)
cut_line (b ∷ line) text (byte ∷ front) rest none is =
    let first : b ≡ byte = cc in
    let others : (line ++ 10 ∷ []) ++ text ≡ front ++ rest = cc in
    elim (cut_line line text front rest none.1 others)
    as (λ _. HasNoFeed (byte ∷ front) ⊎ Behind ((b ∷ line) ++ 10 ∷ []) text (byte ∷ front) rest) [
      | inl short ↦ inl (subst (λ x. (x == 10) ≡ false) first none.0, short)
      | inr long ↦ inr (long.0, ap (λ (x : ℕ). x ∷ front) (sym first) ∙ ap (λ (f : List ℕ). b ∷ f) long.1, long.2)
    ]

no_lines : (front : List ℕ) → HasNoFeed front → (lines_of front).whole ≡ []
no_lines front none = ap (λ (l : Lines). l.whole) (lines_of-none front none)

front_cut : (m : Memory) (number from : ℕ) (front : List ℕ) → HasNoFeed front → behind_so m number from front ≡ Err Truncated
front_cut m number from front none = said-cut m number from front (no_lines front none)

behind_fronts : (m : Memory) (number from : ℕ) (rows : List Row) (front rest : List ℕ) → IsTop m.top → Ascend m.top m.fill from rows
    → flat_map text_of_row rows ++ last_line ≡ front ++ rest → 0 < length rest → behind_so m number from front ≡ Err Truncated
behind_fronts m number from [] front rest lawful ascend is some =
    elim (cut_line last_front [] front rest last_no_feed (append-nil (last_front ++ 10 ∷ []) ∙ sym last_line-front ∙ is))
    as (λ _. behind_so m number from front ≡ Err Truncated) [
      | inl short ↦ front_cut m number from front short
      | inr long ↦ absurd (omega (arith, some, ap length long.2, length-append long.0 rest))
    ]
behind_fronts m number from (row ∷ rows) front rest lawful ascend is some =
    let of_row = ascend.1 in
    let text : List ℕ = flat_map text_of_row rows ++ last_line in
    let line = row_front row.address row.bytes in
    let told : text_of_row row ≡ line ++ 10 ∷ [] = row_text-front row.address row.bytes in
    let whole : (line ++ 10 ∷ []) ++ text ≡ front ++ rest =
    ap (λ (l : List ℕ). l ++ text) (sym told) ∙ sym (append_assoc (text_of_row row) (flat_map text_of_row rows) last_line) ∙ is in
    elim (cut_line line text front rest (row_no_feed row.address row.bytes of_row.bytes) whole)
    as (λ _. behind_so m number from front ≡ Err Truncated) [
      | inl short ↦ front_cut m number from front short
      | inr long ↦
          let read : row_of (text_of_row row) ≡ Some row =
          row_of-spelled (text_of_row row) row (ram_small m.top row.address lawful of_row.ram)
          (record { text = refl; aligned = of_row.aligned; size = of_row.size; bytes = of_row.bytes }) in
          let size : length (text_of_row row) ≡ 42 = omega (arith, length-row row.address row.bytes, of_row.size) in
          ap (behind_so m number from) long.1 ∙ said-line m number from line long.0 (row_no_feed row.address row.bytes of_row.bytes)
          ∙ ap (λ (l : List ℕ). rows_so m number from (l ∷ (lines_of long.0).whole) (lines_of long.0).rest) (sym told)
          ∙ rows-taken m number from row (text_of_row row) (lines_of long.0).whole (lines_of long.0).rest size read
          (fault-none m number from row of_row.ram ascend.0 of_row.other)
          ∙ behind_fronts (with_bytes m row.address row.bytes) (number + 1) (row.address + 1) rows long.0 rest lawful ascend.2 long.2 some
    ]

fronts_of_rows : (d : Rows) (front rest : List ℕ) → AreRows d → text_of d ≡ front ++ rest → 0 < length rest → read_so front ≡ Err Truncated
fronts_of_rows d front rest are is some =
    let text : List ℕ = flat_map text_of_row d.rows ++ last_line in
    let line = header_front d.top d.fill in
    let told : header_line d.top d.fill ≡ line ++ 10 ∷ [] = header_line-front d.top d.fill in
    let whole : (line ++ 10 ∷ []) ++ text ≡ front ++ rest = ap (λ (l : List ℕ). l ++ text) (sym told) ∙ sym (text_is d) ∙ is in
    elim (cut_line line text front rest (header_no_feed d.top d.fill are.fill) whole) as (λ _. read_so front ≡ Err Truncated) [
      | inl short ↦ read-cut front (no_lines front short)
      | inr long ↦ ap read_so (long.1 ∙ ap (λ (l : List ℕ). l ++ long.0) (sym told)) ∙ read-first d.top d.fill long.0 are.top are.fill
          ∙ behind_fronts (blank d.top d.fill) 2 0 d.rows long.0 rest (blank_lawful d.top d.fill are.top).top
          (blank_ascends d.top d.fill 0 d.rows are.ascend) long.2 some
    ]

some_left : (rest : List ℕ) → rest ≢ [] → 0 < length rest
some_left [] some = absurd (some refl)
some_left (byte ∷ rest) some = omega arith

pub fronts : (m : Memory) (front rest : List ℕ) → IsMemory m → HoldsBytes m → dump m ≡ front ++ rest → rest ≢ [] → read_so front ≡ Err Truncated
fronts m front rest lawful holds is some =
    fronts_of_rows (rows_of m) front rest (rows_are_lawful m lawful holds) (sym (dump_is m) ∙ is) (some_left rest some)
