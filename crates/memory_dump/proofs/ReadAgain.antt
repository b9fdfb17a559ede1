-- Bytes are read as a memory exactly where they are its text.
use Rattle.std.proofs.Common.{◌≡◌, ℕ, ◌+◌, ◌<◌, ◌≤◌, ◌^◌, ◌==◌, Bool, true, false, cond, List, [], ◌∷◌, ◌++◌, length, Option, Some, None, Result, Ok}
use Rattle.std.proofs.Common.{refl, ap, sym, subst, ◌∙◌, arith, append_assoc}
use Rattle.std.specs.List.{flat_map}
use Rattle.std.specs.Str.{bytes_eq}
use Rattle.std.proofs.lemmas.List.{append-nil}
use Rattle.std.proofs.lemmas.Slice.Eq.{bytes_eq-Decides}
use Rattle.vt_outside.specs.Readings.{◌into◌}
use Rattle.std.specs.Option.{ok_or}
use Rattle.vt_bytes.specs.Memory.{Memory, IsMemory, IsTop, IsRam, with_bytes}
use Rattle.memory_dump.specs.Dump.{dump, header_line, last_line}
use Rattle.guest_memory.specs.Bytes.{HoldsBytes}
use Rattle.memory_dump.specs.Rows.{AreRows, Ascend, Rows, blank, memory_of, rows_of, text_of, text_of_row, with_rows}
use Rattle.memory_dump.specs.Reading.{Lines, behind_so, dump_so, ended, fault_of_row, header_of, in_front, lines_of, read_so, row_of}
use Rattle.memory_dump.specs.Reading.{row_so, rows_so, unless}
use Rattle.memory_dump.specs.declared.row.Row.{Row}
use Rattle.memory_dump.specs.declared.header.Header.{Header}
use Rattle.memory_dump.specs.declared.fault.DumpFault.{DumpFault}
use Rattle.memory_dump.specs.declared.fault.DumpFault.TheVariants.{BadHeader, BadLine}
use Rattle.memory_dump.proofs.Lines.{lines_of-line}
use Rattle.memory_dump.proofs.Spelled.{header_front, header_line-front, header_no_feed, header_of-only, header_of-spelled, length-row, row_front}
use Rattle.memory_dump.proofs.Spelled.{row_no_feed, row_of-only, row_of-spelled, row_text-front}
use Rattle.memory_dump.proofs.Said.{fault-none, length-last, rows-taken, said-end, said-line, taken-none}
use Rattle.memory_dump.proofs.PutRows.{blank_holds, blank_lawful, holds_rows, lawful_rows, rows_again}
use Rattle.memory_dump.proofs.RowsTell.{rows_are_lawful, same_memories}
use Rattle.memory_dump.proofs.TextOfRows.{dump_is}

-- ---- bytes that are read are the memory's text

-- lines, one behind the other
abbrev pub joined : List (List ℕ) → List ℕ → List ℕ
joined lines rest = flat_map (λ line. line) lines ++ rest

joined_more : (byte : ℕ) (bytes : List ℕ) (whole : List (List ℕ)) (rest : List ℕ) (test : Bool) → bytes ≡ joined whole rest
    → byte ∷ bytes ≡ joined (cond test (record { whole = (byte ∷ []) ∷ whole; rest = rest }) (in_front byte whole rest)).whole
    (cond test (record { whole = (byte ∷ []) ∷ whole; rest = rest }) (in_front byte whole rest)).rest
joined_more byte bytes whole rest true is = ap (λ (b : List ℕ). byte ∷ b) is
joined_more byte bytes [] rest false is = ap (λ (b : List ℕ). byte ∷ b) is
joined_more byte bytes (line ∷ lines) rest false is = ap (λ (b : List ℕ). byte ∷ b) is

lines_joined : (bytes : List ℕ) → bytes ≡ joined (lines_of bytes).whole (lines_of bytes).rest
unfolding lines_of
lines_joined [] = refl
lines_joined (byte ∷ bytes) = joined_more byte bytes (lines_of bytes).whole (lines_of bytes).rest (byte == 10) (lines_joined bytes)

-- What lines tell that make a memory of another: rows that were put in it, and the last line.
record Told (m : Memory) (from : ℕ) (lines : List (List ℕ)) (rest : List ℕ) (out : Memory) : Type 0 where
  rows : List Row
  ascend : Ascend m.top m.fill from rows
  text : joined lines rest ≡ flat_map text_of_row rows ++ last_line
  out_is : out ≡ with_rows m rows

none_put : (m : Memory) → m ≡ with_rows m []
unfolding with_rows
none_put m = refl

one_put : (m : Memory) (row : Row) (rows : List Row) → with_rows (with_bytes m row.address row.bytes) rows ≡ with_rows m (row ∷ rows)
unfolding with_rows
one_put m row rows = refl

told_end : (m out : Memory) (number from : ℕ) (line : List ℕ) (lines : List (List ℕ)) (rest : List ℕ) → line ≡ last_line
    → ended m number lines rest ≡ Ok out → Told m from (line ∷ lines) rest out
told_end m out number from line [] [] same is =
    let made : m ≡ out = cc in
    record {
      rows = [];
      ascend = tt;
      text = append-nil (line ++ []) ∙ append-nil line ∙ same;
      out_is = sym made ∙ none_put m;
    }
told_end m out number from line [] (byte ∷ rest) same is = absurd (cc)
told_end m out number from line (other ∷ lines) rest same is = absurd (cc)

abbrev NextOf : List (List ℕ) → List ℕ → Type 0
NextOf lines rest = (m out : Memory) (number from : ℕ) → rows_so m number from lines rest ≡ Ok out → Told m from lines rest out

told_row : (m out : Memory) (number from : ℕ) (line : List ℕ) (lines : List (List ℕ)) (rest : List ℕ) (row : Row) (fault : Option DumpFault)
    → NextOf lines rest → row_of line ≡ Some row → fault_of_row m number from row ≡ fault
    → (unless fault row into (λ r. rows_so (with_bytes m r.address r.bytes) (number + 1) (r.address + 1) lines rest)) ≡ Ok out
    → Told m from (line ∷ lines) rest out
told_row m out number from line lines rest row (Some fault) next read same is = absurd (cc)
told_row m out number from line lines rest row None next read same is =
    let spelled = row_of-only line row read in
    let taken = taken-none m number from row same in
    let more = next (with_bytes m row.address row.bytes) out (number + 1) (row.address + 1) is in
    record {
      rows = row ∷ more.rows;
      ascend = (
        taken.in_order,
        record { ram = taken.ram; aligned = spelled.aligned; size = spelled.size; bytes = spelled.bytes; other = taken.other },
        more.ascend,
      );
      text = append_assoc line (flat_map (λ l. l) lines) rest ∙ ap (λ (t : List ℕ). line ++ t) more.text
          ∙ ap (λ (l : List ℕ). l ++ (flat_map text_of_row more.rows ++ last_line)) spelled.text
          ∙ sym (append_assoc (text_of_row row) (flat_map text_of_row more.rows) last_line);
      out_is = more.out_is ∙ one_put m row more.rows;
    }

told_found : (m out : Memory) (number from : ℕ) (line : List ℕ) (lines : List (List ℕ)) (rest : List ℕ) (found : Option Row)
    → NextOf lines rest → row_of line ≡ found
    → ((ok_or found (BadLine number) into (λ r. unless (fault_of_row m number from r) r))
    into (λ r. rows_so (with_bytes m r.address r.bytes) (number + 1) (r.address + 1) lines rest)) ≡ Ok out
    → Told m from (line ∷ lines) rest out
told_found m out number from line lines rest None next read is = absurd (cc)
told_found m out number from line lines rest (Some row) next read is =
    told_row m out number from line lines rest row (fault_of_row m number from row) next read refl is

told_line : (m out : Memory) (number from : ℕ) (line : List ℕ) (lines : List (List ℕ)) (rest : List ℕ) (test : Bool) → NextOf lines rest
    → bytes_eq line last_line ≡ test
    → cond test (ended m number lines rest)
    (row_so m number from line into (λ r. rows_so (with_bytes m r.address r.bytes) (number + 1) (r.address + 1) lines rest)) ≡ Ok out
    → Told m from (line ∷ lines) rest out
told_line m out number from line lines rest true next same is =
    told_end m out number from line lines rest ((bytes_eq-Decides line last_line).0 same) is
told_line m out number from line lines rest false next same is = told_found m out number from line lines rest (row_of line) next refl is

told : (lines : List (List ℕ)) (rest : List ℕ) → NextOf lines rest
unfolding rows_so
told [] rest m out number from is = absurd (cc)
told (line ∷ lines) rest m out number from is =
    told_line m out number from line lines rest (bytes_eq line last_line) (told lines rest) refl is

-- What all lines tell: rows, of which the bytes are the text.
pub record TellsRows (bytes : List ℕ) (out : Memory) : Type 0 where
  pub rows : Rows
  pub lawful : AreRows rows
  pub text : bytes ≡ text_of rows
  pub out_is : out ≡ memory_of rows

blank_ascend : (top fill from : ℕ) (rows : List Row) → Ascend (blank top fill).top (blank top fill).fill from rows → Ascend top fill from rows
unfolding blank
blank_ascend top fill from rows ascend = ascend

pub text_is : (d : Rows) → text_of d ≡ header_line d.top d.fill ++ (flat_map text_of_row d.rows ++ last_line)
unfolding text_of
text_is d = append_assoc (header_line d.top d.fill) (flat_map text_of_row d.rows) last_line

tells_header : (bytes line : List ℕ) (lines : List (List ℕ)) (rest : List ℕ) (out : Memory) (found : Option Header) → bytes ≡ joined (line ∷ lines) rest
    → header_of line ≡ found
    → (ok_or found BadHeader into (λ h. rows_so (blank h.top h.fill) 2 0 lines rest)) ≡ Ok out → TellsRows bytes out
tells_header bytes line lines rest out None whole read is = absurd (cc)
tells_header bytes line lines rest out (Some h) whole read is =
    let header = header_of-only line h read in
    let more = told lines rest (blank h.top h.fill) out 2 0 is in
    let d : Rows = record { top = h.top; fill = h.fill; rows = more.rows } in
    record {
      rows = d;
      lawful = record { top = header.top; fill = header.fill; ascend = blank_ascend h.top h.fill 0 more.rows more.ascend };
      text = whole ∙ append_assoc line (flat_map (λ l. l) lines) rest ∙ ap (λ (t : List ℕ). line ++ t) more.text
          ∙ ap (λ (l : List ℕ). l ++ (flat_map text_of_row more.rows ++ last_line)) header.text ∙ sym (text_is d);
      out_is = more.out_is;
    }

tells_lines : (bytes : List ℕ) (lines : List (List ℕ)) (rest : List ℕ) (out : Memory) → bytes ≡ joined lines rest → dump_so lines rest ≡ Ok out
    → TellsRows bytes out
unfolding dump_so
tells_lines bytes [] rest out whole is = absurd (cc)
tells_lines bytes (line ∷ lines) rest out whole is = tells_header bytes line lines rest out (header_of line) whole refl is

pub tells_rows : (bytes : List ℕ) (out : Memory) → read_so bytes ≡ Ok out → TellsRows bytes out
unfolding read_so
tells_rows bytes out is = tells_lines bytes (lines_of bytes).whole (lines_of bytes).rest out (lines_joined bytes) is

-- ---- what is spelled so is read

pub ram_small : (top a : ℕ) → IsTop top → IsRam top a → a < 2 ^ 32
ram_small top a lawful ram =
    let most : top ≤ 0xC0000000 = lawful.at_most in
    grind arith

pub said_rows : (m : Memory) (number from : ℕ) (rows : List Row) → IsTop m.top → Ascend m.top m.fill from rows
    → behind_so m number from (flat_map text_of_row rows ++ last_line) ≡ Ok (with_rows m rows)
said_rows m number from [] lawful ascend =
    said-end m number from last_line [] (sym (append-nil last_line)) length-last ∙ ap (λ (n : Memory). Ok n) (none_put m)
said_rows m number from (row ∷ rows) lawful ascend =
    let is = ascend.1 in
    let text : List ℕ = flat_map text_of_row rows ++ last_line in
    let front = row_front row.address row.bytes in
    let line : text_of_row row ≡ front ++ 10 ∷ [] = row_text-front row.address row.bytes in
    let whole : flat_map text_of_row (row ∷ rows) ++ last_line ≡ (front ++ 10 ∷ []) ++ text =
    append_assoc (text_of_row row) (flat_map text_of_row rows) last_line ∙ ap (λ (l : List ℕ). l ++ text) line in
    let read : row_of (text_of_row row) ≡ Some row =
    row_of-spelled (text_of_row row) row (ram_small m.top row.address lawful is.ram)
    (record { text = refl; aligned = is.aligned; size = is.size; bytes = is.bytes }) in
    let long : length (text_of_row row) ≡ 42 = omega (arith, length-row row.address row.bytes, is.size) in
    ap (behind_so m number from) whole ∙ said-line m number from front text (row_no_feed row.address row.bytes is.bytes)
    ∙ ap (λ (l : List ℕ). rows_so m number from (l ∷ (lines_of text).whole) (lines_of text).rest) (sym line)
    ∙ rows-taken m number from row (text_of_row row) (lines_of text).whole (lines_of text).rest long read
    (fault-none m number from row is.ram ascend.0 is.other)
    ∙ said_rows (with_bytes m row.address row.bytes) (number + 1) (row.address + 1) rows lawful ascend.2
    ∙ ap (λ (n : Memory). Ok n) (one_put m row rows)

-- the first line, and then any text
pub read-first : (top fill : ℕ) (text : List ℕ) → IsTop top → fill < 256
    → read_so (header_line top fill ++ text) ≡ behind_so (blank top fill) 2 0 text
unfolding read_so dump_so
read-first top fill text lawful small =
    let front = header_front top fill in
    let line : header_line top fill ≡ front ++ 10 ∷ [] = header_line-front top fill in
    let cut : lines_of (header_line top fill ++ text)
    ≡ record { whole = (front ++ 10 ∷ []) ∷ (lines_of text).whole; rest = (lines_of text).rest } =
    ap (λ (l : List ℕ). lines_of (l ++ text)) line ∙ lines_of-line front text (header_no_feed top fill small) in
    let next : Header → Result Memory DumpFault = λ h. rows_so (blank h.top h.fill) 2 0 (lines_of text).whole (lines_of text).rest in
    ap (λ (l : Lines). dump_so l.whole l.rest) cut
    ∙ ap (λ (l : List ℕ). ok_or (header_of l) BadHeader into next) (sym line)
    ∙ ap (λ (found : Option Header). ok_or found BadHeader into next)
    (header_of-spelled (header_line top fill) (record { top = top; fill = fill }) (record { text = refl; top = lawful; fill = small }))

pub blank_ascends : (top fill from : ℕ) (rows : List Row) → Ascend top fill from rows → Ascend (blank top fill).top (blank top fill).fill from rows
unfolding blank
blank_ascends top fill from rows ascend = ascend

pub rows_are_read : (d : Rows) → AreRows d → read_so (text_of d) ≡ Ok (memory_of d)
rows_are_read d are =
    ap read_so (text_is d) ∙ read-first d.top d.fill (flat_map text_of_row d.rows ++ last_line) are.top are.fill
    ∙ said_rows (blank d.top d.fill) 2 0 d.rows (blank_lawful d.top d.fill are.top).top (blank_ascends d.top d.fill 0 d.rows are.ascend)

-- ---- so it is

memory_is : (d : Rows) → AreRows d → IsMemory (memory_of d)
memory_is d are = lawful_rows (blank d.top d.fill) d.rows (blank_lawful d.top d.fill are.top)

memory_holds : (d : Rows) → AreRows d → HoldsBytes (memory_of d)
memory_holds d are =
    holds_rows (blank d.top d.fill) 0 d.rows (blank_lawful d.top d.fill are.top) (blank_ascends d.top d.fill 0 d.rows are.ascend)
    (blank_holds d.top d.fill are.fill)

-- What is read is a memory whose text the bytes are.
pub record IsRead (bytes : List ℕ) (m : Memory) : Type 0 where
  pub text : dump m ≡ bytes
  pub lawful : IsMemory m
  pub holds : HoldsBytes m

pub read_only : (bytes : List ℕ) (m : Memory) → read_so bytes ≡ Ok m → IsRead bytes m
read_only bytes m is =
    let t = tells_rows bytes m is in
    subst (IsRead bytes) (sym t.out_is) (record {
      text = dump_is (memory_of t.rows) ∙ ap text_of (rows_again t.rows t.lawful) ∙ sym t.text;
      lawful = memory_is t.rows t.lawful;
      holds = memory_holds t.rows t.lawful;
    })

-- the memory that the rows of a memory make is this memory
pub made_again : (m : Memory) → IsMemory m → HoldsBytes m → memory_of (rows_of m) ≡ m
made_again m lawful holds =
    let are = rows_are_lawful m lawful holds in
    same_memories (memory_of (rows_of m)) m (memory_is (rows_of m) are) lawful (rows_again (rows_of m) are)

pub text_read : (bytes : List ℕ) (m : Memory) → IsMemory m → HoldsBytes m → dump m ≡ bytes → read_so bytes ≡ Ok m
text_read bytes m lawful holds is =
    ap read_so (sym is ∙ dump_is m) ∙ rows_are_read (rows_of m) (rows_are_lawful m lawful holds)
    ∙ ap (λ (n : Memory). Ok n) (made_again m lawful holds)

pub one_text : (m other : Memory) → IsMemory m → HoldsBytes m → IsMemory other → HoldsBytes other → dump m ≡ dump other → m ≡ other
one_text m other lawful holds other_lawful other_holds same =
    let first : read_so (dump other) ≡ Ok m = text_read (dump other) m lawful holds same in
    let second : read_so (dump other) ≡ Ok other = text_read (dump other) other other_lawful other_holds refl in
    let both : Ok m ≡ Ok other = sym first ∙ second in
    cc
