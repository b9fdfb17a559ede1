-- What the lines behind the first one say, by the first of them.
use Rattle.std.proofs.Common.{◌≡◌, ◌≢◌, ℕ, ◌+◌, ◌<◌, ◌≤◌, ◌==◌, Bool, true, false, not, cond, List, [], ◌∷◌, ◌++◌, length, take, drop, Option, Some}
use Rattle.std.proofs.Common.{None, Result, Ok, Err, refl, ap, sym, subst, ◌∙◌, arith, min, length-append, length-take}
use Rattle.std.specs.Prelude.{nat_lt, IfErr, IsErrAnd}
use Rattle.std.specs.Str.{bytes_eq}
use Rattle.std.proofs.lemmas.Bool.Decides.{nat_tests}
use Rattle.std.proofs.lemmas.List.{take-append-drop, take_at}
use Rattle.std.proofs.lemmas.Slice.Eq.{bytes_eq-Decides}
use Rattle.vt_outside.specs.Readings.{◌into◌}
use Rattle.std.specs.Option.{ok_or}
use Rattle.std.proofs.lemmas.Bool.{false_from_ne_true}
use Rattle.vt_bytes.specs.Memory.{Memory, IsRam, is_ram, with_bytes}
use Rattle.vt_bytes.proofs.Seen.{ram_tested, ram_from_test}
use Rattle.memory_dump.specs.Dump.{last_line}
use Rattle.memory_dump.specs.Rows.{IsSpelled, blank, is_fill}
use Rattle.memory_dump.specs.Reading.{Lines, behind_so, dump_so, ended, fault_of_row, header_of, in_front, lines_of, read_so, row_of}
use Rattle.memory_dump.specs.Reading.{row_so, rows_so, unless}
use Rattle.memory_dump.specs.declared.row.Row.{Row}
use Rattle.memory_dump.specs.declared.header.Header.{Header}
use Rattle.memory_dump.specs.declared.fault.DumpFault.{DumpFault}
use Rattle.memory_dump.specs.declared.fault.DumpFault.TheVariants.{BadHeader, BadLine, OutOfOrder, AllFill, NotRam, Truncated}
use Rattle.memory_dump.proofs.ReadDigits.{HasNoFeed}
use Rattle.memory_dump.proofs.Lines.{first_line, lines_of-line}
use Rattle.memory_dump.proofs.Spelled.{header_front, header_line-front, header_no_feed, header_of-only, last_front, last_line-front, last_no_feed}
use Rattle.memory_dump.proofs.Spelled.{length-header, length-row, row_front, row_no_feed, row_of-only, row_text-front}

-- ---- whether a row is taken

if_true : {T : Type 0} (test : Bool) (a b : T) → test ≡ true → cond test a b ≡ a
if_true true a b is = refl
if_true false a b is = absurd (cc)

if_false : {T : Type 0} (test : Bool) (a b : T) → test ≡ false → cond test a b ≡ b
if_false true a b is = absurd (cc)
if_false false a b is = refl

below_test : (a b : ℕ) → a < b → nat_lt a b ≡ true
below_test a b below = grind (arith, nat_tests)

from_test : (a b : ℕ) → b ≤ a → nat_lt a b ≡ false
from_test a b from = grind (arith, nat_tests)

not_ram_test : (top address : ℕ) → (IsRam top address → ⊥) → not (is_ram top address) ≡ true
not_ram_test top address none = ap not (false_from_ne_true (is_ram top address) (λ passes. none (ram_from_test top address passes)))

ram_test : (top address : ℕ) → IsRam top address → not (is_ram top address) ≡ false
ram_test top address ram = ap not (ram_tested top address ram)

pub fault-not_ram : (m : Memory) (number from : ℕ) (row : Row) → (IsRam m.top row.address → ⊥) → fault_of_row m number from row ≡ Some (NotRam number)
unfolding fault_of_row
fault-not_ram m number from row none = if_true _ _ _ (not_ram_test m.top row.address none)

pub fault-order : (m : Memory) (number from : ℕ) (row : Row) → IsRam m.top row.address → row.address < from
    → fault_of_row m number from row ≡ Some (OutOfOrder number)
unfolding fault_of_row
fault-order m number from row ram below = if_false _ _ _ (ram_test m.top row.address ram) ∙ if_true _ _ _ (below_test row.address from below)

pub fault-fill : (m : Memory) (number from : ℕ) (row : Row) → IsRam m.top row.address → from ≤ row.address → is_fill m.fill row.bytes ≡ true
    → fault_of_row m number from row ≡ Some (AllFill number)
unfolding fault_of_row
fault-fill m number from row ram in_order all =
    if_false _ _ _ (ram_test m.top row.address ram) ∙ if_false _ _ _ (from_test row.address from in_order) ∙ if_true _ _ _ all

pub fault-none : (m : Memory) (number from : ℕ) (row : Row) → IsRam m.top row.address → from ≤ row.address → is_fill m.fill row.bytes ≡ false
    → fault_of_row m number from row ≡ None
unfolding fault_of_row
fault-none m number from row ram in_order other =
    if_false _ _ _ (ram_test m.top row.address ram) ∙ if_false _ _ _ (from_test row.address from in_order) ∙ if_false _ _ _ other

-- what the code's tests say
pub not_ram : (top address a : ℕ) (test : Bool) → (IsRam top a → test ≡ true) → a ≡ address → test ≡ false → IsRam top address → ⊥
not_ram top address a test passes same fails ram =
    let both : true ≡ false = sym (passes (subst (IsRam top) (sym same) ram)) ∙ fails in
    absurd (cc)

pub is_ram_so : (top address a : ℕ) (test : Bool) → (test ≡ true → IsRam top a) → a ≡ address → test ≡ true → IsRam top address
is_ram_so top address a test from same passes = subst (IsRam top) same (from passes)

pub fill_test : (fill f : ℕ) (bytes : List ℕ) (test : Bool) → f ≡ fill → test ≡ is_fill f bytes → is_fill fill bytes ≡ test
fill_test fill f bytes test same is = ap (λ (b : ℕ). is_fill b bytes) (sym same) ∙ sym is

-- A row that is taken.
pub record IsTaken (m : Memory) (from : ℕ) (row : Row) : Type 0 where
  pub ram : IsRam m.top row.address
  pub in_order : from ≤ row.address
  pub other : is_fill m.fill row.bytes ≡ false

tests_passed : (number : ℕ) (ram below fill : Bool)
    → cond ram (Some (NotRam number)) (cond below (Some (OutOfOrder number)) (cond fill (Some (AllFill number)) None)) ≡ None
    → (ram ≡ false) × (below ≡ false) × (fill ≡ false)
tests_passed number true below fill is = absurd (cc)
tests_passed number false true fill is = absurd (cc)
tests_passed number false false true is = absurd (cc)
tests_passed number false false false is = (refl, refl, refl)

not_false : (b : Bool) → not b ≡ false → b ≡ true
not_false true is = refl
not_false false is = absurd (cc)

pub taken-none : (m : Memory) (number from : ℕ) (row : Row) → fault_of_row m number from row ≡ None → IsTaken m from row
unfolding fault_of_row
taken-none m number from row none =
    let passed = tests_passed number (not (is_ram m.top row.address)) (nat_lt row.address from) (is_fill m.fill row.bytes) none in
    let order : nat_lt row.address from ≡ false = passed.1 in
    record {
      ram = ram_from_test m.top row.address (not_false _ passed.0);
      in_order = grind (arith, nat_tests);
      other = passed.2;
    }

-- ---- the first line of what is left

-- a line, and then any bytes
pub said-line : (m : Memory) (number from : ℕ) (front bytes : List ℕ) → HasNoFeed front
    → behind_so m number from ((front ++ 10 ∷ []) ++ bytes)
    ≡ rows_so m number from ((front ++ 10 ∷ []) ∷ (lines_of bytes).whole) (lines_of bytes).rest
said-line m number from front bytes none = ap (λ (l : Lines). rows_so m number from l.whole l.rest) (lines_of-line front bytes none)

-- a line that isn't the last one
pub rows-line : (m : Memory) (number from : ℕ) (line : List ℕ) (lines : List (List ℕ)) (rest : List ℕ) → bytes_eq line last_line ≡ false
    → rows_so m number from (line ∷ lines) rest
    ≡ (row_so m number from line into (λ row. rows_so (with_bytes m row.address row.bytes) (number + 1) (row.address + 1) lines rest))
unfolding rows_so
rows-line m number from line lines rest other = if_false _ _ _ other

pub not_last : (line : List ℕ) → (line ≡ last_line → ⊥) → bytes_eq line last_line ≡ false
not_last line other = false_from_ne_true _ (λ same. other ((bytes_eq-Decides line last_line).0 same))

pub length-last : length last_line ≡ 4
length-last = ap length last_line-front

pub long_not_last : (line : List ℕ) → length line ≡ 42 → bytes_eq line last_line ≡ false
long_not_last line long = not_last line (λ same. absurd (omega (arith, ap length same, length-last, long)))

-- the line of a row that is taken, and of one that isn't
pub rows-taken : (m : Memory) (number from : ℕ) (row : Row) (line : List ℕ) (lines : List (List ℕ)) (rest : List ℕ) → length line ≡ 42
    → row_of line ≡ Some row → fault_of_row m number from row ≡ None
    → rows_so m number from (line ∷ lines) rest ≡ rows_so (with_bytes m row.address row.bytes) (number + 1) (row.address + 1) lines rest
rows-taken m number from row line lines rest long is none =
    let next : Row → Result Memory DumpFault = λ r. rows_so (with_bytes m r.address r.bytes) (number + 1) (r.address + 1) lines rest in
    rows-line m number from line lines rest (long_not_last line long)
    ∙ ap (λ (found : Option Row). (ok_or found (BadLine number) into (λ r. unless (fault_of_row m number from r) r)) into next) is
    ∙ ap (λ (fault : Option DumpFault). unless fault row into next) none

pub rows-refused : (m : Memory) (number from : ℕ) (row : Row) (line : List ℕ) (lines : List (List ℕ)) (rest : List ℕ) (fault : DumpFault)
    → length line ≡ 42 → row_of line ≡ Some row → fault_of_row m number from row ≡ Some fault
    → rows_so m number from (line ∷ lines) rest ≡ Err fault
rows-refused m number from row line lines rest fault long is some =
    let next : Row → Result Memory DumpFault = λ r. rows_so (with_bytes m r.address r.bytes) (number + 1) (r.address + 1) lines rest in
    rows-line m number from line lines rest (long_not_last line long)
    ∙ ap (λ (found : Option Row). (ok_or found (BadLine number) into (λ r. unless (fault_of_row m number from r) r)) into next) is
    ∙ ap (λ (f : Option DumpFault). unless f row into next) some

-- the line of no row
pub rows-bad : (m : Memory) (number from : ℕ) (line : List ℕ) (lines : List (List ℕ)) (rest : List ℕ) → bytes_eq line last_line ≡ false
    → row_of line ≡ None → rows_so m number from (line ∷ lines) rest ≡ Err (BadLine number)
rows-bad m number from line lines rest other none =
    let next : Row → Result Memory DumpFault = λ r. rows_so (with_bytes m r.address r.bytes) (number + 1) (r.address + 1) lines rest in
    rows-line m number from line lines rest other
    ∙ ap (λ (found : Option Row). (ok_or found (BadLine number) into (λ r. unless (fault_of_row m number from r) r)) into next) none

-- What stands in front of a text that begins with a row's line.
pub record BeginsWith (text : List ℕ) (row : Row) : Type 0 where
  pub spelled : IsSpelled (take 42 text) row
  pub lines : lines_of text ≡ record { whole = take 42 text ∷ (lines_of (drop 42 text)).whole; rest = (lines_of (drop 42 text)).rest }
  pub long : length (take 42 text) ≡ 42

pub begins : (text : List ℕ) (row : Row) → row_of (take 42 text) ≡ Some row → BeginsWith text row
begins text row is =
    let spelled = row_of-only (take 42 text) row is in
    let front = row_front row.address row.bytes in
    let line : take 42 text ≡ front ++ 10 ∷ [] = spelled.text ∙ row_text-front row.address row.bytes in
    let whole : text ≡ (front ++ 10 ∷ []) ++ drop 42 text =
    sym (take-append-drop 42 text) ∙ ap (λ (l : List ℕ). l ++ drop 42 text) line in
    let cut = lines_of-line front (drop 42 text) (row_no_feed row.address row.bytes spelled.bytes) in
    record {
      spelled = spelled;
      lines = ap lines_of whole ∙ cut
          ∙ ap (λ (l : List ℕ). record { whole = l ∷ (lines_of (drop 42 text)).whole; rest = (lines_of (drop 42 text)).rest }) (sym line);
      long = omega (arith, ap length spelled.text, length-row row.address row.bytes, spelled.size);
    }

pub said-taken : (m : Memory) (number from : ℕ) (text : List ℕ) (row : Row) → row_of (take 42 text) ≡ Some row → fault_of_row m number from row ≡ None
    → behind_so m number from text ≡ behind_so (with_bytes m row.address row.bytes) (number + 1) (row.address + 1) (drop 42 text)
said-taken m number from text row is none =
    let b = begins text row is in
    ap (λ (l : Lines). rows_so m number from l.whole l.rest) b.lines
    ∙ rows-taken m number from row (take 42 text) (lines_of (drop 42 text)).whole (lines_of (drop 42 text)).rest b.long is none

pub said-refused : (m : Memory) (number from : ℕ) (text : List ℕ) (row : Row) (fault : DumpFault) → row_of (take 42 text) ≡ Some row
    → fault_of_row m number from row ≡ Some fault → behind_so m number from text ≡ Err fault
said-refused m number from text row fault is some =
    let b = begins text row is in
    ap (λ (l : Lines). rows_so m number from l.whole l.rest) b.lines
    ∙ rows-refused m number from row (take 42 text) (lines_of (drop 42 text)).whole (lines_of (drop 42 text)).rest fault b.long is some

-- ---- the last line, and texts that have none

-- bytes without a whole line are what is left
only_rest_so : (byte : ℕ) (bytes : List ℕ) (whole : List (List ℕ)) (rest : List ℕ) (test : Bool)
    → (cond test (record { whole = (byte ∷ []) ∷ whole; rest = rest }) (in_front byte whole rest)).whole ≡ [] → (whole ≡ [] → rest ≡ bytes)
    → (cond test (record { whole = (byte ∷ []) ∷ whole; rest = rest }) (in_front byte whole rest)).rest ≡ byte ∷ bytes
only_rest_so byte bytes whole rest true none later = absurd (cc)
only_rest_so byte bytes [] rest false none later = ap (λ (r : List ℕ). byte ∷ r) (later refl)
only_rest_so byte bytes (line ∷ lines) rest false none later = absurd (cc)

pub only_rest : (bytes : List ℕ) → (lines_of bytes).whole ≡ [] → (lines_of bytes).rest ≡ bytes
unfolding lines_of
only_rest [] none = refl
only_rest (byte ∷ bytes) none = only_rest_so byte bytes (lines_of bytes).whole (lines_of bytes).rest (byte == 10) none (only_rest bytes)

ended_some : (m : Memory) (number : ℕ) (more : List ℕ) (whole : List (List ℕ)) (rest : List ℕ) → 0 < length more → (whole ≡ [] → rest ≡ more)
    → ended m number whole rest ≡ Err (BadLine (number + 1))
ended_some m number more [] [] some is = absurd (omega (arith, ap length (is refl)))
ended_some m number more [] (byte ∷ rest) some is = refl
ended_some m number more (line ∷ lines) rest some is = refl

rows-last : (m : Memory) (number from : ℕ) (lines : List (List ℕ)) (rest : List ℕ) → rows_so m number from (last_line ∷ lines) rest ≡ ended m number lines rest
unfolding rows_so
rows-last m number from lines rest = if_true _ _ _ ((bytes_eq-Decides last_line last_line).1 refl)

said-last : (m : Memory) (number from : ℕ) (text more : List ℕ) → text ≡ last_line ++ more
    → behind_so m number from text ≡ ended m number (lines_of more).whole (lines_of more).rest
said-last m number from text more is =
    ap (behind_so m number from) (is ∙ ap (λ (l : List ℕ). l ++ more) last_line-front)
    ∙ said-line m number from last_front more last_no_feed
    ∙ ap (λ (l : List ℕ). rows_so m number from (l ∷ (lines_of more).whole) (lines_of more).rest) (sym last_line-front)
    ∙ rows-last m number from (lines_of more).whole (lines_of more).rest

no_lines : lines_of [] ≡ record { whole = []; rest = [] }
unfolding lines_of
no_lines = refl

pub said-end : (m : Memory) (number from : ℕ) (text more : List ℕ) → text ≡ last_line ++ more → length text ≡ 4 → behind_so m number from text ≡ Ok m
said-end m number from text [] is size =
    said-last m number from text [] is ∙ ap (λ (l : Lines). ended m number l.whole l.rest) no_lines
said-end m number from text (byte ∷ more) is size = absurd (omega (arith, ap length is, length-append last_line (byte ∷ more), length-last))

pub said-behind : (m : Memory) (number from : ℕ) (text more : List ℕ) → text ≡ last_line ++ more → length text ≢ 4
    → behind_so m number from text ≡ Err (BadLine (number + 1))
said-behind m number from text more is size =
    let some : 0 < length more = omega (arith, ap length is, length-append last_line more, length-last, size) in
    said-last m number from text more is ∙ ended_some m number more (lines_of more).whole (lines_of more).rest some (only_rest more)

pub said-cut : (m : Memory) (number from : ℕ) (text : List ℕ) → (lines_of text).whole ≡ [] → behind_so m number from text ≡ Err Truncated
unfolding rows_so
said-cut m number from text none = ap (λ (whole : List (List ℕ)). rows_so m number from whole (lines_of text).rest) none

-- A text that begins with a whole line.
pub record HasFirst (text : List ℕ) : Type 0 where
  pub line : List ℕ
  pub lines : List (List ℕ)
  pub whole : lines_of text ≡ record { whole = line ∷ lines; rest = (lines_of text).rest }
  pub more : List ℕ
  pub text_is : text ≡ line ++ more

first_of : (text : List ℕ) (whole : List (List ℕ)) (rest : List ℕ) → lines_of text ≡ record { whole = whole; rest = rest } → whole ≢ []
    → rest ≡ (lines_of text).rest → HasFirst text
first_of text [] rest is some same = absurd (some refl)
first_of text (line ∷ lines) rest is some same =
    let f = first_line text line lines rest is in
    record {
      line = line;
      lines = lines;
      whole = is ∙ ap (λ (r : List ℕ). record { whole = line ∷ lines; rest = r }) same;
      more = f.more;
      text_is = f.bytes_are;
    }

pub has_first : (text : List ℕ) → (lines_of text).whole ≢ [] → HasFirst text
has_first text some = first_of text (lines_of text).whole (lines_of text).rest refl some refl

-- the first line of a text, where it has so many bytes
front_is : (text line more : List ℕ) (n : ℕ) → text ≡ line ++ more → length line ≡ n → take n text ≡ line
front_is text line more n is size = ap (take n) is ∙ take_at line more n size

no_row : (text line more : List ℕ) (found : Option Row) → text ≡ line ++ more → row_of (take 42 text) ≡ None → row_of line ≡ found → found ≡ None
no_row text line more None is none read = refl
no_row text line more (Some row) is none read =
    let spelled = row_of-only line row read in
    let long : length line ≡ 42 = omega (arith, ap length spelled.text, length-row row.address row.bytes, spelled.size) in
    let same : Some row ≡ None = sym read ∙ ap row_of (sym (front_is text line more 42 is long)) ∙ none in
    absurd (cc)

pub said-bad : (m : Memory) (number from : ℕ) (text : List ℕ) → row_of (take 42 text) ≡ None → (lines_of text).whole ≢ []
    → ((more : List ℕ) → text ≡ last_line ++ more → ⊥) → behind_so m number from text ≡ Err (BadLine number)
said-bad m number from text none some other =
    let f = has_first text some in
    let not_end : bytes_eq f.line last_line ≡ false =
    not_last f.line (λ same. other f.more (f.text_is ∙ ap (λ (l : List ℕ). l ++ f.more) same)) in
    ap (λ (l : Lines). rows_so m number from l.whole l.rest) f.whole
    ∙ rows-bad m number from f.line f.lines (lines_of text).rest not_end (no_row text f.line f.more (row_of f.line) f.text_is none refl)

-- ---- the first line of all

pub read-header : (text : List ℕ) (header : Header) → header_of (take 21 text) ≡ Some header
    → read_so text ≡ behind_so (blank header.top header.fill) 2 0 (drop 21 text)
unfolding read_so dump_so
read-header text header is =
    let h = header_of-only (take 21 text) header is in
    let front = header_front header.top header.fill in
    let line : take 21 text ≡ front ++ 10 ∷ [] = h.text ∙ header_line-front header.top header.fill in
    let whole : text ≡ (front ++ 10 ∷ []) ++ drop 21 text =
    sym (take-append-drop 21 text) ∙ ap (λ (l : List ℕ). l ++ drop 21 text) line in
    let cut = ap lines_of whole ∙ lines_of-line front (drop 21 text) (header_no_feed header.top header.fill h.fill) in
    let next : Header → Result Memory DumpFault =
    λ h. rows_so (blank h.top h.fill) 2 0 (lines_of (drop 21 text)).whole (lines_of (drop 21 text)).rest in
    ap (λ (l : Lines). dump_so l.whole l.rest) cut
    ∙ ap (λ (l : List ℕ). ok_or (header_of l) BadHeader into next) (sym line)
    ∙ ap (λ (found : Option Header). ok_or found BadHeader into next) is

no_header : (text line more : List ℕ) (found : Option Header) → text ≡ line ++ more → header_of (take 21 text) ≡ None → header_of line ≡ found
    → found ≡ None
no_header text line more None is none read = refl
no_header text line more (Some header) is none read =
    let h = header_of-only line header read in
    let long : length line ≡ 21 = omega (arith, ap length h.text, length-header header.top header.fill) in
    let same : Some header ≡ None = sym read ∙ ap header_of (sym (front_is text line more 21 is long)) ∙ none in
    absurd (cc)

pub read-bad : (text : List ℕ) → header_of (take 21 text) ≡ None → (lines_of text).whole ≢ [] → read_so text ≡ Err BadHeader
unfolding read_so dump_so
read-bad text none some =
    let f = has_first text some in
    let next : Header → Result Memory DumpFault = λ h. rows_so (blank h.top h.fill) 2 0 f.lines (lines_of text).rest in
    ap (λ (l : Lines). dump_so l.whole l.rest) f.whole
    ∙ ap (λ (found : Option Header). ok_or found BadHeader into next) (no_header text f.line f.more (header_of f.line) f.text_is none refl)

pub read-cut : (text : List ℕ) → (lines_of text).whole ≡ [] → read_so text ≡ Err Truncated
unfolding read_so dump_so
read-cut text none = ap (λ (whole : List (List ℕ)). dump_so whole (lines_of text).rest) none

-- ---- a text that begins with the last line, as the code tests it

pub begins_last : (text : List ℕ) (test : Bool) → test ≡ bytes_eq (last_front ++ 10 ∷ []) (take 4 text) → test ≡ true → text ≡ last_line ++ drop 4 text
begins_last text test is passes =
    let same : last_front ++ 10 ∷ [] ≡ take 4 text = (bytes_eq-Decides (last_front ++ 10 ∷ []) (take 4 text)).0 (sym is ∙ passes) in
    sym (take-append-drop 4 text) ∙ ap (λ (l : List ℕ). l ++ drop 4 text) (sym same ∙ sym last_line-front)

pub no_last : (text : List ℕ) (test : Bool) → test ≡ bytes_eq (last_front ++ 10 ∷ []) (take 4 text) → test ≡ false → (more : List ℕ)
    → text ≡ last_line ++ more → ⊥
no_last text test is fails more begins =
    let front : take 4 text ≡ last_front ++ 10 ∷ [] = front_is text last_line more 4 begins length-last ∙ last_line-front in
    let both : true ≡ false = sym ((bytes_eq-Decides (last_front ++ 10 ∷ []) (take 4 text)).1 (sym front)) ∙ sym is ∙ fails in
    absurd (cc)

-- a text that begins with a row's line has as many bytes, and one that begins with the first line of all
pub row_fits : (text : List ℕ) (row : Row) → row_of (take 42 text) ≡ Some row → 42 ≤ length text
row_fits text row is =
    let b = begins text row is in
    let cut : length (take 42 text) ≡ min 42 (length text) = length-take 42 text in
    omega (arith, b.long, cut)

pub header_fits : (text : List ℕ) (header : Header) → header_of (take 21 text) ≡ Some header → 21 ≤ length text
header_fits text header is =
    let h = header_of-only (take 21 text) header is in
    let cut : length (take 21 text) ≡ min 21 (length text) = length-take 21 text in
    omega (arith, ap length h.text, length-header header.top header.fill, cut)

-- one more row is taken, as the loop has it
pub next_said : (m after : Memory) (number from a : ℕ) (text rest : List ℕ) (row : Row) → row_of (take 42 text) ≡ Some row
    → fault_of_row m number from row ≡ None → after ≡ with_bytes m row.address row.bytes → a ≡ row.address → rest ≡ drop 42 text
    → behind_so m number from text ≡ behind_so after (number + 1) (a + 1) rest
next_said m after number from a text rest row is none put same left =
    said-taken m number from text row is none
    ∙ ap (λ (n : Memory). behind_so n (number + 1) (row.address + 1) (drop 42 text)) (sym put)
    ∙ ap (λ (b : ℕ). behind_so after (number + 1) (b + 1) (drop 42 text)) (sym same)
    ∙ ap (behind_so after (number + 1) (a + 1)) (sym left)

-- what holds of the fault that a call hands on
pub if_err : {A : Type 0} (result : Result A DumpFault) (P : DumpFault → Type 0) (fault : DumpFault) → IsErrAnd result (λ e. e ≡ fault) → P fault
    → IfErr result P
if_err (Ok value) P fault is holds = tt
if_err (Err e) P fault is holds = subst P (sym is) holds
