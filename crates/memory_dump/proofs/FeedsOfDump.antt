-- How many line feeds a dump has, and that its rows are fewer than a u32 tells.
use Rattle.std.proofs.Common.{◌≡◌, ◌==◌, ℕ, ◌+◌, ◌-◌, ◌^◌, ◌≤◌, min, max, Bool, cond, Result, Ok, Err, List, [], ◌∷◌, ◌++◌, length, refl, ap, ◌∙◌, arith}
use Rattle.std.specs.List.{flat_map}
use Rattle.std.specs.Result.{OnOk}
use Rattle.std.proofs.lemmas.List.Sums.{sum_by-cons}
use Rattle.vt_bytes.specs.Memory.{Memory, IsTop, IsMemory}
use Rattle.guest_memory.specs.Bytes.{HoldsBytes}
use Rattle.guest_memory.proofs.Runs.{ram_below}
use Rattle.vt_outside.specs.Stream.{LineFeeds, SinkSeen, Took, line_feeds}
use Rattle.vt_outside.proofs.Taken.{line_feeds-append}
use Rattle.memory_dump.specs.Dump.{dump, header_line, last_line}
use Rattle.memory_dump.specs.Rows.{AreRows, Ascend, Rows, rows_of, text_of, text_of_row}
use Rattle.memory_dump.specs.declared.row.Row.{Row}
use Rattle.memory_dump.proofs.ReadDigits.{HasNoFeed}
use Rattle.memory_dump.proofs.RowsTell.{rows_are_lawful}
use Rattle.memory_dump.proofs.Spelled.{header_front, header_line-front, header_no_feed, last_front, last_line-front, last_no_feed, row_front}
use Rattle.memory_dump.proofs.Spelled.{row_no_feed, row_text-front}
use Rattle.memory_dump.proofs.TextOfRows.{dump_is}

feeds_of_none : (bytes : List ℕ) → HasNoFeed bytes → line_feeds bytes ≡ 0
feeds_of_none [] none = refl
feeds_of_none (byte ∷ bytes) none =
    let here : ◌≡◌ {A = ℕ} (cond (byte == 10) 1 0) 0 = ap (λ (test : Bool). cond test 1 0) none.0 in
    omega (arith, here, sum_by-cons (λ b. cond (b == 10) 1 0) byte bytes, feeds_of_none bytes none.1)

-- a line that ends in its one line feed
feeds_of_line : (line front : List ℕ) → line ≡ front ++ 10 ∷ [] → HasNoFeed front → line_feeds line ≡ 1
feeds_of_line line front is none =
    ap line_feeds is ∙ line_feeds-append front (10 ∷ []) ∙ ap (λ (n : ℕ). n + 1) (feeds_of_none front none)

-- each row has one
feeds_of_rows : (top fill from : ℕ) (rows : List Row) → Ascend top fill from rows → line_feeds (flat_map text_of_row rows) ≡ length rows
feeds_of_rows top fill from [] ascend = refl
feeds_of_rows top fill from (row ∷ rows) ascend =
    let first = feeds_of_line (text_of_row row) (row_front row.address row.bytes) (row_text-front row.address row.bytes)
    (row_no_feed row.address row.bytes ascend.1.bytes) in
    omega (arith, first, line_feeds-append (text_of_row row) (flat_map text_of_row rows), feeds_of_rows top fill (row.address + 1) rows ascend.2)

-- and so have the first line and the last
feeds_of_text : (d : Rows) → AreRows d → line_feeds (text_of d) ≡ length d.rows + 2
unfolding text_of
feeds_of_text d lawful =
    let header = header_line d.top d.fill in
    let rows = flat_map text_of_row d.rows in
    omega (
      arith,
      line_feeds-append (header ++ rows) last_line,
      line_feeds-append header rows,
      feeds_of_line header (header_front d.top d.fill) (header_line-front d.top d.fill) (header_no_feed d.top d.fill lawful.fill),
      feeds_of_rows d.top d.fill 0 d.rows lawful.ascend,
      feeds_of_line last_line last_front last_line-front last_no_feed,
    )

pub feeds_of_dump : (m : Memory) → IsMemory m → HoldsBytes m → line_feeds (dump m) ≡ length (rows_of m).rows + 2
feeds_of_dump m lawful holds = ap line_feeds (dump_is m) ∙ feeds_of_text (rows_of m) (rows_are_lawful m lawful holds)

-- rows of ascending addresses are fewer than the addresses below the greatest top
few_rows : (top fill from : ℕ) (rows : List Row) → IsTop top → from ≤ 0xC0000000 → Ascend top fill from rows → from + length rows ≤ 0xC0000000
few_rows top fill from [] lawful before ascend = omega (arith, before)
few_rows top fill from (row ∷ rows) lawful before ascend =
    let below = ram_below top row.address lawful ascend.1.ram in
    omega (arith, ascend.0, few_rows top fill (row.address + 1) rows lawful (omega (arith, below)) ascend.2)

-- What a sink that counts line feeds says of a dump that it took.
pub record CountsRows (m : Memory) (n : ℕ) : Type 0 where
  pub count : n ≡ length (rows_of m).rows + 2
  pub few : length (rows_of m).rows ≤ 0xC0000000

counts_feeds : (m : Memory) (n feeds : ℕ) → IsMemory m → HoldsBytes m → feeds ≡ length (rows_of m).rows + 2
    → n ≡ max 0 (min (0 + feeds) (2 ^ 64 - 1)) → CountsRows m n
counts_feeds m n feeds lawful holds all is =
    let rows = rows_are_lawful m lawful holds in
    let few : length (rows_of m).rows ≤ 0xC0000000 =
    omega (arith, few_rows (rows_of m).top (rows_of m).fill 0 (rows_of m).rows rows.top (omega arith) rows.ascend) in
    record { count = omega (arith, is, all, few); few = few }

-- what such a sink shows
abbrev counter : ℕ → SinkSeen
counter count = record { taken = LineFeeds count; flushed = 0; faults = 0 }

pub counts_rows : {T E : Type 0} (m : Memory) (r : Result T E) (value : T) (start after n : ℕ) → IsMemory m → HoldsBytes m → r ≡ Ok value
    → OnOk r (Took (dump m) (counter start) (counter after)) → start ≡ 0 → n ≡ after → CountsRows m n
counts_rows m (Err fault) value start after n lawful holds is took none same = absurd (cc)
counts_rows m (Ok given) value start after n lawful holds is took none same =
    let told : LineFeeds after ≡ LineFeeds (max start (min (start + line_feeds (dump m)) (2 ^ 64 - 1))) = ap (λ (s : SinkSeen). s.taken) took in
    let counted : after ≡ max start (min (start + line_feeds (dump m)) (2 ^ 64 - 1)) = cc in
    let from_0 : n ≡ max 0 (min (0 + line_feeds (dump m)) (2 ^ 64 - 1)) = cc in
    counts_feeds m n (line_feeds (dump m)) lawful holds (feeds_of_dump m lawful holds) from_0
