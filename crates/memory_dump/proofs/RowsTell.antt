-- A memory has lawful rows, and memories that have the same rows are equal.
use Rattle.std.proofs.Common.{◌≡◌, ℕ, zero, suc, ◌+◌, ◌-◌, ◌%◌, ◌<◌, ◌≤◌, inl, inr, slice_index, Bool, true, false, cond, List, [], ◌∷◌, ◌++◌, length}
use Rattle.std.proofs.Common.{refl, ap, sym, subst, ◌∙◌, arith}
use Rattle.std.specs.List.{AllByRecursion, flat_map}
use Rattle.std.proofs.lemmas.Bool.{and_parts, eqb-true}
use Rattle.vt_bytes.specs.Memory.{Memory, IsTop, IsRam, IsRamRange, IsMemory, at, bytes_at}
use Rattle.vt_bytes.proofs.Bytes.{index-bytes_at, length-bytes_at}
use Rattle.vt_bytes.proofs.Memories.{same_memory}
use Rattle.guest_memory.specs.Bytes.{HoldsBytes}
use Rattle.memory_dump.specs.Rows.{AreBytes, AreRows, Ascend, IsRow, Rows, is_fill, row_addresses, row_at, rows_of}
use Rattle.memory_dump.specs.declared.row.Row.{Row}
use Rattle.memory_dump.proofs.Addresses.{IsRowAddress, Steps, each_of, row_each, row_in, row_steps}

ascend_sooner : (top fill from later : ℕ) (rows : List Row) → from ≤ later → Ascend top fill later rows → Ascend top fill from rows
ascend_sooner top fill from later [] before ascend = tt
ascend_sooner top fill from later (row ∷ rows) before ascend = (omega (arith, before, ascend.0), ascend.1, ascend.2)

bytes_hold : (m : Memory) (a n : ℕ) → HoldsBytes m → IsRamRange m.top a n → AreBytes (bytes_at m a n)
unfolding bytes_at
bytes_hold m a zero holds ram = tt
bytes_hold m a (suc n) holds ram =
    let here : a + 0 ≡ a = omega arith in (
      holds.each a (subst (IsRam m.top) here (ram 0 (omega arith))),
      bytes_hold m (a + 1) n holds (λ i within.
          let place : a + suc i ≡ a + 1 + i = omega arith in
          subst (IsRam m.top) place (ram (suc i) (omega (arith, within)))),
    )

one_ascends : (top fill from a : ℕ) (test : Bool) (bytes : List ℕ) (rows : List Row) → is_fill fill bytes ≡ test → from ≤ a
    → (test ≡ false → IsRow top fill (record { address = a; bytes = bytes })) → Ascend top fill (a + 16) rows
    → Ascend top fill from (cond test [] (record { address = a; bytes = bytes } ∷ []) ++ rows)
one_ascends top fill from a true bytes rows same order is ascend = ascend_sooner top fill from (a + 16) rows (omega (arith, order)) ascend
one_ascends top fill from a false bytes rows same order is ascend =
    (order, is refl, ascend_sooner top fill (a + 1) (a + 16) rows (omega arith) ascend)

rows_ascend : (m : Memory) (from to : ℕ) (xs : List ℕ) → HoldsBytes m → Steps from to xs → AllByRecursion (IsRowAddress m.top) xs
    → Ascend m.top m.fill from (flat_map (row_at m) xs)
rows_ascend m from to [] holds steps each = tt
rows_ascend m from to (a ∷ xs) holds steps each =
    let lies = each.0 in
    let here : a + 0 ≡ a = omega arith in
    one_ascends m.top m.fill from a (is_fill m.fill (bytes_at m a 16)) (bytes_at m a 16) (flat_map (row_at m) xs) refl steps.0
    (λ other. record {
      ram = subst (IsRam m.top) here (lies.ram 0 (omega arith));
      aligned = lies.aligned;
      size = length-bytes_at m a 16;
      bytes = bytes_hold m a 16 holds lies.ram;
      other = other;
    }) (rows_ascend m (a + 16) to xs holds steps.1 each.1)

pub rows_are_lawful : (m : Memory) → IsMemory m → HoldsBytes m → AreRows (rows_of m)
unfolding rows_of
rows_are_lawful m lawful holds = record {
  top = lawful.top;
  fill = holds.fill;
  ascend = rows_ascend m 0 m.top (row_addresses m.top) holds (row_steps m.top lawful.top) (row_each m.top lawful.top);
}

-- ---- the same rows

first_by_test : (from a : ℕ) (test : Bool) (here row : Row) (others rows : List Row) → here.address ≡ a → from ≤ a
    → cond test [] (here ∷ []) ++ others ≡ row ∷ rows → (others ≡ row ∷ rows → a + 16 ≤ row.address) → from ≤ row.address
first_by_test from a true here row others rows same order is later = omega (arith, order, later is)
first_by_test from a false here row others rows same order is later =
    let first : here ≡ row = cc in
    omega (arith, order, same, ap (λ (r : Row). r.address) first)

first_past : (m : Memory) (from to : ℕ) (xs : List ℕ) (row : Row) (rows : List Row) → Steps from to xs → flat_map (row_at m) xs ≡ row ∷ rows
    → from ≤ row.address
first_past m from to [] row rows steps is = absurd (cc)
first_past m from to (a ∷ xs) row rows steps is =
    first_by_test from a (is_fill m.fill (bytes_at m a 16)) (record { address = a; bytes = bytes_at m a 16 }) row (flat_map (row_at m) xs) rows refl
    steps.0 is (first_past m (a + 16) to xs row rows steps.1)

same_fill : (fill : ℕ) (xs ys : List ℕ) → length xs ≡ length ys → is_fill fill xs ≡ true → is_fill fill ys ≡ true → xs ≡ ys
same_fill fill [] [] size first second = refl
same_fill fill [] (y ∷ ys) size first second = absurd (omega (arith, size))
same_fill fill (x ∷ xs) [] size first second = absurd (omega (arith, size))
same_fill fill (x ∷ xs) (y ∷ ys) size first second =
    let a = and_parts _ _ first in
    let b = and_parts _ _ second in
    let is_x : x ≡ fill = eqb-true x fill a.0 in
    let is_y : y ≡ fill = eqb-true y fill b.0 in
    ap (λ (v : ℕ). v ∷ xs) (is_x ∙ sym is_y) ∙ ap (λ (rest : List ℕ). y ∷ rest) (same_fill fill xs ys (omega (arith, size)) a.1 b.1)

-- one address at which the rows are the same, by both tests
record BothSame (bytes others : List ℕ) (rows more : List Row) : Type 0 where
  here : bytes ≡ others
  rest : rows ≡ more

both_tests : (a : ℕ) (first second : Bool) (bytes others : List ℕ) (rows more : List Row)
    → cond first [] (record { address = a; bytes = bytes } ∷ []) ++ rows ≡ cond second [] (record { address = a; bytes = others } ∷ []) ++ more
    → (first ≡ true → second ≡ true → bytes ≡ others)
    → ((row : Row) (x : List Row) → rows ≡ row ∷ x → a + 16 ≤ row.address) → ((row : Row) (x : List Row) → more ≡ row ∷ x → a + 16 ≤ row.address)
    → BothSame bytes others rows more
both_tests a true true bytes others rows more same fills past_rows past_more = record { here = fills refl refl; rest = same }
both_tests a true false bytes others rows more same fills past_rows past_more =
    absurd (omega (arith, past_rows (record { address = a; bytes = others }) more same))
both_tests a false true bytes others rows more same fills past_rows past_more =
    absurd (omega (arith, past_more (record { address = a; bytes = bytes }) rows (sym same)))
both_tests a false false bytes others rows more same fills past_rows past_more =
    let first : (record { address = a; bytes = bytes }) ≡ record { address = a; bytes = others } = cc in
    let rest : rows ≡ more = cc in
    record { here = ap (λ (r : Row). r.bytes) first; rest = rest }

-- memories with the same rows and the same fill byte hold the same at each address of a row
same_rows : (m other : Memory) (from to : ℕ) (xs : List ℕ) → other.fill ≡ m.fill → Steps from to xs
    → flat_map (row_at m) xs ≡ flat_map (row_at other) xs → AllByRecursion (λ a. bytes_at m a 16 ≡ bytes_at other a 16) xs
same_rows m other from to [] fill steps same = tt
same_rows m other from to (a ∷ xs) fill steps same =
    let both = both_tests a (is_fill m.fill (bytes_at m a 16)) (is_fill other.fill (bytes_at other a 16)) (bytes_at m a 16) (bytes_at other a 16)
    (flat_map (row_at m) xs) (flat_map (row_at other) xs) same
    (λ first second. same_fill m.fill (bytes_at m a 16) (bytes_at other a 16) (length-bytes_at m a 16 ∙ sym (length-bytes_at other a 16)) first
    (ap (λ (f : ℕ). is_fill f (bytes_at other a 16)) (sym fill) ∙ second))
    (λ row x is. first_past m (a + 16) to xs row x steps.1 is) (λ row x is. first_past other (a + 16) to xs row x steps.1 is) in
    (both.here, same_rows m other (a + 16) to xs fill steps.1 both.rest)

begins_ram : (top a : ℕ) → IsTop top → IsRam top a → IsRam top (a - a % 16)
begins_ram top a lawful ram =
    let least : 0x4000000 ≤ top = lawful.at_least in
    let whole : top % 0x100000 ≡ 0 = lawful.whole in
    elim ram as (λ _. IsRam top (a - a % 16)) [
      | inl low ↦ inl (omega arith, omega (arith, low.1))
      | inr later ↦ elim later as (λ _. IsRam top (a - a % 16)) [
        | inl bios ↦ inr (inl (omega (arith, bios.0), omega (arith, bios.1)))
        | inr last ↦ elim last as (λ _. IsRam top (a - a % 16)) [
          | inl high ↦ inr (inr (inl (omega (arith, high.0, least, whole), omega (arith, high.1))))
          | inr none ↦ absurd none
        ]
      ]
    ]

same_byte : (m other : Memory) (a : ℕ) → IsTop m.top → IsRam m.top a
    → AllByRecursion (λ b. bytes_at m b 16 ≡ bytes_at other b 16) (row_addresses m.top) → at m a ≡ at other a
same_byte m other a lawful ram each =
    let start = a - a % 16 in
    let aligned : start % 16 ≡ 0 = omega arith in
    let place : start + a % 16 ≡ a = omega arith in
    let below : a % 16 < 16 = omega arith in
    let first : IsRam m.top start = begins_ram m.top a lawful ram in
    let row = each_of (λ b. bytes_at m b 16 ≡ bytes_at other b 16) start (row_addresses m.top) (row_in m.top start lawful first aligned) each in
    ap (at m) (sym place) ∙ sym (index-bytes_at m start 16 (a % 16) below) ∙ ap (λ (bytes : List ℕ). slice_index bytes (a % 16)) row
    ∙ index-bytes_at other start 16 (a % 16) below ∙ ap (at other) place

pub same_memories : (m other : Memory) → IsMemory m → IsMemory other → rows_of m ≡ rows_of other → m ≡ other
unfolding rows_of
same_memories m other lawful other_lawful same =
    let top : m.top ≡ other.top = ap (λ (d : Rows). d.top) same in
    let fill : m.fill ≡ other.fill = ap (λ (d : Rows). d.fill) same in
    let rows : flat_map (row_at m) (row_addresses m.top) ≡ flat_map (row_at other) (row_addresses m.top) =
    ap (λ (d : Rows). d.rows) same ∙ ap (λ (t : ℕ). flat_map (row_at other) (row_addresses t)) (sym top) in
    let each = same_rows m other 0 m.top (row_addresses m.top) (sym fill) (row_steps m.top lawful.top) rows in
    same_memory m other lawful other_lawful (record {
      top = sym top;
      fill = sym fill;
      bytes = λ a ram. sym (same_byte m other a lawful.top ram each);
    })
