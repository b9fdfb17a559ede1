-- The rows of a memory in which rows were put, one behind the other, are these rows.
use Rattle.std.proofs.Common.{◌≡◌, ℕ, zero, suc, ◌+◌, ◌-◌, ◌%◌, ◌<◌, ◌≤◌, ◌⊎◌, inl, inr, Bool, true, false, cond, List, [], ◌∷◌, ◌++◌, length, map}
use Rattle.std.proofs.Common.{replicate, slice_index, refl, ap, sym, subst, ◌∙◌, arith, append_assoc}
use Rattle.std.specs.List.{AllByRecursion, flat_map}
use Rattle.std.proofs.lemmas.Bool.{and_from, eq-eqb, cases_lt}
use Rattle.std.proofs.lemmas.List.{append-nil, length-replicate, get_or-replicate}
use Rattle.vt_bytes.specs.declared.memory.AddressRange.{AddressRange}
use Rattle.vt_bytes.specs.Memory.{Memory, IsTop, IsIn, IsInOne, IsRam, IsRamRange, IsMemory, at, byte_in, bytes_at, high_start, ram_ranges, with_bytes}
use Rattle.vt_bytes.proofs.Bytes.{bytes_at-same}
use Rattle.vt_bytes.proofs.Memories.{byte_with, bytes_with, lawful_with, others_with, same_memory}
use Rattle.vt_bytes.proofs.Ranges.{IsBeside, byte_here, byte_later}
use Rattle.guest_memory.specs.Bytes.{HoldsBytes}
use Rattle.memory_dump.specs.Rows.{AreBytes, AreRows, Ascend, IsRow, Rows, blank, is_fill, memory_of, row_addresses, row_at, rows_of, with_rows}
use Rattle.memory_dump.specs.declared.row.Row.{Row}
use Rattle.memory_dump.proofs.Addresses.{In, IsRowAddress, Steps, row_each, row_in, row_ram, row_steps}

-- ---- one more row

-- no rows at all of these addresses, from one on
pub none_from : (top from to : ℕ) (f : ℕ → List Row) (xs : List ℕ) → Steps from to xs → AllByRecursion (IsRowAddress top) xs
    → ((b : ℕ) → IsRowAddress top b → from ≤ b → f b ≡ []) → flat_map f xs ≡ []
none_from top from to f [] steps each none = refl
none_from top from to f (a ∷ xs) steps each none =
    ap (λ (first : List Row). first ++ flat_map f xs) (none a each.0 steps.0)
    ∙ none_from top (a + 16) to f xs steps.1 each.1 (λ b is later. none b is (omega (arith, later, steps.0)))

past : (from to a : ℕ) (xs : List ℕ) → Steps from to xs → In a xs → from ≤ a
past from to a [] steps is = absurd is
past from to a (b ∷ xs) steps is = elim is as (λ _. from ≤ a) [
  | inl here ↦ omega (arith, here, steps.0)
  | inr later ↦ omega (arith, steps.0, past (b + 16) to a xs steps.1 later)
]

-- of two ways to tell rows the second has one more, behind which neither has any
pub one_more : (top from to a : ℕ) (f g : ℕ → List Row) (row : Row) (xs : List ℕ) → Steps from to xs → AllByRecursion (IsRowAddress top) xs → In a xs
    → ((b : ℕ) → IsRowAddress top b → b + 16 ≤ a → g b ≡ f b) → g a ≡ row ∷ [] → ((b : ℕ) → IsRowAddress top b → a ≤ b → f b ≡ [])
    → ((b : ℕ) → IsRowAddress top b → a + 16 ≤ b → g b ≡ []) → flat_map g xs ≡ flat_map f xs ++ row ∷ []
one_more top from to a f g row [] steps each is before here none after = absurd is
one_more top from to a f g row (b ∷ xs) steps each is before here none after =
    elim is as (λ _. flat_map g (b ∷ xs) ≡ flat_map f (b ∷ xs) ++ row ∷ []) [
      | inl same ↦
          let at_b : g b ≡ row ∷ [] = ap g (sym same) ∙ here in
          let no_f : f b ≡ [] = none b each.0 (omega (arith, same)) in
          let rest_g : flat_map g xs ≡ [] =
          none_from top (b + 16) to g xs steps.1 each.1 (λ x lies later. after x lies (omega (arith, same, later))) in
          let rest_f : flat_map f xs ≡ [] =
          none_from top (b + 16) to f xs steps.1 each.1 (λ x lies later. none x lies (omega (arith, same, later))) in
          let left : flat_map g (b ∷ xs) ≡ row ∷ [] =
          ap (λ (first : List Row). first ++ flat_map g xs) at_b ∙ ap (λ (rest : List Row). row ∷ rest) rest_g in
          let right : flat_map f (b ∷ xs) ≡ [] = ap (λ (first : List Row). first ++ flat_map f xs) no_f ∙ rest_f in
          left ∙ ap (λ (rows : List Row). rows ++ row ∷ []) (sym right)
      | inr later ↦
          let first : g b ≡ f b = before b each.0 (past (b + 16) to a xs steps.1 later) in
          let more = one_more top (b + 16) to a f g row xs steps.1 each.1 later before here none after in
          ap (λ (rows : List Row). rows ++ flat_map g xs) first ∙ ap (λ (rows : List Row). f b ++ rows) more
          ∙ sym (append_assoc (f b) (flat_map f xs) (row ∷ []))
    ]

-- ---- what a memory has of rows

row_if_fill : (test : Bool) (row : Row) → test ≡ true → cond test [] (row ∷ []) ≡ []
row_if_fill true row is = refl
row_if_fill false row is = absurd (cc)

row_if_other : (test : Bool) (row : Row) → test ≡ false → cond test [] (row ∷ []) ≡ row ∷ []
row_if_other true row is = absurd (cc)
row_if_other false row is = refl

-- each row from an address on holds the fill byte alone
abbrev pub FilledFrom : ℕ → Memory → Type 0
FilledFrom from m = (b : ℕ) → IsRowAddress m.top b → from ≤ b → is_fill m.fill (bytes_at m b 16) ≡ true

beside : (m : Memory) (a b : ℕ) (bytes : List ℕ) → IsMemory m → length bytes ≡ 16 → (b + 16 ≤ a) ⊎ (a + 16 ≤ b)
    → bytes_at (with_bytes m a bytes) b 16 ≡ bytes_at m b 16
beside m a b bytes lawful size apart =
    bytes_at-same (with_bytes m a bytes) m b 16 (λ i within. others_with m a bytes (b + i) lawful
    (elim apart as (λ _. (b + i < a) ⊎ (a + length bytes ≤ b + i)) [
      | inl before ↦ inl (omega (arith, before, within))
      | inr behind ↦ inr (omega (arith, behind, size))
    ]))

there : (m : Memory) (a : ℕ) (bytes : List ℕ) → IsMemory m → length bytes ≡ 16 → IsRamRange m.top a 16 → bytes_at (with_bytes m a bytes) a 16 ≡ bytes
there m a bytes lawful size ram =
    ap (bytes_at (with_bytes m a bytes) a) (sym size) ∙ bytes_with m a bytes lawful (subst (IsRamRange m.top a) (sym size) ram)

-- a row that was put behind all others is one more row
put_row : (m : Memory) (from : ℕ) (row : Row) → IsMemory m → FilledFrom from m → from ≤ row.address → IsRow m.top m.fill row
    → flat_map (row_at (with_bytes m row.address row.bytes)) (row_addresses m.top) ≡ flat_map (row_at m) (row_addresses m.top) ++ row ∷ []
put_row m from row lawful filled order is =
    let a = row.address in
    let lies = row_ram m.top a lawful.top is.ram is.aligned in
    let after = with_bytes m a row.bytes in
    let held : bytes_at after a 16 ≡ row.bytes = there m a row.bytes lawful is.size lies.ram in
    let other : is_fill m.fill (bytes_at after a 16) ≡ false = ap (is_fill m.fill) held ∙ is.other in
    one_more m.top 0 m.top a (row_at m) (row_at after) row (row_addresses m.top) (row_steps m.top lawful.top) (row_each m.top lawful.top)
    (row_in m.top a lawful.top is.ram is.aligned)
    (λ b _ before. ap (λ (bytes : List ℕ). cond (is_fill m.fill bytes) [] (record { address = b; bytes = bytes } ∷ []))
    (beside m a b row.bytes lawful is.size (inl before)))
    (row_if_other (is_fill m.fill (bytes_at after a 16)) (record { address = a; bytes = bytes_at after a 16 }) other
    ∙ ap (λ (bytes : List ℕ). record { address = a; bytes = bytes } ∷ []) held)
    (λ b at_row later. row_if_fill (is_fill m.fill (bytes_at m b 16)) (record { address = b; bytes = bytes_at m b 16 })
    (filled b at_row (omega (arith, later, order))))
    (λ b at_row later. row_if_fill (is_fill m.fill (bytes_at after b 16)) (record { address = b; bytes = bytes_at after b 16 })
    (ap (is_fill m.fill) (beside m a b row.bytes lawful is.size (inr later)) ∙ filled b at_row (omega (arith, later, order))))

still_filled : (m : Memory) (from : ℕ) (row : Row) → IsMemory m → FilledFrom from m → from ≤ row.address → IsRow m.top m.fill row
    → FilledFrom (row.address + 1) (with_bytes m row.address row.bytes)
still_filled m from row lawful filled order is = λ b lies later.
    let first : row.address % 16 ≡ 0 = is.aligned in
    let second : b % 16 ≡ 0 = lies.aligned in
    let behind : row.address + 16 ≤ b = omega (arith, later, first, second) in
    ap (is_fill m.fill) (beside m row.address b row.bytes lawful is.size (inr behind)) ∙ filled b lies (omega (arith, later, order))

-- and so are all that were put
pub put_rows : (m : Memory) (from : ℕ) (rows : List Row) → IsMemory m → FilledFrom from m → Ascend m.top m.fill from rows
    → flat_map (row_at (with_rows m rows)) (row_addresses m.top) ≡ flat_map (row_at m) (row_addresses m.top) ++ rows
unfolding with_rows
put_rows m from [] lawful filled ascend = sym (append-nil (flat_map (row_at m) (row_addresses m.top)))
put_rows m from (row ∷ rows) lawful filled ascend =
    let after = with_bytes m row.address row.bytes in
    put_rows after (row.address + 1) rows (lawful_with m row.address row.bytes lawful) (still_filled m from row lawful filled ascend.0 ascend.1) ascend.2
    ∙ ap (λ (front : List Row). front ++ rows) (put_row m from row lawful filled ascend.0 ascend.1)
    ∙ append_assoc (flat_map (row_at m) (row_addresses m.top)) (row ∷ []) rows

-- ---- what stays

pub kept_top : (m : Memory) (rows : List Row) → (with_rows m rows).top ≡ m.top
unfolding with_rows
kept_top m [] = refl
kept_top m (row ∷ rows) = kept_top (with_bytes m row.address row.bytes) rows

pub kept_fill : (m : Memory) (rows : List Row) → (with_rows m rows).fill ≡ m.fill
unfolding with_rows
kept_fill m [] = refl
kept_fill m (row ∷ rows) = kept_fill (with_bytes m row.address row.bytes) rows

pub lawful_rows : (m : Memory) (rows : List Row) → IsMemory m → IsMemory (with_rows m rows)
unfolding with_rows
lawful_rows m [] lawful = lawful
lawful_rows m (row ∷ rows) lawful = lawful_rows (with_bytes m row.address row.bytes) rows (lawful_with m row.address row.bytes lawful)

byte_of : (bytes : List ℕ) (i : ℕ) → AreBytes bytes → slice_index bytes i < 256
byte_of [] i are = omega arith
byte_of (byte ∷ bytes) zero are = are.0
byte_of (byte ∷ bytes) (suc i) are = byte_of bytes i are.1

holds_with : (m : Memory) (a : ℕ) (bytes : List ℕ) → IsMemory m → IsRamRange m.top a (length bytes) → AreBytes bytes → HoldsBytes m
    → HoldsBytes (with_bytes m a bytes)
holds_with m a bytes lawful ram are holds = record {
  fill = holds.fill;
  each = λ b is. elim (cases_lt b a) as (λ _. at (with_bytes m a bytes) b < 256) [
    | inl before ↦ subst (λ v. v < 256) (sym (others_with m a bytes b lawful (inl before))) (holds.each b is)
    | inr from ↦ elim (cases_lt b (a + length bytes)) as (λ _. at (with_bytes m a bytes) b < 256) [
      | inl within ↦
          let place : b ≡ a + (b - a) = omega (arith, from) in
          subst (λ v. v < 256) (sym (ap (at (with_bytes m a bytes)) place ∙ byte_with m a bytes (b - a) lawful ram (omega (arith, from, within))))
          (byte_of bytes (b - a) are)
      | inr behind ↦ subst (λ v. v < 256) (sym (others_with m a bytes b lawful (inr behind))) (holds.each b is)
    ]
  ];
}

pub holds_rows : (m : Memory) (from : ℕ) (rows : List Row) → IsMemory m → Ascend m.top m.fill from rows → HoldsBytes m → HoldsBytes (with_rows m rows)
unfolding with_rows
holds_rows m from [] lawful ascend holds = holds
holds_rows m from (row ∷ rows) lawful ascend holds =
    let is = ascend.1 in
    let lies = row_ram m.top row.address lawful.top is.ram is.aligned in
    holds_rows (with_bytes m row.address row.bytes) (row.address + 1) rows (lawful_with m row.address row.bytes lawful) ascend.2
    (holds_with m row.address row.bytes lawful (subst (IsRamRange m.top row.address) (sym is.size) lies.ram) is.bytes holds)

-- ---- the blank memory

pub blank_lawful : (top fill : ℕ) → IsTop top → IsMemory (blank top fill)
unfolding blank
blank_lawful top fill lawful = record {
  top = lawful;
  parts = (length-replicate 0xA0000 fill, (length-replicate 0x20000 fill, (length-replicate (top - high_start top) fill, tt)));
}

cases_in : (range : AddressRange) (a : ℕ) → IsIn range a ⊎ IsBeside range a
cases_in range a = elim (cases_lt a range.start) as (λ _. IsIn range a ⊎ IsBeside range a) [
  | inl before ↦ inr (inl before)
  | inr from ↦ elim (cases_lt a range.end) as (λ _. IsIn range a ⊎ IsBeside range a) [
    | inl below ↦ inl (from, below)
    | inr past_end ↦ inr (inr past_end)
  ]
]

not_both : (range : AddressRange) (a : ℕ) → IsIn range a → IsBeside range a → ⊥
not_both range a inside out = elim out as (λ _. ⊥) [
  | inl before ↦ omega (arith, inside.0, before)
  | inr behind ↦ omega (arith, inside.1, behind)
]

parts_filled : (fill : ℕ) (ranges : List AddressRange) (a : ℕ) → IsInOne ranges a
    → byte_in ranges (map (λ (range : AddressRange). replicate (range.end - range.start) fill) ranges) a ≡ fill
parts_filled fill [] a is = absurd is
parts_filled fill (range ∷ ranges) a is =
    let all : AddressRange → List ℕ = λ r. replicate (r.end - r.start) fill in
    elim (cases_in range a) as (λ _. byte_in (range ∷ ranges) (all range ∷ map all ranges) a ≡ fill) [
      | inl inside ↦ byte_here range ranges (all range) (map all ranges) a inside
          ∙ get_or-replicate (range.end - range.start) (a - range.start) fill 0 (omega (arith, inside.0, inside.1))
      | inr out ↦ byte_later range ranges (all range) (map all ranges) a out
          ∙ parts_filled fill ranges a (elim is as (λ _. IsInOne ranges a) [
            | inl inside ↦ absurd (not_both range a inside out)
            | inr later ↦ later
          ])
    ]

pub blank_byte : (top fill a : ℕ) → IsRam top a → at (blank top fill) a ≡ fill
unfolding blank
blank_byte top fill a ram = parts_filled fill (ram_ranges top) a ram

all_fill : (m : Memory) (a n : ℕ) → ((i : ℕ) → i < n → at m (a + i) ≡ m.fill) → is_fill m.fill (bytes_at m a n) ≡ true
unfolding bytes_at
all_fill m a zero holds = refl
all_fill m a (suc n) holds =
    let place : a + 0 ≡ a = omega arith in
    let here : at m a ≡ m.fill = subst (λ b. at m b ≡ m.fill) place (holds 0 (omega arith)) in
    let rest = all_fill m (a + 1) n (λ i below.
    let next : a + suc i ≡ a + 1 + i = omega arith in
    subst (λ b. at m b ≡ m.fill) next (holds (suc i) (omega (arith, below)))) in
    and_from _ _ (eq-eqb _ _ here) rest

blank_fill : (top fill : ℕ) → (blank top fill).fill ≡ fill
unfolding blank
blank_fill top fill = refl

pub blank_filled : (top fill : ℕ) → FilledFrom 0 (blank top fill)
unfolding blank
blank_filled top fill = λ b lies _. all_fill (blank top fill) b 16 (λ i within. blank_byte top fill (b + i) (lies.ram i within))

pub blank_holds : (top fill : ℕ) → fill < 256 → HoldsBytes (blank top fill)
unfolding blank
blank_holds top fill small = record { fill = small; each = λ a ram. subst (λ v. v < 256) (sym (blank_byte top fill a ram)) small }

-- a memory whose bytes are all the fill byte is it
pub is_blank : (m : Memory) (top fill : ℕ) → IsMemory m → m.top ≡ top → m.fill ≡ fill → ((a : ℕ) → IsRam top a → at m a ≡ fill) → m ≡ blank top fill
unfolding blank
is_blank m top fill lawful same_top same_fill all =
    same_memory m (blank top fill) lawful (blank_lawful top fill (subst IsTop same_top lawful.top)) (record {
      top = sym same_top;
      fill = sym same_fill;
      bytes = λ a ram.
          let there : IsRam top a = subst (λ t. IsRam t a) same_top ram in
          blank_byte top fill a there ∙ sym (all a there);
    })

blank_top : (top fill : ℕ) → (blank top fill).top ≡ top
unfolding blank
blank_top top fill = refl

blank_ascends : (d : Rows) → AreRows d → Ascend (blank d.top d.fill).top (blank d.top d.fill).fill 0 d.rows
unfolding blank
blank_ascends d are = are.ascend

-- ---- all of it: the rows of the memory that rows make are these rows

pub rows_again : (d : Rows) → AreRows d → rows_of (memory_of d) ≡ d
unfolding rows_of
rows_again d are =
    let m = blank d.top d.fill in
    let after = with_rows m d.rows in
    let top : after.top ≡ d.top = kept_top m d.rows ∙ blank_top d.top d.fill in
    let fill : after.fill ≡ d.fill = kept_fill m d.rows ∙ blank_fill d.top d.fill in
    let none : flat_map (row_at m) (row_addresses m.top) ≡ [] =
    none_from m.top 0 m.top (row_at m) (row_addresses m.top) (row_steps m.top (blank_lawful d.top d.fill are.top).top)
    (row_each m.top (blank_lawful d.top d.fill are.top).top)
    (λ b lies later. row_if_fill (is_fill m.fill (bytes_at m b 16)) (record { address = b; bytes = bytes_at m b 16 })
    (blank_filled d.top d.fill b lies later)) in
    let rows : flat_map (row_at after) (row_addresses after.top) ≡ d.rows =
    ap (λ (t : ℕ). flat_map (row_at after) (row_addresses t)) (kept_top m d.rows)
    ∙ put_rows m 0 d.rows (blank_lawful d.top d.fill are.top) (blank_filled d.top d.fill) (blank_ascends d are)
    ∙ ap (λ (front : List Row). front ++ d.rows) none in
    ap (λ (t : ℕ). record { top = t; fill = after.fill; rows = flat_map (row_at after) (row_addresses after.top) }) top
    ∙ ap (λ (f : ℕ). record { top = d.top; fill = f; rows = flat_map (row_at after) (row_addresses after.top) }) fill
    ∙ ap (λ (r : List Row). record { top = d.top; fill = d.fill; rows = r }) rows
