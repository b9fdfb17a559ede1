-- The addresses of rows: they ascend in steps of 16, each is that of 16 bytes of RAM, and each multiple of 16 that is RAM is one of them.
use Rattle.std.proofs.Common.{◌≡◌, ℕ, zero, suc, ◌+◌, ◌-◌, ◌*◌, ◌/◌, ◌%◌, ◌<◌, ◌≤◌, ◌⊎◌, inl, inr, List, [], ◌∷◌, ◌++◌, map, refl, sym, subst, arith}
use Rattle.std.specs.List.{AllByRecursion, range_with_len}
use Rattle.vt_bytes.specs.declared.memory.AddressRange.{AddressRange}
use Rattle.vt_bytes.specs.Memory.{IsTop, IsRam, IsRamRange, high_start}
use Rattle.vt_bytes.proofs.Each.{each_append}
use Rattle.memory_dump.specs.Rows.{addresses_in, row_addresses}

-- each address is at least 16 past the one before, from one on to another
abbrev pub Steps : ℕ → ℕ → List ℕ → Type 0
Steps from to [] = from ≤ to
Steps from to (a ∷ xs) = (from ≤ a) × Steps (a + 16) to xs

-- an address is one of a list
abbrev pub In : ℕ → List ℕ → Type 0
In a [] = ⊥
In a (b ∷ ys) = (a ≡ b) ⊎ In a ys

-- the address of 16 bytes of RAM
pub record IsRowAddress (top a : ℕ) : Type 0 where
  pub aligned : a % 16 ≡ 0
  pub ram : IsRamRange top a 16

steps_sooner : (from later to : ℕ) (xs : List ℕ) → from ≤ later → Steps later to xs → Steps from to xs
steps_sooner from later to [] before steps = omega (arith, before, steps)
steps_sooner from later to (a ∷ xs) before steps = (omega (arith, before, steps.0), steps.1)

steps_append : (from midst to : ℕ) (xs ys : List ℕ) → Steps from midst xs → Steps midst to ys → Steps from to (xs ++ ys)
steps_append from midst to [] ys first second = steps_sooner from midst to ys first second
steps_append from midst to (a ∷ xs) ys first second = (first.0, steps_append (a + 16) midst to xs ys first.1 second)

in_front : (a : ℕ) (xs ys : List ℕ) → In a xs → In a (xs ++ ys)
in_front a [] ys is = absurd is
in_front a (b ∷ xs) ys is = elim is as (λ _. In a (b ∷ (xs ++ ys))) [
  | inl here ↦ inl here
  | inr later ↦ inr (in_front a xs ys later)
]

in_back : (a : ℕ) (xs ys : List ℕ) → In a ys → In a (xs ++ ys)
in_back a [] ys is = is
in_back a (b ∷ xs) ys is = inr (in_back a xs ys is)

-- so many addresses, 16 apart
abbrev spaced : ℕ → ℕ → ℕ → List ℕ
spaced start j n = map (λ k. start + 16 * k) (range_with_len j n)

spaced_steps : (start j n from to : ℕ) → from ≤ start + 16 * j → start + 16 * (j + n) ≤ to → Steps from to (spaced start j n)
spaced_steps start j zero from to first last = omega (arith, first, last)
spaced_steps start j (suc n) from to first last =
    (first, spaced_steps start (j + 1) n (start + 16 * j + 16) to (omega arith) (omega (arith, last)))

spaced_each : (P : ℕ → Type 0) (start j n : ℕ) → ((i : ℕ) → i < n → P (start + 16 * (j + i))) → AllByRecursion P (spaced start j n)
spaced_each P start j zero each = tt
spaced_each P start j (suc n) each =
    let here : start + 16 * (j + 0) ≡ start + 16 * j = omega arith in (
      subst P here (each 0 (omega arith)),
      spaced_each P start (j + 1) n (λ i below.
          let place : start + 16 * (j + suc i) ≡ start + 16 * (j + 1 + i) = omega arith in
          subst P place (each (suc i) (omega arith))),
    )

spaced_in : (start j n i a : ℕ) → i < n → a ≡ start + 16 * (j + i) → In a (spaced start j n)
spaced_in start j zero i a below is = absurd (omega (arith, below))
spaced_in start j (suc n) zero a below is = inl (omega (arith, is))
spaced_in start j (suc n) (suc i) a below is = inr (spaced_in start (j + 1) n i a (omega (arith, below)) (omega (arith, is)))

-- those of a range
steps_in : (range : AddressRange) (from to : ℕ) → from ≤ range.start → range.start + 16 * ((range.end - range.start) / 16) ≤ to
    → Steps from to (addresses_in range)
unfolding addresses_in
steps_in range from to first last = spaced_steps range.start 0 ((range.end - range.start) / 16) from to (omega (arith, first)) (omega (arith, last))

each_in : (P : ℕ → Type 0) (range : AddressRange) → ((i : ℕ) → i < (range.end - range.start) / 16 → P (range.start + 16 * i))
    → AllByRecursion P (addresses_in range)
unfolding addresses_in
each_in P range each =
    spaced_each P range.start 0 ((range.end - range.start) / 16) (λ i below.
    let place : range.start + 16 * i ≡ range.start + 16 * (0 + i) = omega arith in
    subst P place (each i below))

in_range : (range : AddressRange) (i a : ℕ) → i < (range.end - range.start) / 16 → a ≡ range.start + 16 * i → In a (addresses_in range)
unfolding addresses_in
in_range range i a below is = spaced_in range.start 0 ((range.end - range.start) / 16) i a below (omega (arith, is))

-- the three ranges
abbrev low_range : AddressRange
low_range = record { start = 0; end = 0xA0000 }

abbrev bios_range : AddressRange
bios_range = record { start = 0xE0000; end = 0x100000 }

abbrev high_range : ℕ → AddressRange
high_range top = record { start = high_start top; end = top }

abbrev all_addresses : ℕ → List ℕ
all_addresses top = addresses_in low_range ++ (addresses_in bios_range ++ (addresses_in (high_range top) ++ []))

rows_are : (top : ℕ) → row_addresses top ≡ all_addresses top
unfolding row_addresses
rows_are top = refl

pub row_steps : (top : ℕ) → IsTop top → Steps 0 top (row_addresses top)
row_steps top lawful =
    let least : 0x4000000 ≤ top = lawful.at_least in
    subst (Steps 0 top) (sym (rows_are top))
    (steps_append 0 0xA0000 top (addresses_in low_range) (addresses_in bios_range ++ (addresses_in (high_range top) ++ []))
    (steps_in low_range 0 0xA0000 (omega arith) (omega arith))
    (steps_append 0xA0000 0x100000 top (addresses_in bios_range) (addresses_in (high_range top) ++ [])
    (steps_in bios_range 0xA0000 0x100000 (omega arith) (omega arith))
    (steps_append 0x100000 top top (addresses_in (high_range top)) []
    (steps_in (high_range top) 0x100000 top (omega (arith, least)) (omega (arith, least)))
    (omega arith))))

low_row : (top i : ℕ) → i < 0xA000 → IsRowAddress top (0 + 16 * i)
low_row top i below = record { aligned = omega arith; ram = λ j within. inl (omega (arith, below, within), omega (arith, below, within)) }

bios_row : (top i : ℕ) → i < 0x2000 → IsRowAddress top (0xE0000 + 16 * i)
bios_row top i below = record { aligned = omega arith; ram = λ j within. inr (inl (omega (arith, below, within), omega (arith, below, within))) }

high_row : (top i : ℕ) → IsTop top → i < (top - high_start top) / 16 → IsRowAddress top (high_start top + 16 * i)
high_row top i lawful below =
    let least : 0x4000000 ≤ top = lawful.at_least in
    let whole : top % 0x100000 ≡ 0 = lawful.whole in
    record {
      aligned = omega (arith, least, whole);
      ram = λ j within. inr (inr (inl (omega (arith, below, within, least), omega (arith, below, within, least))));
    }

pub row_each : (top : ℕ) → IsTop top → AllByRecursion (IsRowAddress top) (row_addresses top)
row_each top lawful =
    subst (AllByRecursion (IsRowAddress top)) (sym (rows_are top))
    (each_append (IsRowAddress top) (addresses_in low_range) (addresses_in bios_range ++ (addresses_in (high_range top) ++ []))
    (each_in (IsRowAddress top) low_range (λ i below. low_row top i (omega (arith, below))))
    (each_append (IsRowAddress top) (addresses_in bios_range) (addresses_in (high_range top) ++ [])
    (each_in (IsRowAddress top) bios_range (λ i below. bios_row top i (omega (arith, below))))
    (each_append (IsRowAddress top) (addresses_in (high_range top)) []
    (each_in (IsRowAddress top) (high_range top) (λ i below. high_row top i lawful below))
    tt)))

-- a multiple of 16 that is RAM is one of them
pub row_in : (top a : ℕ) → IsTop top → IsRam top a → a % 16 ≡ 0 → In a (row_addresses top)
row_in top a lawful ram aligned =
    let least : 0x4000000 ≤ top = lawful.at_least in
    let whole : top % 0x100000 ≡ 0 = lawful.whole in
    let bios : List ℕ = addresses_in bios_range ++ (addresses_in (high_range top) ++ []) in
    subst (In a) (sym (rows_are top)) (elim ram as (λ _. In a (all_addresses top)) [
      | inl low ↦ in_front a (addresses_in low_range) bios (in_range low_range (a / 16) a (omega (arith, low.1)) (omega (arith, aligned)))
      | inr later ↦ in_back a (addresses_in low_range) bios (elim later as (λ _. In a bios) [
        | inl here ↦ in_front a (addresses_in bios_range) (addresses_in (high_range top) ++ [])
            (in_range bios_range ((a - 0xE0000) / 16) a (omega (arith, here.0, here.1)) (omega (arith, here.0, aligned)))
        | inr last ↦ in_back a (addresses_in bios_range) (addresses_in (high_range top) ++ [])
            (elim last as (λ _. In a (addresses_in (high_range top) ++ [])) [
              | inl high ↦ in_front a (addresses_in (high_range top)) []
                  (in_range (high_range top) ((a - high_start top) / 16) a (omega (arith, high.0, high.1, least, whole, aligned))
                  (omega (arith, high.0, high.1, least, whole, aligned)))
              | inr none ↦ absurd none
            ])
      ])
    ])

-- what holds at each of them holds at one
pub each_of : (P : ℕ → Type 0) (a : ℕ) (xs : List ℕ) → In a xs → AllByRecursion P xs → P a
each_of P a [] is each = absurd is
each_of P a (b ∷ xs) is each = elim is as (λ _. P a) [
  | inl here ↦ subst P (sym here) each.0
  | inr later ↦ each_of P a xs later each.1
]

-- so an address of RAM at a multiple of 16 is that of 16 bytes of RAM
pub row_ram : (top a : ℕ) → IsTop top → IsRam top a → a % 16 ≡ 0 → IsRowAddress top a
row_ram top a lawful ram aligned = each_of (IsRowAddress top) a (row_addresses top) (row_in top a lawful ram aligned) (row_each top lawful)
