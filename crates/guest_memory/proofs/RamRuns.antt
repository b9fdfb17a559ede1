-- Runs of bytes that are RAM.
use Rattle.std.proofs.Common.{◌≡◌, ℕ, zero, suc, ◌+◌, ◌-◌, ◌<◌, Bool, true, false, inl, inr, arith, refl, sym, subst, add-zero}
use Rattle.std.proofs.lemmas.Bool.{cases_lt, and_from, and_parts}
use Rattle.vt_bytes.specs.Memory.{IsTop, IsRam, IsRamRange}
use Rattle.vt_bytes.proofs.Seen.{ram_tested, ram_from_test}
use Rattle.guest_memory.specs.RamRange.{is_ram_range, LieInARange}

-- bytes that are RAM lie in one range, since they don't reach over a gap
pub in_a_range : (top address count : ℕ) → IsTop top → 0 < count → IsRamRange top address count → LieInARange top address count
in_a_range top address count lawful some ram =
    let first : IsRam top (address + 0) = ram 0 some in
    elim (cases_lt address 0xA0000) as (λ _. LieInARange top address count) [
      | inl low ↦ elim (cases_lt 0xA0000 (address + count)) as (λ _. LieInARange top address count) [
        | inl over ↦ let gap : IsRam top (address + (0xA0000 - address)) = ram (0xA0000 - address) (omega arith) in absurd (grind arith)
        | inr within ↦ inl (omega arith, within)
      ]
      | inr past ↦ elim (cases_lt address 0x100000) as (λ _. LieInARange top address count) [
        | inl bios ↦ elim (cases_lt 0x100000 (address + count)) as (λ _. LieInARange top address count) [
          | inl over ↦ let gap : IsRam top (address + (0x100000 - address)) = ram (0x100000 - address) (omega arith) in absurd (grind arith)
          | inr within ↦ inr (inl (grind arith, within))
        ]
        | inr high ↦
            let last : IsRam top (address + (count - 1)) = ram (count - 1) (omega arith) in
            inr (inr (grind arith, grind arith))
      ]
    ]

-- and bytes that lie in one are RAM
pub ram_from : (top address count : ℕ) → LieInARange top address count → IsRamRange top address count
ram_from top address count lie i within = elim lie as (λ _. IsRam top (address + i)) [
  | inl low ↦ inl (omega arith, omega arith)
  | inr later ↦ elim later as (λ _. IsRam top (address + i)) [
    | inl bios ↦ inr (inl (omega arith, omega arith))
    | inr high ↦ inr (inr (inl (omega arith, omega arith)))
  ]
]

-- the test of so many bytes
pub ram_range_from : (top address count : ℕ) → is_ram_range top address count ≡ true → IsRamRange top address count
unfolding is_ram_range
ram_range_from top address zero passes i within = absurd (omega arith)
ram_range_from top address (suc count) passes zero within =
    subst (IsRam top) (sym (add-zero address)) (ram_from_test top address (and_parts _ _ passes).0)
ram_range_from top address (suc count) passes (suc i) within =
    let next : address + 1 + i ≡ address + suc i = omega arith in
    subst (IsRam top) next (ram_range_from top (address + 1) count (and_parts _ _ passes).1 i (omega arith))

pub ram_range_passes : (top address count : ℕ) → IsRamRange top address count → is_ram_range top address count ≡ true
unfolding is_ram_range
ram_range_passes top address zero ram = refl
ram_range_passes top address (suc count) ram =
    and_from _ _ (ram_tested top address (subst (IsRam top) (add-zero address) (ram 0 (omega arith))))
    (ram_range_passes top (address + 1) count (λ i within.
    let next : address + suc i ≡ address + 1 + i = omega arith in
    subst (IsRam top) next (ram (suc i) (omega arith))))

-- one test is another where both hold of the same
same_test : (P : Type 0) (b c : Bool) → (b ≡ true → P) → (P → b ≡ true) → (c ≡ true → P) → (P → c ≡ true) → b ≡ c
same_test P true c from to other_from other_to = sym (other_to (from refl))
same_test P false true from to other_from other_to = to (other_from refl)
same_test P false false from to other_from other_to = refl

pub ram_range_is : (top address count : ℕ) (b : Bool) → (b ≡ true → IsRamRange top address count) → (IsRamRange top address count → b ≡ true)
    → b ≡ is_ram_range top address count
ram_range_is top address count b from to =
    same_test (IsRamRange top address count) b (is_ram_range top address count) from to (ram_range_from top address count) (ram_range_passes top address count)

-- no bytes are RAM
pub ram_range_none : (top address count : ℕ) → count ≡ 0 → is_ram_range top address count ≡ true
ram_range_none top address count none = ram_range_passes top address count (λ i within. absurd (omega arith))
