-- Ranges that are joined hold each address below the top, and no other.
use Rattle.std.proofs.Common.{◌≡◌, ◌↔◌, ◌⊎◌, ℕ, suc, zero, ◌-◌, ◌^◌, ◌<◌, ◌≤◌, Bool, true, false, ◌&&◌, ◌==◌, List, [], ◌∷◌, length, get_or, map}
use Rattle.std.proofs.Common.{filter, cond, nat_le, inl, inr, ⊎_elim, refl, sym, ap, ◌∙◌, subst, arith}
use Rattle.std.proofs.lemmas.Bool.{and_parts, and_from, leb-true, ltb-true, lt-ltb, eqb-true, eq-eqb, cases_lt}
use Rattle.std.specs.List.{list_all, zip}
use Rattle.machine_desc.specs.declared.smbios_parts.MemRange.{MemRange}
use Rattle.machine_desc.specs.Rules.{is_lawful_range, with_ends, end_of, is_low, are_joined, is_memory}
use Rattle.machine_desc.specs.Memory.{AreInOrder, Holds, IsLowMemory}
use Rattle.machine_desc.proofs.Passing.{all_pass}

-- none is empty, and each begins at or behind the end of the one before, the first one behind a number
abbrev AreFrom : ℕ → List MemRange → Type 0
AreFrom from [] = Unit {0}
AreFrom from (r ∷ ranges) = (1 ≤ r.size_mib) × (from ≤ r.base_mib) × AreFrom (end_of r) ranges

lawful_from : (from : ℕ) (ranges : List MemRange) → list_all is_lawful_range (zip (from ∷ map end_of ranges) ranges) ≡ true → AreFrom from ranges
lawful_from from [] all = tt
lawful_from from (r ∷ ranges) all =
    let each = and_parts (is_lawful_range (from, r)) (list_all is_lawful_range (zip (end_of r ∷ map end_of ranges) ranges)) all in
    let tests = and_parts (nat_le 1 r.size_mib && nat_le (end_of r) (2 ^ 32)) (nat_le from r.base_mib) each.0 in
    let first = and_parts (nat_le 1 r.size_mib) (nat_le (end_of r) (2 ^ 32)) tests.0 in
    (leb-true 1 r.size_mib first.0, leb-true from r.base_mib tests.1, lawful_from (end_of r) ranges each.1)

-- those that begin below 4 GiB

from_earlier : (earlier from : ℕ) (ranges : List MemRange) → earlier ≤ from → AreFrom from ranges → AreFrom earlier ranges
from_earlier earlier from [] before are = tt
from_earlier earlier from (r ∷ ranges) before are = (are.0, omega (arith, are.1), are.2)

kept_from : (low : Bool) (from : ℕ) (r : MemRange) (ranges : List MemRange) → 1 ≤ r.size_mib → from ≤ r.base_mib → AreFrom (end_of r) ranges
    → AreFrom from (cond low (r ∷ ranges) ranges)
kept_from true from r ranges some behind are = (some, behind, are)
kept_from false from r ranges some behind are = from_earlier from (end_of r) ranges (omega arith) are

low_from : (from : ℕ) (ranges : List MemRange) → AreFrom from ranges → AreFrom from (filter is_low ranges)
low_from from [] are = tt
low_from from (r ∷ ranges) are = kept_from (is_low r) from r (filter is_low ranges) are.0 are.1 (low_from (end_of r) ranges are.2)

-- an address lies in one of the ranges
abbrev SomeHolds : List MemRange → ℕ → Type 0
SomeHolds [] address = ⊥
SomeHolds (r ∷ ranges) address = Holds r address ⊎ SomeHolds ranges address

-- an address that lies in a range lies at or behind where the ranges begin
held_behind : (from : ℕ) (ranges : List MemRange) (address : ℕ) → AreFrom from ranges → SomeHolds ranges address → from ≤ address
held_behind from [] address are held = absurd held
held_behind from (r ∷ ranges) address are held =
    ⊎_elim (λ here. omega (arith, here.0, are.1)) (λ other. omega (arith, held_behind (end_of r) ranges address are.2 other, are.0, are.1)) held

-- joined ranges hold what lies between

pub joined_up : (from to : ℕ) (ranges : List MemRange) → are_joined from to ranges ≡ true → from ≤ to
joined_up from to [] joined = omega (arith, eqb-true from to joined)
joined_up from to (r ∷ ranges) joined =
    let (begins, others) = and_parts (r.base_mib == from) (are_joined (end_of r) to ranges) joined in
    omega (arith, eqb-true r.base_mib from begins, joined_up (end_of r) to ranges others)

joined_holds : (from to : ℕ) (ranges : List MemRange) (address : ℕ) → are_joined from to ranges ≡ true → from ≤ address → address < to
    → SomeHolds ranges address
joined_holds from to [] address joined behind below = absurd (omega (arith, eqb-true from to joined))
joined_holds from to (r ∷ ranges) address joined behind below =
    let (begins, others) = and_parts (r.base_mib == from) (are_joined (end_of r) to ranges) joined in
    ⊎_elim (λ here. inl (omega (arith, eqb-true r.base_mib from begins), here))
    (λ past. inr (joined_holds (end_of r) to ranges address others past below)) (cases_lt address (end_of r))

joined_within : (from to : ℕ) (ranges : List MemRange) (address : ℕ) → are_joined from to ranges ≡ true → SomeHolds ranges address → address < to
joined_within from to [] address joined held = absurd held
joined_within from to (r ∷ ranges) address joined held =
    let (begins, others) = and_parts (r.base_mib == from) (are_joined (end_of r) to ranges) joined in
    ⊎_elim (λ here. omega (arith, here.1, joined_up (end_of r) to ranges others)) (λ other. joined_within (end_of r) to ranges address others other) held

-- ranges in order that hold what lies between are joined

not_here : (r : MemRange) (ranges : List MemRange) (address : ℕ) → end_of r ≤ address → SomeHolds (r ∷ ranges) address → SomeHolds ranges address
not_here r ranges address past held = ⊎_elim (λ here. absurd (omega (arith, here.1))) (λ other. other) held

held_joined : (from to : ℕ) (ranges : List MemRange) → AreFrom from ranges → from ≤ to
    → ((address : ℕ) → from ≤ address → address < to → SomeHolds ranges address) → ((address : ℕ) → SomeHolds ranges address → address < to)
    → are_joined from to ranges ≡ true
held_joined from to [] are up each only =
    ⊎_elim (λ below. absurd (each from (omega arith) below)) (λ past. eq-eqb from to (omega arith)) (cases_lt from to)
held_joined from to (r ∷ ranges) are up each only =
    let base_below : r.base_mib < to = only r.base_mib (inl (omega arith, omega (arith, are.0))) in
    let from_held : SomeHolds (r ∷ ranges) from = each from (omega arith) (omega (arith, are.1)) in
    let same : r.base_mib ≡ from =
    omega (arith, are.1, held_behind r.base_mib (r ∷ ranges) from (are.0, omega arith, are.2) from_held) in
    let last_below : end_of r - 1 < to = only (end_of r - 1) (inl (omega (arith, are.0), omega (arith, are.0))) in
    and_from (r.base_mib == from) (are_joined (end_of r) to ranges) (eq-eqb r.base_mib from same)
    (held_joined (end_of r) to ranges are.2 (omega (arith, are.0))
    (λ address behind below. not_here r ranges address behind (each address (omega (arith, same)) below))
    (λ address held. only address (inr held)))

-- the addresses of ranges that begin below 4 GiB

low_here : (low : Bool) (r : MemRange) (ranges : List MemRange) (address : ℕ) → low ≡ true → Holds r address
    → SomeHolds (cond low (r ∷ ranges) ranges) address
low_here true r ranges address is holds = inl holds
low_here false r ranges address is holds = absurd (cc)

low_there : (low : Bool) (r : MemRange) (ranges : List MemRange) (address : ℕ) → SomeHolds ranges address → SomeHolds (cond low (r ∷ ranges) ranges) address
low_there true r ranges address held = inr held
low_there false r ranges address held = held

low_held : (ranges : List MemRange) (address place : ℕ) (r : MemRange) → place < length ranges → get_or ranges place r ≡ r → r.base_mib < 4096
    → Holds r address → SomeHolds (filter is_low ranges) address
low_held [] address place r within is low holds = absurd (omega arith)
low_held (first ∷ ranges) address zero r within is low holds =
    low_here (is_low first) first (filter is_low ranges) address (ap is_low is ∙ lt-ltb r.base_mib 4096 low) (subst (λ x. Holds x address) (sym is) holds)
low_held (first ∷ ranges) address (suc place) r within is low holds =
    low_there (is_low first) first (filter is_low ranges) address (low_held ranges address place r (omega arith) is low holds)

in_others : (first : MemRange) (ranges : List MemRange) (address : ℕ) → IsLowMemory ranges address → IsLowMemory (first ∷ ranges) address
in_others first ranges address (place, r, within, is, holds) = (suc place, r, omega arith, is, holds)

low_or_later : (low : Bool) (r : MemRange) (kept ranges : List MemRange) (address : ℕ) → is_low r ≡ low → (SomeHolds kept address → IsLowMemory ranges address)
    → SomeHolds (cond low (r ∷ kept) kept) address → IsLowMemory (r ∷ ranges) address
low_or_later true r kept ranges address is later held =
    ⊎_elim (λ here. (0, r, omega arith, refl, (ltb-true r.base_mib 4096 is, here))) (λ other. in_others r ranges address (later other)) held
low_or_later false r kept ranges address is later held = in_others r ranges address (later held)

held_low : (ranges : List MemRange) (address : ℕ) → SomeHolds (filter is_low ranges) address → IsLowMemory ranges address
held_low [] address held = absurd held
held_low (r ∷ ranges) address held = low_or_later (is_low r) r (filter is_low ranges) ranges address refl (held_low ranges address) held

is_held : (ranges : List MemRange) (address : ℕ) → IsLowMemory ranges address → SomeHolds (filter is_low ranges) address
is_held ranges address (place, r, within, is, holds) = low_held ranges address place r within is holds.0 holds.1

pub memory_below : (top : ℕ) (ranges : List MemRange) → is_memory top ranges ≡ true → (address : ℕ) → IsLowMemory ranges address ↔ (address < top)
memory_below top ranges memory address =
    let low = filter is_low ranges in (
      λ is. joined_within 0 top low address memory (is_held ranges address is),
      λ below. held_low ranges address (joined_holds 0 top low address memory (omega arith) below),
    )

pub below_memory : (top : ℕ) (ranges : List MemRange) → AreInOrder ranges → ((address : ℕ) → IsLowMemory ranges address ↔ (address < top))
    → is_memory top ranges ≡ true
below_memory top ranges ordered addresses =
    let low = filter is_low ranges in
    let are = low_from 0 ranges (lawful_from 0 ranges (all_pass is_lawful_range (with_ends ranges) ordered)) in
    held_joined 0 top low are (omega arith) (λ address _ below. is_held ranges address ((addresses address).1 below))
    (λ address held. (addresses address).0 (held_low ranges address held))
