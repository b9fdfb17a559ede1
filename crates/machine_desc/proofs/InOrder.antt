-- The rules of ranges, one range after the other.
use Rattle.std.proofs.Common.{◌≡◌, ℕ, ◌<◌, ◌≤◌, false, not, List, ◌∷◌, length, get_or, drop, map, Option, Some, None, refl, sym, ◌∙◌}
use Rattle.std.proofs.lemmas.Iterator.Adapters.{position_from-zero}
use Rattle.std.proofs.lemmas.List.{at_drop_more, at_drop_all}
use Rattle.std.specs.List.{zip, position_from}
use Rattle.machine_desc.specs.declared.smbios_parts.MemRange.{MemRange}
use Rattle.machine_desc.specs.Rules.{first_failing, is_lawful_range, with_ends, end_of}

-- the place of the first unlawful range, where the places count from a number, and the range before ends there
abbrev pub first_unlawful : ℕ → ℕ → List MemRange → Option ℕ
first_unlawful n end ranges = position_from (λ r. not (is_lawful_range r)) n (zip (end ∷ map end_of ranges) ranges)

pub first_unlawful_is : (ranges : List MemRange) → first_unlawful 0 0 ranges ≡ first_failing is_lawful_range (with_ends ranges)
first_unlawful_is ranges = sym (position_from-zero (λ r. not (is_lawful_range r)) (with_ends ranges))

-- a range that isn't lawful is the first one of those that are left
pub unlawful_here : (ranges : List MemRange) (i end : ℕ) (d : MemRange) → i < length ranges → is_lawful_range (end, get_or ranges i d) ≡ false
    → first_unlawful i end (drop i ranges) ≡ Some i
unlawful_here ranges i end d within unlawful = at_drop_more (first_unlawful i end) ranges i d within ∙ rw unlawful refl

-- no range is left
pub lawful_to_end : (ranges : List MemRange) (i end : ℕ) → length ranges ≤ i → first_unlawful i end (drop i ranges) ≡ None
lawful_to_end ranges i end past = at_drop_all (first_unlawful i end) ranges i past
