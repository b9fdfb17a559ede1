-- No two structures of an accepted machine have the same handle.
use Rattle.std.proofs.Common.{◌≡◌, ℕ, zero, suc, ◌+◌, ◌≤◌, Bool, true, ◌&&◌, nat_le, List, [], ◌∷◌, ◌++◌, length, Some, arith, refl, ap}
use Rattle.std.specs.List.{slice_get, flat_map, AllByRecursion}
use Rattle.std.proofs.lemmas.Bool.{and_parts, leb-true}
use Rattle.vt_bytes.proofs.Each.{each_push, each_weaker}
use Rattle.machine_desc.specs.declared.machine.Machine.{Machine}
use Rattle.machine_desc.specs.Rules.{IsAccepted}
use Rattle.smbios_model.specs.declared.smbios.Body.{Body}
use Rattle.smbios_model.specs.declared.smbios.Structure.{Structure}
use Rattle.smbios_model.specs.MachineStructures.{Part, with_handles, structures_in, told_parts, end_part, parts_of, structures_of}
use Rattle.smbios_model.proofs.LawfulParts.{IsLawfulPart, lawful_parts}

-- handles that ascend, from one on
abbrev AreAscending : ℕ → List Structure → Type 0
AreAscending from [] = Unit {0}
AreAscending from (s ∷ structures) = (from ≤ s.handle) × AreAscending (s.handle + 1) structures

-- from a lower one on
ascending_from : (from lower : ℕ) (structures : List Structure) → lower ≤ from → AreAscending from structures → AreAscending lower structures
ascending_from from lower [] low ascend = tt
ascending_from from lower (s ∷ structures) low ascend = (omega (arith, ascend.0), ascend.1)

-- none is below the first
none_below : (from k : ℕ) (structures : List Structure) (t : Structure) → AreAscending from structures → slice_get structures k ≡ Some t → from ≤ t.handle
none_below from k [] t ascend is = absurd (cc)
none_below from zero (s ∷ structures) t ascend is =
    let same : s ≡ t = cc in
    omega (arith, ascend.0, ap (λ (x : Structure). x.handle) same)
none_below from (suc k) (s ∷ structures) t ascend is = omega (arith, ascend.0, none_below (s.handle + 1) k structures t ascend.1 is)

-- one handle stands at one place
one_place : (from i j : ℕ) (structures : List Structure) (s t : Structure) → AreAscending from structures → slice_get structures i ≡ Some s
    → slice_get structures j ≡ Some t → s.handle ≡ t.handle → i ≡ j
one_place from i j [] s t ascend is also same = absurd (cc)
one_place from zero zero (first ∷ structures) s t ascend is also same = refl
one_place from zero (suc j) (first ∷ structures) s t ascend is also same =
    let here : first ≡ s = cc in
    absurd (omega (arith, none_below (first.handle + 1) j structures t ascend.1 also, ap (λ (x : Structure). x.handle) here))
one_place from (suc i) zero (first ∷ structures) s t ascend is also same =
    let here : first ≡ t = cc in
    absurd (omega (arith, none_below (first.handle + 1) i structures s ascend.1 is, ap (λ (x : Structure). x.handle) here))
one_place from (suc i) (suc j) (first ∷ structures) s t ascend is also same =
    ap suc (one_place (first.handle + 1) i j structures s t ascend.1 is also same)

-- those of a part ascend, and so do those behind it
part_before : (from first : ℕ) (bodies : List Body) (more : List Structure) → from ≤ first → AreAscending (first + length bodies) more
    → AreAscending from (with_handles first bodies ++ more)
part_before from first [] more low ascend = ascending_from (first + 0) from more (omega arith) ascend
part_before from first (body ∷ bodies) more low ascend = (
  low,
  part_before (first + 1) (first + 1) bodies more (omega arith)
      (ascending_from (first + suc (length bodies)) (first + 1 + length bodies) more (omega arith) ascend),
)

-- The test of parts that are apart: each begins behind the one before it, where that has as many structures as it may have, and the last one
-- ends within 16 bits.
abbrev pub are_apart : ℕ → List Part → Bool
are_apart from [] = nat_le from 65536
are_apart from (part ∷ parts) = nat_le from part.first && are_apart (part.first + part.most) parts

abbrev pub AreFew : List Part → Type 0
AreFew parts = AllByRecursion (λ (part : Part). length part.bodies ≤ part.most) parts

pub are_few : (m : Machine) → IsAccepted m → AreFew (parts_of m)
are_few m accepted =
    each_push (λ (part : Part). length part.bodies ≤ part.most) (told_parts m) end_part
    (each_weaker (IsLawfulPart m) (λ (part : Part). length part.bodies ≤ part.most) (λ part is. is.few) (told_parts m) (lawful_parts m accepted))
    (omega arith)

parts_ascend : (from lower : ℕ) (parts : List Part) → lower ≤ from → are_apart from parts ≡ true → AreFew parts
    → AreAscending lower (flat_map structures_in parts)
parts_ascend from lower [] low apart few = tt
parts_ascend from lower (part ∷ parts) low apart few =
    let tests = and_parts (nat_le from part.first) (are_apart (part.first + part.most) parts) apart in
    let first = leb-true from part.first tests.0 in
    part_before lower part.first part.bodies (flat_map structures_in parts) (omega arith)
    (parts_ascend (part.first + part.most) (part.first + length part.bodies) parts (omega (arith, few.0)) tests.1 few.1)

pub handles_differ : (m : Machine) (i j : ℕ) (s t : Structure) → IsAccepted m → slice_get (structures_of m) i ≡ Some s
    → slice_get (structures_of m) j ≡ Some t → s.handle ≡ t.handle → i ≡ j
handles_differ m i j s t accepted =
    one_place 0 i j (structures_of m) s t (parts_ascend 0 0 (parts_of m) (omega arith) refl (are_few m accepted))
