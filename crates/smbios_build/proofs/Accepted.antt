-- The structures of an accepted machine.
use Rattle.std.proofs.Common.{◌≡◌, ◌≢◌, ℕ, ◌+◌, ◌*◌, ◌≤◌, Bool, true, not, List, [], ◌∷◌, ◌++◌, length, ◌==◌, arith, refl, ap, sym, ◌∙◌, length-append}
use Rattle.std.specs.List.{list_all, AllByRecursion}
use Rattle.std.proofs.lemmas.Bool.{and_parts}
use Rattle.std.proofs.lemmas.Bool.Decides.{nat_tests}
use Rattle.std.proofs.lemmas.Grind.{flat_map-append}
use Rattle.std.proofs.Math.Nat.{mul-le-mul_right}
use Rattle.machine_desc.specs.declared.machine.Machine.{Machine}
use Rattle.machine_desc.specs.Rules.{IsAccepted}
use Rattle.smbios_model.specs.declared.smbios.Body.{Body}
use Rattle.smbios_model.specs.declared.smbios.Body.TheVariants.{End}
use Rattle.smbios_model.specs.declared.smbios.Structure.{Structure}
use Rattle.smbios_model.specs.StructureKinds.{StructureKind}
use Rattle.smbios_model.specs.Structures.{number_of}
use Rattle.smbios_model.specs.MachineStructures.{Part, with_handles, structures_in, told_parts, end_part, structures_of}
use Rattle.smbios_model.proofs.LawfulBodies.{most_bytes, IsLawfulBody}
use Rattle.smbios_model.proofs.LawfulParts.{IsLawfulPart, lawful_parts}
use Rattle.smbios_build.specs.Spelling.{structure_bytes, structures_bytes}
use Rattle.smbios_build.specs.Buildable.{IsBuildable, AreBuildable}
use Rattle.smbios_build.proofs.AcceptedBodies.{can_be_built, is_small}

-- parts before other structures
abbrev before : List Part → List Structure → List Structure
before [] more = more
before (p ∷ parts) more = structures_in p ++ before parts more

-- the end, which is last
abbrev ending : List Structure
ending = structures_in end_part ++ []

-- the test of parts that aren't the end
abbrev is_no_end : Part → Bool
is_no_end p = not (p.kind.number == 127)

other_number : (number : ℕ) → not (number == 127) ≡ true → number ≢ 127
other_number number is same = grind (arith, nat_tests)

-- a structure that isn't the end before others
one_before : (s : Structure) (more : List Structure) → s.body ≢ End → IsBuildable s.body → AreBuildable more → AreBuildable (s ∷ more)
one_before s [] other able more_able = absurd more_able
one_before s (next ∷ more) other able more_able = (other, able, more_able)

bodies_before : (kind : StructureKind) (first : ℕ) (bodies : List Body) (more : List Structure) → kind.number ≢ 127
    → AllByRecursion (IsLawfulBody kind) bodies → AreBuildable more → AreBuildable (with_handles first bodies ++ more)
bodies_before kind first [] more other lawful able = able
bodies_before kind first (body ∷ bodies) more other lawful able =
    one_before (record { handle = first; body = body }) (with_handles (first + 1) bodies ++ more)
    (λ is. other (ap (λ (k : StructureKind). k.number) (sym lawful.0.typed) ∙ ap number_of is)) (can_be_built kind body lawful.0)
    (bodies_before kind (first + 1) bodies more other lawful.1 able)

parts_before : (m : Machine) (parts : List Part) (more : List Structure) → list_all is_no_end parts ≡ true → AllByRecursion (IsLawfulPart m) parts
    → AreBuildable more → AreBuildable (before parts more)
parts_before m [] more other lawful able = able
parts_before m (p ∷ parts) more other lawful able =
    let others = and_parts (is_no_end p) (list_all is_no_end parts) other in
    bodies_before p.kind p.first p.bodies (before parts more) (other_number p.kind.number others.0) lawful.0.lawful
    (parts_before m parts more others.1 lawful.1 able)

pub accepted_buildable : (m : Machine) → IsAccepted m → AreBuildable (structures_of m)
accepted_buildable m accepted = parts_before m (told_parts m) ending refl (lawful_parts m accepted) refl

-- bodies of a kind have few bytes together
bodies_small : (kind : StructureKind) (first : ℕ) (bodies : List Body) → AllByRecursion (IsLawfulBody kind) bodies
    → length (structures_bytes (with_handles first bodies)) ≤ length bodies * most_bytes kind
bodies_small kind first [] lawful = omega arith
bodies_small kind first (body ∷ bodies) lawful =
    omega (
      arith,
      length-append (structure_bytes (record { handle = first; body = body })) (structures_bytes (with_handles (first + 1) bodies)),
      is_small kind body first lawful.0,
      bodies_small kind (first + 1) bodies lawful.1,
    )

-- the most bytes of parts
abbrev most_of : List Part → ℕ
most_of [] = 0
most_of (p ∷ parts) = p.most * most_bytes p.kind + most_of parts

few_small : (count most size total : ℕ) → total ≤ count * size → count ≤ most → total ≤ most * size
few_small count most size total small few = omega (arith, mul-le-mul_right size few)

parts_small : (m : Machine) (parts : List Part) (more : List Structure) → AllByRecursion (IsLawfulPart m) parts
    → length (structures_bytes (before parts more)) ≤ most_of parts + length (structures_bytes more)
parts_small m [] more lawful = omega arith
parts_small m (p ∷ parts) more lawful =
    omega (
      arith,
      ap length (flat_map-append structure_bytes (structures_in p) (before parts more)),
      length-append (structures_bytes (structures_in p)) (structures_bytes (before parts more)),
      few_small (length p.bodies) p.most (most_bytes p.kind) (length (structures_bytes (structures_in p)))
          (bodies_small p.kind p.first p.bodies lawful.0.lawful) lawful.0.few,
      parts_small m parts more lawful.1,
    )

pub accepted_small : (m : Machine) → IsAccepted m → length (structures_bytes (structures_of m)) ≤ 0x40000
accepted_small m accepted = omega (arith, parts_small m (told_parts m) ending (lawful_parts m accepted))
