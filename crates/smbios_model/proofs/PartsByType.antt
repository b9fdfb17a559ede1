-- The structures of one type among those of a machine.
use Rattle.std.proofs.Common.{◌≡◌, ℕ, ◌+◌, Bool, true, false, cond, List, [], ◌∷◌, ◌++◌, map, filter, ◌==◌, refl, ap, ◌∙◌}
use Rattle.std.specs.List.{flat_map, AllByRecursion}
use Rattle.std.proofs.lemmas.List.{map-append}
use Rattle.std.proofs.lemmas.List.Elements.{filter-append}
use Rattle.vt_bytes.proofs.Each.{each_weaker, each_push}
use Rattle.machine_desc.specs.declared.machine.Machine.{Machine}
use Rattle.machine_desc.specs.Rules.{IsAccepted}
use Rattle.smbios_model.specs.declared.smbios.Body.{Body}
use Rattle.smbios_model.specs.declared.smbios.Structure.{Structure}
use Rattle.smbios_model.specs.StructureKinds.{StructureKind}
use Rattle.smbios_model.specs.Structures.{number_of}
use Rattle.smbios_model.specs.MachineStructures.{Part, with_handles, structures_in, told_parts, end_part, parts_of}
use Rattle.smbios_model.proofs.LawfulBodies.{IsLawfulBody}
use Rattle.smbios_model.proofs.LawfulParts.{IsLawfulPart, lawful_parts}

unfoldable pub is_of : ℕ → Structure → Bool
is_of number s = number_of s.body == number

-- what the structures of a type say
unfoldable pub bodies_of : ℕ → List Structure → List Body
bodies_of number structures = map (λ (s : Structure). s.body) (filter (is_of number) structures)

-- the same by parts, which are each of one type
abbrev pub bodies_in : ℕ → List Part → List Body
bodies_in number parts = flat_map (λ (p : Part). cond (p.kind.number == number) p.bodies []) parts

abbrev pub IsTyped : Part → Type 0
IsTyped p = AllByRecursion (λ body. number_of body ≡ p.kind.number) p.bodies

pub are_typed : (m : Machine) → IsAccepted m → AllByRecursion IsTyped (parts_of m)
are_typed m accepted =
    each_push IsTyped (told_parts m) end_part (each_weaker (IsLawfulPart m) IsTyped typed (told_parts m) (lawful_parts m accepted)) (refl, tt)
  where
    typed : (p : Part) → IsLawfulPart m p → IsTyped p
    typed p lawful =
        each_weaker (IsLawfulBody p.kind) (λ body. number_of body ≡ p.kind.number) (λ body is. ap (λ (k : StructureKind). k.number) is.typed) p.bodies
        lawful.lawful

-- those of a type among structures that are all of another one are all of them or none
part_of_type : (number kind : ℕ) (test : Bool) (first : ℕ) (bodies : List Body) → (kind == number) ≡ test
    → AllByRecursion (λ body. number_of body ≡ kind) bodies → bodies_of number (with_handles first bodies) ≡ cond test bodies []
unfolding is_of bodies_of
part_of_type number kind true first [] is typed = refl
part_of_type number kind false first [] is typed = refl
part_of_type number kind true first (body ∷ bodies) is typed =
    ap (λ test. map (λ (s : Structure). s.body) (cond test (record { handle = first; body = body } ∷ filter (is_of number) (with_handles (first + 1) bodies))
    (filter (is_of number) (with_handles (first + 1) bodies)))) (ap (λ n. n == number) typed.0 ∙ is)
    ∙ ap (λ others. body ∷ others) (part_of_type number kind true (first + 1) bodies is typed.1)
part_of_type number kind false first (body ∷ bodies) is typed =
    ap (λ test. map (λ (s : Structure). s.body) (cond test (record { handle = first; body = body } ∷ filter (is_of number) (with_handles (first + 1) bodies))
    (filter (is_of number) (with_handles (first + 1) bodies)))) (ap (λ n. n == number) typed.0 ∙ is)
    ∙ part_of_type number kind false (first + 1) bodies is typed.1

pub of_type : (number : ℕ) (parts : List Part) → AllByRecursion IsTyped parts → bodies_of number (flat_map structures_in parts) ≡ bodies_in number parts
unfolding bodies_of
of_type number [] typed = refl
of_type number (p ∷ parts) typed =
    let others : List Structure = flat_map structures_in parts in
    ap (map (λ (s : Structure). s.body)) (filter-append (is_of number) (structures_in p) others)
    ∙ map-append (λ (s : Structure). s.body) (filter (is_of number) (structures_in p)) (filter (is_of number) others)
    ∙ ap (λ front. front ++ bodies_of number others) (part_of_type number p.kind.number (p.kind.number == number) p.first p.bodies refl typed.0)
    ∙ ap (λ back. cond (p.kind.number == number) p.bodies [] ++ back) (of_type number parts typed.1)
