-- The numbers of an accepted machine's structures fit their fields, and so a reader finds the structures in their bytes.
use Rattle.std.proofs.Common.{◌≡◌, ℕ, ◌+◌, ◌^◌, ◌≤◌, true, nat_le, List, [], ◌∷◌, length, arith, refl}
use Rattle.std.specs.List.{flat_map, AllByRecursion}
use Rattle.std.proofs.lemmas.Bool.{and_parts, leb-true}
use Rattle.vt_bytes.proofs.Each.{each_append, each_push, each_weaker}
use Rattle.machine_desc.specs.declared.machine.Machine.{Machine}
use Rattle.machine_desc.specs.Rules.{IsAccepted}
use Rattle.machine_desc.specs.Fields.{HasFittingFields}
use Rattle.smbios_model.specs.declared.smbios.Body.{Body}
use Rattle.smbios_model.specs.Smbios.{AreStructures}
use Rattle.smbios_model.specs.MachineStructures.{Part, with_handles, structures_in, told_parts, end_part, parts_of, structures_of}
use Rattle.smbios_model.proofs.LawfulBodies.{HasFittingRows}
use Rattle.smbios_model.proofs.LawfulParts.{IsLawfulPart, lawful_parts}
use Rattle.smbios_build.specs.Spelling.{structures_bytes}
use Rattle.smbios_build.specs.Buildable.{HasFittingNumbers}
use Rattle.smbios_build.proofs.Accepted.{accepted_buildable}
use Rattle.smbios_build.proofs.Handles.{are_apart, AreFew, are_few}
use Rattle.smbios_build.proofs.Read.{built_structures}

abbrev AreFitting : List Part → Type 0
AreFitting parts = AllByRecursion (λ (p : Part). AllByRecursion HasFittingRows p.bodies) parts

are_fitting : (m : Machine) → IsAccepted m → HasFittingFields m → AreFitting (parts_of m)
are_fitting m accepted fits =
    each_push (λ (p : Part). AllByRecursion HasFittingRows p.bodies) (told_parts m) end_part
    (each_weaker (IsLawfulPart m) (λ (p : Part). AllByRecursion HasFittingRows p.bodies) (λ p is. is.fits fits) (told_parts m) (lawful_parts m accepted))
    (tt, tt)

part_fits : (first : ℕ) (bodies : List Body) → first + length bodies ≤ 2 ^ 16 → AllByRecursion HasFittingRows bodies
    → AllByRecursion HasFittingNumbers (with_handles first bodies)
part_fits first [] few fit = tt
part_fits first (body ∷ bodies) few fit = (record { handle = omega arith; rows = fit.0 }, part_fits (first + 1) bodies (omega arith) fit.1)

-- handles that are apart end within 16 bits
within : (from : ℕ) (parts : List Part) → are_apart from parts ≡ true → from ≤ 65536
within from [] apart = leb-true from 65536 apart
within from (p ∷ parts) apart =
    let tests = and_parts (nat_le from p.first) (are_apart (p.first + p.most) parts) apart in
    omega (arith, leb-true from p.first tests.0, within (p.first + p.most) parts tests.1)

parts_fit : (from : ℕ) (parts : List Part) → are_apart from parts ≡ true → AreFew parts → AreFitting parts
    → AllByRecursion HasFittingNumbers (flat_map structures_in parts)
parts_fit from [] apart few fit = tt
parts_fit from (p ∷ parts) apart few fit =
    let tests = and_parts (nat_le from p.first) (are_apart (p.first + p.most) parts) apart in
    each_append HasFittingNumbers (structures_in p) (flat_map structures_in parts)
    (part_fits p.first p.bodies (omega (arith, within (p.first + p.most) parts tests.1, few.0)) fit.0)
    (parts_fit (p.first + p.most) parts tests.1 few.1 fit.1)

pub accepted_numbers : (m : Machine) → IsAccepted m → HasFittingFields m → AllByRecursion HasFittingNumbers (structures_of m)
accepted_numbers m accepted fits = parts_fit 0 (parts_of m) refl (are_few m accepted) (are_fitting m accepted fits)

-- so a reader finds the structures of a machine in their bytes
pub accepted_read : (m : Machine) → IsAccepted m → HasFittingFields m → AreStructures (structures_bytes (structures_of m)) (structures_of m)
accepted_read m accepted fits = built_structures (structures_of m) (accepted_buildable m accepted) (accepted_numbers m accepted fits)
