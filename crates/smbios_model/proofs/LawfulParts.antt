-- What holds of the structures of an accepted machine, a line for each part: they are few, each can be written, in few bytes, and its numbers
-- fit their fields where those of the machine do.
use Rattle.std.proofs.Common.{◌≡◌, ℕ, ◌≤◌, Bool, true, List, [], ◌∷◌, length, map, Option, Some, None, IfSome, arith, refl, ap, sym, ◌∙◌}
use Rattle.std.specs.List.{list_all, flat_map, AllByRecursion}
use Rattle.std.specs.Option.{option_map_or, option_to_list}
use Rattle.std.proofs.lemmas.List.{length-map}
use Rattle.vt_outside.proofs.Each.{each_true}
use Rattle.vt_bytes.proofs.Each.{each_from}
use Rattle.machine_desc.specs.declared.machine.Machine.{Machine}
use Rattle.machine_desc.specs.Rules.{is_text, texts_if, firmware_texts, chassis_texts, socket_texts, dimm_texts, slot_texts}
use Rattle.machine_desc.specs.Rules.{is_some_text, is_lawful_chassis, is_lawful_socket, is_lawful_dimm, is_lawful_slot, is_lawful_range}
use Rattle.machine_desc.specs.Rules.{with_ends, IsAccepted}
use Rattle.machine_desc.specs.Fields.{HasFittingFields}
use Rattle.machine_desc.proofs.Accepted.{kept, each_kept, holds_where_kept, few_at, texts_at, lawful_ends}
use Rattle.machine_desc.proofs.AllTexts.{all_of_each}
use Rattle.machine_desc.proofs.Passing.{◌⨾◌}
use Rattle.smbios_model.specs.declared.smbios.Body.{Body}
use Rattle.smbios_model.specs.StructureKinds.{StructureKind}
use Rattle.smbios_model.specs.MachineStructures.{Part, each, if_some, told_parts}
use Rattle.smbios_model.proofs.LawfulBodies.{IsLawfulBody, HasFittingRows, AreWritten, Anything, nothing, firmware_written, system_written}
use Rattle.smbios_model.proofs.LawfulBodies.{chassis_written, sockets_written, slots_written, oem_strings_written, array_written, dimms_written}
use Rattle.smbios_model.proofs.LawfulBodies.{ranges_written, boot_written}

-- the structures of one part of a machine
pub record IsLawfulPart (m : Machine) (p : Part) : Type 0 where
  pub few : length p.bodies ≤ p.most
  pub lawful : AllByRecursion (IsLawfulBody p.kind) p.bodies
  pub fits : HasFittingFields m → AllByRecursion HasFittingRows p.bodies

-- lists of elements, elements that may be left out, and lists that are one element

each_mapped : {X Y : Type 0} (P : Y → Type 0) (f : X → Y) (xs : List X) → AllByRecursion (λ x. P (f x)) xs → AllByRecursion P (map f xs)
each_mapped P f [] p = tt
each_mapped P f (x ∷ xs) p = (p.0, each_mapped P f xs p.1)

pub always : {X : Type 0} (P : X → Type 0) → ((x : X) → P x) → (xs : List X) → AllByRecursion P xs
always P p [] = tt
always P p (x ∷ xs) = (p x, always P p xs)

any : {X : Type 0} (xs : List X) → AllByRecursion Anything xs
any xs = always Anything (λ _. tt) xs

-- the texts of each element are lawful
each_text : {Element : Type 0} (texts_of : Element → List (List ℕ)) (elements : List Element) → list_all is_text (flat_map texts_of elements) ≡ true
    → AllByRecursion (λ e. list_all is_text (texts_of e) ≡ true) elements
each_text texts_of elements all =
    each_true (λ e. list_all is_text (texts_of e)) elements (sym (all_of_each is_text texts_of elements) ∙ all)

if_true : {Given : Type 0} (test : Given → Bool) (given : Option Given) → option_map_or test given true ≡ true → IfSome given (λ x. test x ≡ true)
if_true test None is = tt
if_true test (Some x) is = is

if_text : {Given : Type 0} (texts_of : Given → List (List ℕ)) (given : Option Given) → list_all is_text (texts_if texts_of given) ≡ true
    → IfSome given (λ e. list_all is_text (texts_of e) ≡ true)
if_text texts_of None is = tt
if_text texts_of (Some x) is = is

if_any : {Given : Type 0} (given : Option Given) → IfSome given Anything
if_any None = tt
if_any (Some x) = tt

no_text : {Given : Type 0} (given : Option Given) → IfSome given (λ e. list_all is_text (nothing e) ≡ true)
no_text None = tt
no_text (Some x) = refl

each_given : {Given : Type 0} (P : Given → Type 0) (given : Option Given) → IfSome given P → AllByRecursion P (option_to_list given)
each_given P None p = tt
each_given P (Some x) p = (p, tt)

one_given : {Given : Type 0} (given : Option Given) → length (option_to_list given) ≤ 1
one_given None = omega arith
one_given (Some x) = omega arith

one_if_some : {Element : Type 0} (all : List Element) → length (if_some all) ≤ 1
one_if_some [] = omega arith
one_if_some (x ∷ xs) = omega arith

each_if_some : {Element : Type 0} (P : List Element → Type 0) (all : List Element) → P all → AllByRecursion P (if_some all)
each_if_some P [] p = tt
each_if_some P (x ∷ xs) p = (p, tt)

-- the part that tells elements of a list
told : {Element : Type 0} (m : Machine) (kind : StructureKind) (first most : ℕ) (body_of : Element → Body) (texts_of : Element → List (List ℕ))
    (Lawful Fits : Element → Type 0) → AreWritten kind body_of texts_of Lawful Fits → (elements : List Element) → length elements ≤ most
    → AllByRecursion (λ e. list_all is_text (texts_of e) ≡ true) elements → AllByRecursion Lawful elements
    → (HasFittingFields m → AllByRecursion Fits elements) → IsLawfulPart m (each kind first most body_of elements)
told {Element = Element} m kind first most body_of texts_of Lawful Fits written elements few texts lawful fits = record {
  few = omega (arith, length-map elements body_of);
  lawful = each_mapped (IsLawfulBody kind) body_of elements
      (each_from (λ e. list_all is_text (texts_of e) ≡ true) Lawful (λ e. IsLawfulBody kind (body_of e)) one elements texts lawful);
  fits = λ fields. each_mapped HasFittingRows body_of elements
      (each_from Lawful Fits (λ e. HasFittingRows (body_of e)) written.fits elements lawful (fits fields));
}
  where
    one : (e : Element) → list_all is_text (texts_of e) ≡ true → Lawful e → IsLawfulBody kind (body_of e)
    one e e_texts e_lawful = record {
      typed = written.typed e;
      small = written.small e e_lawful;
      filled = written.filled e;
      texts = ap (list_all is_text) (written.texts e) ∙ e_texts;
      strings = written.strings e e_lawful;
    }

-- one that may be left out
told_if : {Given : Type 0} (m : Machine) (kind : StructureKind) (first : ℕ) (body_of : Given → Body) (texts_of : Given → List (List ℕ))
    (Lawful Fits : Given → Type 0) → AreWritten kind body_of texts_of Lawful Fits → (given : Option Given)
    → IfSome given (λ e. list_all is_text (texts_of e) ≡ true) → IfSome given Lawful → (HasFittingFields m → IfSome given Fits)
    → IsLawfulPart m (each kind first 1 body_of (option_to_list given))
told_if m kind first body_of texts_of Lawful Fits written given texts lawful fits =
    told m kind first 1 body_of texts_of Lawful Fits written (option_to_list given) (one_given given)
    (each_given (λ e. list_all is_text (texts_of e) ≡ true) given texts) (each_given Lawful given lawful) (λ fields. each_given Fits given (fits fields))

-- all of a list as one
told_some : {Element : Type 0} (m : Machine) (kind : StructureKind) (first : ℕ) (body_of : List Element → Body)
    (texts_of : List Element → List (List ℕ)) (Lawful : List Element → Type 0) → AreWritten kind body_of texts_of Lawful Anything
    → (all : List Element) → list_all is_text (texts_of all) ≡ true → Lawful all → IsLawfulPart m (each kind first 1 body_of (if_some all))
told_some m kind first body_of texts_of Lawful written all texts lawful =
    told m kind first 1 body_of texts_of Lawful Anything written (if_some all) (one_if_some all)
    (each_if_some (λ e. list_all is_text (texts_of e) ≡ true) all texts) (each_if_some Lawful all lawful) (λ _. any (if_some all))

-- the rules on parts that code relies on too

pub lawful_chassis : (m : Machine) → IsAccepted m → option_map_or is_lawful_chassis m.chassis true ≡ true
lawful_chassis m accepted = holds_where_kept 0 (option_map_or is_lawful_chassis m.chassis true) (kept m accepted 6)

pub lawful_sockets : (m : Machine) → IsAccepted m → list_all is_lawful_socket m.sockets ≡ true
lawful_sockets m accepted = each_kept m accepted 7 is_lawful_socket m.sockets refl

pub lawful_slots : (m : Machine) → IsAccepted m → list_all is_lawful_slot m.slots ≡ true
lawful_slots m accepted = each_kept m accepted 12 is_lawful_slot m.slots refl

pub lawful_dimms : (m : Machine) → IsAccepted m → list_all is_lawful_dimm m.dimms ≡ true
lawful_dimms m accepted = each_kept m accepted 8 is_lawful_dimm m.dimms refl

-- of which nothing is asked
pub each_whatever : {X : Type 0} (xs : List X) → list_all (λ x. true) xs ≡ true
each_whatever [] = refl
each_whatever (x ∷ xs) = each_whatever xs

pub lawful_parts : (m : Machine) → IsAccepted m → AllByRecursion (IsLawfulPart m) (told_parts m)
lawful_parts m accepted =
    told_if m _ _ _ _ _ _ firmware_written m.firmware (if_text firmware_texts m.firmware (texts_at m accepted 2)) (if_any m.firmware)
    (λ fits. fits.firmware)
    ⨾ told m _ _ _ _ _ _ _ system_written (m.system ∷ []) (omega arith) (texts_at m accepted 1, tt) (tt, tt) (λ _. (tt, tt))
    ⨾ told_if m _ _ _ _ _ _ chassis_written m.chassis (if_text chassis_texts m.chassis (texts_at m accepted 3))
    (if_true is_lawful_chassis m.chassis (lawful_chassis m accepted))
    (λ _. if_any m.chassis)
    ⨾ told m _ _ _ _ _ _ _ sockets_written m.sockets (few_at m accepted 1) (each_text socket_texts m.sockets (texts_at m accepted 4))
    (each_true is_lawful_socket m.sockets (lawful_sockets m accepted)) (λ fits. fits.sockets)
    ⨾ told m _ _ _ _ _ _ _ slots_written m.slots (few_at m accepted 4) (each_text slot_texts m.slots (texts_at m accepted 6))
    (each_true is_lawful_slot m.slots (lawful_slots m accepted)) (λ fits. fits.slots)
    ⨾ told_some m _ _ _ _ _ oem_strings_written m.oem_strings (texts_at m accepted 0)
    (record { few = few_at m accepted 0; some = each_kept m accepted 5 is_some_text m.oem_strings refl })
    ⨾ told_some m _ _ _ _ _ array_written m.dimms refl (record { few = few_at m accepted 2; lawful = lawful_dimms m accepted })
    ⨾ told m _ _ _ _ _ _ _ dimms_written m.dimms (few_at m accepted 2) (each_text dimm_texts m.dimms (texts_at m accepted 5))
    (each_true is_lawful_dimm m.dimms (lawful_dimms m accepted)) (λ _. any m.dimms)
    ⨾ told m _ _ _ _ _ _ _ ranges_written m.ranges (few_at m accepted 3) (always (λ r. list_all is_text (nothing r) ≡ true) (λ _. refl) m.ranges)
    (lawful_ends 0 m.ranges (each_kept m accepted 10 is_lawful_range (with_ends m.ranges) refl)) (λ _. any m.ranges)
    ⨾ told_if m _ _ _ _ _ _ boot_written m.firmware (no_text m.firmware) (if_any m.firmware) (λ _. if_any m.firmware)
    ⨾ tt
