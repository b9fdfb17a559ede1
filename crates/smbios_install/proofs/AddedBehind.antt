-- The script of the items installed is theirs, and behind it the commands that are added.
use Rattle.std.proofs.Common.{◌≡◌, ℕ, zero, suc, ◌+◌, ◌*◌, ◌/◌, ◌%◌, ◌≤◌, true, nat_le, ◌&&◌, List, [], ◌∷◌, ◌++◌, length, drop, Option, Some, None}
use Rattle.std.proofs.Common.{Ok, refl, ap, ap₂, ◌∙◌, arith, eqb-true}
use Rattle.std.specs.Bool.{◌==◌}
use Rattle.std.specs.Option.{option_map_or}
use Rattle.std.proofs.lemmas.Bool.{and_parts, eq-eqb, le-leb, cond-true}
use Rattle.std.proofs.lemmas.List.{take-append-le, drop-append-le, length-drop, length-append, nil_from_length}
use Rattle.cfg_directory.specs.declared.item.Item.{Item}
use Rattle.cfg_directory.specs.Items.{IsItems, AreDistinct, named}
use Rattle.cfg_directory.specs.SmbiosNames.{anchor_name}
use Rattle.loader_script.specs.LoaderName.{loader_name}
use Rattle.loader_script.specs.declared.entry.Entry.{Entry}
use Rattle.loader_script.specs.Spelling.{entry_of, entries_of, is_script_length}
use Rattle.command_acts.specs.Script.{script_of, script_from, script_in}
use Rattle.smbios_model.specs.declared.anchor.AnchorForm.{AnchorForm}
use Rattle.smbios_install.specs.Commands.{bytes_of, commands_in, added, added_bytes}
use Rattle.smbios_install.specs.Faults.{form_in, refusal}
use Rattle.smbios_install.specs.Installed.{installed_as, installed}
use Rattle.smbios_install.proofs.Reasons.{CanInstall, can_install}
use Rattle.smbios_install.proofs.Installed.{installed_new_script, installed_longer_script}
use Rattle.smbios_install.proofs.AddedCommands.{length-added, added_again}

-- bytes of two scripts are read as the entries of both
entries_behind : (m n : ℕ) (front back : List ℕ) → length front ≡ 128 * m → entries_of (m + n) (front ++ back) ≡ entries_of m front ++ entries_of n back
entries_behind zero n front back size =
    let count : zero + n ≡ n = omega arith in
    let empty : front ≡ [] = nil_from_length front (omega arith) in
    ap (λ k. entries_of k (front ++ back)) count ∙ ap (λ (f : List ℕ). entries_of n (f ++ back)) empty
entries_behind (suc m) n front back size =
    let count : suc m + n ≡ suc (m + n) = omega arith in
    let rest : length (drop 128 front) ≡ 128 * m = length-drop 128 front ∙ omega arith in
    ap (λ k. entries_of k (front ++ back)) count
    ∙ ap₂ (λ (e : Entry) (es : List Entry). e ∷ es) (ap entry_of (take-append-le 128 front back (omega arith)))
    (ap (entries_of (m + n)) (drop-append-le 128 front back (omega arith)) ∙ entries_behind m n (drop 128 front) back rest)

-- so they are a script where they aren't too long
pub script_behind : (front back : List ℕ) (commands : List Entry) → is_script_length (length front) ≡ true → length back ≡ 128 * length commands
    → entries_of (length commands) back ≡ commands → length front + length back ≤ 1048576
    → script_of (front ++ back) ≡ Ok (entries_of (length front / 128) front ++ commands)
script_behind front back commands lawful size again fits =
    let parts = and_parts (length front % 128 == 0) (nat_le (length front) 1048576) lawful in
    let whole : length front % 128 ≡ 0 = eqb-true (length front % 128) 0 parts.0 in
    let front_is : length front ≡ 128 * (length front / 128) = omega arith in
    let all : length (front ++ back) ≡ length front + length back = length-append front back in
    let count : length (front ++ back) / 128 ≡ length front / 128 + length commands = omega arith in
    let aligned : (length (front ++ back) % 128 == 0) ≡ true = eq-eqb (length (front ++ back) % 128) 0 (omega arith) in
    let short : nat_le (length (front ++ back)) 1048576 ≡ true = le-leb (length (front ++ back)) 1048576 (omega arith) in
    let tested : is_script_length (length (front ++ back)) ≡ true = ap₂ (λ a b. a && b) aligned short in
    cond-true _ _ _ tested
    ∙ ap Ok (ap (λ k. entries_of k (front ++ back)) count ∙ entries_behind (length front / 128) (length commands) front back front_is
    ∙ ap (λ (es : List Entry). entries_of (length front / 128) front ++ es) again)

-- the bytes of the script
bytes_found : (items : List Item) (found : Option Item) → named items loader_name ≡ found
    → bytes_of items loader_name ≡ option_map_or (λ (i : Item). i.bytes) found []
bytes_found items found is = ap (λ o. option_map_or (λ (i : Item). i.bytes) o []) is

script_bytes : (form : AnchorForm) (items : List Item) (anchor : Item) (found : Option Item) → AreDistinct items → named items anchor_name ≡ Some anchor
    → named items loader_name ≡ found
    → script_in (installed_as form items) ≡ script_of (option_map_or (λ (i : Item). i.bytes) found [] ++ added_bytes form)
script_bytes form items anchor None distinct there is =
    ap script_from (installed_new_script form items anchor distinct there is)
script_bytes form items anchor (Some script) distinct there is =
    ap script_from (installed_longer_script form items anchor script distinct there is)

-- the items installed, where their anchor is of a form
pub installed_is : (items : List Item) (form : AnchorForm) → form_in items ≡ Some form → installed items ≡ installed_as form items
installed_is items form formed = ap (λ o. option_map_or (λ (f : AnchorForm). installed_as f items) o items) formed

pub added_behind : (items : List Item) (form : AnchorForm) → IsItems items → refusal items ≡ None → form_in items ≡ Some form
    → script_in (installed items) ≡ Ok (commands_in items ++ added form)
added_behind items form are none formed =
    let can : CanInstall items form = can_install items form none formed in
    let found : script_in (installed_as form items) ≡ script_of (bytes_of items loader_name ++ added_bytes form) =
    script_bytes form items can.anchor (named items loader_name) are.distinct can.anchor_there refl in
    ap script_in (installed_is items form formed) ∙ found
    ∙ script_behind (bytes_of items loader_name) (added_bytes form) (added form) can.script (length-added form) (added_again form) can.fits
