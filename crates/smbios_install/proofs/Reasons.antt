-- What holds of items against which there is no reason.
use Rattle.std.proofs.Common.{pos_of_ne-zero, ◌≡◌, ℕ, suc, ◌+◌, ◌<◌, ◌≤◌, Bool, true, false, not, ◌&&◌, nat_lt, List}
use Rattle.std.proofs.Common.{[], ◌∷◌, length, Option, Some, None, is_some}
use Rattle.std.proofs.Common.{refl, ap, sym, subst, ◌∙◌, arith}
use Rattle.std.specs.List.{AllByRecursion}
use Rattle.std.specs.Option.{option_map_or}
use Rattle.std.proofs.lemmas.Bool.{true≢false, not-false, eqb-false, ltb-false}
use Rattle.std.proofs.lemmas.Option.{none-some}
use Rattle.vt_outside.proofs.Results.{none_from}
use Rattle.cfg_directory.specs.declared.item.Item.{Item}
use Rattle.cfg_directory.specs.Items.{named, total_size, file_limit, bytes_limit}
use Rattle.cfg_directory.specs.SmbiosNames.{anchor_name, structures_name}
use Rattle.loader_script.specs.LoaderName.{loader_name}
use Rattle.loader_script.specs.Spelling.{is_script_length}
use Rattle.smbios_model.specs.declared.anchor.AnchorForm.{AnchorForm}
use Rattle.smbios_install.specs.Forms.{form_of}
use Rattle.smbios_install.specs.Commands.{added_bytes, bytes_of, commands_in, placing}
use Rattle.smbios_install.specs.Faults.{form_in, added_size, reasons, first_reason, refusal}
use Rattle.smbios_install.specs.declared.fault.InstallFault.{InstallFault}

-- Items whose files can be installed, with an anchor of a form: both files are there, the script has its length and places neither, and what
-- is added stays within the limits.
pub record CanInstall (items : List Item) (form : AnchorForm) : Type 0 where
  pub anchor : Item
  pub structures : Item
  pub anchor_there : named items anchor_name ≡ Some anchor
  pub structures_there : named items structures_name ≡ Some structures
  pub some : 0 < length structures.bytes
  pub formed : form_of anchor.bytes ≡ Some form
  pub script : is_script_length (length (bytes_of items loader_name)) ≡ true
  pub free : placing (commands_in items) ≡ None
  pub fits : length (bytes_of items loader_name) + length (added_bytes form) ≤ 1048576
  pub few : named items loader_name ≡ None → length items < file_limit
  pub small : total_size items + length (added_bytes form) ≤ bytes_limit

-- where no reason is the first none applies
none_applies : (reasons : List (InstallFault × Bool)) → first_reason reasons ≡ None
    → AllByRecursion (λ (reason : InstallFault × Bool). reason.1 ≡ false) reasons
none_applies [] none = tt
none_applies ((fault, true) ∷ reasons) none = absurd (none-some fault (sym none))
none_applies ((fault, false) ∷ reasons) none = (refl, none_applies reasons none)

-- what is there
pub some_of : {A : Type 0} (o : Option A) → is_some o ≡ true → (x : A) × (o ≡ Some x)
some_of None some = absurd (true≢false (sym some))
some_of (Some x) some = (x, refl)

-- a new file is within the limit
few_files : (there : Bool) (count : ℕ) → (not there && nat_lt file_limit (suc count)) ≡ false → there ≡ false → count < file_limit
few_files there count tested absent =
    let test : nat_lt file_limit (suc count) ≡ false = ap (λ t. not t && nat_lt file_limit (suc count)) (sym absent) ∙ tested in
    omega (arith, ltb-false _ _ test)

pub can_install : (items : List Item) (form : AnchorForm) → refusal items ≡ None → form_in items ≡ Some form → CanInstall items form
unfolding refusal
can_install items form none formed =
    let all = none_applies (reasons items) none in
    let anchor = some_of (named items anchor_name) (not-false _ all.0) in
    let structures = some_of (named items structures_name) (not-false _ all.1.0) in
    let bytes : bytes_of items structures_name ≡ structures.0.bytes = ap (λ o. option_map_or (λ (item : Item). item.bytes) o []) structures.1 in
    let anchor_bytes : bytes_of items anchor_name ≡ anchor.0.bytes = ap (λ o. option_map_or (λ (item : Item). item.bytes) o []) anchor.1 in
    let size : added_size items ≡ length (added_bytes form) =
    ap (λ o. option_map_or (λ (f : AnchorForm). length (added_bytes f)) o 0) formed in
    let not_empty : length structures.0.bytes ≡ 0 → ⊥ = λ empty. eqb-false _ 0 all.1.1.0 (ap length bytes ∙ empty) in
    let full = ltb-false _ _ all.1.1.1.1.1.1.0 in
    let large = ltb-false _ _ all.1.1.1.1.1.1.1.1.0 in
    record {
      anchor = anchor.0;
      structures = structures.0;
      anchor_there = anchor.1;
      structures_there = structures.1;
      some = pos_of_ne-zero not_empty;
      formed = ap form_of (sym anchor_bytes) ∙ formed;
      script = not-false _ all.1.1.1.1.0;
      free = none_from (placing (commands_in items)) all.1.1.1.1.1.0;
      fits = subst (λ n. length (bytes_of items loader_name) + n ≤ 1048576) size full;
      few = λ absent. few_files (is_some (named items loader_name)) (length items) all.1.1.1.1.1.1.1.0 (ap is_some absent);
      small = subst (λ n. total_size items + n ≤ bytes_limit) size large;
    }

-- their anchor is of a form
pub form_there : (items : List Item) → refusal items ≡ None → (form : AnchorForm) × (form_in items ≡ Some form)
unfolding refusal
form_there items none =
    let all = none_applies (reasons items) none in
    some_of (form_in items) (not-false _ all.1.1.1.0)
