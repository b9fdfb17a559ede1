-- The commands in front do what they do without the added ones.
use Rattle.std.proofs.Common.{ltb, ◌≡◌, ℕ, false, inl, inr, List, [], length, replicate, Some, None, is_some, option_map, ap, sym, subst}
use Rattle.std.proofs.Common.{◌∙◌, arith}
use Rattle.std.specs.List.{AllByRecursion, position_or_len}
use Rattle.std.specs.Option.{option_map_or}
use Rattle.std.specs.Str.{bytes_eq}
use Rattle.std.proofs.lemmas.Bool.{cases_Bool, cond-true, ltb-false}
use Rattle.std.proofs.lemmas.List.{length-replicate}
use Rattle.std.proofs.lemmas.List.Folds.{find_at}
use Rattle.std.proofs.lemmas.Option.{none-some, slice_get_past}
use Rattle.vt_outside.specs.File.{File}
use Rattle.vt_outside.proofs.Texts.{same_text}
use Rattle.vt_bytes.proofs.PutAt.{length-put_at}
use Rattle.cfg_directory.specs.declared.item.Item.{Item}
use Rattle.cfg_directory.specs.Items.{IsItems, named}
use Rattle.cfg_directory.specs.Files.{files_of}
use Rattle.cfg_directory.specs.SmbiosNames.{anchor_name}
use Rattle.loader_script.specs.declared.entry.Entry.{Entry}
use Rattle.loader_script.specs.Run.{file_of, opening, run}
use Rattle.loader_script.proofs.Named.{find-map, none_passes}
use Rattle.smbios_model.specs.declared.anchor.AnchorForm.{AnchorForm}
use Rattle.smbios_install.specs.Forms.{pointer_place, pointer_size}
use Rattle.smbios_install.specs.Commands.{commands_in, places_either, placing, NameNoScript}
use Rattle.smbios_install.specs.Faults.{refusal}
use Rattle.smbios_install.specs.Installed.{installed_as, installed}
use Rattle.smbios_install.proofs.Reasons.{CanInstall, can_install, form_there}
use Rattle.smbios_install.proofs.FormKnown.{form_known}
use Rattle.smbios_install.proofs.Installed.{blanked, installed_anchor, installed_other}
use Rattle.smbios_install.proofs.AddedBehind.{installed_is}
use Rattle.smbios_install.proofs.Standing.{field_within, file_from, file_named}
use Rattle.smbios_install.proofs.Alike.{AreAlike, info, info_in, names_differ}
use Rattle.smbios_install.proofs.SameRun.{EndSame, run_same}

-- where no command places either file each of them doesn't
pub each_free : (commands : List Entry) → placing commands ≡ None → AllByRecursion (λ (entry : Entry). places_either entry ≡ false) commands
each_free commands none =
    elim (cases_Bool (ltb (position_or_len places_either commands) (length commands))) as
    (λ _. AllByRecursion (λ (entry : Entry). places_either entry ≡ false) commands) [
      | inl within ↦ absurd (none-some _ (sym none ∙ cond-true _ _ _ within))
      | inr past ↦
          none_passes places_either commands
          (ap is_some (find_at places_either commands ∙ slice_get_past commands (position_or_len places_either commands) (ltb-false _ _ past)))
    ]

-- an item as a file
file_in : (items : List Item) (name : List ℕ) → file_of (files_of items) name ≡ option_map file_from (named items name)
file_in items name = find-map file_from (λ (file : File). bytes_eq file.name name) items

-- the same item is the same file
same_item : (items others : List Item) (name : List ℕ) → named items name ≡ named others name
    → file_of (files_of items) name ≡ file_of (files_of others) name
same_item items others name same = file_in items name ∙ ap (option_map file_from) same ∙ sym (file_in others name)

-- the files with those of SMBIOS structures installed are alike those without
installed_alike : (form : AnchorForm) (items : List Item) → IsItems items → CanInstall items form
    → AreAlike (files_of (installed_as form items)) (files_of items)
installed_alike form items are can =
    let now = installed_as form items in
    let is = form_known can.anchor.bytes form can.formed in
    let within = field_within form can.anchor.bytes is in
    let size : length (blanked form can.anchor.bytes) ≡ length can.anchor.bytes =
    length-put_at can.anchor.bytes (pointer_place form) (replicate (pointer_size form) 0)
    (omega (arith, length-replicate {A = ℕ} (pointer_size form) 0, within)) in
    let own : info_in (files_of now) anchor_name ≡ info_in (files_of items) anchor_name =
    ap (option_map info) (file_named now anchor_name _ (installed_anchor form items can.anchor are.distinct can.anchor_there))
    ∙ ap (λ n. Some (record { name = can.anchor.name; size = n; writable = can.anchor.writable })) size
    ∙ sym (ap (option_map info) (file_named items anchor_name can.anchor can.anchor_there)) in
    record {
      infos = λ name no_script. elim (cases_Bool (bytes_eq anchor_name name)) as (λ _. info_in (files_of now) name ≡ info_in (files_of items) name) [
        | inl same ↦ subst (λ n. info_in (files_of now) n ≡ info_in (files_of items) n) (same_text anchor_name name same) own
        | inr other ↦
            ap (option_map info) (same_item now items name (installed_other form items can.anchor name are.distinct can.anchor_there
            (λ same. names_differ anchor_name name other (sym same)) no_script))
      ];
      bytes = λ name no_script no_anchor. ap (λ o. option_map_or (λ (f : File). f.bytes) o [])
          (same_item now items name (installed_other form items can.anchor name are.distinct can.anchor_there no_anchor no_script));
    }

pub front_same : (items : List Item) (places : List ℕ) → IsItems items → refusal items ≡ None → NameNoScript (commands_in items)
    → EndSame (run (files_of (installed items)) (commands_in items) places) (run (files_of items) (commands_in items) places)
front_same items places are none names =
    let form = form_there items none in
    let can = can_install items form.0 none form.1 in
    subst (λ now. EndSame (run (files_of now) (commands_in items) places) (run (files_of items) (commands_in items) places))
    (sym (installed_is items form.0 form.1))
    (run_same 0 (commands_in items) (opening (files_of (installed_as form.0 items)) places) (files_of items) names
    (each_free (commands_in items) can.free) (installed_alike form.0 items are can))
