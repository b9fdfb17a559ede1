-- Structures stand where the script of the items installed has placed them.
use Rattle.std.proofs.Common.{◌≡◌, ◌≢◌, ℕ, suc, ◌+◌, ◌^◌, ◌<◌, ◌≤◌, inl, inr, List, [], ◌∷◌, ◌++◌, length, Some, None, option_map, ap, sym, subst}
use Rattle.std.proofs.Common.{◌∙◌, arith}
use Rattle.std.specs.Option.{option_map_or}
use Rattle.std.specs.Str.{bytes_eq}
use Rattle.std.proofs.lemmas.Bool.{cases_Bool, cond-true, cond-false}
use Rattle.std.proofs.lemmas.Option.{same_Some, none-some}
use Rattle.vt_outside.specs.File.{File}
use Rattle.vt_bytes.specs.Numbers.{le}
use Rattle.vt_bytes.specs.Parts.{part}
use Rattle.vt_bytes.specs.View.{View, bytes_in}
use Rattle.cfg_directory.specs.declared.item.Item.{Item}
use Rattle.cfg_directory.specs.Items.{IsItems, named}
use Rattle.cfg_directory.specs.Files.{files_of}
use Rattle.cfg_directory.specs.SmbiosNames.{anchor_name, structures_name}
use Rattle.loader_script.specs.declared.entry.Entry.{Entry}
use Rattle.loader_script.specs.declared.entry.Entry.TheVariants.{Allocate, AddPointer, AddChecksum}
use Rattle.loader_script.specs.Run.{Placed, Progress, End, Done, file_of, placed_of, run, run_from, opening}
use Rattle.loader_script.proofs.Named.{find-map}
use Rattle.smbios_model.specs.declared.anchor.Anchor.{Anchor}
use Rattle.smbios_model.specs.declared.anchor.AnchorForm.{AnchorForm}
use Rattle.smbios_model.specs.declared.anchor.AnchorForm.TheVariants.{Smbios3, Smbios2}
use Rattle.smbios_model.specs.Anchor.{AnchorShown}
use Rattle.smbios_install.specs.Forms.{pointer_place, pointer_size}
use Rattle.smbios_install.specs.Commands.{sums, added, bytes_of, commands_in, LeaveBoth}
use Rattle.smbios_install.specs.Faults.{form_in, refusal}
use Rattle.smbios_install.specs.Installed.{installed_as, installed}
use Rattle.smbios_install.specs.Standing.{HoldsPlaced, HasInstalled}
use Rattle.smbios_install.proofs.Reasons.{CanInstall, can_install}
use Rattle.smbios_install.proofs.FormKnown.{IsOf, form_known}
use Rattle.smbios_install.proofs.Installed.{blanked, installed_anchor, installed_other, structures_are_other, structures_no_script}
use Rattle.smbios_install.proofs.AddedBehind.{installed_is}
use Rattle.smbios_install.proofs.Bytes.{summed}
use Rattle.smbios_install.proofs.Front.{front_leaves, done_behind}
use Rattle.smbios_install.proofs.Placed.{pointed, placed_on, summed_on, pointed_on}
use Rattle.smbios_install.proofs.Pointed.{blank_number, tells_place}
use Rattle.smbios_install.proofs.AnchorBytes.{stands_smbios3, stands_smbios2}
use Rattle.smbios_install.proofs.AnchorShown.{shown_smbios3, shown_smbios2}

-- ---- a placed file that is held

pub held_one : (view : View) (placed : List Placed) (name : List ℕ) (p : Placed) → HoldsPlaced view placed → placed_of placed name ≡ Some p
    → bytes_in view p.place (length p.bytes) ≡ Some p.bytes
held_one view [] name p holds found = absurd (none-some p found)
held_one view (q ∷ placed) name p holds found =
    elim (cases_Bool (bytes_eq q.name name)) as (λ _. bytes_in view p.place (length p.bytes) ≡ Some p.bytes) [
      | inl same ↦
          subst (λ (r : Placed). bytes_in view r.place (length r.bytes) ≡ Some r.bytes) (same_Some q p (sym (cond-true _ _ _ same) ∙ found)) holds.0
      | inr other ↦ held_one view placed name p holds.1 (sym (cond-false _ _ _ other) ∙ found)
    ]

-- ---- the sums

abbrev pub with_sums : AnchorForm → List ℕ → List ℕ
with_sums Smbios3 bytes = summed bytes 5 0 24
with_sums Smbios2 bytes = summed (summed bytes 0x15 0x10 15) 4 0 31

-- What stands at the end of the script.
pub record EndsSo (end : Progress) (anchor structures : Placed) : Type 0 where
  pub found : placed_of end.placed anchor_name ≡ Some anchor
  pub structures_found : placed_of end.placed structures_name ≡ Some structures

anchor_is_other : anchor_name ≢ structures_name
anchor_is_other same = structures_are_other (sym same)

-- once all is carried out
ended : (index : ℕ) (p end : Progress) (anchor structures : Placed) → run_from index [] p ≡ (Done, end) → EndsSo p anchor structures
    → EndsSo end anchor structures
ended index p end anchor structures ends so = subst (λ q. EndsSo q anchor structures) (ap (λ (e : End × Progress). e.1) ends) so

sums_end : (form : AnchorForm) (index : ℕ) (p end : Progress) (anchor structures : Placed) → EndsSo p anchor structures
    → run_from index (sums form) p ≡ (Done, end) → EndsSo end (record anchor { bytes = with_sums form anchor.bytes }) structures
sums_end Smbios3 index p end anchor structures so ends =
    let one = summed_on index anchor_name 5 0 24 [] p end anchor so.found ends in
    ended (suc index) one.next end (record anchor { bytes = with_sums Smbios3 anchor.bytes }) structures one.rest
    (record { found = one.found; structures_found = one.others structures_name anchor_is_other ∙ so.structures_found })
sums_end Smbios2 index p end anchor structures so ends =
    let one = summed_on index anchor_name 0x15 0x10 15 (AddChecksum anchor_name 4 0 31 ∷ []) p end anchor so.found ends in
    let two = summed_on (suc index) anchor_name 4 0 31 [] one.next end (record anchor { bytes = summed anchor.bytes 0x15 0x10 15 }) one.found one.rest in
    ended (suc (suc index)) two.next end (record anchor { bytes = with_sums Smbios2 anchor.bytes }) structures two.rest (record {
      found = two.found;
      structures_found = two.others structures_name anchor_is_other ∙ one.others structures_name anchor_is_other ∙ so.structures_found;
    })

-- ---- the added commands

-- the anchor as it is placed, with the place of the structures
abbrev placed_anchor : AnchorForm → List ℕ → ℕ → ℕ → Placed
placed_anchor form bytes place structures_place = record {
  name = anchor_name;
  place = place;
  bytes = with_sums form (pointed bytes (pointer_place form) (pointer_size form) structures_place);
}

abbrev placed_structures : List ℕ → ℕ → Placed
placed_structures bytes place = record { name = structures_name; place = place; bytes = bytes }

-- The added commands are done: the anchor's place and the structures', which the anchor tells.
pub record AddedDone (form : AnchorForm) (end : Progress) (anchor structures : File) : Type 0 where
  pub place : ℕ
  pub structures_place : ℕ
  pub fits : le (part anchor.bytes (pointer_place form) (pointer_size form)) + structures_place < 256 ^ pointer_size form
  pub so : EndsSo end (placed_anchor form anchor.bytes place structures_place) (placed_structures structures.bytes structures_place)

pub added_done : (form : AnchorForm) (index : ℕ) (p end : Progress) (anchor structures : File) → file_of p.files anchor_name ≡ Some anchor
    → file_of p.files structures_name ≡ Some structures → run_from index (added form) p ≡ (Done, end) → AddedDone form end anchor structures
added_done form index p end anchor structures anchor_there structures_there ends =
    let link : List Entry = AddPointer anchor_name structures_name (pointer_place form) (pointer_size form) ∷ sums form in
    let one = placed_on index structures_name 16 1 (Allocate anchor_name 16 2 ∷ link) p end structures structures_there ends in
    let anchor_still : file_of one.next.files anchor_name ≡ Some anchor = ap (λ (files : List File). file_of files anchor_name) one.files ∙ anchor_there in
    let two = placed_on (suc index) anchor_name 16 2 link one.next end anchor anchor_still one.rest in
    let s : Placed = record { name = structures_name; place = one.place; bytes = structures.bytes } in
    let d : Placed = record { name = anchor_name; place = two.place; bytes = anchor.bytes } in
    let s_found : placed_of two.next.placed structures_name ≡ Some s = two.others structures_name anchor_is_other ∙ one.found in
    let three = pointed_on (suc (suc index)) anchor_name structures_name (pointer_place form) (pointer_size form) (sums form) two.next end d s
    two.found s_found two.rest in
    record {
      place = two.place;
      structures_place = one.place;
      fits = three.fits;
      so = sums_end form (suc (suc (suc index))) three.changed.next end
          (record d { bytes = pointed anchor.bytes (pointer_place form) (pointer_size form) one.place }) s
          (record {
            found = three.changed.found;
            structures_found = three.changed.others structures_name anchor_is_other ∙ s_found;
          })
          three.changed.rest;
    }

-- ---- the anchor

-- the field of an address is in an anchor of its form
pub field_within : (form : AnchorForm) (bytes : List ℕ) → IsOf form bytes → pointer_place form + pointer_size form ≤ length bytes
field_within Smbios3 bytes is = let size = is.size in omega arith
field_within Smbios2 bytes is = let size = is.size in omega arith

anchor_stands : (form : AnchorForm) (view : View) (base place : ℕ) (bytes : List ℕ) → IsOf form bytes → place < 256 ^ pointer_size form
    → bytes_in view base (length (with_sums form (pointed (blanked form bytes) (pointer_place form) (pointer_size form) place)))
    ≡ Some (with_sums form (pointed (blanked form bytes) (pointer_place form) (pointer_size form) place))
    → (a : Anchor) × AnchorShown form view base a place
anchor_stands Smbios3 view base place bytes is fits there =
    shown_smbios3 view base (with_sums Smbios3 (pointed (blanked Smbios3 bytes) 0x10 8 place)) there place
    (stands_smbios3 bytes (pointed (blanked Smbios3 bytes) 0x10 8 place) place is
    (tells_place bytes 0x10 8 place (field_within Smbios3 bytes is) fits))
anchor_stands Smbios2 view base place bytes is fits there =
    shown_smbios2 view base (with_sums Smbios2 (pointed (blanked Smbios2 bytes) 0x18 4 place)) there place
    (stands_smbios2 bytes (pointed (blanked Smbios2 bytes) 0x18 4 place) place is
    (tells_place bytes 0x18 4 place (field_within Smbios2 bytes is) fits))

-- ---- the whole run

abbrev pub file_from : Item → File
file_from item = record { name = item.name; bytes = item.bytes; writable = item.writable }

pub file_named : (items : List Item) (name : List ℕ) (item : Item) → named items name ≡ Some item → file_of (files_of items) name ≡ Some (file_from item)
file_named items name item there = find-map file_from (λ (file : File). bytes_eq file.name name) items ∙ ap (option_map file_from) there

-- what a load of the files leaves
installed_as_stand : (items : List Item) (form : AnchorForm) (places : List ℕ) (end : Progress) (view : View) → IsItems items → CanInstall items form
    → run (files_of (installed_as form items)) (commands_in items ++ added form) places ≡ (Done, end) → LeaveBoth (commands_in items)
    → HoldsPlaced view end.placed → HasInstalled view end.placed items
installed_as_stand items form places end view are can ends leave holds =
    let files = files_of (installed_as form items) in
    let anchor : File = record { name = can.anchor.name; bytes = blanked form can.anchor.bytes; writable = can.anchor.writable } in
    let anchor_there : file_of files anchor_name ≡ Some anchor = file_named (installed_as form items) anchor_name _
    (installed_anchor form items can.anchor are.distinct can.anchor_there) in
    let structures_still = installed_other form items can.anchor structures_name are.distinct can.anchor_there structures_are_other structures_no_script in
    let structures_there : file_of files structures_name ≡ Some (file_from can.structures) =
    file_named (installed_as form items) structures_name can.structures (structures_still ∙ can.structures_there) in
    let behind = done_behind 0 (commands_in items) (added form) (opening files places) end ends in
    let left = front_leaves 0 (commands_in items) (opening files places) behind.between leave behind.first in
    let done = added_done form (0 + length (commands_in items)) behind.between end anchor (file_from can.structures) (left.anchor ∙ anchor_there)
    (left.structures ∙ structures_there) behind.rest in
    let is : IsOf form can.anchor.bytes = form_known can.anchor.bytes form can.formed in
    let within = field_within form can.anchor.bytes is in
    let fits : done.structures_place < 256 ^ pointer_size form =
    let number = blank_number can.anchor.bytes (pointer_place form) (pointer_size form) within in
    subst (λ n. n < 256 ^ pointer_size form) (ap (λ n. n + done.structures_place) number ∙ omega arith) done.fits in
    let blank = blanked form can.anchor.bytes in
    let anchor_placed = placed_anchor form blank done.place done.structures_place in
    let shown = anchor_stands form view done.place done.structures_place can.anchor.bytes is fits
    (held_one view end.placed anchor_name (placed_anchor form blank done.place done.structures_place) holds done.so.found) in
    let bytes : can.structures.bytes ≡ bytes_of items structures_name =
    sym (ap (λ o. option_map_or (λ (i : Item). i.bytes) o []) can.structures_there) in
    record {
      anchor = anchor_placed;
      found = done.so.found;
      installed = record {
        form = form;
        anchor = shown.0;
        structures = done.structures_place;
        stands = shown.1;
        there = subst (λ (bs : List ℕ). bytes_in view done.structures_place (length bs) ≡ Some bs) bytes
            (held_one view end.placed structures_name (placed_structures can.structures.bytes done.structures_place) holds done.so.structures_found);
      };
    }

pub installed_stand : (items : List Item) (form : AnchorForm) (places : List ℕ) (end : Progress) (view : View) → IsItems items
    → refusal items ≡ None → form_in items ≡ Some form → run (files_of (installed items)) (commands_in items ++ added form) places ≡ (Done, end)
    → LeaveBoth (commands_in items) → HoldsPlaced view end.placed → HasInstalled view end.placed items
installed_stand items form places end view are none formed ends leave holds =
    installed_as_stand items form places end view are (can_install items form none formed)
    (ap (λ (is : List Item). run (files_of is) (commands_in items ++ added form) places) (sym (installed_is items form formed)) ∙ ends) leave holds
