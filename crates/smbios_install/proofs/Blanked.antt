-- The items with the anchor's address blanked have their number, and as many bytes.
use Rattle.std.proofs.Common.{◌≡◌, ℕ, ◌+◌, ◌<◌, ◌≤◌, List, [], ◌∷◌, length, map, replicate, take, Option, Some, None, refl, ap, sym, subst, ◌∙◌, arith}
use Rattle.std.specs.Prelude.{IsSomeAnd}
use Rattle.std.specs.Option.{option_map_or}
use Rattle.std.proofs.lemmas.List.{length-replicate}
use Rattle.std.proofs.lemmas.List.Sums.{sum_by-cons}
use Rattle.std.proofs.lemmas.Option.{none-some}
use Rattle.cfg_directory.specs.declared.item.Item.{Item}
use Rattle.cfg_directory.specs.Items.{IsItems, named, selected, total_size, file_limit, bytes_limit}
use Rattle.cfg_directory.specs.Shapes.{Shape, shape_of, HaveOneShape}
use Rattle.cfg_directory.specs.SmbiosNames.{anchor_name}
use Rattle.cfg_directory.proofs.Shapes.{put_keeps_shape, same_length}
use Rattle.loader_script.specs.LoaderName.{loader_name}
use Rattle.smbios_model.specs.declared.anchor.AnchorForm.{AnchorForm}
use Rattle.smbios_model.specs.declared.anchor.AnchorForm.TheVariants.{Smbios3, Smbios2}
use Rattle.smbios_install.specs.Forms.{form_of, pointer_place, pointer_size}
use Rattle.smbios_install.specs.Commands.{added_bytes}
use Rattle.smbios_install.specs.Faults.{form_in, refusal}
use Rattle.smbios_install.specs.Installed.{select_of, with_blank_pointer}
use Rattle.smbios_install.proofs.BySelector.{selected_named}
use Rattle.smbios_install.proofs.FormKnown.{form_known}
use Rattle.smbios_install.proofs.Installed.{blank_other, loader_is_other}
use Rattle.smbios_install.proofs.Reasons.{CanInstall, can_install}
use Rattle.smbios_install.proofs.Standing.{field_within}

-- the anchor of items, where it is of a form
form_absent : (form : AnchorForm) → form_of [] ≡ Some form → ⊥
form_absent form is = none-some form is

pub anchor_of_form : (items : List Item) (form : AnchorForm) (found : Option Item) → named items anchor_name ≡ found → form_in items ≡ Some form
    → (anchor : Item) × (found ≡ Some anchor) × (form_of anchor.bytes ≡ Some form)
anchor_of_form items form None there formed =
    absurd (form_absent form (ap (λ (o : Option Item). form_of (option_map_or (λ (i : Item). i.bytes) o [])) (sym there) ∙ formed))
anchor_of_form items form (Some anchor) there formed =
    (anchor, refl, ap (λ (o : Option Item). form_of (option_map_or (λ (i : Item). i.bytes) o [])) (sym there) ∙ formed)

-- zeros fit where the address is
pub zeros_fit : (items : List Item) (form : AnchorForm) (anchor : Item) → IsItems items → named items anchor_name ≡ Some anchor
    → form_in items ≡ Some form
    → IsSomeAnd (selected items anchor.select) (λ (item : Item). pointer_place form + length (replicate {A = ℕ} (pointer_size form) 0) ≤ length item.bytes)
zeros_fit items form anchor are there formed =
    let is = anchor_of_form items form (Some anchor) there formed in
    let of_form : form_of anchor.bytes ≡ Some form =
    ap (λ (o : Option Item). form_of (option_map_or (λ (i : Item). i.bytes) o [])) (sym there) ∙ formed in
    let within = field_within form anchor.bytes (form_known anchor.bytes form of_form) in
    subst (λ (o : Option Item). IsSomeAnd o (λ (item : Item). pointer_place form + length (replicate {A = ℕ} (pointer_size form) 0) ≤ length item.bytes))
    (sym (selected_named items anchor_name anchor are.distinct there)) (omega (arith, length-replicate {A = ℕ} (pointer_size form) 0, within))

-- the zeros that are written
pub zeros_are : (form : AnchorForm) → take (pointer_size form) (replicate {A = ℕ} 8 0) ≡ replicate (pointer_size form) 0
zeros_are Smbios3 = refl
zeros_are Smbios2 = refl

one_shape : (items : List Item) (form : AnchorForm) (anchor : Item) → IsItems items → named items anchor_name ≡ Some anchor → form_in items ≡ Some form
    → HaveOneShape items (with_blank_pointer form items)
one_shape items form anchor are there formed =
    let select : select_of items anchor_name ≡ anchor.select = ap (λ o. option_map_or (λ (i : Item). i.select) o 0) there in
    put_keeps_shape items (select_of items anchor_name) (pointer_place form) (replicate (pointer_size form) 0)
    (subst (λ s. IsSomeAnd (selected items s)
    (λ (item : Item). pointer_place form + length (replicate {A = ℕ} (pointer_size form) 0) ≤ length item.bytes)) (sym select)
    (zeros_fit items form anchor are there formed)) are.distinct

-- items of one shape have as many bytes
sizes_in : List Shape → ℕ
sizes_in [] = 0
sizes_in (shape ∷ shapes) = shape.listed.size + sizes_in shapes

total_in : (items : List Item) → total_size items ≡ sizes_in (map shape_of items)
unfolding sizes_in
total_in [] = refl
total_in (item ∷ items) = omega (arith, sum_by-cons (λ (i : Item). length i.bytes) item items, total_in items)

same_total : (before after : List Item) → HaveOneShape before after → total_size after ≡ total_size before
same_total before after same = total_in after ∙ ap sizes_in same ∙ sym (total_in before)

-- What is added stays within the limits.
pub record HasRoom (items : List Item) (form : AnchorForm) : Type 0 where
  pub some : 0 < length (with_blank_pointer form items)
  pub few : named (with_blank_pointer form items) loader_name ≡ None → length (with_blank_pointer form items) < file_limit
  pub small : total_size (with_blank_pointer form items) + length (added_bytes form) ≤ bytes_limit

some_items : (items : List Item) (anchor : Item) → named items anchor_name ≡ Some anchor → 0 < length items
some_items [] anchor there = absurd (none-some anchor there)
some_items (first ∷ items) anchor there = omega arith

pub has_room : (items : List Item) (form : AnchorForm) → IsItems items → refusal items ≡ None → form_in items ≡ Some form → HasRoom items form
has_room items form are none formed =
    let can : CanInstall items form = can_install items form none formed in
    let shape = one_shape items form can.anchor are can.anchor_there formed in
    let count : length (with_blank_pointer form items) ≡ length items = same_length items (with_blank_pointer form items) shape in
    let total : total_size (with_blank_pointer form items) ≡ total_size items = same_total items (with_blank_pointer form items) shape in
    let small = can.small in
    record {
      some = omega (arith, some_items items can.anchor can.anchor_there);
      few = λ absent.
          let few = can.few (sym (blank_other form items can.anchor loader_name are.distinct can.anchor_there loader_is_other) ∙ absent) in omega arith;
      small = omega arith;
    }
