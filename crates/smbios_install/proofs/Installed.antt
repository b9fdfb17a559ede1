-- The items of a device with their files installed, by name.
use Rattle.std.proofs.Common.{◌≡◌, ◌≢◌, ℕ, ◌==◌, false, inl, inr, List, [], ◌∷◌, ◌++◌, length, replicate, slice_index, Option}
use Rattle.std.proofs.Common.{Some, None, option_map, refl, ap, sym, subst, ◌∙◌}
use Rattle.std.specs.Option.{option_map_or}
use Rattle.std.specs.Str.{bytes_eq}
use Rattle.std.proofs.lemmas.Bool.{cases_Bool, cond-true, cond-false, eq-eqb, true≢false}
use Rattle.std.proofs.lemmas.Option.{same_Some, none-some}
use Rattle.vt_outside.proofs.Texts.{same_text, text_itself, other_text}
use Rattle.vt_bytes.specs.Parts.{put_at}
use Rattle.cfg_directory.specs.declared.item.Item.{Item}
use Rattle.cfg_directory.specs.Items.{AreDistinct, named}
use Rattle.cfg_directory.specs.SmbiosNames.{anchor_name, structures_name}
use Rattle.cfg_directory.proofs.OneMoreItem.{other_select}
use Rattle.cfg_directory.proofs.OneChanged.{changed_if}
use Rattle.cfg_directory.proofs.BytesPut.{put_in, put_behind}
use Rattle.cfg_directory.proofs.ItemsByName.{named_put, named_behind}
use Rattle.loader_script.proofs.Named.{of_found}
use Rattle.loader_script.specs.LoaderName.{loader_name}
use Rattle.smbios_model.specs.declared.anchor.AnchorForm.{AnchorForm}
use Rattle.smbios_install.specs.Forms.{pointer_place, pointer_size}
use Rattle.smbios_install.specs.Commands.{added_bytes}
use Rattle.smbios_install.specs.Selectors.{next_select}
use Rattle.smbios_install.specs.Installed.{select_of, with_blank_pointer, with_script, with_commands, installed_as}
use Rattle.smbios_install.proofs.Found.{find-last, find-before}

-- items of two names have two selectors
selects_differ : (items : List Item) (a b : List ℕ) (x y : Item) → AreDistinct items → a ≢ b → named items a ≡ Some x → named items b ≡ Some y
    → (x.select == y.select) ≡ false
selects_differ [] a b x y distinct differ x_there y_there = absurd (none-some x x_there)
selects_differ (first ∷ items) a b x y distinct differ x_there y_there =
    elim (cases_Bool (bytes_eq first.name a)) as (λ _. (x.select == y.select) ≡ false) [
      | inl is_a ↦ elim (cases_Bool (bytes_eq first.name b)) as (λ _. (x.select == y.select) ≡ false) [
        | inl is_b ↦ absurd (differ (sym (same_text first.name a is_a) ∙ same_text first.name b is_b))
        | inr not_b ↦
            let x_is : first ≡ x = same_Some first x (sym (cond-true _ _ _ is_a) ∙ x_there) in
            let apart : (y.select == first.select) ≡ false = of_found (λ (i : Item). (i.select == first.select) ≡ false) (λ (i : Item). bytes_eq i.name b)
            items y (sym (cond-false _ _ _ not_b) ∙ y_there) distinct.1 in
            other_select y.select x.select (subst (λ (i : Item). (y.select == i.select) ≡ false) x_is apart)
      ]
      | inr not_a ↦ elim (cases_Bool (bytes_eq first.name b)) as (λ _. (x.select == y.select) ≡ false) [
        | inl is_b ↦
            let y_is : first ≡ y = same_Some first y (sym (cond-true _ _ _ is_b) ∙ y_there) in
            let apart : (x.select == first.select) ≡ false = of_found (λ (i : Item). (i.select == first.select) ≡ false) (λ (i : Item). bytes_eq i.name a)
            items x (sym (cond-false _ _ _ not_a) ∙ x_there) distinct.1 in
            subst (λ (i : Item). (x.select == i.select) ≡ false) y_is apart
        | inr not_b ↦
            selects_differ items a b x y distinct.3 differ (sym (cond-false _ _ _ not_a) ∙ x_there) (sym (cond-false _ _ _ not_b) ∙ y_there)
      ]
    ]

-- an item of a selector is changed
changed_own : (change : Item → Item) (select : ℕ) (found : Option Item) (item : Item) → found ≡ Some item → item.select ≡ select
    → option_map (changed_if select change) found ≡ Some (change item)
changed_own change select found item there its =
    ap (option_map (changed_if select change)) there ∙ ap Some (cond-true _ (change item) item (eq-eqb item.select select its))

-- and stays where it has another
abbrev IsOthers : ℕ → Option Item → Type 0
IsOthers select None = Unit {0}
IsOthers select (Some item) = (item.select == select) ≡ false

changed_other : (change : Item → Item) (select : ℕ) (found : Option Item) → IsOthers select found → option_map (changed_if select change) found ≡ found
changed_other change select None others = refl
changed_other change select (Some item) others = ap Some (cond-false _ (change item) item others)

-- an item of another name has another selector
others_of : (items : List Item) (a name : List ℕ) (x : Item) (found : Option Item) → AreDistinct items → name ≢ a → named items a ≡ Some x
    → named items name ≡ found → IsOthers x.select found
others_of items a name x None distinct differ there is = tt
others_of items a name x (Some y) distinct differ there is = selects_differ items name a y x distinct differ is there

-- ---- the anchor with its address blanked

-- the bytes of an anchor of a form with zeros where it has the address
abbrev pub blanked : AnchorForm → List ℕ → List ℕ
blanked form bytes = put_at bytes (pointer_place form) (replicate (pointer_size form) 0)

-- zeros are put there
abbrev zeros : AnchorForm → List ℕ
zeros form = replicate (pointer_size form) 0

select_is : (items : List Item) (name : List ℕ) (item : Item) → named items name ≡ Some item → select_of items name ≡ item.select
select_is items name item there = ap (λ o. option_map_or (λ (i : Item). i.select) o 0) there

pub blank_anchor : (form : AnchorForm) (items : List Item) (anchor : Item) → named items anchor_name ≡ Some anchor
    → named (with_blank_pointer form items) anchor_name ≡ Some (record anchor { bytes = blanked form anchor.bytes })
blank_anchor form items anchor there =
    let select = select_of items anchor_name in
    named_put items select (pointer_place form) (zeros form) anchor_name
    ∙ changed_own (put_in (pointer_place form) (zeros form)) select (named items anchor_name) anchor there (sym (select_is items anchor_name anchor there))

pub blank_other : (form : AnchorForm) (items : List Item) (anchor : Item) (name : List ℕ) → AreDistinct items → named items anchor_name ≡ Some anchor
    → name ≢ anchor_name → named (with_blank_pointer form items) name ≡ named items name
blank_other form items anchor name distinct there differ =
    let select = select_of items anchor_name in
    named_put items select (pointer_place form) (zeros form) name
    ∙ changed_other (put_in (pointer_place form) (zeros form)) select (named items name)
    (subst (λ s. IsOthers s (named items name)) (sym (select_is items anchor_name anchor there))
    (others_of items anchor_name name anchor (named items name) distinct differ there refl))

-- ---- commands behind the script

-- the script that is added
abbrev pub new_script : List Item → List ℕ → Item
new_script items bytes = record { name = loader_name; select = next_select items; writable = false; bytes = bytes }

pub script_new : (items : List Item) (bytes : List ℕ) → named items loader_name ≡ None
    → named (with_commands bytes items) loader_name ≡ Some (new_script items bytes)
script_new items bytes none =
    ap (λ o. named (with_script items bytes o) loader_name) none
    ∙ find-last (λ (i : Item). bytes_eq i.name loader_name) items (new_script items bytes) none (text_itself loader_name)

pub script_longer : (items : List Item) (bytes : List ℕ) (script : Item) → named items loader_name ≡ Some script
    → named (with_commands bytes items) loader_name ≡ Some (record script { bytes = script.bytes ++ bytes })
script_longer items bytes script there =
    ap (λ o. named (with_script items bytes o) loader_name) there
    ∙ named_behind items script.select bytes loader_name ∙ changed_own (put_behind bytes) script.select (named items loader_name) script there refl

-- other items stay
other_stays : (items : List Item) (bytes name : List ℕ) (found : Option Item) → name ≢ loader_name → named items loader_name ≡ found
    → ((script : Item) → found ≡ Some script → IsOthers script.select (named items name))
    → named (with_script items bytes found) name ≡ named items name
other_stays items bytes name None differ there others =
    find-before (λ (i : Item). bytes_eq i.name name) items (new_script items bytes) (other_text loader_name name (λ same. differ (sym same)))
other_stays items bytes name (Some script) differ there others =
    named_behind items script.select bytes name ∙ changed_other (put_behind bytes) script.select (named items name) (others script refl)

commands_other : (items : List Item) (bytes name : List ℕ) → name ≢ loader_name
    → ((script : Item) → named items loader_name ≡ Some script → IsOthers script.select (named items name))
    → named (with_commands bytes items) name ≡ named items name
commands_other items bytes name differ others = other_stays items bytes name (named items loader_name) differ refl others

-- ---- both

pub loader_is_other : loader_name ≢ anchor_name
loader_is_other same = true≢false (ap (λ (name : List ℕ). length name == 16) same)

pub structures_are_other : structures_name ≢ anchor_name
structures_are_other same = true≢false (ap (λ (name : List ℕ). slice_index name 18 == 116) same)

pub structures_no_script : structures_name ≢ loader_name
structures_no_script same = true≢false (ap (λ (name : List ℕ). length name == 24) same)

pub installed_anchor : (form : AnchorForm) (items : List Item) (anchor : Item) → AreDistinct items → named items anchor_name ≡ Some anchor
    → named (installed_as form items) anchor_name ≡ Some (record anchor { bytes = blanked form anchor.bytes })
unfolding installed_as
installed_anchor form items anchor distinct there =
    let blanks = with_blank_pointer form items in
    let own = blank_anchor form items anchor there in
    commands_other blanks (added_bytes form) anchor_name (λ same. loader_is_other (sym same))
    (λ script is. subst (IsOthers script.select) (sym own)
    (selects_differ items anchor_name loader_name anchor script distinct (λ same. loader_is_other (sym same)) there
    (sym (blank_other form items anchor loader_name distinct there loader_is_other) ∙ is)))
    ∙ own

pub installed_other : (form : AnchorForm) (items : List Item) (anchor : Item) (name : List ℕ) → AreDistinct items → named items anchor_name ≡ Some anchor
    → name ≢ anchor_name → name ≢ loader_name → named (installed_as form items) name ≡ named items name
unfolding installed_as
installed_other form items anchor name distinct there no_anchor no_script =
    let blanks = with_blank_pointer form items in
    let own = blank_other form items anchor name distinct there no_anchor in
    commands_other blanks (added_bytes form) name no_script
    (λ script is. subst (IsOthers script.select) (sym own)
    (others_of items loader_name name script (named items name) distinct no_script
    (sym (blank_other form items anchor loader_name distinct there loader_is_other) ∙ is) refl))
    ∙ own

pub installed_new_script : (form : AnchorForm) (items : List Item) (anchor : Item) → AreDistinct items → named items anchor_name ≡ Some anchor
    → named items loader_name ≡ None
    → named (installed_as form items) loader_name ≡ Some (new_script (with_blank_pointer form items) (added_bytes form))
unfolding installed_as
installed_new_script form items anchor distinct there none =
    script_new (with_blank_pointer form items) (added_bytes form)
    (blank_other form items anchor loader_name distinct there loader_is_other ∙ none)

pub installed_longer_script : (form : AnchorForm) (items : List Item) (anchor script : Item) → AreDistinct items → named items anchor_name ≡ Some anchor
    → named items loader_name ≡ Some script
    → named (installed_as form items) loader_name ≡ Some (record script { bytes = script.bytes ++ added_bytes form })
unfolding installed_as
installed_longer_script form items anchor script distinct there some =
    script_longer (with_blank_pointer form items) (added_bytes form) script
    (blank_other form items anchor loader_name distinct there loader_is_other ∙ some)
