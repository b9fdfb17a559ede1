-- The item of a name, by its selector.
use Rattle.std.proofs.Common.{◌≡◌, ◌≢◌, ℕ, ◌==◌, false, inl, inr, List, [], ◌∷◌, Some, None, ap, sym, ◌∙◌}
use Rattle.std.specs.Str.{bytes_eq}
use Rattle.std.proofs.lemmas.Bool.{cases_Bool, cond-true, cond-false, eq-eqb, eqb-false}
use Rattle.std.proofs.lemmas.Option.{none-some, same_Some}
use Rattle.cfg_directory.specs.declared.item.Item.{Item}
use Rattle.cfg_directory.specs.Items.{AreDistinct, named, selected}
use Rattle.cfg_directory.proofs.OneMoreItem.{other_select}
use Rattle.loader_script.proofs.Named.{of_found}

-- the item of a name is the one of its selector
pub selected_named : (items : List Item) (name : List ℕ) (item : Item) → AreDistinct items → named items name ≡ Some item
    → selected items item.select ≡ Some item
selected_named [] name item distinct there = absurd (none-some item there)
selected_named (first ∷ items) name item distinct there =
    elim (cases_Bool (bytes_eq first.name name)) as (λ _. selected (first ∷ items) item.select ≡ Some item) [
      | inl same ↦
          let is : first ≡ item = same_Some first item (sym (cond-true _ _ _ same) ∙ there) in
          cond-true _ _ _ (eq-eqb first.select item.select (ap (λ (i : Item). i.select) is)) ∙ ap Some is
      | inr other ↦
          let later = sym (cond-false _ _ _ other) ∙ there in
          let apart : (item.select == first.select) ≡ false =
          of_found (λ (i : Item). (i.select == first.select) ≡ false) (λ (i : Item). bytes_eq i.name name) items item later distinct.1 in
          cond-false _ _ _ (other_select item.select first.select apart) ∙ selected_named items name item distinct.3 later
    ]

-- so one is there
pub selected_there : (items : List Item) (name : List ℕ) (item : Item) → named items name ≡ Some item → selected items item.select ≢ None
selected_there [] name item there none = absurd (none-some item there)
selected_there (first ∷ items) name item there none =
    elim (cases_Bool (first.select == item.select)) as (λ _. ⊥) [
      | inl its ↦ none-some first (sym none ∙ cond-true _ _ _ its)
      | inr differs ↦ elim (cases_Bool (bytes_eq first.name name)) as (λ _. ⊥) [
        | inl same ↦
            let is : first ≡ item = same_Some first item (sym (cond-true _ _ _ same) ∙ there) in
            eqb-false first.select item.select differs (ap (λ (i : Item). i.select) is)
        | inr other ↦ selected_there items name item (sym (cond-false _ _ _ other) ∙ there) (sym (cond-false _ _ _ differs) ∙ none)
      ]
    ]
