-- Bytes are the template of one list of items, and no template is the front of another.
use Rattle.std.proofs.Common.{◌≡◌, ℕ, ◌<◌, List, [], ◌∷◌, ◌++◌, length, refl, sym, ap, ap₂, ◌∙◌, subst, arith, append_assoc, append-nil}
use Rattle.std.specs.List.{AllByRecursion, flat_map}
use Rattle.std.proofs.lemmas.List.{append_cancel_left, append_cancel_right}
use Rattle.aml_terms.proofs.PrefixFree.{IsPrefixFree, InTurn, one_list}
use Rattle.resource_items.specs.declared.resource_item.ResourceItem.{ResourceItem}
use Rattle.resource_items.specs.Templates.{FitsItem, item_bytes, end_tag, template_of}
use Rattle.resource_items.proofs.ReadItems.{not_empty, not_end}
use Rattle.resource_items.proofs.OneItem.{same_item, same_bytes}

-- these bytes are those of an item that fits
abbrev IsItem : ResourceItem → List ℕ → Type 0
IsItem item bytes = FitsItem item × (bytes ≡ item_bytes item)

some : (item : ResourceItem) (bytes : List ℕ) → IsItem item bytes → 0 < length bytes
some item [] is = absurd (not_empty item [] is.0 (is.1 ∙ sym (append-nil (item_bytes item))))
some item (byte ∷ bytes) is = omega arith

free : IsPrefixFree IsItem
free = record {
  some = some;
  same = λ a b first second x y is also same. same_item a b x y is.0 also.0 (ap (λ bytes. bytes ++ x) (sym is.1) ∙ same ∙ ap (λ bytes. bytes ++ y) also.1);
  whole =
      λ a b first second x y is also same.
      is.1 ∙ same_bytes a b x y is.0 also.0 (ap (λ bytes. bytes ++ x) (sym is.1) ∙ same ∙ ap (λ bytes. bytes ++ y) also.1) ∙ sym also.1;
}

in_turn : (items : List ResourceItem) → AllByRecursion FitsItem items → InTurn IsItem items (flat_map item_bytes items)
in_turn [] fit = refl
in_turn (item ∷ items) fit = (item_bytes item, flat_map item_bytes items, refl, (fit.0, refl), in_turn items fit.1)

pub one_template : (items others : List ResourceItem) → AllByRecursion FitsItem items → AllByRecursion FitsItem others
    → template_of items ≡ template_of others → items ≡ others
one_template items others fit fit_also same =
    let bytes : flat_map item_bytes items ≡ flat_map item_bytes others =
    append_cancel_right (flat_map item_bytes items) (flat_map item_bytes others) end_tag same in
    one_list IsItem free items others (flat_map item_bytes items) (in_turn items fit)
    (subst (InTurn IsItem others) (sym bytes) (in_turn others fit_also))

-- one item in front of a template
with_first : (item : ResourceItem) (items : List ResourceItem) → template_of (item ∷ items) ≡ item_bytes item ++ template_of items
with_first item items = append_assoc (item_bytes item) (flat_map item_bytes items) end_tag

with_more : (item : ResourceItem) (items : List ResourceItem) (more : List ℕ)
    → template_of (item ∷ items) ++ more ≡ item_bytes item ++ (template_of items ++ more)
with_more item items more = ap (λ bytes. bytes ++ more) (with_first item items) ∙ append_assoc (item_bytes item) (template_of items) more

pub whole_template : (items others : List ResourceItem) (x y : List ℕ) → AllByRecursion FitsItem items → AllByRecursion FitsItem others
    → template_of items ++ x ≡ template_of others ++ y → template_of items ≡ template_of others
whole_template [] [] x y fit fit_also same = refl
whole_template [] (b ∷ others) x y fit fit_also same = absurd (not_end b x (template_of others ++ y) fit_also.0 (same ∙ with_more b others y))
whole_template (a ∷ items) [] x y fit fit_also same = absurd (not_end a y (template_of items ++ x) fit.0 (sym same ∙ with_more a items x))
whole_template (a ∷ items) (b ∷ others) x y fit fit_also same =
    let both : item_bytes a ++ (template_of items ++ x) ≡ item_bytes b ++ (template_of others ++ y) =
    sym (with_more a items x) ∙ same ∙ with_more b others y in
    let head : a ≡ b = same_item a b (template_of items ++ x) (template_of others ++ y) fit.0 fit_also.0 both in
    let after : template_of items ++ x ≡ template_of others ++ y =
    append_cancel_left (item_bytes b) (template_of items ++ x) (template_of others ++ y)
    (ap (λ item. item_bytes item ++ (template_of items ++ x)) (sym head) ∙ both) in
    let tail : template_of items ≡ template_of others = whole_template items others x y fit.1 fit_also.1 after in
    with_first a items ∙ ap₂ (λ item bytes. item_bytes item ++ bytes) head tail ∙ sym (with_first b others)
