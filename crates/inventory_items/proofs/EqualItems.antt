-- Lists that are looked at item by item.
use Rattle.std.proofs.Common.{◌≡◌, ℕ, ◌<◌, List, length, get_or, map, ap, sym, ◌∙◌}
use Rattle.std.proofs.lemmas.List.{get_or-map}

-- where what is seen of all items of two lists is equal, so is what is seen of the items at one place
pub same_at : {A B : Type 0} (seen : A → B) (xs ys : List A) (k : ℕ) (x y : A) → map seen xs ≡ map seen ys → k < length xs → k < length ys
    → x ≡ get_or xs k x → y ≡ get_or ys k y → seen x ≡ seen y
same_at seen xs ys k x y same within within_other is also =
    ap seen is ∙ sym (get_or-map seen xs k x (seen x) within) ∙ ap (λ all. get_or all k (seen x)) same
    ∙ get_or-map seen ys k y (seen x) within_other ∙ ap seen (sym also)
