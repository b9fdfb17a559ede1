-- What items hold, and that bytes written into a file leave the length of each.
use Rattle.std.proofs.Common.{Option, None, ◌≡◌, ◌≢◌, ℕ, ◌≤◌, ◌==◌, List, [], ◌∷◌, length, Some}
use Rattle.std.proofs.Common.{inl, inr, arith, sym, refl, ap, subst, ◌∙◌}
use Rattle.std.specs.Option.{option_map_or}
use Rattle.std.proofs.lemmas.Bool.{cases_Bool, cond-true, cond-false, ne_eqb}
use Rattle.std.proofs.lemmas.List.Sums.{sum_by-cons}
use Rattle.std.proofs.lemmas.Option.{none-some, same_Some}
use Rattle.cfg_directory.specs.declared.item.Item.{Item}
use Rattle.cfg_directory.specs.Items.{total_size, selected, directory_of}
use Rattle.cfg_dma.specs.Device.{contents, bytes_of, signature, features}

-- a file is no larger than all of them
pub file_small : (items : List Item) (select : ℕ) (item : Item) → selected items select ≡ Some item → length item.bytes ≤ total_size items
file_small [] select item is = absurd (none-some item is)
file_small (first ∷ items) select item is =
    let sum = sum_by-cons (λ (i : Item). length i.bytes) first items in
    elim (cases_Bool (first.select == select)) as (λ _. length item.bytes ≤ total_size (first ∷ items)) [
      | inl its ↦
          let same : first ≡ item = same_Some first item (sym (cond-true (first.select == select) (Some first) (selected items select) its) ∙ is) in
          omega (arith, sum, ap (λ (i : Item). length i.bytes) same)
      | inr other ↦
          let rest = file_small items select item (sym (cond-false (first.select == select) (Some first) (selected items select) other) ∙ is) in
          omega (arith, sum, rest)
    ]

bytes_below : (o : Option Item) (total : ℕ) → ((item : Item) → o ≡ Some item → length item.bytes ≤ total)
    → length (option_map_or (λ (item : Item). item.bytes) o []) ≤ total
bytes_below None total each = omega arith
bytes_below (Some item) total each = each item refl

pub bytes_small : (items : List Item) (select : ℕ) → length (bytes_of items select) ≤ total_size items
bytes_small items select = bytes_below (selected items select) (total_size items) (file_small items select)

-- which item a selector names
pub contents-signature : (items : List Item) (select : ℕ) → select ≡ 0x0000 → signature ≡ contents items select
unfolding contents
contents-signature items select is = subst (λ s. signature ≡ contents items s) (sym is) refl

pub contents-features : (items : List Item) (select : ℕ) → select ≡ 0x0001 → features ≡ contents items select
unfolding contents
contents-features items select is = subst (λ s. features ≡ contents items s) (sym is) refl

pub contents-directory : (items : List Item) (select : ℕ) → select ≡ 0x0019 → directory_of items ≡ contents items select
unfolding contents
contents-directory items select is = subst (λ s. directory_of items ≡ contents items s) (sym is) refl

pub contents-file : (items : List Item) (select : ℕ) → select ≢ 0x0000 → select ≢ 0x0001 → select ≢ 0x0019 → bytes_of items select ≡ contents items select
unfolding contents
contents-file items select not0 not1 not25 =
    sym (cond-false (select == 0x0000) _ _ (ne_eqb select 0x0000 not0)
    ∙ cond-false (select == 0x0001) _ _ (ne_eqb select 0x0001 not1)
    ∙ cond-false (select == 0x0019) _ _ (ne_eqb select 0x0019 not25))
