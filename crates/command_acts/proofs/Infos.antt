-- What the causes of a refusal need to know of files, item by item.
use Rattle.std.proofs.Common.{◌≡◌, ℕ, zero, suc, ◌+◌, ◌<◌, ◌≤◌, ◌^◌, List, [], ◌∷◌, ◌++◌, length, take, get_or, arith, refl, ap, ap₂, sym, ◌∙◌}
use Rattle.std.proofs.lemmas.List.{take_more}
use Rattle.std.proofs.lemmas.List.Sums.{sum_by-cons}
use Rattle.cfg_directory.specs.declared.item.Item.{Item}
use Rattle.cfg_directory.specs.Items.{IsItems, total_size}
use Rattle.loader_script.specs.declared.refusing.FileInfo.{FileInfo}
use Rattle.loader_script.specs.Run.{infos_of}
use Rattle.cfg_directory.specs.Files.{files_of}

-- an item has no more bytes than all
size_within : (items : List Item) (i : ℕ) (item : Item) → i < length items → item ≡ get_or items i item → length item.bytes ≤ total_size items
size_within [] i item within is = absurd (omega (arith, within))
size_within (first ∷ items) zero item within is =
    let all : total_size (first ∷ items) ≡ length first.bytes + total_size items = sum_by-cons (λ (x : Item). length x.bytes) first items in
    omega (arith, ap (λ (x : Item). length x.bytes) is, all)
size_within (first ∷ items) (suc i) item within is =
    let all : total_size (first ∷ items) ≡ length first.bytes + total_size items = sum_by-cons (λ (x : Item). length x.bytes) first items in
    omega (arith, size_within items i item (omega (arith, within)) is, all)

pub size_small : (items : List Item) (i : ℕ) (item : Item) → IsItems items → i < length items → item ≡ get_or items i item → length item.bytes < 2 ^ 32
size_small items i item are within is = omega (arith, size_within items i item within is, are.small)

-- the infos of some items, and of one more
infos-more : (items : List Item) (item : Item)
    → infos_of (files_of (items ++ item ∷ [])) ≡ infos_of (files_of items)
    ++ record { name = item.name; size = length item.bytes; writable = item.writable } ∷ []
infos-more [] item = refl
infos-more (first ∷ items) item =
    ap (λ infos. record { name = first.name; size = length first.bytes; writable = first.writable } ∷ infos) (infos-more items item)

pub one_more : (items : List Item) (i : ℕ) (item : Item) (infos : List FileInfo) (info : FileInfo) → i < length items → item ≡ get_or items i item
    → infos ≡ infos_of (files_of (take i items)) → info ≡ record { name = item.name; size = length item.bytes; writable = item.writable }
    → infos ++ info ∷ [] ≡ infos_of (files_of (take (i + 1) items))
one_more items i item infos info within is before one =
    ap₂ (λ xs x. xs ++ x ∷ []) before one ∙ sym (infos-more (take i items) item)
    ∙ ap (λ x. infos_of (files_of (take i items ++ x ∷ []))) is ∙ ap (λ xs. infos_of (files_of xs)) (sym (take_more items i item within))
