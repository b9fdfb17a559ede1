-- The item of a name, where items are changed by what keeps each one's name.
use Rattle.std.proofs.Common.{◌≡◌, ℕ, Bool, true, false, cond, List, [], ◌∷◌, map, find, Some, option_map, refl, ap, ◌∙◌}
use Rattle.std.specs.Str.{bytes_eq}
use Rattle.cfg_directory.specs.declared.item.Item.{Item}
use Rattle.cfg_directory.specs.Items.{named, with_bytes_at, with_bytes_behind}
use Rattle.cfg_directory.proofs.OneChanged.{changed_if, alike_if}
use Rattle.cfg_directory.proofs.BytesPut.{put_in, put_behind, put_alike, behind_alike}

-- the first image that passes a test is that of the first element whose image passes it
pub found_map : {A B : Type 0} (f : A → B) (test : B → Bool) (before : A → Bool) → ((x : A) → test (f x) ≡ before x) → (xs : List A)
    → find test (map f xs) ≡ option_map f (find before xs)
found_map f test before same [] = refl
found_map f test before same (x ∷ xs) =
    ap (λ passes. cond passes (Some (f x)) (find test (map f xs))) (same x)
    ∙ elim (before x) as (λ passes. cond passes (Some (f x)) (find test (map f xs)) ≡ option_map f (cond passes (Some x) (find before xs))) [
      | true ↦ refl
      | false ↦ found_map f test before same xs
    ]

-- The item of a name afterwards is the item before, changed.
pub named_changed : (change : Item → Item) → ((item : Item) → (change item).name ≡ item.name) → (items : List Item) (name : List ℕ)
    → named (map change items) name ≡ option_map change (named items name)
named_changed change keeps items name =
    let has_name : Item → Bool = λ item. bytes_eq item.name name in
    found_map change has_name has_name (λ item. ap (λ (n : List ℕ). bytes_eq n name) (keeps item)) items

-- With bytes put into it, or behind its own, it is changed exactly where it has the selector.
pub named_put : (items : List Item) (select offset : ℕ) (piece name : List ℕ)
    → named (with_bytes_at items select offset piece) name ≡ option_map (changed_if select (put_in offset piece)) (named items name)
named_put items select offset piece name =
    named_changed (changed_if select (put_in offset piece)) (alike_if (put_in offset piece) (put_alike offset piece) select).name items name

pub named_behind : (items : List Item) (select : ℕ) (piece name : List ℕ)
    → named (with_bytes_behind items select piece) name ≡ option_map (changed_if select (put_behind piece)) (named items name)
named_behind items select piece name =
    named_changed (changed_if select (put_behind piece)) (alike_if (put_behind piece) (behind_alike piece) select).name items name
