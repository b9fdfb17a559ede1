-- Items of one shape, which differ in their bytes at most.
use Rattle.std.proofs.Common.{◌≡◌, ℕ, ◌+◌, ◌≤◌, Bool, List, [], ◌∷◌, length, map, find, Option, Some, None}
use Rattle.std.proofs.Common.{option_map, inl, inr, sym, refl, ap, ap₂, subst, ◌∙◌}
use Rattle.std.specs.Prelude.{IsSomeAnd}
use Rattle.std.specs.Str.{bytes_eq}
use Rattle.std.proofs.lemmas.Bool.{eqb-true, cond-true, cond-false, cases_Bool}
use Rattle.std.proofs.lemmas.List.{length-map}
use Rattle.std.proofs.lemmas.Option.{none-some, same_Some}
use Rattle.std.proofs.lemmas.Simd.{map-map}
use Rattle.vt_bytes.proofs.PutAt.{length-put_at}
use Rattle.cfg_directory.specs.declared.item.Item.{Item}
use Rattle.cfg_directory.specs.declared.listed.Listed.{Listed}
use Rattle.cfg_directory.specs.Items.{HasNoSelect, AreDistinct, named, selected, with_bytes_at}
use Rattle.cfg_directory.specs.Listing.{listed_of}
use Rattle.cfg_directory.specs.Shapes.{Shape, shape_of, HaveOneShape}
use Rattle.cfg_directory.proofs.OneChanged.{has}
use Rattle.cfg_directory.proofs.BytesPut.{put_in, none_put}
use Rattle.cfg_directory.proofs.ItemsByName.{found_map}

-- ---- bytes that are put into a file

-- an item keeps its shape where bytes that fit are put into it
shape-put_in : (item : Item) (offset : ℕ) (piece : List ℕ) → offset + length piece ≤ length item.bytes
    → shape_of (put_in offset piece item) ≡ shape_of item
shape-put_in item offset piece fits =
    let sized : ℕ → Shape = λ size. record { listed = record { name = item.name; select = item.select; size = size }; writable = item.writable } in
    ap sized (length-put_at item.bytes offset piece fits)

-- items keep their shape where bytes are put into the one of a selector, and fit in it
pub put_keeps_shape : (items : List Item) (select offset : ℕ) (piece : List ℕ)
    → IsSomeAnd (selected items select) (λ (item : Item). offset + length piece ≤ length item.bytes) → AreDistinct items
    → HaveOneShape items (with_bytes_at items select offset piece)
put_keeps_shape [] select offset piece fits distinct = refl
put_keeps_shape (first ∷ items) select offset piece fits distinct =
    let put = put_in offset piece first in
    let FitsIn : Option Item → Type 0 = λ o. IsSomeAnd o (λ (item : Item). offset + length piece ≤ length item.bytes) in
    let more : Shape → List Shape → List Shape = λ shape shapes. shape ∷ shapes in
    elim (cases_Bool (has select first)) as (λ _. HaveOneShape (first ∷ items) (with_bytes_at (first ∷ items) select offset piece)) [
      | inl its ↦
          let here = subst FitsIn (cond-true (has select first) (Some first) (selected items select) its) fits in
          let none = subst (HasNoSelect items) (eqb-true first.select select its) distinct.1 in
          ap₂ more (ap shape_of (cond-true (has select first) put first its) ∙ shape-put_in first offset piece here)
          (ap (map shape_of) (none_put items select offset piece none))
      | inr other ↦
          let later = subst FitsIn (cond-false (has select first) (Some first) (selected items select) other) fits in
          ap₂ more (ap shape_of (cond-false (has select first) put first other)) (put_keeps_shape items select offset piece later distinct.3)
    ]

-- ---- items of one shape

-- their directories list the same
pub same_listed : (before after : List Item) → HaveOneShape before after → listed_of after ≡ listed_of before
same_listed before after same =
    let listed : Shape → Listed = λ shape. shape.listed in
    sym (map-map listed shape_of after) ∙ ap (map listed) same ∙ map-map listed shape_of before

-- they are as many
pub same_length : (before after : List Item) → HaveOneShape before after → length after ≡ length before
same_length before after same = sym (length-map after shape_of) ∙ ap length same ∙ length-map before shape_of

-- the first shape that passes a test is that of the first item whose shape passes it
shape_found : (test : Shape → Bool) (items : List Item)
    → find test (map shape_of items) ≡ option_map shape_of (find (λ (item : Item). test (shape_of item)) items)
shape_found test = found_map shape_of test (λ item. test (shape_of item)) (λ item. refl)

-- an item is there where its shape is
shape_there : (o : Option Item) (shape : Shape) → option_map shape_of o ≡ Some shape → (item : Item) × (o ≡ Some item) × (shape_of item ≡ shape)
shape_there None shape is = absurd (none-some shape is)
shape_there (Some item) shape is = (item, refl, same_Some (shape_of item) shape is)

-- the first item whose shape passes a test has one shape in both
same_found : (test : Shape → Bool) (before after : List Item) (item : Item) → HaveOneShape before after
    → find (λ (i : Item). test (shape_of i)) before ≡ Some item
    → (now : Item) × (find (λ (i : Item). test (shape_of i)) after ≡ Some now) × (shape_of now ≡ shape_of item)
same_found test before after item same found =
    shape_there (find (λ (i : Item). test (shape_of i)) after) (shape_of item)
    (sym (shape_found test after) ∙ ap (find test) same ∙ shape_found test before ∙ ap (option_map shape_of) found)

-- the item of a name has one shape in both
pub same_named : (before after : List Item) (name : List ℕ) (item : Item) → HaveOneShape before after → named before name ≡ Some item
    → (now : Item) × (named after name ≡ Some now) × (shape_of now ≡ shape_of item)
same_named before after name item same found = same_found (λ (shape : Shape). bytes_eq shape.listed.name name) before after item same found
