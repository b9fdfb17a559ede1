-- Bytes that were kept of files that may be written, and are put back.
use Rattle.std.proofs.Common.{◌≡◌, ℕ, zero, suc, ◌+◌, ◌≤◌, ◌<◌, ◌==◌, true, false, cond, List, [], ◌∷◌, ◌++◌, length, take, Option, Some}
use Rattle.std.proofs.Common.{slice_set, get_or, inl, inr, arith, add-one, sym, refl, ap, ap₂, subst, ◌∙◌}
use Rattle.std.specs.Prelude.{IsSomeAnd}
use Rattle.std.specs.List.{flat_map, slice_get}
use Rattle.std.specs.Str.{bytes_eq}
use Rattle.std.proofs.lemmas.Bool.{cond-true, cond-false, cases_Bool, cond_both, eqb-true}
use Rattle.std.proofs.lemmas.List.Sums.{sum_by-cons}
use Rattle.std.proofs.lemmas.Option.{none-some, same_Some, slice_get_read}
use Rattle.vt_bytes.specs.Numbers.{be_bytes}
use Rattle.vt_layout.specs.Rows.{spelled}
use Rattle.cfg_directory.specs.declared.item.Item.{Item}
use Rattle.cfg_directory.specs.Items.{IsItems, HasNoName, HasNoSelect, AreDistinct, total_size, selected, with_bytes_at, directory_of, entry_rows, entry_bytes}
use Rattle.cfg_directory.specs.Restored.{AreKept, kept_bytes, kept_of, restored, restored_item}
use Rattle.vt_bytes.proofs.PutAt.{length-put_at}
use Rattle.cfg_directory.proofs.OneChanged.{has}
use Rattle.cfg_directory.proofs.BytesPut.{put_in, none_put}

-- ---- what is kept restores

kept_again : (item : Item) → restored_item item (kept_bytes item) ≡ item
kept_again item =
    elim (item.writable) as (λ w. cond w (record item { bytes = cond w item.bytes [] }) item ≡ item) [ true ↦ refl | false ↦ refl ]

pub kept_restores : (items : List Item) → restored items (kept_of items) ≡ items
kept_restores [] = refl
kept_restores (item ∷ items) = ap₂ (λ (i : Item) (is : List Item). i ∷ is) (kept_again item) (kept_restores items)

pub kept_fits : (items : List Item) → AreKept items (kept_of items)
kept_fits [] = tt
kept_fits (item ∷ items) = (λ writable. ap length (cond-true item.writable item.bytes [] writable), kept_fits items)

-- ---- a write

-- an item that may be written, with bytes put into it
put_back : (item : Item) (offset : ℕ) (piece bytes : List ℕ) → item.writable ≡ true → restored_item (put_in offset piece item) bytes ≡ restored_item item bytes
put_back item offset piece bytes writable =
    cond-true item.writable (record item { bytes = bytes }) (put_in offset piece item) writable
    ∙ sym (cond-true item.writable (record item { bytes = bytes }) item writable)

record IsTakenBack (items : List Item) (kept : List (List ℕ)) (now : List Item) : Type 0 where
  fits : AreKept now kept
  same : restored now kept ≡ restored items kept

write_taken_back : (items : List Item) (kept : List (List ℕ)) (select offset : ℕ) (piece : List ℕ)
    → IsSomeAnd (selected items select) (λ (item : Item). offset + length piece ≤ length item.bytes)
    → IsSomeAnd (selected items select) (λ (item : Item). item.writable ≡ true) → AreDistinct items → AreKept items kept
    → IsTakenBack items kept (with_bytes_at items select offset piece)
write_taken_back [] kept select offset piece fits writable distinct are = record { fits = are; same = refl }
write_taken_back (first ∷ items) [] select offset piece fits writable distinct are = absurd are
write_taken_back (first ∷ items) (bytes ∷ kept) select offset piece fits writable distinct are =
    let put = put_in offset piece first in
    let later = with_bytes_at items select offset piece in
    let Fits : Option Item → Type 0 = λ o. IsSomeAnd o (λ (item : Item). offset + length piece ≤ length item.bytes) in
    let MayWrite : Option Item → Type 0 = λ o. IsSomeAnd o (λ (item : Item). item.writable ≡ true) in
    elim (cases_Bool (has select first)) as (λ _. IsTakenBack (first ∷ items) (bytes ∷ kept) (with_bytes_at (first ∷ items) select offset piece)) [
      | inl its ↦
          let here = subst Fits (cond-true (has select first) (Some first) (selected items select) its) fits in
          let may = subst MayWrite (cond-true (has select first) (Some first) (selected items select) its) writable in
          let none = subst (HasNoSelect items) (eqb-true first.select select its) distinct.1 in
          let head = cond-true (has select first) put first its in
          let rest = none_put items select offset piece none in
          subst (λ (is : List Item). IsTakenBack (first ∷ items) (bytes ∷ kept) is)
          (sym (ap₂ (λ (i : Item) (is : List Item). i ∷ is) head rest))
          (record {
            fits = (λ w. are.0 w ∙ sym (length-put_at first.bytes offset piece here), are.1);
            same = ap (λ (i : Item). i ∷ restored items kept) (put_back first offset piece bytes may);
          })
      | inr other ↦
          let fits_later = subst Fits (cond-false (has select first) (Some first) (selected items select) other) fits in
          let may_later = subst MayWrite (cond-false (has select first) (Some first) (selected items select) other) writable in
          let head = cond-false (has select first) put first other in
          let rest = write_taken_back items kept select offset piece fits_later may_later distinct.3 are.1 in
          subst (λ (i : Item). IsTakenBack (first ∷ items) (bytes ∷ kept) (i ∷ later)) (sym head)
          (record { fits = (are.0, rest.fits); same = ap (λ (is : List Item). restored_item first bytes ∷ is) rest.same })
    ]

pub write_fits_and_goes : (items : List Item) (kept : List (List ℕ)) (select offset : ℕ) (piece : List ℕ)
    → IsSomeAnd (selected items select) (λ (item : Item). offset + length piece ≤ length item.bytes)
    → IsSomeAnd (selected items select) (λ (item : Item). item.writable ≡ true) → AreDistinct items → AreKept items kept
    → AreKept (with_bytes_at items select offset piece) kept × (restored (with_bytes_at items select offset piece) kept ≡ restored items kept)
write_fits_and_goes items kept select offset piece fits writable distinct are =
    let back = write_taken_back items kept select offset piece fits writable distinct are in (back.fits, back.same)

-- ---- the loop

-- as many bytes as items
pub same_count : (items : List Item) (kept : List (List ℕ)) → AreKept items kept → length kept ≡ length items
same_count [] [] are = refl
same_count [] (bytes ∷ kept) are = absurd are
same_count (item ∷ items) [] are = absurd are
same_count (item ∷ items) (bytes ∷ kept) are = ap suc (same_count items kept are.1)

pub none_restored : (items : List Item) → restored items [] ≡ items
none_restored [] = refl
none_restored (item ∷ items) = refl

-- what stands at a place whose bytes weren't put back yet
pub still_there : (items : List Item) (kept : List (List ℕ)) (place : ℕ) (bytes : List ℕ) (item : Item) → AreKept items kept
    → slice_get kept place ≡ Some bytes → slice_get (restored items (take place kept)) place ≡ Some item
    → (item.writable ≡ true → length bytes ≡ length item.bytes)
    × (slice_set (restored items (take place kept)) place (restored_item item bytes) ≡ restored items (take (suc place) kept))
still_there [] [] place bytes item are kept at = absurd (none-some bytes kept)
still_there [] (first ∷ rest) place bytes item are kept at = absurd are
still_there (i ∷ is) [] place bytes item are kept at = absurd are
still_there (i ∷ is) (first ∷ rest) zero bytes item are kept at =
    let bytes_are : first ≡ bytes = same_Some first bytes kept in
    let item_is : i ≡ item = same_Some i item at in (
      subst (λ (i : Item). i.writable ≡ true → length bytes ≡ length i.bytes) item_is
          (subst (λ (b : List ℕ). i.writable ≡ true → length b ≡ length i.bytes) bytes_are are.0),
      ap₂ (λ (i : Item) (is : List Item). i ∷ is) (ap₂ restored_item (sym item_is) (sym bytes_are)) (sym (none_restored is)),
    )
still_there (i ∷ is) (first ∷ rest) (suc place) bytes item are kept at =
    let later = still_there is rest place bytes item are.1 kept at in
    (later.0, ap (λ (is : List Item). restored_item i first ∷ is) later.1)

-- ---- restored items are a device's

restored_name : (item : Item) (bytes : List ℕ) → (restored_item item bytes).name ≡ item.name
restored_name item bytes = cond_both item.writable (record item { bytes = bytes }) item (λ (i : Item). i.name ≡ item.name) (λ _. refl) (λ _. refl)

restored_select : (item : Item) (bytes : List ℕ) → (restored_item item bytes).select ≡ item.select
restored_select item bytes = cond_both item.writable (record item { bytes = bytes }) item (λ (i : Item). i.select ≡ item.select) (λ _. refl) (λ _. refl)

restored_length : (item : Item) (bytes : List ℕ) → (item.writable ≡ true → length bytes ≡ length item.bytes)
    → length (restored_item item bytes).bytes ≡ length item.bytes
restored_length item bytes fits =
    cond_both item.writable (record item { bytes = bytes }) item (λ (i : Item). length i.bytes ≡ length item.bytes) fits (λ _. refl)

restored_size : (items : List Item) (kept : List (List ℕ)) → AreKept items kept
    → (length (restored items kept) ≡ length items) × (total_size (restored items kept) ≡ total_size items)
restored_size [] kept are = (refl, refl)
restored_size (item ∷ items) [] are = (refl, refl)
restored_size (item ∷ items) (bytes ∷ kept) are =
    let rest = restored_size items kept are.1 in
    let size : Item → ℕ = λ item. length item.bytes in (
      ap suc rest.0,
      sum_by-cons size (restored_item item bytes) (restored items kept)
          ∙ ap₂ (λ a b. a + b) (restored_length item bytes are.0) rest.1
          ∙ sym (sum_by-cons size item items),
    )

none_named : (items : List Item) (kept : List (List ℕ)) (name : List ℕ) → HasNoName items name → HasNoName (restored items kept) name
none_named [] kept name none = tt
none_named (item ∷ items) [] name none = none
none_named (item ∷ items) (bytes ∷ kept) name none =
    (ap (λ (n : List ℕ). bytes_eq n name) (restored_name item bytes) ∙ none.0, none_named items kept name none.1)

none_selected : (items : List Item) (kept : List (List ℕ)) (select : ℕ) → HasNoSelect items select → HasNoSelect (restored items kept) select
none_selected [] kept select none = tt
none_selected (item ∷ items) [] select none = none
none_selected (item ∷ items) (bytes ∷ kept) select none =
    (ap (λ n. n == select) (restored_select item bytes) ∙ none.0, none_selected items kept select none.1)

restored_distinct : (items : List Item) (kept : List (List ℕ)) → AreDistinct items → AreDistinct (restored items kept)
restored_distinct [] kept distinct = tt
restored_distinct (item ∷ items) [] distinct = distinct
restored_distinct (item ∷ items) (bytes ∷ kept) distinct = (
  subst (HasNoName (restored items kept)) (sym (restored_name item bytes)) (none_named items kept item.name distinct.0),
  subst (HasNoSelect (restored items kept)) (sym (restored_select item bytes)) (none_selected items kept item.select distinct.1),
  subst (λ s. (0x20 ≤ s) × (s ≤ 0x3FFF)) (sym (restored_select item bytes)) distinct.2,
  restored_distinct items kept distinct.3,
)

pub restored_lawful : (items : List Item) (kept : List (List ℕ)) → AreKept items kept → IsItems items → IsItems (restored items kept)
restored_lawful items kept are lawful =
    let sizes = restored_size items kept are in
    record {
      few = omega (arith, sizes.0, lawful.few);
      small = omega (arith, sizes.1, lawful.small);
      distinct = restored_distinct items kept lawful.distinct;
    }

-- ---- the call's loop

-- what a round finds
pub round : (items now : List Item) (kept : List (List ℕ)) (place : ℕ) (bytes : List ℕ) (item : Item) → AreKept items kept → place < length kept
    → bytes ≡ get_or kept place bytes → now ≡ restored items (take place kept) → slice_get now place ≡ Some item
    → (item.writable ≡ true → length bytes ≡ length item.bytes)
    × (slice_set now place (restored_item item bytes) ≡ restored items (take (place + 1) kept))
round items now kept place bytes item are more read so_far at =
    let here : slice_get kept place ≡ Some bytes = slice_get_read kept (length kept) place bytes refl more read in
    let there = still_there items kept place bytes item are here (ap (λ (is : List Item). slice_get is place) (sym so_far) ∙ at) in (
      there.0,
      ap (λ (is : List Item). slice_set is place (restored_item item bytes)) so_far
          ∙ there.1
          ∙ ap (λ k. restored items (take k kept)) (sym (add-one place)),
    )

restored_count : (items : List Item) (kept : List (List ℕ)) → length (restored items kept) ≡ length items
restored_count [] kept = refl
restored_count (item ∷ items) [] = refl
restored_count (item ∷ items) (bytes ∷ kept) = ap suc (restored_count items kept)

pub place_within : (items now : List Item) (kept : List (List ℕ)) (place : ℕ) → AreKept items kept → place < length kept
    → now ≡ restored items (take place kept) → place < length now
place_within items now kept place are more so_far =
    omega (arith, same_count items kept are, ap length so_far, restored_count items (take place kept))

-- ---- restored once more

-- they are listed as before
restored_entry : (item : Item) (bytes : List ℕ) → (item.writable ≡ true → length bytes ≡ length item.bytes)
    → entry_bytes (restored_item item bytes) ≡ entry_bytes item
restored_entry item bytes fits =
    cond_both item.writable (record item { bytes = bytes }) item (λ (i : Item). entry_bytes i ≡ entry_bytes item)
    (λ writable. ap (λ size. spelled (entry_rows size item.select item.name)) (fits writable)) (λ _. refl)

restored_entries : (items : List Item) (kept : List (List ℕ)) → AreKept items kept
    → flat_map entry_bytes (restored items kept) ≡ flat_map entry_bytes items
restored_entries [] kept are = refl
restored_entries (item ∷ items) [] are = refl
restored_entries (item ∷ items) (bytes ∷ kept) are =
    ap₂ (λ (a : List ℕ) (b : List ℕ). a ++ b) (restored_entry item bytes are.0) (restored_entries items kept are.1)

pub restored_directory : (items : List Item) (kept : List (List ℕ)) → AreKept items kept → directory_of (restored items kept) ≡ directory_of items
restored_directory items kept are =
    ap₂ (λ (count : ℕ) (entries : List ℕ). be_bytes 4 count ++ entries) (restored_count items kept) (restored_entries items kept are)

-- a second time they stay
restored_item_again : (item : Item) (bytes : List ℕ) → restored_item (restored_item item bytes) bytes ≡ restored_item item bytes
restored_item_again item bytes =
    let back = record item { bytes = bytes } in
    cond_both item.writable back item (λ (i : Item). restored_item i bytes ≡ i) (λ writable. cond-true item.writable back back writable)
    (λ not. cond-false item.writable back item not)

pub restored_again : (items : List Item) (kept : List (List ℕ)) → restored (restored items kept) kept ≡ restored items kept
restored_again [] kept = refl
restored_again (item ∷ items) [] = refl
restored_again (item ∷ items) (bytes ∷ kept) =
    ap₂ (λ (i : Item) (is : List Item). i ∷ is) (restored_item_again item bytes) (restored_again items kept)

restored_fits : (item : Item) (bytes : List ℕ) → (item.writable ≡ true → length bytes ≡ length item.bytes)
    → (restored_item item bytes).writable ≡ true → length bytes ≡ length (restored_item item bytes).bytes
restored_fits item bytes fits =
    cond_both item.writable (record item { bytes = bytes }) item (λ (i : Item). i.writable ≡ true → length bytes ≡ length i.bytes)
    (λ _. λ _. refl) (λ _. fits)

pub kept_still : (items : List Item) (kept : List (List ℕ)) → AreKept items kept → AreKept (restored items kept) kept
kept_still [] kept are = are
kept_still (item ∷ items) [] are = absurd are
kept_still (item ∷ items) (bytes ∷ kept) are = (restored_fits item bytes are.0, kept_still items kept are.1)
