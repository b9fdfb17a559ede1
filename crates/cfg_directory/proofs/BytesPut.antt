-- Bytes that are put into the file of a selector, or added at its end.
use Rattle.std.proofs.Common.{◌≡◌, ℕ, ◌+◌, ◌≤◌, List, ◌++◌, length, slice_set, Option, Some, Result, Ok, Err, arith, sym, refl, ap, subst, ◌∙◌}
use Rattle.std.specs.Prelude.{IsSomeAnd, OnOk, OnErr}
use Rattle.std.specs.List.{slice_get}
use Rattle.std.proofs.lemmas.List.{length-append}
use Rattle.vt_bytes.proofs.PutAt.{length-put_at}
use Rattle.vt_bytes.specs.Parts.{put_at}
use Rattle.cfg_directory.specs.declared.item.Item.{Item}
use Rattle.cfg_directory.specs.Items.{IsItems, HasNoSelect, AreDistinct, total_size, bytes_limit, with_bytes_at, with_bytes_behind, selected}
use Rattle.cfg_directory.proofs.OneChanged.{AreAlike, Finds, IsChanged, IsChanged-from, none_changed, one_changed, of_found, unchanged}
pub use Rattle.cfg_directory.proofs.OneChanged.{IsFound}

-- ---- bytes that are put

-- an item with bytes put into its own
abbrev pub put_in : ℕ → List ℕ → Item → Item
put_in offset piece item = record item { bytes = put_at item.bytes offset piece }

pub put_alike : (offset : ℕ) (piece : List ℕ) → AreAlike (put_in offset piece)
put_alike offset piece = record { name = λ item. refl; select = λ item. refl }

pub none_put : (items : List Item) (select offset : ℕ) (piece : List ℕ) → HasNoSelect items select → with_bytes_at items select offset piece ≡ items
none_put items select offset piece = none_changed (put_in offset piece) items select

pub one_put : (items : List Item) (select offset : ℕ) (piece : List ℕ) (place : ℕ) (item : Item) → AreDistinct items → slice_get items place ≡ Some item
    → item.select ≡ select → slice_set items place (put_in offset piece item) ≡ with_bytes_at items select offset piece
one_put items select offset piece place = one_changed (put_in offset piece) items select place

-- the bytes fit into it
pub fits_in : (items : List Item) (select place : ℕ) (item : Item) (offset : ℕ) (piece : List ℕ) → IsFound items select place item
    → IsSomeAnd (selected items select) (λ (i : Item). offset + length piece ≤ length i.bytes) → offset + length piece ≤ length item.bytes
fits_in items select place item offset piece found fits =
    subst (λ (o : Option Item). IsSomeAnd o (λ (i : Item). offset + length piece ≤ length i.bytes)) found.found fits

-- it keeps its size, so the items stay a device's
pub put_there : (items now : List Item) (select place : ℕ) (item : Item) (offset : ℕ) (piece new : List ℕ) → Finds items now select place item
    → IsSomeAnd (selected now select) (λ (i : Item). offset + length piece ≤ length i.bytes) → new ≡ put_at item.bytes offset piece
    → IsChanged (put_in offset piece) now (slice_set items place (record item { bytes = new })) select
put_there items now select place item offset piece new finds fits is =
    let size = length-put_at item.bytes offset piece
    (of_found (λ (i : Item). offset + length piece ≤ length i.bytes) items now select place item finds fits) in
    IsChanged-from (put_in offset piece) (put_alike offset piece) items now select place item (record item { bytes = new }) finds
    (ap (λ (bytes : List ℕ). record item { bytes = bytes }) is) (omega (arith, finds.lawful.small, size))

pub IsItems-put : (items : List Item) (select place : ℕ) (item : Item) (offset : ℕ) (piece : List ℕ) → IsItems items → IsFound items select place item
    → offset + length piece ≤ length item.bytes → IsItems (slice_set items place (put_in offset piece item))
IsItems-put items select place item offset piece are found fits =
    (put_there items items select place item offset piece _ (record { lawful = are; view = refl; found = found })
    (subst (λ (o : Option Item). IsSomeAnd o (λ (i : Item). offset + length piece ≤ length i.bytes)) (sym found.found) fits) refl).lawful

-- ---- bytes that are added

-- an item with bytes behind its own
abbrev pub put_behind : List ℕ → Item → Item
put_behind piece item = record item { bytes = item.bytes ++ piece }

pub behind_alike : (piece : List ℕ) → AreAlike (put_behind piece)
behind_alike piece = record { name = λ item. refl; select = λ item. refl }

-- what is left where the bytes are added, or where memory runs out
pub record IsExtended {T E : Type 0} (result : Result T E) (now after : List Item) (select : ℕ) (piece : List ℕ) : Type 0 where
  pub lawful : IsItems after
  pub ok : OnOk result (after ≡ with_bytes_behind now select piece)
  pub err : OnErr result (after ≡ now)

pub IsExtended-from : {T E : Type 0} (result : Result T E) (items now : List Item) (select place : ℕ) (item : Item) (piece new : List ℕ)
    → Finds items now select place item → total_size now + length piece ≤ bytes_limit → OnOk result (new ≡ item.bytes ++ piece)
    → OnErr result (new ≡ item.bytes) → IsExtended result now (slice_set items place (record item { bytes = new })) select piece
IsExtended-from (Ok done) items now select place item piece new finds small is err =
    let changed = IsChanged-from (put_behind piece) (behind_alike piece) items now select place item (record item { bytes = new }) finds
    (ap (λ (bytes : List ℕ). record item { bytes = bytes }) is) (omega (arith, small, ap total_size finds.view, length-append item.bytes piece)) in
    record { lawful = changed.lawful; ok = changed.is; err = tt }
IsExtended-from (Err fault) items now select place item piece new finds small ok is =
    let same = unchanged items now select place item (record item { bytes = new }) finds (ap (λ (bytes : List ℕ). record item { bytes = bytes }) is) in
    record { lawful = subst IsItems (sym same) finds.lawful; ok = tt; err = same ∙ finds.view }
