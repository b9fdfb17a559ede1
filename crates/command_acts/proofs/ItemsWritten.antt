-- What is put into an item of a device by its selector is put into the file of its name.
use Rattle.std.proofs.Common.{◌≡◌, ℕ, ◌==◌, false, List, [], ◌∷◌, Option, Some, inl, inr, refl, sym, ap, ap₂, subst, ◌∙◌}
use Rattle.std.specs.Option.{option_map, option_map_or}
use Rattle.std.specs.Str.{bytes_eq}
use Rattle.std.proofs.lemmas.Bool.{cases_Bool, cond-true, cond-false, eq-eqb}
use Rattle.std.proofs.lemmas.Option.{same_Some, none-some}
use Rattle.vt_bytes.specs.Parts.{put_at}
use Rattle.vt_outside.specs.File.{File}
use Rattle.vt_outside.proofs.Texts.{same_text}
use Rattle.cfg_directory.specs.declared.item.Item.{Item}
use Rattle.cfg_directory.specs.Items.{HasNoName, HasNoSelect, AreDistinct, named, selected, with_bytes_at}
use Rattle.cfg_directory.specs.Files.{files_of}
use Rattle.cfg_directory.proofs.BytesPut.{none_put, put_in}
use Rattle.cfg_directory.proofs.OneMoreItem.{other_select}
use Rattle.loader_script.specs.Run.{bytes_of, files_with}
use Rattle.loader_script.proofs.Named.{find-map, of_found}

-- an item as a file
abbrev pub as_file : Item → File
as_file item = record { name = item.name; bytes = item.bytes; writable = item.writable }

-- the bytes of the file of a name are its item's
pub bytes_of_named : (items : List Item) (name : List ℕ) (item : Item) → named items name ≡ Some item → bytes_of (files_of items) name ≡ item.bytes
bytes_of_named items name item is =
    ap (λ (o : Option File). option_map_or (λ (f : File). f.bytes) o [])
    (find-map as_file (λ (f : File). bytes_eq f.name name) items ∙ ap (option_map as_file) is)

-- an item that has a name behind another one has another selector
other_there : (first : Item) (items : List Item) (name : List ℕ) (item : Item) → AreDistinct (first ∷ items) → named items name ≡ Some item
    → (first.select == item.select) ≡ false
other_there first items name item distinct later =
    other_select item.select first.select
    (of_found (λ (i : Item). (i.select == first.select) ≡ false) (λ (i : Item). bytes_eq i.name name) items item later distinct.1)

-- the item that has a name is the one that has its selector
pub selected_named : (items : List Item) (name : List ℕ) (item : Item) → AreDistinct items → named items name ≡ Some item
    → selected items item.select ≡ Some item
selected_named [] name item distinct is = absurd (none-some item is)
selected_named (first ∷ items) name item distinct is =
    elim (cases_Bool (bytes_eq first.name name)) as (λ _. selected (first ∷ items) item.select ≡ Some item) [
      | inl its ↦
          let same : first ≡ item = same_Some first item (sym (cond-true _ _ _ its) ∙ is) in
          subst (λ (i : Item). selected (first ∷ items) i.select ≡ Some i) same
          (cond-true (first.select == first.select) (Some first) (selected items first.select) (eq-eqb first.select first.select refl))
      | inr other ↦
          let later : named items name ≡ Some item = sym (cond-false _ _ _ other) ∙ is in
          cond-false (first.select == item.select) (Some first) (selected items item.select) (other_there first items name item distinct later)
          ∙ selected_named items name item distinct.3 later
    ]

-- where no item has the name no file is written
none_written : (items : List Item) (name bytes : List ℕ) → HasNoName items name → files_with (files_of items) name bytes ≡ files_of items
none_written [] name bytes none = refl
none_written (first ∷ items) name bytes none =
    ap₂ (λ (f : File) (fs : List File). f ∷ fs) (cond-false (bytes_eq first.name name) _ (as_file first) none.0) (none_written items name bytes none.1)

-- a file with other bytes
abbrev file_with : List ℕ → Item → File
file_with bytes item = record { name = item.name; bytes = bytes; writable = item.writable }

-- The item is the first one, or a later one.
put_by_name : (items : List Item) (name : List ℕ) (item : Item) (offset : ℕ) (piece : List ℕ) → AreDistinct items → named items name ≡ Some item
    → files_of (with_bytes_at items item.select offset piece) ≡ files_with (files_of items) name (put_at item.bytes offset piece)
put_by_name [] name item offset piece distinct there = absurd (none-some item there)
put_by_name (first ∷ items) name item offset piece distinct there =
    let bytes = put_at item.bytes offset piece in
    elim (cases_Bool (bytes_eq first.name name))
    as (λ _. files_of (with_bytes_at (first ∷ items) item.select offset piece) ≡ files_with (files_of (first ∷ items)) name bytes) [
      | inl its ↦
          let same : first ≡ item = same_Some first item (sym (cond-true _ _ _ its) ∙ there) in
          let selects : first.select ≡ item.select = ap (λ (i : Item). i.select) same in
          let named_so : first.name ≡ name = same_text first.name name its in
          ap₂ (λ (f : File) (fs : List File). f ∷ fs)
          (ap as_file (cond-true (first.select == item.select) (put_in offset piece first) first (eq-eqb first.select item.select selects))
          ∙ ap (λ (i : Item). file_with (put_at i.bytes offset piece) first) same
          ∙ sym (cond-true (bytes_eq first.name name) (file_with bytes first) (as_file first) its))
          (ap files_of (none_put items item.select offset piece (subst (HasNoSelect items) selects distinct.1))
          ∙ sym (none_written items name bytes (subst (HasNoName items) named_so distinct.0)))
      | inr other ↦
          let later : named items name ≡ Some item = sym (cond-false _ _ _ other) ∙ there in
          ap₂ (λ (f : File) (fs : List File). f ∷ fs)
          (ap as_file (cond-false (first.select == item.select) (put_in offset piece first) first (other_there first items name item distinct later))
          ∙ sym (cond-false (bytes_eq first.name name) (file_with bytes first) (as_file first) other))
          (put_by_name items name item offset piece distinct.3 later)
    ]

-- Bytes that are put into an item by its selector are put into the file of its name.
pub put_as_file : (items : List Item) (name : List ℕ) (item : Item) (offset : ℕ) (piece : List ℕ) → AreDistinct items → named items name ≡ Some item
    → files_of (with_bytes_at items item.select offset piece)
    ≡ files_with (files_of items) name (put_at (bytes_of (files_of items) name) offset piece)
put_as_file items name item offset piece distinct there =
    put_by_name items name item offset piece distinct there
    ∙ ap (λ (bytes : List ℕ). files_with (files_of items) name (put_at bytes offset piece)) (sym (bytes_of_named items name item there))
