-- What is written is a container.
use Rattle.std.proofs.Common.{◌≡◌, ℕ, ◌^◌, ◌<◌, List, [], ◌∷◌, ◌++◌, length}
use Rattle.std.proofs.Common.{arith, refl, sym, ap, subst, ◌∙◌}
use Rattle.std.specs.List.{flat_map, AllByRecursion}
use Rattle.std.proofs.lemmas.List.Sums.{sum_by-cons}
use Rattle.vt_outside.specs.Name.{IsName}
use Rattle.vt_bytes.specs.Numbers.{be, be_bytes}
use Rattle.vt_layout.specs.Rows.{IsRow}
use Rattle.vt_layout.proofs.Sizes.{length-spelled}
use Rattle.vt_layout.proofs.Spelled.{spelled_shown}
use Rattle.cfg_directory.specs.declared.item.Item.{Item}
use Rattle.cfg_directory.specs.Items.{IsItems, AreDistinct, entry_rows, entry_bytes, directory_of, total_size}
use Rattle.cfg_directory.specs.Container.{IsContainer, IsEntry, AreEntries, container_of}
use Rattle.cfg_directory.proofs.Contents.{flags_of, held_by}

-- ---- an entry

-- numbers come back from their bytes
pub be-bytes_4 : (n : ℕ) → n < 2 ^ 32 → be (be_bytes 4 n) ≡ n
be-bytes_4 n small = omega arith

is_entry : (item : Item) → length item.bytes < 2 ^ 32 → item.select < 2 ^ 16 → IsName item.name → IsEntry (entry_bytes item) item
is_entry item size select name =
    let rows = entry_rows (length item.bytes) item.select item.name in
    let are : AllByRecursion IsRow rows = ((omega arith, omega arith), ((omega arith, omega arith), (tt, (name, tt)))) in
    record { size = length-spelled rows are; rows = spelled_shown rows are (tt, (tt, (tt, (tt, tt)))) }

-- ---- a container

abbrev pub AreNamed : List Item → Type 0
AreNamed items = AllByRecursion (λ (item : Item). IsName item.name) items

pub are_entries : (items : List Item) → AreNamed items → AreDistinct items → total_size items < 2 ^ 32 → AreEntries (flat_map entry_bytes items) items
are_entries [] named distinct small = refl
are_entries (item ∷ items) named distinct small =
    let sum = sum_by-cons (λ (i : Item). length i.bytes) item items in (
      entry_bytes item,
      flat_map entry_bytes items,
      refl,
      is_entry item (omega (arith, sum)) (omega (arith, distinct.2)) named.0,
      are_entries items named.1 distinct.3 (omega (arith, sum)),
    )

pub written_is_contained : (items : List Item) → IsItems items → AreNamed items → IsContainer (container_of items) items
written_is_contained items lawful named = record {
  count = be_bytes 4 (length items);
  entries = flat_map entry_bytes items;
  spelled = refl;
  count_size = refl;
  count_is = be-bytes_4 (length items) (omega (arith, lawful.few));
  are_entries = are_entries items named lawful.distinct (omega (arith, lawful.small));
  lawful = lawful;
}

-- bytes that were added in turn, first the directory of items as the code sees them
pub written_in_turn : (items seen : List Item) (start directory flags all : List ℕ) → seen ≡ items → start ≡ [] → directory ≡ start ++ directory_of seen
    → flags ≡ directory ++ flags_of seen → all ≡ flags ++ held_by seen → IsItems items → AreNamed seen → IsContainer all items
written_in_turn items seen start directory flags all same empty first second third lawful named =
    let spelled : all ≡ container_of seen = third
    ∙ ap (λ (bytes : List ℕ). bytes ++ held_by seen)
    (second ∙ ap (λ (bytes : List ℕ). bytes ++ flags_of seen) (first ∙ ap (λ (bytes : List ℕ). bytes ++ directory_of seen) empty)) in
    subst (λ (bytes : List ℕ). IsContainer bytes items) (sym (spelled ∙ ap container_of same)) (written_is_contained items lawful (subst AreNamed same named))
