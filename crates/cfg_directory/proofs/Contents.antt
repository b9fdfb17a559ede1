-- The flags and the bytes of the files.
use Rattle.std.proofs.Common.{◌≡◌, ℕ, zero, suc, ◌+◌, ◌<◌, ◌≤◌, Bool, true, false, cond, ltb, List, [], ◌∷◌, ◌++◌, length, map, take, drop, sum_by, Result}
use Rattle.std.proofs.Common.{Ok, Err, arith, refl, sym, ap, ap₂, ◌∙◌}
use Rattle.std.specs.List.{flat_map}
use Rattle.std.proofs.lemmas.Bool.{ltb-false, le-ltb, lt-ltb, cond-true, cond-false}
use Rattle.std.proofs.lemmas.List.{take_at, drop_at, take-append-drop, length-take-le, length-drop, nil_from_length}
use Rattle.std.proofs.lemmas.List.Concat.{length-flat_map}
use Rattle.std.proofs.lemmas.List.Folds.{fold-map}
use Rattle.std.proofs.lemmas.List.Sums.{sum_by-cons}
use Rattle.vt_outside.specs.Readings.{◌into◌}
use Rattle.vt_outside.proofs.Readings.{part_read, past_test}
use Rattle.cfg_directory.specs.declared.item.Item.{Item}
use Rattle.cfg_directory.specs.declared.listed.Listed.{Listed}
use Rattle.cfg_directory.specs.declared.container.ImageFault.{ImageFault}
use Rattle.cfg_directory.specs.declared.container.ImageFault.TheVariants.{Truncated, TooLarge, TrailingBytes}
use Rattle.cfg_directory.specs.Items.{total_size, bytes_limit}
use Rattle.cfg_directory.specs.Container.{flag_of, flags_so, items_so, contents_so}
use Rattle.cfg_directory.proofs.Entries.{said, ok_is}

-- what an item's flag says, and what it holds
abbrev pub writable : Item → Bool
writable item = item.writable

abbrev pub held : Item → List ℕ
held item = item.bytes

abbrev pub flags_of : List Item → List ℕ
flags_of items = map (λ (item : Item). flag_of item.writable) items

abbrev pub held_by : List Item → List ℕ
held_by items = flat_map (λ (item : Item). item.bytes) items

abbrev pub sizes : List Listed → ℕ
sizes listed = sum_by (λ (l : Listed). l.size) listed

-- ---- sizes

pub sizes-said : (items : List Item) → sizes (map said items) ≡ total_size items
sizes-said items = fold-map (λ total (l : Listed). total + l.size) said 0 items

pub length-held : (items : List Item) → length (held_by items) ≡ total_size items
length-held items = length-flat_map (λ (item : Item). item.bytes) items

-- ---- flags

pub flags_read : (items : List Item) (index : ℕ) → flags_so index (flags_of items) ≡ Ok (map writable items)
unfolding flags_so
flags_read [] index = refl
flags_read (item ∷ items) index =
    elim item.writable as (λ b. flags_so index (flag_of b ∷ flags_of items) ≡ Ok (b ∷ map writable items)) [
      | false ↦ ap (λ read. read into (λ rest. Ok (false ∷ rest))) (flags_read items (index + 1))
      | true ↦ ap (λ read. read into (λ rest. Ok (true ∷ rest))) (flags_read items (index + 1))
    ]

-- flags that were read are those of the answers
pub flags_are : (flags : List ℕ) (index : ℕ) (bools : List Bool) → flags_so index flags ≡ Ok bools → map flag_of bools ≡ flags
unfolding flags_so
flags_are [] index bools is = ap (map flag_of) (sym (ok_is [] bools is))
flags_are (zero ∷ flags) index bools is =
    let rest = part_read (flags_so (index + 1) flags) (λ others. Ok (false ∷ others)) bools is in
    ap (map flag_of) (sym (ok_is (false ∷ rest.0) bools rest.2)) ∙ ap (λ (fs : List ℕ). 0 ∷ fs) (flags_are flags (index + 1) rest.0 rest.1)
flags_are (suc zero ∷ flags) index bools is =
    let rest = part_read (flags_so (index + 1) flags) (λ others. Ok (true ∷ others)) bools is in
    ap (map flag_of) (sym (ok_is (true ∷ rest.0) bools rest.2)) ∙ ap (λ (fs : List ℕ). 1 ∷ fs) (flags_are flags (index + 1) rest.0 rest.1)
flags_are (suc (suc flag) ∷ flags) index bools is = absurd cc

pub flags_of-map : (items : List Item) → flags_of items ≡ map flag_of (map writable items)
flags_of-map [] = refl
flags_of-map (item ∷ items) = ap (λ (fs : List ℕ). flag_of item.writable ∷ fs) (flags_of-map items)

-- ---- items

-- items are read from what they hold
items_read : (items : List Item) → items_so (map said items) (map writable items) (held_by items) ≡ items
unfolding items_so
items_read [] = refl
items_read (item ∷ items) =
    let front : take (length item.bytes) (item.bytes ++ held_by items) ≡ item.bytes = take_at item.bytes (held_by items) (length item.bytes) refl in
    let back : drop (length item.bytes) (item.bytes ++ held_by items) ≡ held_by items = drop_at item.bytes (held_by items) (length item.bytes) refl in
    ap₂ (λ (i : Item) (is : List Item). i ∷ is) (ap (λ (bytes : List ℕ). record item { bytes = bytes }) front)
    (ap (items_so (map said items) (map writable items)) back ∙ items_read items)

-- the items that entries, flags and bytes stand for
pub record Stand (items : List Item) (listed : List Listed) (bools : List Bool) (contents : List ℕ) : Type 0 where
  pub entries : map said items ≡ listed
  pub flags : map writable items ≡ bools
  pub bytes : held_by items ≡ contents

pub items_stand : (listed : List Listed) (bools : List Bool) (contents : List ℕ) → length bools ≡ length listed → sizes listed ≡ length contents
    → Stand (items_so listed bools contents) listed bools contents
unfolding items_so
items_stand [] bools contents as_many whole = record {
  entries = refl;
  flags = sym (nil_from_length bools as_many);
  bytes = sym (nil_from_length contents (sym whole));
}
items_stand (one ∷ listed) [] contents as_many whole = absurd (omega (arith, as_many))
items_stand (one ∷ listed) (flag ∷ bools) contents as_many whole =
    let sum : one.size + sizes listed ≡ length contents = sym (sum_by-cons (λ (l : Listed). l.size) one listed) ∙ whole in
    let size : length (take one.size contents) ≡ one.size = length-take-le one.size contents (omega arith) in
    let rest = items_stand listed bools (drop one.size contents) (omega (arith, as_many)) (omega (arith, length-drop one.size contents)) in
    record {
      entries = ap₂ (λ (l : Listed) (ls : List Listed). l ∷ ls) (ap (λ n. record one { size = n }) size) rest.entries;
      flags = ap (λ (bs : List Bool). flag ∷ bs) rest.flags;
      bytes = ap (λ (bs : List ℕ). take one.size contents ++ bs) rest.bytes ∙ take-append-drop one.size contents;
    }

-- ---- the bytes of all files

pub contents_read : (items : List Item) → total_size items ≤ bytes_limit → contents_so (map said items) (map writable items) (held_by items) ≡ Ok items
unfolding contents_so
contents_read items small =
    let total = sizes-said items in
    let held = length-held items in
    let listed = map said items in
    cond-false (ltb bytes_limit (sizes listed)) _ _ (le-ltb bytes_limit (sizes listed) (omega (arith, total)))
    ∙ cond-false (ltb (length (held_by items)) (sizes listed)) _ _ (le-ltb (length (held_by items)) (sizes listed) (omega (arith, total, held)))
    ∙ cond-false (ltb (sizes listed) (length (held_by items))) _ _ (le-ltb (sizes listed) (length (held_by items)) (omega (arith, total, held)))
    ∙ ap (λ (is : List Item). Ok is) (items_read items)

-- bytes that lack something are cut short
pub contents_short : (items : List Item) (contents : List ℕ) → total_size items ≤ bytes_limit → length contents < total_size items
    → contents_so (map said items) (map writable items) contents ≡ Err Truncated
unfolding contents_so
contents_short items contents small short =
    let total = sizes-said items in
    let listed = map said items in
    cond-false (ltb bytes_limit (sizes listed)) _ _ (le-ltb bytes_limit (sizes listed) (omega (arith, total)))
    ∙ cond-true (ltb (length contents) (sizes listed)) _ _ (lt-ltb (length contents) (sizes listed) (omega (arith, total)))

pub record Contents (listed : List Listed) (bools : List Bool) (contents : List ℕ) (items : List Item) : Type 0 where
  pub small : sizes listed ≤ bytes_limit
  pub whole : sizes listed ≡ length contents
  pub are : items_so listed bools contents ≡ items

pub contents_were : (listed : List Listed) (bools : List Bool) (contents : List ℕ) (items : List Item) → contents_so listed bools contents ≡ Ok items
    → Contents listed bools contents items
unfolding contents_so
contents_were listed bools contents items is =
    let all : Result (List Item) ImageFault = Ok (items_so listed bools contents) in
    let exact : Result (List Item) ImageFault = cond (ltb (sizes listed) (length contents)) (Err TrailingBytes) all in
    let long : Result (List Item) ImageFault = cond (ltb (length contents) (sizes listed)) (Err Truncated) exact in
    let a = past_test (ltb bytes_limit (sizes listed)) TooLarge long items is in
    let b = past_test (ltb (length contents) (sizes listed)) Truncated exact items a.1 in
    let c = past_test (ltb (sizes listed) (length contents)) TrailingBytes all items b.1 in
    let low = ltb-false (length contents) (sizes listed) b.0 in
    let high = ltb-false (sizes listed) (length contents) c.0 in
    record {
      small = ltb-false bytes_limit (sizes listed) a.0;
      whole = omega (arith, low, high);
      are = ok_is (items_so listed bools contents) items c.1;
    }
