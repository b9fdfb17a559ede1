-- A front of a container lacks something that is due.
use Rattle.std.proofs.Common.{◌≡◌, ℕ, ◌*◌, ◌<◌, ◌≤◌, ltb, List, ◌++◌, length, map, take, drop, Err, arith, refl, sym, ap, ◌∙◌, inl, inr}
use Rattle.std.proofs.lemmas.Bool.{cases_lt, le-ltb, lt-ltb, cond-true, cond-false}
use Rattle.std.proofs.lemmas.List.{take_at, drop_at, take-append-drop, take-append-le, drop-append-le, length-append, length-map}
use Rattle.vt_bytes.specs.Numbers.{be}
use Rattle.cfg_directory.specs.declared.item.Item.{Item}
use Rattle.cfg_directory.specs.declared.listed.Listed.{Listed}
use Rattle.cfg_directory.specs.declared.container.ImageFault.TheVariants.{Truncated}
use Rattle.cfg_directory.specs.Items.{file_limit, bytes_limit, total_size}
use Rattle.cfg_directory.specs.Container.{IsContainer, flag_of, flagged_so, counted_so, read_so}
use Rattle.cfg_directory.proofs.Entries.{said}
use Rattle.cfg_directory.proofs.Contents.{writable, flags_of, held_by, length-held, flags_read, contents_short}
use Rattle.cfg_directory.proofs.Containers.{read_count, read_flags, Parts, Parts-from, directory_read, spelled_in_turn}

-- a front that is no shorter than the first part begins with it
record Begins (first others front rest : List ℕ) : Type 0 where
  whole : front ≡ first ++ drop (length first) front
  after : others ≡ drop (length first) front ++ rest

begins : (first others front rest : List ℕ) → first ++ others ≡ front ++ rest → length first ≤ length front → Begins first others front rest
begins first others front rest is within =
    let same : take (length first) front ≡ first =
    sym (take-append-le (length first) front rest within) ∙ ap (take (length first)) (sym is) ∙ take_at first others (length first) refl in
    record {
      whole = sym (take-append-drop (length first) front) ∙ ap (λ (x : List ℕ). x ++ drop (length first) front) same;
      after = sym (drop_at first others (length first) refl) ∙ ap (drop (length first)) is ∙ drop-append-le (length first) front rest within;
    }

-- ---- each part may be cut short

pub short_count : (bytes : List ℕ) → length bytes < 4 → read_so bytes ≡ Err Truncated
unfolding read_so
short_count bytes short = cond-true (ltb (length bytes) 4) _ _ (lt-ltb (length bytes) 4 short)

pub short_entries : (n : ℕ) (bytes : List ℕ) → n ≤ file_limit → length bytes < 64 * n → counted_so n bytes ≡ Err Truncated
unfolding counted_so
short_entries n bytes few short =
    cond-false (ltb file_limit n) _ _ (le-ltb file_limit n few) ∙ cond-true (ltb (length bytes) (64 * n)) _ _ (lt-ltb (length bytes) (64 * n) short)

pub short_flags : (n : ℕ) (listed : List Listed) (bytes : List ℕ) → length bytes < n → flagged_so n listed bytes ≡ Err Truncated
unfolding flagged_so
short_flags n listed bytes short = cond-true (ltb (length bytes) n) _ _ (lt-ltb (length bytes) n short)

-- ---- a front of what stands behind a part

cut_in_flags : (items : List Item) (front rest : List ℕ) → total_size items ≤ bytes_limit → flags_of items ++ held_by items ≡ front ++ rest → 0 < length rest
    → flagged_so (length items) (map said items) front ≡ Err Truncated
cut_in_flags items front rest small is lacks =
    let n = length items in
    let size : length (flags_of items) ≡ n = length-map items (λ (item : Item). flag_of item.writable) in
    elim (cases_lt (length front) n) as (λ _. flagged_so n (map said items) front ≡ Err Truncated) [
      | inl short ↦ short_flags n (map said items) front short
      | inr long ↦
          let split = begins (flags_of items) (held_by items) front rest is (omega arith) in
          let after = drop (length (flags_of items)) front in
          let short : length after < total_size items = omega (arith, length-held items, ap length split.after, length-append after rest) in
          ap (flagged_so n (map said items)) split.whole
          ∙ read_flags n (map said items) (flags_of items) after (map writable items) size (flags_read items 0)
          ∙ contents_short items after small short
    ]

cut_in_entries : (items : List Item) (count entries front rest : List ℕ) → Parts items count entries → length items ≤ file_limit
    → total_size items ≤ bytes_limit → entries ++ (flags_of items ++ held_by items) ≡ front ++ rest → 0 < length rest
    → counted_so (be count) front ≡ Err Truncated
cut_in_entries items count entries front rest parts few small is lacks =
    elim (cases_lt (length front) (64 * length items)) as (λ _. counted_so (be count) front ≡ Err Truncated) [
      | inl short ↦ ap (λ n. counted_so n front) parts.count_is ∙ short_entries (length items) front few short
      | inr long ↦
          let split = begins entries (flags_of items ++ held_by items) front rest is (omega (arith, parts.entries_size)) in
          let after = drop (length entries) front in
          ap (counted_so (be count)) split.whole
          ∙ directory_read items count entries after few parts
          ∙ cut_in_flags items after rest small split.after lacks
    ]

pub front_is_truncated : (items : List Item) (bytes front rest : List ℕ) → IsContainer bytes items → bytes ≡ front ++ rest → 0 < length rest
    → read_so front ≡ Err Truncated
front_is_truncated items bytes front rest contains is lacks =
    let parts = Parts-from bytes items contains in
    let count = contains.count in
    let entries = contains.entries in
    let in_turn : count ++ (entries ++ (flags_of items ++ held_by items)) ≡ front ++ rest =
    sym (spelled_in_turn count entries (flags_of items) (held_by items)) ∙ sym contains.spelled ∙ is in
    elim (cases_lt (length front) 4) as (λ _. read_so front ≡ Err Truncated) [
      | inl short ↦ short_count front short
      | inr long ↦
          let split = begins count (entries ++ (flags_of items ++ held_by items)) front rest in_turn (omega (arith, parts.count_size)) in
          let after = drop (length count) front in
          ap read_so split.whole
          ∙ read_count count after parts.count_size
          ∙ cut_in_entries items count entries after rest parts contains.lawful.few contains.lawful.small split.after lacks
    ]
