-- A container is read, and what was read is a container.
use Rattle.std.proofs.Common.{◌≡◌, ℕ, ◌*◌, ◌≤◌, Bool, false, cond, ltb, List, [], ◌++◌, length, map, take, drop, Result, Ok, Err, arith, sym, ap, ap₂, subst}
use Rattle.std.proofs.Common.{◌∙◌, append_assoc}
use Rattle.std.proofs.lemmas.Bool.{ltb-false, le-ltb, cond-false}
use Rattle.std.proofs.lemmas.List.{take_at, drop_at, take-append-drop, length-append, length-take-le, length-map}
use Rattle.vt_outside.specs.Readings.{◌into◌}
use Rattle.vt_outside.proofs.Readings.{part_read, past_test}
use Rattle.vt_bytes.specs.Numbers.{be}
use Rattle.cfg_directory.specs.declared.item.Item.{Item}
use Rattle.cfg_directory.specs.declared.listed.Listed.{Listed}
use Rattle.cfg_directory.specs.declared.container.ImageFault.{ImageFault}
use Rattle.cfg_directory.specs.declared.container.ImageFault.TheVariants.{Truncated, TooMany}
use Rattle.cfg_directory.specs.Items.{file_limit}
use Rattle.cfg_directory.specs.Container.{IsContainer, flag_of, directory_so, flags_so, contents_so, flagged_so, counted_so, read_so}
use Rattle.cfg_directory.proofs.Entries.{said, AreSaid, AreNew, AreSaid-from_entries, AreEntries-from_said, length-entries, AreNew-from_distinct, each_new}
use Rattle.cfg_directory.proofs.Entries.{AreDistinct-from_new, entries_read, entries_said}
use Rattle.cfg_directory.proofs.Contents.{writable, flags_of, held_by, sizes, sizes-said, flags_read, flags_are, flags_of-map, items_stand, Stand}
use Rattle.cfg_directory.proofs.Contents.{contents_read, contents_were}

-- ---- one part after the other

pub read_count : (count rest : List ℕ) → length count ≡ 4 → read_so (count ++ rest) ≡ counted_so (be count) rest
unfolding read_so
read_count count rest size =
    let long : ltb (length (count ++ rest)) 4 ≡ false = le-ltb (length (count ++ rest)) 4 (omega (arith, length-append count rest)) in
    cond-false (ltb (length (count ++ rest)) 4) _ _ long
    ∙ ap₂ (λ (front after : List ℕ). counted_so (be front) after) (take_at count rest 4 size) (drop_at count rest 4 size)

pub read_entries : (n : ℕ) (entries rest : List ℕ) (listed : List Listed) → n ≤ file_limit → length entries ≡ 64 * n
    → directory_so n 0 [] (entries ++ rest) ≡ Ok listed → counted_so n (entries ++ rest) ≡ flagged_so n listed rest
unfolding counted_so
read_entries n entries rest listed few size is =
    let long : ltb (length (entries ++ rest)) (64 * n) ≡ false = le-ltb (length (entries ++ rest)) (64 * n) (omega (arith, length-append entries rest)) in
    cond-false (ltb file_limit n) _ _ (le-ltb file_limit n few)
    ∙ cond-false (ltb (length (entries ++ rest)) (64 * n)) _ _ long
    ∙ ap (λ read. read into (λ l. flagged_so n l (drop (64 * n) (entries ++ rest)))) is
    ∙ ap (flagged_so n listed) (drop_at entries rest (64 * n) size)

pub read_flags : (n : ℕ) (listed : List Listed) (flags rest : List ℕ) (bools : List Bool) → length flags ≡ n → flags_so 0 flags ≡ Ok bools
    → flagged_so n listed (flags ++ rest) ≡ contents_so listed bools rest
unfolding flagged_so
read_flags n listed flags rest bools size is =
    let long : ltb (length (flags ++ rest)) n ≡ false = le-ltb (length (flags ++ rest)) n (omega (arith, length-append flags rest)) in
    cond-false (ltb (length (flags ++ rest)) n) _ _ long
    ∙ ap (λ read. read into (λ bs. contents_so listed bs (drop n (flags ++ rest)))) (ap (flags_so 0) (take_at flags rest n size) ∙ is)
    ∙ ap (contents_so listed bools) (drop_at flags rest n size)

-- ---- a container is read

-- what the parts of a container are
pub record Parts (items : List Item) (count entries : List ℕ) : Type 0 where
  pub count_size : length count ≡ 4
  pub count_is : be count ≡ length items
  pub entries_size : length entries ≡ 64 * length items
  pub are_said : AreSaid entries (map said items)
  pub new : AreNew [] (map said items)

pub Parts-from : (bytes : List ℕ) (items : List Item) → (is : IsContainer bytes items) → Parts items is.count is.entries
Parts-from bytes items is =
    let are = AreSaid-from_entries items is.entries is.are_entries in
    record {
      count_size = is.count_size;
      count_is = is.count_is;
      entries_size = length-entries (map said items) is.entries are ∙ ap (λ n. 64 * n) (length-map items said);
      are_said = are;
      new = AreNew-from_distinct items [] is.lawful.distinct (each_new items);
    }

-- the directory of a container is read, whatever follows it
pub directory_read : (items : List Item) (count entries rest : List ℕ) → length items ≤ file_limit → Parts items count entries
    → counted_so (be count) (entries ++ rest) ≡ flagged_so (length items) (map said items) rest
directory_read items count entries rest few parts =
    ap (λ n. counted_so n (entries ++ rest)) parts.count_is
    ∙ read_entries (length items) entries rest (map said items) few parts.entries_size
    (ap (λ n. directory_so n 0 [] (entries ++ rest)) (sym (length-map items said)) ∙ entries_read (map said items) 0 [] entries rest parts.are_said parts.new)

-- the parts, from the front
pub spelled_in_turn : (count entries flags contents : List ℕ) → count ++ entries ++ flags ++ contents ≡ count ++ (entries ++ (flags ++ contents))
spelled_in_turn count entries flags contents = simp append_assoc

pub contained_is_read : (bytes : List ℕ) (items : List Item) → IsContainer bytes items → read_so bytes ≡ Ok items
contained_is_read bytes items is =
    let parts = Parts-from bytes items is in
    let flags = flags_of items in
    let held = held_by items in
    ap read_so (is.spelled ∙ spelled_in_turn is.count is.entries flags held)
    ∙ read_count is.count (is.entries ++ (flags ++ held)) is.count_size
    ∙ directory_read items is.count is.entries (flags ++ held) is.lawful.few parts
    ∙ read_flags (length items) (map said items) flags held (map writable items) (length-map items (λ (item : Item). flag_of item.writable))
    (flags_read items 0)
    ∙ contents_read items is.lawful.small

-- ---- what was read is a container

record Counted (bytes : List ℕ) (items : List Item) : Type 0 where
  long : 4 ≤ length bytes
  rest : counted_so (be (take 4 bytes)) (drop 4 bytes) ≡ Ok items

counted : (bytes : List ℕ) (items : List Item) → read_so bytes ≡ Ok items → Counted bytes items
unfolding read_so
counted bytes items is =
    let a = past_test (ltb (length bytes) 4) Truncated (counted_so (be (take 4 bytes)) (drop 4 bytes)) items is in
    record { long = ltb-false (length bytes) 4 a.0; rest = a.1 }

record Entries (n : ℕ) (bytes : List ℕ) (items : List Item) : Type 0 where
  few : n ≤ file_limit
  long : 64 * n ≤ length bytes
  listed : List Listed
  directory : directory_so n 0 [] bytes ≡ Ok listed
  rest : flagged_so n listed (drop (64 * n) bytes) ≡ Ok items

entries_of : (n : ℕ) (bytes : List ℕ) (items : List Item) → counted_so n bytes ≡ Ok items → Entries n bytes items
unfolding counted_so
entries_of n bytes items is =
    let next : List Listed → Result (List Item) ImageFault = λ listed. flagged_so n listed (drop (64 * n) bytes) in
    let step : Result (List Item) ImageFault = directory_so n 0 [] bytes into next in
    let a = past_test (ltb file_limit n) TooMany (cond (ltb (length bytes) (64 * n)) (Err Truncated) step) items is in
    let b = past_test (ltb (length bytes) (64 * n)) Truncated step items a.1 in
    let c = part_read (directory_so n 0 [] bytes) next items b.1 in
    record {
      few = ltb-false file_limit n a.0;
      long = ltb-false (length bytes) (64 * n) b.0;
      listed = c.0;
      directory = c.1;
      rest = c.2;
    }

record Flags (n : ℕ) (listed : List Listed) (bytes : List ℕ) (items : List Item) : Type 0 where
  long : n ≤ length bytes
  bools : List Bool
  flags : flags_so 0 (take n bytes) ≡ Ok bools
  rest : contents_so listed bools (drop n bytes) ≡ Ok items

flags_in : (n : ℕ) (listed : List Listed) (bytes : List ℕ) (items : List Item) → flagged_so n listed bytes ≡ Ok items → Flags n listed bytes items
unfolding flagged_so
flags_in n listed bytes items is =
    let next : List Bool → Result (List Item) ImageFault = λ bools. contents_so listed bools (drop n bytes) in
    let a = past_test (ltb (length bytes) n) Truncated (flags_so 0 (take n bytes) into next) items is in
    let b = part_read (flags_so 0 (take n bytes)) next items a.1 in
    record { long = ltb-false (length bytes) n a.0; bools = b.0; flags = b.1; rest = b.2 }

-- what stands behind the directory
record Behind (n : ℕ) (listed : List Listed) (bytes : List ℕ) (items : List Item) : Type 0 where
  entries : map said items ≡ listed
  spelled : bytes ≡ flags_of items ++ held_by items
  small : sizes listed ≤ 67108864

behind : (n : ℕ) (listed : List Listed) (bytes : List ℕ) (items : List Item) → length listed ≡ n → flagged_so n listed bytes ≡ Ok items
    → Behind n listed bytes items
behind n listed bytes items as_many is =
    let flags = flags_in n listed bytes items is in
    let contents = contents_were listed flags.bools (drop n bytes) items flags.rest in
    let spelled = flags_are (take n bytes) 0 flags.bools flags.flags in
    let bools_as_many : length flags.bools ≡ length listed =
    omega (arith, length-map flags.bools flag_of, ap length spelled, length-take-le n bytes flags.long, as_many) in
    let stand = subst (λ (is : List Item). Stand is listed flags.bools (drop n bytes)) contents.are
    (items_stand listed flags.bools (drop n bytes) bools_as_many contents.whole) in
    let front : flags_of items ≡ take n bytes = flags_of-map items ∙ ap (map flag_of) stand.flags ∙ spelled in
    record {
      entries = stand.entries;
      spelled = sym (ap₂ (λ (a b : List ℕ). a ++ b) front stand.bytes ∙ take-append-drop n bytes);
      small = contents.small;
    }

pub read_is_contained : (bytes : List ℕ) (items : List Item) → read_so bytes ≡ Ok items → IsContainer bytes items
read_is_contained bytes items is =
    let first = counted bytes items is in
    let count = take 4 bytes in
    let n = be (take 4 bytes) in
    let rest = drop 4 bytes in
    let second = entries_of n rest items first.rest in
    let directory = entries_said n 0 [] rest second.listed second.long second.directory in
    let listed_is : second.listed ≡ directory.listed = directory.are in
    let last = behind n second.listed (drop (64 * n) rest) items (ap length listed_is ∙ directory.as_many) second.rest in
    let entries = take (64 * n) rest in
    let items_said : directory.listed ≡ map said items = sym (last.entries ∙ listed_is) in
    let as_many : length items ≡ n = sym (length-map items said) ∙ ap length (sym items_said) ∙ directory.as_many in
    let in_turn : bytes ≡ count ++ (entries ++ (flags_of items ++ held_by items)) =
    sym (take-append-drop 4 bytes)
    ∙ ap (λ (after : List ℕ). count ++ after) (sym (take-append-drop (64 * n) rest) ∙ ap (λ (after : List ℕ). entries ++ after) last.spelled) in
    record {
      count = count;
      entries = entries;
      spelled = in_turn ∙ sym (spelled_in_turn count entries (flags_of items) (held_by items));
      count_size = length-take-le 4 bytes first.long;
      count_is = sym as_many;
      are_entries = AreEntries-from_said items entries (subst (AreSaid entries) items_said directory.said);
      lawful = record {
        few = omega (arith, as_many, second.few);
        small = omega (arith, sizes-said items, ap sizes last.entries, last.small);
        distinct = AreDistinct-from_new items (subst (AreNew []) items_said directory.new);
      };
    }

-- bytes are a container of one list of items
pub one_list : (bytes : List ℕ) (a b : List Item) → IsContainer bytes a → IsContainer bytes b → a ≡ b
one_list bytes a b is_a is_b =
    let first = contained_is_read bytes a is_a in
    let second = contained_is_read bytes b is_b in
    cc
