-- The files' bytes, of which the last may lack.
use Rattle.std.proofs.Common.{◌≡◌, ℕ, zero, suc, ◌+◌, ◌-◌, ◌<◌, ◌≤◌, Bool, List, [], ◌∷◌, ◌++◌, length, take, drop, slice_set, Some}
use Rattle.std.proofs.Common.{arith, refl, sym, ap, ap₂, subst, ◌∙◌, inl, inr, append_assoc}
use Rattle.std.specs.List.{slice_get}
use Rattle.std.proofs.lemmas.List.{take_all, drop_all, take-append-drop, take-append-le, drop-append-le, length-append, length-drop, nil_from_length}
use Rattle.std.proofs.lemmas.List.Concat.{flat_map-cons}
use Rattle.std.proofs.lemmas.List.Sums.{sum_by-cons}
use Rattle.std.proofs.lemmas.Option.{none-some, same_Some}
use Rattle.cfg_directory.specs.declared.item.Item.{Item}
use Rattle.cfg_directory.specs.declared.listed.Listed.{Listed}
use Rattle.cfg_directory.specs.Container.{item_so, items_so}
use Rattle.cfg_directory.specs.declared.held.Held.{Held}
use Rattle.cfg_directory.specs.Held.{Gathers, IsFilled, contents_of, sizes_of}

sizes-cons : (one : Listed) (listed : List Listed) → sizes_of (one ∷ listed) ≡ one.size + sizes_of listed
sizes-cons one listed = sum_by-cons (λ (l : Listed). l.size) one listed

-- one file more
pub sizes_more : (listed : List Listed) (k : ℕ) (entry : Listed) → slice_get listed k ≡ Some entry
    → sizes_of (take (suc k) listed) ≡ sizes_of (take k listed) + entry.size
sizes_more [] k entry at = absurd (none-some entry at)
sizes_more (one ∷ listed) zero entry at =
    omega (arith, sizes-cons one [], ap (λ (l : Listed). l.size) (same_Some one entry at))
sizes_more (one ∷ listed) (suc k) entry at =
    omega (arith, sizes-cons one (take (suc k) listed), sizes-cons one (take k listed), sizes_more listed k entry at)

-- the first files have no more bytes than all
pub sizes_front : (listed : List Listed) (k : ℕ) → sizes_of (take k listed) ≤ sizes_of listed
sizes_front [] zero = omega arith
sizes_front [] (suc k) = omega arith
sizes_front (one ∷ listed) zero = omega (arith, sizes-cons one listed)
sizes_front (one ∷ listed) (suc k) = omega (arith, sizes-cons one listed, sizes-cons one (take k listed), sizes_front listed k)

sizes_grow : (listed : List Listed) (k : ℕ) → sizes_of (take k listed) ≤ sizes_of (take (suc k) listed)
sizes_grow [] zero = omega arith
sizes_grow [] (suc k) = omega arith
sizes_grow (one ∷ listed) zero = omega (arith, sizes-cons one [])
sizes_grow (one ∷ listed) (suc k) =
    omega (arith, sizes-cons one (take k listed), sizes-cons one (take (suc k) listed), sizes_grow listed k)

-- the files hold what they were given
pub contents_held : (listed : List Listed) (flags : List Bool) (contents : List ℕ) → length flags ≡ length listed → length contents ≤ sizes_of listed
    → contents_of (items_so listed flags contents) ≡ contents
unfolding items_so
contents_held [] flags contents as_many within = sym (nil_from_length contents (omega arith))
contents_held (one ∷ listed) [] contents as_many within = absurd (omega (arith, as_many))
contents_held (one ∷ listed) (flag ∷ flags) contents as_many within =
    let others = items_so listed flags (drop one.size contents) in
    flat_map-cons (λ (item : Item). item.bytes) (item_so one flag (take one.size contents)) others
    ∙ ap (λ (bytes : List ℕ). take one.size contents ++ bytes) (contents_held listed flags (drop one.size contents) (omega (arith, as_many))
    (omega (arith, length-drop one.size contents, sizes-cons one listed)))
    ∙ take-append-drop one.size contents

-- how many bytes the file has that is being filled
pub size_held : (listed : List Listed) (flags : List Bool) (contents : List ℕ) (k : ℕ) (item : Item) → sizes_of (take k listed) ≤ length contents
    → length contents ≤ sizes_of (take (suc k) listed) → slice_get (items_so listed flags contents) k ≡ Some item
    → length item.bytes + sizes_of (take k listed) ≡ length contents
unfolding items_so
size_held [] flags contents k item begun within at = absurd (none-some item at)
size_held (one ∷ listed) [] contents k item begun within at = absurd (none-some item at)
size_held (one ∷ listed) (flag ∷ flags) contents zero item begun within at =
    let bytes : take one.size contents ≡ item.bytes = ap (λ (i : Item). i.bytes) (same_Some (item_so one flag (take one.size contents)) item at) in
    let all : take one.size contents ≡ contents = take_all one.size contents (omega (arith, sizes-cons one [])) in
    omega (arith, ap length bytes, ap length all)
size_held (one ∷ listed) (flag ∷ flags) contents (suc k) item begun within at =
    let before = sizes-cons one (take k listed) in
    let size = length-drop one.size contents in
    omega (
      arith,
      before,
      size,
      size_held listed flags (drop one.size contents) k item (omega (arith, before, size))
          (omega (arith, sizes-cons one (take (suc k) listed), size)) at,
    )

-- the file that is being filled is given more
pub file_filled : (listed : List Listed) (flags : List Bool) (contents more : List ℕ) (k : ℕ) (item : Item) → sizes_of (take k listed) ≤ length contents
    → length (contents ++ more) ≤ sizes_of (take (suc k) listed) → slice_get (items_so listed flags contents) k ≡ Some item
    → slice_set (items_so listed flags contents) k (record item { bytes = item.bytes ++ more }) ≡ items_so listed flags (contents ++ more)
unfolding items_so
file_filled [] flags contents more k item begun within at = absurd (none-some item at)
file_filled (one ∷ listed) [] contents more k item begun within at = absurd (none-some item at)
file_filled (one ∷ listed) (flag ∷ flags) contents more zero item begun within at =
    let size : one.size + 0 ≡ sizes_of (one ∷ []) = sym (sizes-cons one []) in
    let joined = length-append contents more in
    let front : take one.size contents ≡ contents = take_all one.size contents (omega arith) in
    let front_more : take one.size (contents ++ more) ≡ contents ++ more = take_all one.size (contents ++ more) (omega arith) in
    let none : drop one.size contents ≡ drop one.size (contents ++ more) =
    drop_all one.size contents (omega arith) ∙ sym (drop_all one.size (contents ++ more) (omega arith)) in
    let is : item ≡ item_so one flag (take one.size contents) = sym (same_Some (item_so one flag (take one.size contents)) item at) in
    ap (λ (i : Item). record i { bytes = i.bytes ++ more } ∷ items_so listed flags (drop one.size contents)) is
    ∙ ap₂ (λ (bytes after : List ℕ). item_so one flag bytes ∷ items_so listed flags after)
    (ap (λ (b : List ℕ). b ++ more) front ∙ sym front_more) none
file_filled (one ∷ listed) (flag ∷ flags) contents more (suc k) item begun within at =
    let before = sizes-cons one (take k listed) in
    let size = length-drop one.size contents in
    let joined = length-append contents more in
    let long : one.size ≤ length contents = omega arith in
    let after : drop one.size (contents ++ more) ≡ drop one.size contents ++ more = drop-append-le one.size contents more long in
    ap (λ (items : List Item). item_so one flag (take one.size contents) ∷ items)
    (file_filled listed flags (drop one.size contents) more k item (omega arith)
    (omega (arith, sizes-cons one (take (suc k) listed), length-append (drop one.size contents) more)) at)
    ∙ ap₂ (λ (bytes behind : List ℕ). item_so one flag bytes ∷ items_so listed flags behind)
    (sym (take-append-le one.size contents more long)) (sym after)

-- there are as many files as entries
length-items : (listed : List Listed) (flags : List Bool) (contents : List ℕ) → length flags ≡ length listed
    → length (items_so listed flags contents) ≡ length listed
unfolding items_so
length-items [] flags contents as_many = refl
length-items (one ∷ listed) [] contents as_many = absurd (omega (arith, as_many))
length-items (one ∷ listed) (flag ∷ flags) contents as_many =
    ap suc (length-items listed flags (drop one.size contents) (omega (arith, as_many)))

pub next_there : (held : Held) → Gathers held → held.next < length held.listed → held.next < length held.items
next_there held gathers some =
    omega (arith, ap length gathers.items, length-items held.listed gathers.flags (contents_of held.items) gathers.opens.as_many)

-- no more is taken than asked for
take_within : (n : ℕ) (bytes : List ℕ) → length (take n bytes) ≤ n
take_within n bytes =
    omega (arith, ap length (take-append-drop n bytes), length-append (take n bytes) (drop n bytes), length-drop n bytes)

-- what the next file lacks of a piece is taken
record Filled (held : Held) (flags : List Bool) (item : Item) (entry : Listed) (piece : List ℕ) : Type 0 where
  more : List ℕ
  more_is : more ≡ take (entry.size - length item.bytes) piece
  size : length item.bytes + sizes_of (take held.next held.listed) ≡ length (contents_of held.items)
  begun : sizes_of (take (suc held.next) held.listed) ≡ sizes_of (take held.next held.listed) + entry.size
  items : slice_set held.items held.next (record item { bytes = item.bytes ++ more }) ≡ items_so held.listed flags (contents_of held.items ++ more)
  contents : contents_of (slice_set held.items held.next (record item { bytes = item.bytes ++ more })) ≡ contents_of held.items ++ more
  length_more : length (contents_of held.items ++ more) ≡ length (contents_of held.items) + length more
  within : length item.bytes + length more ≤ entry.size

Filled-from : (held : Held) (item : Item) (entry : Listed) (piece : List ℕ) → (gathers : Gathers held) → slice_get held.items held.next ≡ Some item
    → slice_get held.listed held.next ≡ Some entry → Filled held gathers.flags item entry piece
Filled-from held item entry piece gathers item_at entry_at =
    let contents = contents_of held.items in
    let more = take (entry.size - length item.bytes) piece in
    let at = subst (λ (items : List Item). slice_get items held.next ≡ Some item) gathers.items item_at in
    let size : length item.bytes + sizes_of (take held.next held.listed) ≡ length contents =
    size_held held.listed gathers.flags contents held.next item gathers.begun gathers.within at in
    let begun = sizes_more held.listed held.next entry entry_at in
    let joined = length-append contents more in
    let short : length more ≤ entry.size - length item.bytes = take_within (entry.size - length item.bytes) piece in
    let fits : length item.bytes ≤ entry.size = omega (arith, begun, gathers.within) in
    let within : length (contents ++ more) ≤ sizes_of (take (suc held.next) held.listed) = omega (arith, begun) in
    let items = ap (λ (items : List Item). slice_set items held.next (record item { bytes = item.bytes ++ more })) gathers.items
    ∙ file_filled held.listed gathers.flags contents more held.next item gathers.begun within at in
    record {
      more = more;
      more_is = refl;
      size = size;
      begun = begun;
      items = items;
      contents = ap contents_of items ∙ contents_held held.listed gathers.flags (contents ++ more) gathers.opens.as_many
          (omega (arith, sizes_front held.listed (suc held.next)));
      length_more = joined;
      within = omega arith;
    }

-- the file is whole, or it lacks more than the piece had
all_taken : (size : ℕ) (had : List ℕ) (piece : List ℕ) → length had + length (take (size - length had) piece) < size
    → length piece ≤ size - length had
all_taken size had piece lacks =
    let n = size - length had in
    omega (arith, ap length (take-append-drop n piece), length-append (take n piece) (drop n piece), length-drop n piece)

-- what was held, what is taken and what is left are what was held and the piece
rejoined : (contents more left piece all : List ℕ) (n : ℕ) → all ≡ contents ++ more → more ≡ take n piece → left ≡ drop n piece
    → all ++ left ≡ contents ++ piece
rejoined contents more left piece all n all_is more_is left_is =
    ap (λ (bytes : List ℕ). bytes ++ left) all_is
    ∙ append_assoc contents more left
    ∙ ap (λ (bytes : List ℕ). contents ++ bytes) (ap₂ (λ (a b : List ℕ). a ++ b) more_is left_is ∙ take-append-drop n piece)

abbrev pub given : Held → Item → List ℕ → ℕ → Held
given old item bytes next = record { head = old.head; listed = old.listed; items = slice_set old.items old.next (record item { bytes = bytes }); next = next }

pub filled_whole : (old new : Held) (item : Item) (entry : Listed) (piece left bytes : List ℕ) (next : ℕ) → (gathers : Gathers old)
    → slice_get old.items old.next ≡ Some item → slice_get old.listed old.next ≡ Some entry
    → bytes ≡ item.bytes ++ take (entry.size - length item.bytes) piece → left ≡ drop (entry.size - length item.bytes) piece
    → new ≡ given old item bytes next → next ≡ suc old.next → length bytes ≡ entry.size → IsFilled old new piece left
filled_whole old new item entry piece left bytes next gathers item_at entry_at bytes_are left_is new_is next_is whole =
    let f = Filled-from old item entry piece gathers item_at entry_at in
    let after = given old item (item.bytes ++ f.more) (suc old.next) in
    let same : new ≡ after = new_is
    ∙ ap₂ (λ (b : List ℕ) (n : ℕ). given old item b n) (bytes_are ∙ ap (λ (m : List ℕ). item.bytes ++ m) (sym f.more_is)) next_is in
    let size : length (contents_of after.items) ≡ sizes_of (take (suc old.next) old.listed) =
    omega (
      arith,
      ap length f.contents,
      f.length_more,
      f.size,
      f.begun,
      ap length bytes_are,
      length-append item.bytes
          (take (entry.size - length item.bytes) piece),
      ap length f.more_is,
    ) in
    subst (λ (h : Held). IsFilled old h piece left) (sym same) (record {
      gathers = record {
        flags = gathers.flags;
        opens = gathers.opens;
        items = f.items ∙ ap (items_so old.listed gathers.flags) (sym f.contents);
        begun = omega arith;
        within = omega (arith, sizes_grow old.listed (suc old.next));
      };
      head = refl;
      listed = refl;
      joined = rejoined (contents_of old.items) f.more left piece (contents_of after.items) (entry.size - length item.bytes) f.contents f.more_is left_is;
      next = inl refl;
    })

pub filled_short : (old new : Held) (item : Item) (entry : Listed) (piece left bytes : List ℕ) → (gathers : Gathers old)
    → slice_get old.items old.next ≡ Some item → slice_get old.listed old.next ≡ Some entry
    → bytes ≡ item.bytes ++ take (entry.size - length item.bytes) piece → left ≡ drop (entry.size - length item.bytes) piece
    → new ≡ given old item bytes old.next → (length bytes ≡ entry.size → ⊥) → IsFilled old new piece left
filled_short old new item entry piece left bytes gathers item_at entry_at bytes_are left_is new_is lacks =
    let f = Filled-from old item entry piece gathers item_at entry_at in
    let after = given old item (item.bytes ++ f.more) old.next in
    let same : new ≡ after = new_is
    ∙ ap (λ (b : List ℕ). given old item b old.next) (bytes_are ∙ ap (λ (m : List ℕ). item.bytes ++ m) (sym f.more_is)) in
    let sizes = length-append item.bytes (take (entry.size - length item.bytes) piece) in
    let short : length (contents_of after.items) < sizes_of (take (suc old.next) old.listed) =
    omega (arith, ap length f.contents, f.length_more, f.size, f.begun, ap length bytes_are, sizes, ap length f.more_is, f.within, lacks) in
    let none : left ≡ [] = left_is ∙ drop_all (entry.size - length item.bytes) piece
    (all_taken entry.size item.bytes piece (omega (arith, ap length bytes_are, sizes, ap length f.more_is, f.within, lacks))) in
    subst (λ (h : Held). IsFilled old h piece left) (sym same) (record {
      gathers = record {
        flags = gathers.flags;
        opens = gathers.opens;
        items = f.items ∙ ap (items_so old.listed gathers.flags) (sym f.contents);
        begun = omega (arith, ap length f.contents, f.length_more, gathers.begun);
        within = omega arith;
      };
      head = refl;
      listed = refl;
      joined = rejoined (contents_of old.items) f.more left piece (contents_of after.items) (entry.size - length item.bytes) f.contents f.more_is left_is;
      next = inr (refl, none, λ some. short);
    })
