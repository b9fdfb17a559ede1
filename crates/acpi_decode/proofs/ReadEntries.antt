-- Entries that are read into a list, where it is known that they fill a table.
use Rattle.std.proofs.Common.{◌≡◌, ℕ, ◌+◌, ◌-◌, ◌<◌, ◌≤◌, inl, inr, List, [], ◌∷◌, ◌++◌, length, map, Some}
use Rattle.std.proofs.Common.{arith, refl, ap, sym, subst, ◌∙◌}
use Rattle.std.proofs.lemmas.Bool.{cases_lt}
use Rattle.std.proofs.lemmas.List.{map_push}
use Rattle.vt_bytes.specs.View.{View, bytes_in}
use Rattle.vt_layout.specs.Entries.{Entry, Types, IsEntry, EntriesShown}
use Rattle.vt_layout.specs.BadEntries.{least_length, AreReadable, entry_in}
use Rattle.vt_layout.proofs.Entries.{at_least_2}
use Rattle.vt_layout.proofs.BadEntries.{not_bad, entry_stands}
use Rattle.acpi_decode.specs.EntryHeads.{IsHead}
use Rattle.acpi_decode.proofs.EntriesInTurn.{least_2, shown_behind}

-- what the head of an entry that stands tells
record IsGoodHead (types : Types) (left kind total length : ℕ) : Type 0 where
  some : 2 ≤ total
  long : least_length (types kind) ≤ total
  within : total ≤ left
  same : total ≡ length

good_head : (types : Types) (view : View) (start at left length kind total : ℕ) (entry : Entry) → IsEntry types view start at length entry
    → length ≤ left → IsHead view at kind total → IsGoodHead types left kind total length
good_head types view start at left length kind total entry is within head =
    let same : total ≡ length = cc (is.shown.1.0, head.1) in
    let two = least_2 (types kind) in
    let long : least_length (types kind) ≤ total =
    elim (cases_lt total (least_length (types kind))) as (λ _. least_length (types kind) ≤ total) [
      | inl short ↦ absurd (not_bad types view start at left length entry is within (inr (kind, total, head.0, head.1, inl short)))
      | inr long ↦ long
    ] in
    record { some = omega (arith, two, long); long = long; within = omega (arith, within, same); same = same }

-- What a list holds is made of the entries that fill a table from an offset up to a place, and others fill it from there on up to its end.
pub record AreRead {E : Type 0} (types : Types) (make : Entry → E) (view : View) (table front place total : ℕ) (list : List E) : Type 0 where
  pub entries : List Entry
  pub shown : EntriesShown types view table (table + front) (place - front) entries
  pub list_is : list ≡ map make entries
  pub others : List Entry
  pub rest : EntriesShown types view table (table + place) (total - place) others

-- nothing was read yet
pub none_read : {E : Type 0} (types : Types) (make : Entry → E) (view : View) (table front total : ℕ) (others : List Entry)
    → EntriesShown types view table (table + front) (total - front) others → AreRead types make view table front front total []
none_read types make view table front total others shown =
    record { entries = []; shown = omega arith; list_is = refl; others = others; rest = shown }

-- where bytes are left, there are two at least
left_2 : (types : Types) (view : View) (table place total : ℕ) (others : List Entry) → place < total
    → EntriesShown types view table (table + place) (total - place) others → place + 2 ≤ total
left_2 types view table place total [] below shown = absurd (omega (arith, below, shown))
left_2 types view table place total (entry ∷ others) below (length, is, within, rest) =
    omega (arith, at_least_2 types length entry is.typed is.long_enough, within, below)

pub two_left : {E : Type 0} (types : Types) (make : Entry → E) (view : View) (table front place total : ℕ) (list : List E)
    → AreRead types make view table front place total list → place < total → place + 2 ≤ total
two_left types make view table front place total list so_far below = left_2 types view table place total so_far.others below so_far.rest

-- the head of the next entry, and what follows it
pub record IsNext (types : Types) (view : View) (table place total kind length : ℕ) : Type 0 where
  pub head : IsHead view (table + place) kind length
  pub some : 2 ≤ length
  pub long : least_length (types kind) ≤ length
  pub within : place + length ≤ total
  pub others : List Entry
  pub rest : EntriesShown types view table (table + (place + length)) (total - (place + length)) others

next_of : (types : Types) (view : View) (table place total kind told : ℕ) (others : List Entry) → place < total
    → EntriesShown types view table (table + place) (total - place) others → IsHead view (table + place) kind told
    → IsNext types view table place total kind told
next_of types view table place total kind told [] below shown head = absurd (omega (arith, below, shown))
next_of types view table place total kind told (entry ∷ others) below (length, is, within, rest) head =
    let good = good_head types view table (table + place) (total - place) length kind told entry is within head in
    let at : table + place + length ≡ table + (place + told) = omega (arith, good.same) in
    let left : total - place - length ≡ total - (place + told) = omega (arith, good.same) in
    record {
      head = head;
      some = good.some;
      long = good.long;
      within = omega (arith, good.within, below);
      others = others;
      rest = subst (λ n. EntriesShown types view table (table + (place + told)) n others) left
          (subst (λ a. EntriesShown types view table a (total - place - length) others) at rest);
    }

pub next_read : {E : Type 0} (types : Types) (make : Entry → E) (view : View) (table front place at total kind length : ℕ) (list : List E)
    → AreRead types make view table front place total list → place < total → at ≡ place → IsHead view (table + at) kind length
    → IsNext types view table place total kind length
next_read types make view table front place at total kind length list so_far below here head =
    next_of types view table place total kind length so_far.others below so_far.rest (subst (λ a. IsHead view (table + a) kind length) here head)

-- one more was read
pub one_more_read : {E : Type 0} (types : Types) (make : Entry → E) (view : View) (table front place at after total kind length : ℕ)
    (list longer : List E) (item : E) (body : List ℕ) → AreReadable types → front ≤ place → AreRead types make view table front place total list
    → IsNext types view table place total kind length → at ≡ place → bytes_in view (table + at + 2) (length - 2) ≡ Some body
    → item ≡ make (entry_in (types kind) kind length body) → after ≡ place + length → longer ≡ list ++ item ∷ []
    → AreRead types make view table front after total longer
one_more_read types make view table front place at after total kind length list longer item body readable before so_far next here there is ends longer_is =
    let entry = entry_in (types kind) kind length body in
    let behind : bytes_in view (table + place + 2) (length - 2) ≡ Some body =
    subst (λ a. bytes_in view (table + a + 2) (length - 2) ≡ Some body) here there in
    let shown = shown_behind types view table front place length so_far.entries entry before so_far.shown
    (entry_stands types view table (table + place) kind length body readable next.head.0 next.head.1 next.long behind) in
    record {
      entries = so_far.entries ++ entry ∷ [];
      shown = subst (λ n. EntriesShown types view table (table + front) (n - front) (so_far.entries ++ entry ∷ [])) (sym ends) shown;
      list_is = longer_is ∙ ap (λ items. items ++ item ∷ []) so_far.list_is ∙ ap (λ last. map make so_far.entries ++ last ∷ []) is
          ∙ sym (map_push make so_far.entries entry);
      others = next.others;
      rest = subst (λ n. EntriesShown types view table (table + n) (total - n) next.others) (sym ends) next.rest;
    }
