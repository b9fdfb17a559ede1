-- Entries of a type and a length: as they are held they are shown, and one list of them is shown.
use Rattle.std.proofs.Common.{◌≡◌, ℕ, ◌+◌, ◌-◌, ◌≤◌, List, [], ◌∷◌, ◌++◌, map, arith, refl, sym, subst}
use Rattle.std.specs.List.{AllByRecursion}
use Rattle.vt_bytes.specs.View.{View}
use Rattle.vt_bytes.proofs.Each.{each_front, each_back}
use Rattle.vt_layout.specs.declared.row.Row.{Row}
use Rattle.vt_layout.specs.Rows.{size, shape, IsRow}
use Rattle.vt_layout.specs.Shown.{Held}
use Rattle.vt_layout.specs.Entries.{Entry, Known, Other, Types, entry_rows, entries_rows, linked_entry, linked_entries}
use Rattle.vt_layout.specs.Entries.{IsOfType, HasLength, IsEntry, EntriesShown}
use Rattle.vt_layout.proofs.Sizes.{size-append}
use Rattle.vt_layout.proofs.Shows.{size-linked, shown_rows, held_front, held_back}
use Rattle.vt_layout.proofs.Same.{same_rows}

-- an entry has at least two bytes
pub at_least_2 : (types : Types) (length : ℕ) (entry : Entry) → IsOfType types entry → HasLength length entry → 2 ≤ length
at_least_2 types length (Known kind rows) typed long = omega arith
at_least_2 types length (Other kind total) typed long = omega (arith, typed.1, long)

-- an entry as it is written has the length that it tells
length_of : Entry → ℕ
length_of (Known kind rows) = 2 + size rows
length_of (Other kind length) = length

size-entry : (types : Types) (place_of : List ℕ → ℕ) (entry : Entry) → IsOfType types (linked_entry place_of entry)
    → size (entry_rows entry) ≡ length_of entry
unfolding length_of
size-entry types place_of (Known kind rows) typed = omega arith
size-entry types place_of (Other kind length) typed = omega (arith, typed.1)

shown_entry : (types : Types) (view : View) (place_of : List ℕ → ℕ) (start address : ℕ) (entry : Entry) → AllByRecursion IsRow (entry_rows entry)
    → IsOfType types (linked_entry place_of entry) → Held view place_of start address (entry_rows entry)
    → IsEntry types view start address (length_of entry) (linked_entry place_of entry)
unfolding length_of
shown_entry types view place_of start address (Known kind rows) are typed held = record {
  typed = typed;
  long_enough = omega (arith, size-linked place_of rows);
  shown = shown_rows view place_of start address (entry_rows (Known kind rows)) are held;
}
shown_entry types view place_of start address (Other kind length) are typed held =
    let shown = shown_rows view place_of start address (entry_rows (Other kind length)) are held in
    record { typed = typed; long_enough = refl; shown = (shown.0, (shown.1.0, tt)) }

pub shown_entries : (types : Types) (view : View) (place_of : List ℕ → ℕ) (start address : ℕ) (entries : List Entry)
    → AllByRecursion IsRow (entries_rows entries) → AllByRecursion (IsOfType types) (linked_entries place_of entries)
    → Held view place_of start address (entries_rows entries)
    → EntriesShown types view start address (size (entries_rows entries)) (linked_entries place_of entries)
shown_entries types view place_of start address [] are typed held = refl
shown_entries types view place_of start address (entry ∷ entries) are typed held =
    let own : List Row = entry_rows entry in
    let more : List Row = entries_rows entries in
    let sizes = size-append own more in
    let length = size-entry types place_of entry typed.0 in
    let rest : size (own ++ more) - length_of entry ≡ size more = omega (arith, sizes, length) in
    let place : address + size own ≡ address + length_of entry = omega (arith, length) in
    let behind = shown_entries types view place_of start (address + size own) entries (each_back IsRow own more are) typed.1
    (held_back view place_of start address own more held) in (
      length_of entry,
      shown_entry types view place_of start address entry (each_front IsRow own more are) typed.0 (held_front view place_of start address own more held),
      omega (arith, sizes, length),
      subst (λ count. EntriesShown types view start (address + length_of entry) count (linked_entries place_of entries)) (sym rest)
          (subst (λ a. EntriesShown types view start a (size more) (linked_entries place_of entries)) place behind),
    )

-- two entries at one address have one length, and are the same
pub record SameEntry (m n : ℕ) (a b : Entry) : Type 0 where
  pub lengths : m ≡ n
  pub entries : a ≡ b

pub same_entry : (types : Types) (view : View) (start address m n : ℕ) (a b : Entry) → IsEntry types view start address m a
    → IsEntry types view start address n b → SameEntry m n a b
same_entry types view start address m n (Known kind rows) (Known other others) is also =
    let kinds : kind ≡ other = cc (is.shown.0, also.shown.0) in
    let lengths : m ≡ n = cc (is.shown.1.0, also.shown.1.0) in
    let shapes : shape rows ≡ shape others = cc (is.typed, also.typed, kinds) in
    let same : rows ≡ others = same_rows view start (address + 1 + 1) rows others is.shown.1.1 also.shown.1.1 shapes in
    record { lengths = lengths; entries = cc }
same_entry types view start address m n (Known kind rows) (Other other total) is also =
    let kinds : kind ≡ other = cc (is.shown.0, also.shown.0) in
    absurd (cc (is.typed, also.typed.0, kinds))
same_entry types view start address m n (Other kind length) (Known other others) is also =
    let kinds : kind ≡ other = cc (is.shown.0, also.shown.0) in
    absurd (cc (is.typed.0, also.typed, kinds))
same_entry types view start address m n (Other kind length) (Other other total) is also =
    let kinds : kind ≡ other = cc (is.shown.0, also.shown.0) in
    let lengths : m ≡ n = cc (is.shown.1.0, also.shown.1.0) in
    let totals : length ≡ total = cc (is.long_enough, also.long_enough, lengths) in
    record { lengths = lengths; entries = cc }

pub same_entries : (types : Types) (view : View) (start address count : ℕ) (entries others : List Entry)
    → EntriesShown types view start address count entries → EntriesShown types view start address count others → entries ≡ others
same_entries types view start address count [] [] is also = refl
same_entries types view start address count [] (b ∷ bs) is (n, entry, within, rest) =
    absurd (omega (arith, is, at_least_2 types n b entry.typed entry.long_enough))
same_entries types view start address count (a ∷ as_more) [] (m, entry, within, rest) also =
    absurd (omega (arith, also, at_least_2 types m a entry.typed entry.long_enough))
same_entries types view start address count (a ∷ more) (b ∷ others) (m, is, within, rest) (n, also, inside, behind) =
    let same = same_entry types view start address m n a b is also in
    let there = subst (λ l. EntriesShown types view start (address + l) (count - l) more) same.lengths rest in
    let rests : more ≡ others = same_entries types view start (address + n) (count - n) more others there behind in
    let firsts : a ≡ b = same.entries in
    cc

-- A table whose own entries have no pointers: what they are as entries stays when it is linked, they are got back from that, and they
-- are of its types where each of them is.
pub list_back : {T : Type 0} (entry_of : T → Entry) (back : Entry → T) → ((t : T) → back (entry_of t) ≡ t) → (list : List T)
    → map back (map entry_of list) ≡ list
list_back entry_of back inverse [] = refl
list_back entry_of back inverse (t ∷ ts) =
    let first : back (entry_of t) ≡ t = inverse t in
    let rest : map back (map entry_of ts) ≡ ts = list_back entry_of back inverse ts in
    cc

pub list_linked : {T : Type 0} (entry_of : T → Entry) (place_of : List ℕ → ℕ) → ((t : T) → linked_entry place_of (entry_of t) ≡ entry_of t)
    → (list : List T) → linked_entries place_of (map entry_of list) ≡ map entry_of list
list_linked entry_of place_of plain [] = refl
list_linked entry_of place_of plain (t ∷ ts) =
    let first : linked_entry place_of (entry_of t) ≡ entry_of t = plain t in
    let rest : linked_entries place_of (map entry_of ts) ≡ map entry_of ts = list_linked entry_of place_of plain ts in
    cc

pub list_typed : {T : Type 0} (types : Types) (entry_of : T → Entry) (IsKept : T → Type 0) → ((t : T) → IsKept t → IsOfType types (entry_of t))
    → (list : List T) → AllByRecursion IsKept list → AllByRecursion (IsOfType types) (map entry_of list)
list_typed types entry_of IsKept typed [] kept = tt
list_typed types entry_of IsKept typed (t ∷ ts) kept = (typed t kept.0, list_typed types entry_of IsKept typed ts kept.1)
