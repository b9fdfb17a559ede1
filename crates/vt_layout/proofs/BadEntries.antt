-- Bytes that are entries of a type and a length, or have a first bad one, and never both.
use Rattle.std.proofs.Common.{◌≡◌, ℕ, zero, suc, ◌+◌, ◌-◌, ◌<◌, ◌≤◌, ◌⊎◌, inl, inr, List, [], ◌∷◌, ◌++◌, drop, Option, Some, None}
use Rattle.std.proofs.Common.{arith, refl, ap, sym, subst, ◌∙◌}
use Rattle.std.proofs.lemmas.Bool.{cases_lt}
use Rattle.std.specs.Option.{option_map}
use Rattle.vt_bytes.specs.Numbers.{le}
use Rattle.vt_bytes.specs.Parts.{part}
use Rattle.vt_bytes.specs.View.{View, bytes_in, number_in}
use Rattle.vt_bytes.proofs.Views.{bytes_in-part, bytes_in-split}
use Rattle.vt_layout.specs.declared.row.Row.{Row}
use Rattle.vt_layout.specs.Entries.{Entry, Known, Other, Types, kind_of, IsOfType, HasLength, IsEntry, EntriesShown}
use Rattle.vt_layout.specs.BadEntries.{least_length, IsBadEntry, FirstBad, AreReadable, entry_in}
use Rattle.vt_layout.proofs.AsRows.{bytes_sized, bytes_shaped}
use Rattle.vt_layout.proofs.Entries.{at_least_2, same_entry}
use Rattle.vt_layout.proofs.InView.{bytes_as_rows}
use Rattle.vt_layout.proofs.NumberedRows.{size-shape}

-- an entry that stands is at least as long as the least of its type
has_least : (types : Types) (length : ℕ) (entry : Entry) → IsOfType types entry → HasLength length entry → least_length (types (kind_of entry)) ≤ length
has_least types length (Known kind rows) typed long = subst (λ known. least_length known ≤ length) (sym typed) (omega (arith, size-shape rows, long))
has_least types length (Other kind told) typed long = subst (λ known. least_length known ≤ length) (sym typed.0) (omega (arith, typed.1, long))

-- so it isn't bad
pub not_bad : (types : Types) (view : View) (start address count length : ℕ) (entry : Entry) → IsEntry types view start address length entry
    → length ≤ count → IsBadEntry types view address count → ⊥
not_bad types view start address count length entry is within (inl few) =
    absurd (omega (arith, at_least_2 types length entry is.typed is.long_enough))
not_bad types view start address count length entry is within (inr (kind, told, kind_is, told_is, inl short)) =
    let kinds : kind ≡ kind_of entry = cc (kind_is, is.shown.0) in
    let lengths : told ≡ length = cc (told_is, is.shown.1.0) in
    let short_of : told < least_length (types (kind_of entry)) = subst (λ k. told < least_length (types k)) kinds short in
    absurd (omega (arith, lengths, short_of, has_least types length entry is.typed is.long_enough))
not_bad types view start address count length entry is within (inr (kind, told, kind_is, told_is, inr over)) =
    let lengths : told ≡ length = cc (told_is, is.shown.1.0) in
    absurd (omega (arith, lengths))

-- entries that are shown hold no bad one
pub never_both : (types : Types) (view : View) (start address count : ℕ) (entries before : List Entry) (bad : ℕ)
    → EntriesShown types view start address count entries → FirstBad types view start address count before bad → ⊥
never_both types view start address count [] [] bad shown (place, some, is) = absurd (omega (arith, shown, some))
never_both types view start address count [] (entry ∷ before) bad shown (length, is, within, rest) =
    absurd (omega (arith, shown, at_least_2 types length entry is.typed is.long_enough))
never_both types view start address count (entry ∷ entries) [] bad (length, shown, within, rest) (place, some, is) =
    not_bad types view start address count length entry shown within is
never_both types view start address count (a ∷ entries) (b ∷ before) bad (m, shown, within, rest) (n, is, inside, behind) =
    let same = same_entry types view start address m n a b shown is in
    never_both types view start (address + n) (count - n) entries before bad
    (subst (λ l. EntriesShown types view start (address + l) (count - l) entries) same.lengths rest) behind

-- and one entry is the first bad one
pub one_bad : (types : Types) (view : View) (start address count : ℕ) (before others : List Entry) (bad other : ℕ)
    → FirstBad types view start address count before bad → FirstBad types view start address count others other → bad ≡ other
one_bad types view start address count [] [] bad other is also = is.0 ∙ sym also.0
one_bad types view start address count [] (entry ∷ others) bad other is (length, also, within, rest) =
    absurd (not_bad types view start address count length entry also within is.2)
one_bad types view start address count (entry ∷ before) [] bad other (length, is, within, rest) also =
    absurd (not_bad types view start address count length entry is within also.2)
one_bad types view start address count (a ∷ before) (b ∷ others) bad other (m, is, within, rest) (n, also, inside, behind) =
    let same = same_entry types view start address m n a b is also in
    one_bad types view start (address + n) (count - n) before others bad other
    (subst (λ l. FirstBad types view start (address + l) (count - l) before bad) same.lengths rest) behind

-- Where its type and its length stand, and are good, the entry is what its bytes are. Whether its type is known is told apart here.
made_entry : (known : Option (List Row)) (types : Types) (view : View) (start address kind length : ℕ) (body : List ℕ) → types kind ≡ known
    → AreReadable types → number_in view address 1 ≡ Some kind → number_in view (address + 1) 1 ≡ Some length → least_length known ≤ length
    → bytes_in view (address + 2) (length - 2) ≡ Some body → IsEntry types view start address length (entry_in known kind length body)
made_entry None types view start address kind length body is readable kind_is length_is long there =
    record { typed = (is, long); long_enough = refl; shown = (kind_is, (length_is, tt)) }
made_entry (Some rows) types view start address kind length body is readable kind_is length_is long there =
    let plain = readable kind rows is in
    let place : address + 2 ≡ address + 1 + 1 = omega arith in
    let behind : bytes_in view (address + 1 + 1) (length - 2) ≡ Some body = subst (λ a. bytes_in view a (length - 2) ≡ Some body) place there in
    let shown = bytes_as_rows view start (address + 1 + 1) (length - 2) rows body plain.1 (omega (arith, long)) behind in
    record {
      typed = is ∙ ap Some (sym plain.0 ∙ sym (bytes_shaped rows body));
      long_enough = omega (arith, bytes_sized rows body, long);
      shown = (kind_is, (length_is, shown));
    }

pub entry_stands : (types : Types) (view : View) (start address kind length : ℕ) (body : List ℕ) → AreReadable types
    → number_in view address 1 ≡ Some kind → number_in view (address + 1) 1 ≡ Some length → least_length (types kind) ≤ length
    → bytes_in view (address + 2) (length - 2) ≡ Some body → IsEntry types view start address length (entry_in (types kind) kind length body)
entry_stands types view start address kind length body = made_entry (types kind) types view start address kind length body refl

-- what so many bytes are: entries, or some of which one is the first bad one
abbrev AreEither : Types → View → ℕ → ℕ → ℕ → Type 0
AreEither types view start address count =
    ((entries : List Entry) × EntriesShown types view start address count entries)
    ⊎ ((before : List Entry) × (bad : ℕ) × FirstBad types view start address count before bad)

bad_here : (types : Types) (view : View) (start address count : ℕ) → 0 < count → IsBadEntry types view address count
    → AreEither types view start address count
bad_here types view start address count some is = inr ([], address, (refl, some, is))

one_in_front : (types : Types) (view : View) (start address count length : ℕ) (entry : Entry) → IsEntry types view start address length entry
    → length ≤ count → AreEither types view start (address + length) (count - length) → AreEither types view start address count
one_in_front types view start address count length entry is within (inl (entries, shown)) = inl (entry ∷ entries, (length, is, within, shown))
one_in_front types view start address count length entry is within (inr (before, bad, rest)) =
    inr (entry ∷ before, bad, (length, is, within, rest))

-- a byte as a number
number_shown : (view : View) (address count : ℕ) (bytes : List ℕ) (offset : ℕ) → bytes_in view address count ≡ Some bytes → offset + 1 ≤ count
    → number_in view (address + offset) 1 ≡ Some (le (part bytes offset 1))
number_shown view address count bytes offset there within = ap (option_map le) (bytes_in-part view address count bytes offset 1 there within)

-- each type's is at least two
least_2 : (known : Option (List Row)) → 2 ≤ least_length known
least_2 None = omega arith
least_2 (Some rows) = omega arith

-- an entry that is long enough runs past the bytes, or stands in front of what those behind it are
long_next : (types : Types) (view : View) (start address count kind length : ℕ) (bytes : List ℕ) → AreReadable types
    → bytes_in view address count ≡ Some bytes → 2 ≤ count → number_in view address 1 ≡ Some kind → number_in view (address + 1) 1 ≡ Some length
    → (length ≤ count → AreEither types view start (address + length) (count - length)) → least_length (types kind) ≤ length
    → AreEither types view start address count
long_next types view start address count kind length bytes readable there some kind_is length_is next long =
    let two = least_2 (types kind) in
    elim (cases_lt count length) as (λ _. AreEither types view start address count) [
      | inl over ↦ bad_here types view start address count (omega (arith, some)) (inr (kind, length, kind_is, length_is, inr over))
      | inr within ↦
          let behind = bytes_in-part view address count bytes 2 (length - 2) there (omega (arith, long, two, within)) in
          let is = entry_stands types view start address kind length (part bytes 2 (length - 2)) readable kind_is length_is long behind in
          one_in_front types view start address count length (entry_in (types kind) kind length (part bytes 2 (length - 2))) is within (next within)
    ]

-- an entry is bad, or stands in front of what the bytes behind it are
either_next : (types : Types) (view : View) (start address count kind length : ℕ) (bytes : List ℕ) → AreReadable types
    → bytes_in view address count ≡ Some bytes → 2 ≤ count → number_in view address 1 ≡ Some kind → number_in view (address + 1) 1 ≡ Some length
    → (2 ≤ length → length ≤ count → AreEither types view start (address + length) (count - length)) → AreEither types view start address count
either_next types view start address count kind length bytes readable there some kind_is length_is next =
    let two = least_2 (types kind) in
    elim (cases_lt length (least_length (types kind))) as (λ _. AreEither types view start address count) [
      | inl short ↦ bad_here types view start address count (omega (arith, some)) (inr (kind, length, kind_is, length_is, inl short))
      | inr long ↦
          long_next types view start address count kind length bytes readable there some kind_is length_is (next (omega (arith, long, two))) long
    ]

-- the bytes behind the first of them
behind_first : (view : View) (address count first : ℕ) (bytes : List ℕ) → bytes_in view address count ≡ Some bytes → first ≤ count
    → bytes_in view (address + first) (count - first) ≡ Some (drop first bytes)
behind_first view address count first bytes there within =
    let parts : count ≡ first + (count - first) = omega (arith, within) in
    (bytes_in-split view address first (count - first) bytes (subst (λ n. bytes_in view address n ≡ Some bytes) parts there)).second

-- as many bytes as there are steps, or fewer
either_within : (steps : ℕ) (types : Types) (view : View) (start address count : ℕ) (bytes : List ℕ) → AreReadable types
    → bytes_in view address count ≡ Some bytes → count ≤ steps → AreEither types view start address count
either_within steps types view start address zero bytes readable there few = inl ([], refl)
either_within zero types view start address (suc n) bytes readable there few = absurd (omega (arith, few))
either_within (suc steps) types view start address (suc n) bytes readable there few =
    let count : ℕ = suc n in
    let front : address + 0 ≡ address = omega arith in
    elim (cases_lt count 2) as (λ _. AreEither types view start address count) [
      | inl short ↦ bad_here types view start address count (omega arith) (inl short)
      | inr some ↦
          let kind : ℕ = le (part bytes 0 1) in
          let length : ℕ = le (part bytes 1 1) in
          let kind_is = subst (λ a. number_in view a 1 ≡ Some kind) front (number_shown view address count bytes 0 there (omega (arith, some))) in
          let length_is = number_shown view address count bytes 1 there (omega (arith, some)) in
          either_next types view start address count kind length bytes readable there some kind_is length_is
          (λ two within. either_within steps types view start (address + length) (count - length) (drop length bytes) readable
          (behind_first view address count length bytes there within) (omega (arith, two, few)))
    ]

pub entries_or_bad : (types : Types) (view : View) (start address count : ℕ) (bytes : List ℕ) → AreReadable types
    → bytes_in view address count ≡ Some bytes
    → ((entries : List Entry) × EntriesShown types view start address count entries)
    ⊎ ((before : List Entry) × (bad : ℕ) × FirstBad types view start address count before bad)
entries_or_bad types view start address count bytes readable there =
    either_within count types view start address count bytes readable there (omega arith)

-- What is said of the entries of so many bytes, and still holds with one more entry in front, holds with all that fill the first of
-- the bytes in front.
grown : (types : Types) (view : View) (start : ℕ) (Ends : ℕ → ℕ → List Entry → Type 0)
    → ((address count length : ℕ) (entry : Entry) (rest : List Entry) → IsEntry types view start address length entry → length ≤ count
    → Ends (address + length) (count - length) rest → Ends address count (entry ∷ rest))
    → (address count place : ℕ) (front rest : List Entry) → place ≤ count → EntriesShown types view start address place front
    → Ends (address + place) (count - place) rest → Ends address count (front ++ rest)
grown types view start Ends one address count place [] rest within shown ends =
    let here : address + place ≡ address = omega (arith, shown) in
    let all : count - place ≡ count = omega (arith, shown) in
    subst (λ n. Ends address n rest) all (subst (λ a. Ends a (count - place) rest) here ends)
grown types view start Ends one address count place (entry ∷ front) rest within (length, is, inside, shown) ends =
    let here : address + place ≡ address + length + (place - length) = omega (arith, inside) in
    let left : count - place ≡ count - length - (place - length) = omega (arith, inside, within) in
    one address count length entry (front ++ rest) is (omega (arith, inside, within))
    (grown types view start Ends one (address + length) (count - length) (place - length) front rest (omega (arith, inside, within)) shown
    (subst (λ n. Ends (address + length + (place - length)) n rest) left (subst (λ a. Ends a (count - place) rest) here ends)))

-- entries behind others
pub entries_behind : (types : Types) (view : View) (start address count place : ℕ) (front rest : List Entry) → place ≤ count
    → EntriesShown types view start address place front → EntriesShown types view start (address + place) (count - place) rest
    → EntriesShown types view start address count (front ++ rest)
entries_behind types view start address count place front rest =
    grown types view start (EntriesShown types view start) (λ a n length entry more is within shown. (length, is, within, shown))
    address count place front rest

-- one more entry behind them
pub entry_behind : (types : Types) (view : View) (start address place length : ℕ) (front : List Entry) (entry : Entry)
    → EntriesShown types view start address place front → IsEntry types view start (address + place) length entry
    → EntriesShown types view start address (place + length) (front ++ entry ∷ [])
entry_behind types view start address place length front entry shown is =
    entries_behind types view start address (place + length) place front (entry ∷ []) (omega arith) shown
    (length, is, omega arith, omega arith)

-- the first bad entry behind others
pub bad_behind : (types : Types) (view : View) (start address count place : ℕ) (front before : List Entry) (bad : ℕ) → place ≤ count
    → EntriesShown types view start address place front → FirstBad types view start (address + place) (count - place) before bad
    → FirstBad types view start address count (front ++ before) bad
bad_behind types view start address count place front before bad =
    grown types view start (λ a n entries. FirstBad types view start a n entries bad)
    (λ a n length entry more is within rest. (length, is, within, rest)) address count place front before
