-- Entries that are counted, up to the first bad one.
use Rattle.std.proofs.Common.{◌≡◌, ℕ, ◌+◌, ◌-◌, ◌<◌, ◌≤◌, true, List, [], ◌∷◌, ◌++◌, length, Some}
use Rattle.std.proofs.Common.{arith, refl, ap, subst, ◌∙◌}
use Rattle.std.proofs.lemmas.List.{length_push}
use Rattle.vt_bytes.specs.View.{View}
use Rattle.vt_layout.specs.Entries.{Entry, Types, IsEntry, EntriesShown}
use Rattle.vt_layout.specs.BadEntries.{least_length, IsBadEntry, AreReadable, entry_in}
use Rattle.vt_layout.proofs.BadEntries.{entry_stands, bad_behind}
use Rattle.acpi_decode.specs.declared.fault.AcpiFault.TheVariants.{BadEntry}
use Rattle.acpi_decode.specs.Seen.{is_ram, bytes_from}
use Rattle.acpi_decode.specs.EntryFaults.{EntryFault}
use Rattle.acpi_decode.specs.EntryHeads.{IsHead, IsGoodLength}
use Rattle.acpi_decode.proofs.InRam.{ram_bytes, part_ram}
use Rattle.acpi_decode.proofs.EntriesInTurn.{least_2, shown_behind}

-- so many entries fill a table from an offset up to a place
pub record AreCounted (types : Types) (view : View) (table front place count : ℕ) : Type 0 where
  pub entries : List Entry
  pub shown : EntriesShown types view table (table + front) (place - front) entries
  pub number : length entries ≡ count
  pub few : count ≤ place - front

-- an entry with a good head, whose bytes are these
made_entry : (types : Types) (view : View) (start at left kind total : ℕ) → AreReadable types → is_ram view at left ≡ true → IsHead view at kind total
    → least_length (types kind) ≤ total → total ≤ left
    → IsEntry types view start at total (entry_in (types kind) kind total (bytes_from view (at + 2) (total - 2)))
made_entry types view start at left kind total readable ram head long within =
    let two = least_2 (types kind) in
    let behind = part_ram view at left 2 (total - 2) ram (omega (arith, two, long, within)) in
    entry_stands types view start at kind total (bytes_from view (at + 2) (total - 2)) readable head.0 head.1 long
    (ram_bytes view (at + 2) (total - 2) behind)

-- one more is counted
pub one_more_counted : (types : Types) (view : View) (table front place left count total : ℕ) → AreReadable types → front ≤ place
    → is_ram view (table + place) left ≡ true → AreCounted types view table front place count → IsGoodLength types view (table + place) left total
    → AreCounted types view table front (place + total) (count + 1)
one_more_counted types view table front place left count total readable before ram so_far (kind, head, long, within) =
    let two = least_2 (types kind) in
    let entry = entry_in (types kind) kind total (bytes_from view (table + place + 2) (total - 2)) in
    record {
      entries = so_far.entries ++ entry ∷ [];
      shown = shown_behind types view table front place total so_far.entries entry before so_far.shown
          (made_entry types view table (table + place) left kind total readable ram head long within);
      number = length_push so_far.entries entry ∙ ap (λ n. n + 1) so_far.number;
      few = omega (arith, so_far.few, two, long, before);
    }

-- a bad one stands behind them
pub bad_counted : (types : Types) (view : View) (table front place total count : ℕ) → front ≤ place → place < total
    → AreCounted types view table front place count → IsBadEntry types view (table + place) (total - place)
    → EntryFault (Some types) view table (table + front) (total - front) (BadEntry (table + place))
bad_counted types view table front place total count before within so_far bad =
    let at : table + place ≡ table + front + (place - front) = omega (arith, before) in
    let left : total - place ≡ total - front - (place - front) = omega (arith, before, within) in
    let here : IsBadEntry types view (table + front + (place - front)) (total - front - (place - front)) =
    subst (λ n. IsBadEntry types view (table + front + (place - front)) n) left (subst (λ a. IsBadEntry types view a (total - place)) at bad) in (
      so_far.entries ++ [],
      table + place,
      bad_behind types view table (table + front) (total - front) (place - front) so_far.entries [] (table + place) (omega (arith, before, within))
          so_far.shown (at, omega (arith, before, within), here),
      refl,
    )
