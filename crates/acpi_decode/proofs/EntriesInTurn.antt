-- Entries that stand one after the other, from an offset of a table on.
use Rattle.std.proofs.Common.{◌≡◌, ℕ, ◌+◌, ◌-◌, ◌≤◌, List, [], ◌∷◌, ◌++◌, Option, Some, None}
use Rattle.std.proofs.Common.{arith, subst}
use Rattle.vt_bytes.specs.View.{View}
use Rattle.vt_layout.specs.declared.row.Row.{Row}
use Rattle.vt_layout.specs.Entries.{Entry, Types, IsEntry, EntriesShown}
use Rattle.vt_layout.specs.BadEntries.{least_length}
use Rattle.vt_layout.proofs.BadEntries.{entry_behind}

-- an entry of any type has at least two bytes
pub least_2 : (known : Option (List Row)) → 2 ≤ least_length known
least_2 None = omega arith
least_2 (Some rows) = omega arith

-- one more entry behind those that end at a place
pub shown_behind : (types : Types) (view : View) (table front place total : ℕ) (entries : List Entry) (entry : Entry) → front ≤ place
    → EntriesShown types view table (table + front) (place - front) entries → IsEntry types view table (table + place) total entry
    → EntriesShown types view table (table + front) (place + total - front) (entries ++ entry ∷ [])
shown_behind types view table front place total entries entry before shown is =
    let at : table + place ≡ table + front + (place - front) = omega (arith, before) in
    let more : place - front + total ≡ place + total - front = omega (arith, before) in
    subst (λ n. EntriesShown types view table (table + front) n (entries ++ entry ∷ [])) more
    (entry_behind types view table (table + front) (place - front) total entries entry shown
    (subst (λ a. IsEntry types view table a total entry) at is))
