-- Bytes with the rows of an entry more behind them.
use Rattle.std.proofs.Common.{◌≡◌, ℕ, zero, suc, ◌+◌, ◌<◌, List, [], ◌∷◌, ◌++◌, length, map, take, get_or, arith, refl, ap, sym, subst, ◌∙◌}
use Rattle.std.proofs.Common.{append_assoc, append-nil}
use Rattle.std.specs.List.{AllByRecursion}
use Rattle.vt_bytes.proofs.Each.{each_append}
use Rattle.vt_layout.specs.declared.row.Row.{Row}
use Rattle.vt_layout.specs.Rows.{size, spelled, IsRow, IsPlain}
use Rattle.vt_layout.specs.Entries.{Entry, Known, entry_head, entry_rows, entries_rows}
use Rattle.vt_layout.proofs.Sizes.{spelled-append}
use Rattle.blob_holes.specs.Plain.{Spells}
use Rattle.blob_holes.proofs.Spelled.{spells-append}
use Rattle.acpi_append.specs.EntryPut.{IsEntryPut}

-- rows that were put behind bytes are spelled behind what those spell
pub rows_put : (rows : List Row) (before after : List ℕ) → AllByRecursion IsPlain rows → AllByRecursion IsRow rows → after ≡ before ++ spelled rows
    → (front : List Row) → Spells front before → Spells (front ++ rows) after
rows_put rows before after plain fit is front spells =
    subst (Spells (front ++ rows)) (sym is)
    (spells-append front rows before (spelled rows) spells (record { plain = plain; fit = fit; written = refl }))

-- an entry's two first rows, and then those behind them
pub known_put : (kind : ℕ) (rows head : List Row) (before between after : List ℕ) → AllByRecursion IsPlain rows → AllByRecursion IsRow rows
    → head ≡ entry_head kind (2 + size rows) → AllByRecursion IsRow head → between ≡ before ++ spelled head → after ≡ between ++ spelled rows
    → IsEntryPut before after (Known kind rows)
known_put kind rows head before between after plain fit head_is head_fits first second =
    let own : List Row = entry_head kind (2 + size rows) in
    let whole : after ≡ before ++ spelled (own ++ rows) =
    second ∙ ap (λ bytes. bytes ++ spelled rows) first ∙ append_assoc before (spelled head) (spelled rows)
    ∙ ap (λ bytes. before ++ bytes) (sym (spelled-append head rows)) ∙ ap (λ those. before ++ spelled (those ++ rows)) head_is in
    rows_put (own ++ rows) before after (tt, (tt, plain)) (each_append IsRow own rows (subst (AllByRecursion IsRow) head_is head_fits) fit) whole

-- one entry more of a list
pub entries_more : {T : Type 0} (entry_of : T → Entry) (list : List T) (k : ℕ) (other : T) → k < length list
    → entries_rows (map entry_of (take (k + 1) list)) ≡ entries_rows (map entry_of (take k list)) ++ entry_rows (entry_of (get_or list k other))
entries_more entry_of [] k other l = absurd (omega arith)
entries_more entry_of (t ∷ list) zero other l = append-nil (entry_rows (entry_of t))
entries_more entry_of (t ∷ list) (suc k) other l =
    let count : suc k + 1 ≡ suc (k + 1) = omega arith in
    ap (λ n. entries_rows (map entry_of (take n (t ∷ list)))) count
    ∙ ap (λ more. entry_rows (entry_of t) ++ more) (entries_more entry_of list k other (omega arith))
    ∙ sym (append_assoc (entry_rows (entry_of t)) (entries_rows (map entry_of (take k list))) (entry_rows (entry_of (get_or list k other))))

-- where it was put behind those before it, it is spelled with them
pub spelled_more : {T : Type 0} (entry_of : T → Entry) (list items : List T) (k : ℕ) (other : T) (bytes : List ℕ) → items ≡ list → k < length items
    → Spells (entries_rows (map entry_of (take k list)) ++ entry_rows (entry_of (get_or items k other))) bytes
    → Spells (entries_rows (map entry_of (take (k + 1) list))) bytes
spelled_more entry_of list items k other bytes are below spells =
    subst (λ those. Spells (entries_rows (map entry_of (take (k + 1) those))) bytes) are
    (subst (λ rows. Spells rows bytes) (sym (entries_more entry_of items k other below))
    (subst (λ those. Spells (entries_rows (map entry_of (take k those)) ++ entry_rows (entry_of (get_or items k other))) bytes) (sym are) spells))
