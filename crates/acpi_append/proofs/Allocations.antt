-- Bytes with the rows of an allocation more behind them.
use Rattle.std.proofs.Common.{◌≡◌, ℕ, ◌+◌, ◌<◌, List, [], ◌∷◌, ◌++◌, length, take, get_or, ap, sym, subst, ◌∙◌, append-nil}
use Rattle.std.proofs.lemmas.List.{take_more}
use Rattle.std.proofs.lemmas.Grind.{flat_map-append}
use Rattle.vt_layout.specs.declared.row.Row.{Row}
use Rattle.vt_layout.specs.Fields.{field_rows}
use Rattle.acpi_records.specs.declared.mcfg.McfgAllocation.{McfgAllocation}
use Rattle.acpi_records.specs.Mcfg.{allocation_fields, allocations_rows}
use Rattle.blob_holes.specs.Plain.{Spells}

abbrev pub rows_of : McfgAllocation → List Row
rows_of a = field_rows (allocation_fields a)

-- one allocation more of a list
rows_more : (list : List McfgAllocation) (k : ℕ) (other : McfgAllocation) → k < length list
    → allocations_rows (take (k + 1) list) ≡ allocations_rows (take k list) ++ rows_of (get_or list k other)
rows_more list k other below =
    ap allocations_rows (take_more list k other below) ∙ flat_map-append rows_of (take k list) (get_or list k other ∷ [])
    ∙ ap (λ last. allocations_rows (take k list) ++ last) (append-nil (rows_of (get_or list k other)))

-- where it was put behind those before it, it is spelled with them
pub spelled_more : (list items : List McfgAllocation) (k : ℕ) (other : McfgAllocation) (bytes : List ℕ) → items ≡ list → k < length items
    → Spells (allocations_rows (take k list) ++ rows_of (get_or items k other)) bytes → Spells (allocations_rows (take (k + 1) list)) bytes
spelled_more list items k other bytes are below spells =
    subst (λ those. Spells (allocations_rows (take (k + 1) those)) bytes) are
    (subst (λ rows. Spells rows bytes) (sym (rows_more items k other below))
    (subst (λ those. Spells (allocations_rows (take k those) ++ rows_of (get_or items k other)) bytes) (sym are) spells))
