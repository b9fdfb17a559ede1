use Rattle.std.proofs.Common.{◌≡◌, ℕ, List, [], ◌∷◌, ◌++◌, drop, arith, ap, subst, sym, append-nil, ◌∙◌}
use Rattle.std.proofs.lemmas.Result.{on_ok_weaker}
use Rattle.std.specs.Borrow.{Bor}
use Rattle.std.specs.List.{AllByRecursion}
use Rattle.vt_bytes.proofs.Each.{each_front}
use Rattle.vt_layout.specs.Rows.{size}
use Rattle.vt_layout.proofs.Sizes.{size-append}
use Rattle.acpi_model.specs.declared.acpi.Table.{Table}
use Rattle.acpi_model.specs.Kinds.{IsBodyRow}
use Rattle.blob_holes.specs.Rows.{IsUnsummed}
use Rattle.blob_holes.specs.Plain.{Spells}
use Rattle.blob_holes.specs.declared.part.Part.TheVariants.{Bytes}
use Rattle.blob_holes.specs.Parts.{StandFor}
use Rattle.blob_holes.proofs.PartRows.{bytes_alone, stand_size}
use Rattle.acpi_append.specs.Tables.{AreRowsPut, front_body, rows_as_bytes}
use Rattle.acpi_append.proofs.Puts.{table_put}
use Rattle.acpi_append.proofs.Tables.{body_unsummed, all_rows, table_begins, table_framed}
use Rattle.acpi_append.proofs.table.put_table.Goals as goal

pub append_table-requires-clause-header : goal.append_table-requires-clause-header
append_table-requires-clause-header c = table_begins c.args.table.now c.in_ok-rows.rows.rows c.in_ok-rows.ensures

pub append_table-requires-clause-no_sum : goal.append_table-requires-clause-no_sum
append_table-requires-clause-no_sum c =
    let table = c.args.table.now in
    let rows : drop 9 c.in_ok-rows.rows.rows ++ [] ≡ front_body table =
    append-nil (drop 9 c.in_ok-rows.rows.rows) ∙ ap (drop 9) c.in_ok-rows.ensures in
    subst (AllByRecursion IsUnsummed) (sym rows)
    (body_unsummed (front_body table) (each_front IsBodyRow (front_body table) (rows_as_bytes table)
    (subst (AllByRecursion IsBodyRow) (sym (all_rows table)) c.requires.writable.lawful.rows)))

-- the bytes stand for the rows that are put as bytes
rows_stand : (table : Table) (slice : Bor (List ℕ)) (bytes : List ℕ) → slice.now ≡ bytes → Spells (rows_as_bytes table) bytes
    → StandFor (Bytes slice ∷ []) (rows_as_bytes table)
rows_stand table slice bytes are spells =
    bytes_alone slice (rows_as_bytes table) (subst (Spells (rows_as_bytes table)) (sym are) spells)

pub append_table-requires-clause-few : goal.append_table-requires-clause-few
append_table-requires-clause-few c =
    let table = c.args.table.now in
    omega (
      arith,
      ap size c.in_ok-rows.ensures,
      c.requires.writable.lawful.few,
      ap size (all_rows table),
      size-append (front_body table) (rows_as_bytes table),
      stand_size (Bytes c.as_slice.result ∷ []) (rows_as_bytes table) (rows_stand table c.as_slice.result c.in_ok-bytes.bytes c.as_slice.ensures
          c.in_ok-bytes.ensures),
    )

pub returns-clause-put : goal.returns-clause-put
returns-clause-put c =
    let table = c.args.table.now in
    let stand = rows_stand table c.as_slice.result c.in_ok-bytes.bytes c.as_slice.ensures c.in_ok-bytes.ensures in
    let rows_are = table_framed table c.in_ok-rows.rows.rows c.known_signature.result.now (Bytes c.as_slice.result ∷ []) c.in_ok-rows.ensures
    c.known_signature.ensures stand in
    on_ok_weaker c.append_table.result (λ put.
    table_put c.args.blob.now c.append_table.new.blob table c.requires.writable
    (subst (AreRowsPut c.args.blob.now c.append_table.new.blob) rows_are (put (rows_as_bytes table) stand))) c.append_table.ensures.put
