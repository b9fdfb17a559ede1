use Rattle.std.proofs.Common.{[], ◌++◌, map, drop, arith, refl, ap, subst, sym, ◌∙◌}
use Rattle.std.proofs.lemmas.Result.{on_ok_weaker}
use Rattle.std.specs.List.{AllByRecursion}
use Rattle.vt_bytes.proofs.Each.{each_map}
use Rattle.vt_layout.specs.Rows.{size, IsRow}
use Rattle.vt_layout.proofs.NumberRows.{are_pointers, size-pointers}
use Rattle.acpi_model.specs.Xsdt.{xsdt_rows}
use Rattle.acpi_model.proofs.Xsdt.{held_xsdt}
use Rattle.blob_holes.specs.Rows.{IsUnsummed}
use Rattle.acpi_model.specs.Kinds.{tables_name}
use Rattle.acpi_append.specs.Tables.{AreRowsPut, table_pointer}
use Rattle.acpi_append.proofs.Tables.{xsdt_framed}
use Rattle.acpi_append.proofs.Puts.{put_where_held}
use Rattle.acpi_append.proofs.xsdt.put_xsdt.Goals as goal

pub append_table-requires-clause-header : goal.append_table-requires-clause-header
append_table-requires-clause-header c = record { head = c.args.head.now; behind = []; are = c.in_ok-rows.ensures.rows }

pub append_table-requires-clause-more : goal.append_table-requires-clause-more
append_table-requires-clause-more c =
    subst (AllByRecursion IsRow) (sym (c.as_slice.ensures ∙ c.in_ok-entries.ensures))
    (are_pointers tables_name c.args.tables.now (λ i. omega (arith, c.type_inv.tables i)))

pub append_table-requires-clause-no_sum : goal.append_table-requires-clause-no_sum
append_table-requires-clause-no_sum c =
    subst (λ rows. AllByRecursion IsUnsummed (drop 9 rows ++ c.as_slice.result.now)) (sym c.in_ok-rows.ensures.rows)
    (subst (AllByRecursion IsUnsummed) (sym (c.as_slice.ensures ∙ c.in_ok-entries.ensures)) (each_map IsUnsummed table_pointer (λ table. tt) c.args.tables.now))

pub append_table-requires-clause-few : goal.append_table-requires-clause-few
append_table-requires-clause-few c =
    omega (
      arith,
      ap size c.in_ok-rows.ensures.rows,
      ap size (c.as_slice.ensures ∙ c.in_ok-entries.ensures),
      size-pointers 8 tables_name
          c.args.tables.now,
      c.requires.few,
    )

pub returns-clause-size : goal.returns-clause-size
returns-clause-size c =
    let rows_are = xsdt_framed c.args.head.now c.in_ok-rows.rows.rows c.as_slice.result.now _ c.in_ok-rows.ensures.rows
    (c.as_slice.ensures ∙ c.in_ok-entries.ensures) in
    on_ok_weaker c.append_table.result (λ put.
    omega (arith, (put [] refl).appended.size_is, ap size rows_are, size-pointers 8 tables_name c.args.tables.now)) c.append_table.ensures.put

pub returns-clause-put : goal.returns-clause-put
returns-clause-put c =
    let rows_are = xsdt_framed c.args.head.now c.in_ok-rows.rows.rows c.as_slice.result.now _ c.in_ok-rows.ensures.rows
    (c.as_slice.ensures ∙ c.in_ok-entries.ensures) in
    on_ok_weaker c.append_table.result (λ put.
    let those = subst (AreRowsPut c.args.blob.now c.append_table.new.blob) rows_are (put [] refl) in
    put_where_held c.args.blob.now c.append_table.new.blob (xsdt_rows c.args.head.now (map table_pointer c.args.tables.now)) _ those.appended
    (λ view at place_of held. held_xsdt view place_of at c.args.head.now tables_name c.args.tables.now c.requires.few those.fit held))
    c.append_table.ensures.put
