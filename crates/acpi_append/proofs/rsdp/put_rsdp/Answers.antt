use Rattle.std.proofs.Common.{◌≡◌, ℕ, List, [], ◌++◌, arith, ap, subst, sym, ◌∙◌, append-nil, refl}
use Rattle.std.specs.List.{AllByRecursion}
use Rattle.vt_layout.specs.declared.row.Row.{Row}
use Rattle.vt_layout.specs.Rows.{IsRow, size, linked}
use Rattle.vt_layout.specs.Shown.{LayoutShown}
use Rattle.vt_layout.proofs.Shows.{shown_rows}
use Rattle.acpi_model.specs.Rsdp.{rsdp_rows}
use Rattle.blob_holes.specs.Rows.{SumsFit, AreRows}
use Rattle.blob_holes.specs.Appended.{IsAppended}
use Rattle.acpi_append.specs.Tables.{IsRsdpPut, table_pointer}
use Rattle.acpi_append.proofs.Tables.{sixteen}
use Rattle.acpi_append.proofs.Puts.{put_where_held}
use Rattle.acpi_append.proofs.rsdp.put_rsdp.Goals as goal

pub append_layout-requires-clause-power : goal.append_layout-requires-clause-power
append_layout-requires-clause-power c = sixteen

-- the sums of an RSDP cover its first 20 bytes, and then all 36
sums : (oem_id : List ℕ) (xsdt : ℕ) (row : Row) (rows : List Row) → rows ≡ rsdp_rows oem_id row → row ≡ table_pointer xsdt → SumsFit (size rows) 0 0 rows
sums oem_id xsdt row rows are is =
    subst (λ all. SumsFit (size all) 0 0 all) (sym (are ∙ ap (rsdp_rows oem_id) is))
    (tt, ((omega arith, omega arith, omega arith), (tt, (tt, (tt, (tt, (tt, ((omega arith, omega arith, omega arith), (tt, tt)))))))))

pub append_layout-requires-clause-rows : goal.append_layout-requires-clause-rows
append_layout-requires-clause-rows c =
    let rows = c.rsdp_rows.result in
    let are : rows ++ [] ++ [] ≡ rows = append-nil (rows ++ []) ∙ append-nil rows in
    subst AreRows (sym are) (record {
      each = c.rsdp_rows.ensures.fit;
      sums = sums c.args.oem_id.now _ c.table_pointer.result rows c.rsdp_rows.ensures.rows c.table_pointer.ensures.row;
    })

pub returns : goal.returns
returns c =
    let before = c.args.blob.now in
    let after = c.append_layout.new.blob in
    let rows = rsdp_rows c.args.oem_id.now (table_pointer c.args.xsdt) in
    let rows_are : c.rsdp_rows.result ≡ rows = c.rsdp_rows.ensures.rows ∙ ap (rsdp_rows c.args.oem_id.now) c.table_pointer.ensures.row in
    let put : IsRsdpPut before after c.args.oem_id.now c.args.xsdt =
    put_where_held before after rows (λ view at place_of. LayoutShown view at (linked place_of rows))
    (subst (IsAppended 16 before after) (append-nil (c.rsdp_rows.result ++ []) ∙ append-nil c.rsdp_rows.result ∙ rows_are)
    (c.in_ok-append_layout.ensures.appended [] refl))
    (λ view at place_of held. shown_rows view place_of at at rows (subst (AllByRecursion IsRow) rows_are c.rsdp_rows.ensures.fit) held) in
    put
