use Rattle.std.proofs.Common.{[], ◌++◌, drop, arith, ap, subst, sym}
use Rattle.std.proofs.lemmas.Result.{on_ok_weaker}
use Rattle.std.specs.List.{AllByRecursion}
use Rattle.vt_layout.specs.Rows.{size}
use Rattle.blob_holes.specs.Rows.{IsUnsummed}
use Rattle.acpi_append.specs.Tables.{AreRowsPut}
use Rattle.acpi_append.proofs.Tables.{dsdt_framed}
use Rattle.acpi_append.proofs.DsdtPut.{stand_block, dsdt_put}
use Rattle.acpi_append.proofs.dsdt.put_dsdt.Goals as goal

pub append_table-requires-clause-header : goal.append_table-requires-clause-header
append_table-requires-clause-header c = record { head = c.args.head.now; behind = []; are = c.in_ok-rows.ensures.rows }

pub append_table-requires-clause-no_sum : goal.append_table-requires-clause-no_sum
append_table-requires-clause-no_sum c = subst (λ rows. AllByRecursion IsUnsummed (drop 9 rows ++ [])) (sym c.in_ok-rows.ensures.rows) tt

pub append_table-requires-clause-few : goal.append_table-requires-clause-few
append_table-requires-clause-few c = omega (arith, ap size c.in_ok-rows.ensures.rows, c.requires.few)

pub returns-clause-put : goal.returns-clause-put
returns-clause-put c =
    let before = c.args.blob.now in
    let after = c.append_table.new.blob in
    on_ok_weaker c.append_table.result (λ put block stand.
    let those = subst (AreRowsPut before after) (dsdt_framed c.args.head.now c.in_ok-rows.rows.rows block c.args.block.now c.in_ok-rows.ensures.rows stand)
    (put block stand) in
    dsdt_put before after c.args.head.now block those.fit (stand_block c.args.block.now block stand) those.appended) c.append_table.ensures.put
