use Rattle.std.proofs.Common.{◌≡◌, [], ◌++◌, subst, ◌∙◌, append-nil, refl}
use Rattle.std.proofs.lemmas.Result.{on_ok_weaker}
use Rattle.std.specs.List.{AllByRecursion}
use Rattle.vt_layout.specs.Rows.{IsRow}
use Rattle.acpi_records.specs.Facs.{facs_rows}
use Rattle.blob_holes.specs.Appended.{IsAppended}
use Rattle.acpi_append.proofs.Tables.{sixteen}
use Rattle.acpi_append.proofs.FacsPut.{facs_put}
use Rattle.acpi_append.proofs.facs.put_facs.Goals as goal

pub append_layout-requires-clause-power : goal.append_layout-requires-clause-power
append_layout-requires-clause-power c = sixteen

pub returns-clause-put : goal.returns-clause-put
returns-clause-put c =
    let before = c.args.blob.now in
    let after = c.append_layout.new.blob in
    let are : c.rows-2.result.now ≡ facs_rows c.args.facs.now = c.rows-2.ensures.rows ∙ c.in_ok-rows.ensures.rows in
    on_ok_weaker c.append_layout.result (λ appended.
    facs_put before after c.args.facs.now (subst (AllByRecursion IsRow) c.in_ok-rows.ensures.rows c.rows-2.ensures.fit)
    (subst (IsAppended 16 before after) (append-nil (c.rows-2.result.now ++ []) ∙ append-nil c.rows-2.result.now ∙ are) (appended [] refl)))
    c.append_layout.ensures.appended
