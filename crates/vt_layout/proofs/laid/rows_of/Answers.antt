use Rattle.std.proofs.Common.{◌≤◌, [], length, ap, arith, ◌∙◌}
use Rattle.vt_layout.specs.Fields.{Gathered, all_added}
use Rattle.vt_layout.proofs.ReadableFields.{all_readable}
use Rattle.vt_layout.proofs.AddedFields.{are_added}
use Rattle.vt_layout.proofs.laid.rows_of.Goals as goal

pub returns-clause-rows : goal.returns-clause-rows
returns-clause-rows g c =
    let fields = g.T.Laid.fields c.args.laid.now in
    let lawful = g.met.T.Laid.lawful c.args.laid.now c.args.laid.now in
    let room : length fields ≤ c.ROWS.result = omega (arith, lawful.counted, c.ROWS.ensures) in
    ap (λ (all : Gathered). all.rows) (c.put.ensures ∙ ap (all_added fields) c.in_ok-rows.ensures)
    ∙ (are_added fields c.ROWS.result (record { area = 0; strings = 0 }) [] [] room (all_readable fields lawful.readable)).rows_are

pub returns-clause-texts : goal.returns-clause-texts
returns-clause-texts g c =
    let fields = g.T.Laid.fields c.args.laid.now in
    let lawful = g.met.T.Laid.lawful c.args.laid.now c.args.laid.now in
    let room : length fields ≤ c.ROWS.result = omega (arith, lawful.counted, c.ROWS.ensures) in
    ap (λ (all : Gathered). all.texts) (c.put.ensures ∙ ap (all_added fields) c.in_ok-rows.ensures)
    ∙ (are_added fields c.ROWS.result (record { area = 0; strings = 0 }) [] [] room (all_readable fields lawful.readable)).texts_are
