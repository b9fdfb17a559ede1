use Rattle.std.proofs.lemmas.Result.{err_from_is_err_and}
use Rattle.desc_schema.specs.Form.{form_of}
use Rattle.desc_schema.proofs.Loops.{singles_go_on, singles_stop, singles_done}
use Rattle.desc_schema.proofs.walk.push_singles.Goals as goal

pub returns-in_err-push_one : goal.returns-in_err-push_one
returns-in_err-push_one c =
    let p = err_from_is_err_and c.from_residual.result c.from_residual.ensures.1 in
    rw (p.1, p.2)
    (singles_stop c.in_err-push_one.field-0.0 c.loop-index.progress.values c.loop-index.progress.positions c.args.at (form_of c.args.scalar) c.loop-index.index
    c.args.nodes.now _ _
    c.loop-index-test.true c.index-nodes-index.is c.in_err-push_one.ensures c.loop-index.invariant)

pub loop-index-preserved : goal.loop-index-preserved
loop-index-preserved c =
    singles_go_on c.loop-index.progress.values c.push_one.new.progress.values c.loop-index.progress.positions c.push_one.new.progress.positions c.args.at
    (form_of c.args.scalar) c.loop-index.index
    c.args.nodes.now _ _ c.loop-index-test.true c.index-nodes-index.is c.in_ok-push_one.ensures c.loop-index.invariant

pub returns : goal.returns
returns c =
    singles_done c.loop-index.progress.values c.loop-index.progress.positions c.args.at
    (form_of c.args.scalar) c.loop-index.index c.args.nodes.now _ c.loop-index-test.false c.loop-index.invariant
