use Rattle.std.proofs.Common.{◌+◌, ◌*◌, List, ℕ, subst}
use Rattle.std.proofs.lemmas.Result.{err_from_is_err_and}
use Rattle.cfg_directory.specs.Held.{IsRefusal}
use Rattle.cfg_directory.proofs.HeadFilled.{IsHeadFilled-from, head_refused}
use Rattle.cfg_directory.proofs.gathering.take_entries.Goals as goal

pub returns-in_err-held : goal.returns-in_err-held
returns-in_err-held c =
    let p = err_from_is_err_and c.from_residual.result c.from_residual.ensures.1 in
    let old = c.args.held.now in
    let head = c.fill-left.new.self in
    let size = 4 + 64 * c.args.count in
    let filled = IsHeadFilled-from old.head c.args.piece.now head c.fill-left.result.now size c.fill-left.ensures.taken c.fill-left.ensures.left
    c.requires.within in
    rw (p.1, p.2) (head_refused old c.args.piece.now head c.fill-left.result.now size c.in_err-held.field-0.0 c.requires.none filled
    (subst (λ (h : List ℕ). IsRefusal h c.in_err-held.field-0.0) c.as_slice.ensures c.in_err-held.ensures.err))
