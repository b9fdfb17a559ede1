use Rattle.std.proofs.Common.{◌∙◌, ap, sym}
use Rattle.std.proofs.lemmas.Result.{err_from_is_err_and}
use Rattle.cfg_directory.specs.Parts.{directory_at}
use Rattle.cfg_directory.proofs.Heads.{HasListed-from, entries_refused}
use Rattle.cfg_directory.proofs.opening.read_entries.Goals as goal

pub returns-in_err-listed-clause-err : goal.returns-in_err-listed-clause-err
returns-in_err-listed-clause-err c =
    let p = err_from_is_err_and c.from_residual.result c.from_residual.ensures.1 in
    rw (p.1, p.2) (entries_refused c.args.head.now c.split_at.result.1.now c.args.count c.in_err-listed.field-0.0 c.requires.counted
    c.requires.there c.split_at.ensures.back c.in_err-listed.ensures.exact)

pub returns-clause-ok : goal.returns-clause-ok
returns-clause-ok c =
    HasListed-from c.args.head.now c.args.count c.in_ok-listed.listed c.in_ok-listed.field-0-1.now c.requires.counted c.requires.there
    (ap (directory_at c.args.count) (sym c.split_at.ensures.back) ∙ c.in_ok-listed.ensures.exact)
