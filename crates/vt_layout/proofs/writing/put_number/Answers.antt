use Rattle.std.proofs.Common.{◌++◌, take, ap, ◌∙◌}
use Rattle.std.proofs.lemmas.Result.{on_ok_weaker}
use Rattle.vt_bytes.proofs.Numbers.{le_bytes-short}
use Rattle.vt_layout.proofs.writing.put_number.Goals as goal

pub returns-clause-ok : goal.returns-clause-ok
returns-clause-ok c =
    on_ok_weaker c.extend.result
    (λ is. is ∙ ap (λ more. c.args.bytes.now ++ more)
    (ap (λ n. take n c.to_le_bytes.result) c.from.ensures ∙ ap (take c.args.width) c.to_le_bytes.ensures ∙ le_bytes-short c.args.width c.args.value c.requires))
    c.extend.ensures.ok
