use Rattle.std.proofs.Common.{ℕ, ◌++◌, replicate, take, arith, ap, ◌∙◌}
use Rattle.std.proofs.lemmas.List.{take-replicate}
use Rattle.std.proofs.lemmas.Result.{on_ok_weaker}
use Rattle.vt_layout.proofs.writing.put_zeros.Goals as goal

pub returns-clause-ok : goal.returns-clause-ok
returns-clause-ok c =
    on_ok_weaker c.extend.result
    (λ is. is ∙ ap (λ more. c.args.bytes.now ++ more)
    (ap (λ n. take n (replicate {A = ℕ} 255 0)) c.from.ensures ∙ take-replicate c.args.count 255 0 (omega arith)))
    c.extend.ensures.ok
