use Rattle.std.proofs.Common.{sym, subst, ◌<◌, ◌∙◌}
use Rattle.machine_desc.proofs.OwnNumbers.{first_refused_here, taken_here, nothing_refused, one_more_below, unlawful_refused, old_refused, new_taken, new_is}
use Rattle.machine_desc.proofs.numbers.first_refused.Goals as goal
use Rattle.machine_desc.proofs.numbers.first_refused.Goals.{then-not-is_lawful-via-then-not-is_lawful}
use Rattle.machine_desc.proofs.numbers.first_refused.Goals.{then-not-is_lawful-via-else-not-is_lawful+then-not-is_new}

pub returns-then-not-is_lawful : goal.returns-then-not-is_lawful
returns-then-not-is_lawful g c =
    let E = g.E.Numbered in
    let elements = c.args.elements.now in
    let i = c.loop-index.index in
    let x = c.index-elements-index.result in
    elim c.then-not-is_lawful.branch [
      | then-not-is_lawful-via-then-not-is_lawful w ↦
          first_refused_here E.is_lawful E.number elements i x c.loop-index-test.true c.index-elements-index.is
          (unlawful_refused E.is_lawful E.number elements i x (sym c.is_lawful.ensures ∙ w.if-not-is_lawful.true)) c.loop-index.invariant.0
      | then-not-is_lawful-via-else-not-is_lawful+then-not-is_new w ↦
          let new = new_is E.number elements i c.number-number.result x w.is_new.result c.number-number.ensures w.is_new.ensures in
          first_refused_here E.is_lawful E.number elements i x c.loop-index-test.true c.index-elements-index.is
          (old_refused E.is_lawful E.number elements i x (new ∙ w.if-not-is_new.true)) c.loop-index.invariant.0
    ]

pub loop-index-preserved : goal.loop-index-preserved
loop-index-preserved g c =
    let E = g.E.Numbered in
    let elements = c.args.elements.now in
    let i = c.loop-index.index in
    let x = c.index-elements-index.result in
    let new = new_is E.number elements i c.number-number.result x c.is_new.result c.number-number.ensures c.is_new.ensures in (
      taken_here E.is_lawful E.number elements i x c.loop-index-test.true c.index-elements-index.is
          (new_taken E.is_lawful E.number elements i x (sym c.is_lawful.ensures ∙ c.if-not-is_lawful.false) (new ∙ c.if-not-is_new.false))
          ∙ c.loop-index.invariant.0,
      one_more_below E.number c.loop-index.above c.above_both-above.result elements i x c.loop-index-test.true c.index-elements-index.is
          c.above_both-above.ensures.other (subst (λ n. n < c.above_both-above.result) c.number-number.ensures c.above_both-above.ensures.number)
          c.loop-index.invariant.1,
    )

pub returns : goal.returns
returns g c =
    nothing_refused g.E.Numbered.is_lawful g.E.Numbered.number c.args.elements.now c.loop-index.index c.loop-index-test.false
    c.loop-index.invariant.0
