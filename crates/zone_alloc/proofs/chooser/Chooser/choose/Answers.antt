use Rattle.std.proofs.Common.{◌≡◌, ℕ, length, MatchOption, subst, sym, ◌∙◌}
use Rattle.zone_alloc.specs.declared.chooser.Chooser.{Chooser}
use Rattle.zone_alloc.specs.declared.chooser.Chooser.TheVariants as choosers
use Rattle.zone_alloc.specs.Places.{HasNoPlace}
use Rattle.zone_alloc.specs.Policies.{word_of, goal_in, IsFirstFrom, IsShelfPlace}
use Rattle.zone_alloc.specs.Ranges.{range_of}
use Rattle.zone_alloc.specs.Words.{policy_of, IsAtWord}
use Rattle.zone_alloc.proofs.Chosen.{least_in_zone}
use Rattle.zone_alloc.proofs.chooser.Chooser.choose.Goals as goal

pub returns-in-Low-clause-chosen : goal.returns-in-Low-clause-chosen
returns-in-Low-clause-chosen c =
    subst
    (λ (chooser : Chooser). IsShelfPlace (policy_of chooser) (range_of c.args.zone) c.args.handed.now c.args.size c.args.align c.least_from.result)
    (sym c.in-Low.is)
    (least_in_zone (range_of c.args.zone) c.args.handed.now c.args.size c.args.align c.least_from.result c.least_from.ensures.least)

pub returns-in-Scatter-clause-chosen : goal.returns-in-Scatter-clause-chosen
returns-in-Scatter-clause-chosen c =
    let next : IsAtWord (length c.args.handed.now) (choosers.Scatter c.in-Scatter.seed c.in-Scatter.words) =
    subst (IsAtWord (length c.args.handed.now)) c.in-Scatter.is c.requires.word in
    let word : c.from.result ≡ word_of c.in-Scatter.seed (length c.args.handed.now) = c.from.ensures ∙ next.0 in
    subst
    (λ (chooser : Chooser). IsShelfPlace (policy_of chooser) (range_of c.args.zone) c.args.handed.now c.args.size c.args.align c.first_from.result)
    (sym c.in-Scatter.is)
    (subst
    (λ (word : ℕ). MatchOption c.first_from.result (HasNoPlace (range_of c.args.zone) c.args.handed.now c.args.size c.args.align)
    (IsFirstFrom (goal_in (range_of c.args.zone) word) (range_of c.args.zone) c.args.handed.now c.args.size c.args.align))
    word c.first_from.ensures.first)
