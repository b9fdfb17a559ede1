use Rattle.std.proofs.Common.{List, ℕ, ap, subst, sym, ◌∙◌}
use Rattle.std.proofs.lemmas.List.{take_all}
use Rattle.cfg_directory.specs.Restored.{AreKept, kept_of}
use Rattle.cfg_directory.proofs.Restored.{kept_fits}
use Rattle.cfg_directory.proofs.items.Items.kept.Goals as goal

pub returns-clause-may_be_restored : goal.returns-clause-may_be_restored
returns-clause-may_be_restored c =
    let all = take_all c.loop-item.item-index c.as_slice-items.result.now c.loop-item-test.false in
    subst (λ (kept : List (List ℕ)). AreKept c.args.self.now kept)
    (sym (c.loop-item.invariant ∙ ap kept_of (all ∙ c.as_slice-items.ensures ∙ c.self.view_is))) (kept_fits c.args.self.now)
