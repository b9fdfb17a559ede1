use Rattle.std.proofs.Common.{subst, sym, ◌∙◌}
use Rattle.std.proofs.lemmas.List.{take_all}
use Rattle.cfg_directory.specs.Items.{IsItems}
use Rattle.cfg_directory.proofs.items.Items.copy.Goals as goal

pub of-requires : goal.of-requires
of-requires c =
    let all = take_all c.loop-item.item-index c.as_slice-items.result.now c.loop-item-test.false in
    subst IsItems (sym (c.loop-item.invariant ∙ all ∙ c.as_slice-items.ensures)) c.self.invariant
