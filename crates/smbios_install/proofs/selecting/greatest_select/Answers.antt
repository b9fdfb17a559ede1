use Rattle.std.proofs.Common.{◌≡◌, max, arith, ap, ◌∙◌}
use Rattle.std.proofs.lemmas.List.{take_all}
use Rattle.smbios_install.specs.Selectors.{greatest_select}
use Rattle.smbios_install.proofs.Selectors.{greatest-more, greatest_below}
use Rattle.smbios_install.proofs.selecting.greatest_select.Goals as goal
use Rattle.smbios_install.proofs.selecting.greatest_select.Goals.{then-greatest-item, else-greatest-item}

pub loop-item-preserved : goal.loop-item-preserved
loop-item-preserved c =
    let more : c.if-greatest-item.greatest ≡ max c.loop-item.greatest c.item-item.result.select =
    elim c.if-greatest-item.branch [ then-greatest-item w ↦ omega arith | else-greatest-item w ↦ omega arith ] in
    greatest-more c.args.items.now c.loop-item.item-index c.item-item.result c.loop-item.greatest c.if-greatest-item.greatest c.loop-item-test.true
    c.item-item.is c.loop-item.invariant more

pub returns-clause-greatest : goal.returns-clause-greatest
returns-clause-greatest c = c.loop-item.invariant ∙ ap greatest_select (take_all c.loop-item.item-index c.args.items.now c.loop-item-test.false)

pub returns-clause-below : goal.returns-clause-below
returns-clause-below c =
    let all : c.loop-item.greatest ≡ greatest_select c.args.items.now =
    c.loop-item.invariant ∙ ap greatest_select (take_all c.loop-item.item-index c.args.items.now c.loop-item-test.false) in
    omega (arith, all, greatest_below c.args.items.now c.requires.distinct)
