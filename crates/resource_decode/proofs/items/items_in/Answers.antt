use Rattle.std.proofs.Common.{◌++◌, sym, ap, ◌∙◌}
use Rattle.resource_decode.specs.Items.{items_in}
use Rattle.resource_decode.proofs.AllItems.{item_within, more_items}
use Rattle.resource_decode.proofs.items.items_in.Goals as goal

pub behind_item-left-requires : goal.behind_item-left-requires
behind_item-left-requires c =
    (item_within c.loop-items.left.now c.in-Some.item (sym c.in_ok-item.ensures ∙ c.in-Some.is)).within

pub loop-items-preserved : goal.loop-items-preserved
loop-items-preserved c =
    ap (λ left. c.push.new.self ++ items_in left) c.behind_item-left.ensures
    ∙ more_items (items_in c.args.bytes.now) c.loop-items.items c.push.new.self c.in-Some.item c.loop-items.left.now c.loop-items.invariant
    (sym c.in_ok-item.ensures ∙ c.in-Some.is) c.in_ok-push.ensures.ok
