use Rattle.std.proofs.Common.{◌≡◌, take}
use Rattle.std.specs.List.{flat_map}
use Rattle.resource_items.specs.Templates.{item_bytes}
use Rattle.resource_items.proofs.template.resource_template.Given as goal

abbrev pub invariant-loop-item : goal.invariant-loop-item
invariant-loop-item l = l.bytes ≡ flat_map item_bytes (take l.item-index l.items)
