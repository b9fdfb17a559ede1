use Rattle.std.proofs.Common.{ap, sym, ◌∙◌}
use Rattle.std.specs.List.{slice_set}
use Rattle.cfg_directory.proofs.Restored.{none_restored, place_within, round}
use Rattle.cfg_directory.proofs.items.restore_all.Goals as goal

pub loop-place-init : goal.loop-place-init
loop-place-init c = sym (none_restored c.args.items.now)

pub get_mut-requires : goal.get_mut-requires
get_mut-requires c =
    place_within c.args.items.now c.loop-place.items c.args.kept.now c.loop-place.place c.requires c.loop-place-test.true c.loop-place.invariant

pub restore_item-requires : goal.restore_item-requires
restore_item-requires c =
    (round c.args.items.now c.loop-place.items c.args.kept.now c.loop-place.place c.index-kept-place.result c.get_mut.result.now c.requires
    c.loop-place-test.true c.index-kept-place.is c.loop-place.invariant c.get_mut.ensures.item).0

pub loop-place-preserved : goal.loop-place-preserved
loop-place-preserved c =
    ap (slice_set c.loop-place.items c.loop-place.place) c.restore_item.ensures
    ∙ (round c.args.items.now c.loop-place.items c.args.kept.now c.loop-place.place c.index-kept-place.result c.get_mut.result.now c.requires
    c.loop-place-test.true c.index-kept-place.is c.loop-place.invariant c.get_mut.ensures.item).1
