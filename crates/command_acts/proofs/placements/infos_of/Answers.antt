use Rattle.std.proofs.Common.{arith, ap, ◌∙◌}
use Rattle.std.proofs.lemmas.List.{take_all}
use Rattle.loader_script.specs.Run.{infos_of}
use Rattle.cfg_directory.specs.Files.{files_of}
use Rattle.command_acts.proofs.Infos.{size_small, one_more}
use Rattle.command_acts.proofs.placements.infos_of.Goals as goal

pub info_of-requires : goal.info_of-requires
info_of-requires c = size_small c.args.items.now c.loop-item.item-index c.item-item.result c.requires c.loop-item-test.true c.item-item.is

pub push_reserved-requires : goal.push_reserved-requires
push_reserved-requires c = omega (arith, c.loop-item.invariant.len, c.loop-item.invariant.room, c.loop-item-test.true)

pub loop-item-preserved : goal.loop-item-preserved
loop-item-preserved c = record {
  infos = c.push_reserved.ensures.items
      ∙ one_more c.args.items.now c.loop-item.item-index c.item-item.result _ _ c.loop-item-test.true c.item-item.is c.loop-item.invariant.infos
      c.info_of.ensures;
  len = omega (arith, c.loop-item.invariant.len, c.push_reserved.ensures.len);
  room = omega (arith, c.loop-item.invariant.room, c.push_reserved.ensures.capacity);
}

pub returns : goal.returns
returns c =
    c.loop-item.invariant.infos ∙ ap (λ items. infos_of (files_of items)) (take_all _ c.args.items.now (omega (arith, c.loop-item-test.false)))
