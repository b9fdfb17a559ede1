use Rattle.std.proofs.Common.{length, ap, arith}
use Rattle.cfg_directory.proofs.OneMoreItem.{none_later}
use Rattle.cfg_directory.proofs.items.Items.add.Goals as goal

pub add_at-requires-clause-select : goal.add_at-requires-clause-select
add_at-requires-clause-select c =
    let same = ap length c.self.view_is in
    ((omega (arith, same), omega (arith, same)), none_later c.args.self.now 32 _ c.requires.numbered (omega (arith, same)))
