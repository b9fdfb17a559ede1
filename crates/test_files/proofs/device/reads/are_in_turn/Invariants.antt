use Rattle.std.proofs.Common.{◌≡◌}
use Rattle.cfg_dma.specs.Transfers.{room_of}
use Rattle.test_files.proofs.device.reads.are_in_turn.Given as goal

abbrev pub invariant-loop-control : goal.invariant-loop-control
invariant-loop-control g l = room_of l.device ≡ 8
