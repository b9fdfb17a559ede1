use Rattle.std.proofs.Common.{◌≡◌}
use Rattle.cfg_dma.specs.Transfers.{attached, CanMove, room_of}
use Rattle.test_files.proofs.device.rig.move_pieces.Given as goal

abbrev pub invariant-loop-piece : goal.invariant-loop-piece
invariant-loop-piece l = record {
  can_move : CanMove (attached l.device l.memory.memory);
  room : room_of l.device ≡ 8;
}
