use Rattle.cfg_dma.specs.Transfers.{attached, piece}
use Rattle.cfg_dma.proofs.Kept.{piece_keeps, kept_so}
use Rattle.cfg_dma.proofs.device.Device.piece.Goals as goal

pub returns : goal.returns
returns c =
    let before = attached c.args.self.now c.args.memory.now.memory in
    let kept = kept_so before (attached c.move_piece.new.self c.move_piece.new.memory.memory) (piece c.args.bytes before) c.move_piece.ensures.after
    (piece_keeps c.args.bytes before c.move_piece.ensures.lawful.flight c.requires) in
    record {
      after = c.move_piece.ensures.after;
      can_move = kept.can_move;
      room = kept.room;
      top = kept.top;
      fill = kept.fill;
      touches = c.move_piece.ensures.touches;
    }
