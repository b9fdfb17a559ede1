use Rattle.firmware_load.proofs.CanMove.{kept_moves}
use Rattle.std.proofs.Common.{refl}
use Rattle.cfg_dma.specs.Touching.{MayTouch}
use Rattle.load_states.specs.Runs.{AnyLawful}
use Rattle.load_states.proofs.Touching.{transfer_own}
use Rattle.firmware_load.specs.Inside.{load_of}
use Rattle.firmware_load.proofs.Touching.{own_touched}
use Rattle.firmware_load.proofs.loading.Loading.move_piece.Goals as goal

pub piece-requires : goal.piece-requires
piece-requires c = kept_moves c.requires.1.kept

pub returns-clause-touches : goal.returns-clause-touches
returns-clause-touches c =
    let l = c.args.self.now in
    let m = l.guest.memory.memory in
    own_touched (MayTouch l.guest.device.flight) l.guest _ refl c.piece.ensures.top
    (λ address. transfer_own (AnyLawful c.requires.0.top) c.requires.0 (load_of l) address c.requires.1.kept)
    c.piece.ensures.touches
