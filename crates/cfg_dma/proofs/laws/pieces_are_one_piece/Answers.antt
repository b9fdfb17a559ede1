use Rattle.cfg_dma.proofs.Pieces.{pieces_are_one}
use Rattle.cfg_dma.proofs.laws.pieces_are_one_piece.Goals as goal

pub returns : goal.returns
returns c = pieces_are_one
