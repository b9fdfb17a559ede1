use Rattle.cfg_dma.proofs.Pieces.{keeps_to_range}
use Rattle.cfg_dma.proofs.laws.a_transfer_in_flight_keeps_to_its_range.Goals as goal

pub returns : goal.returns
returns c = keeps_to_range
