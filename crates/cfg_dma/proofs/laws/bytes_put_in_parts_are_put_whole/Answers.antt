use Rattle.cfg_dma.proofs.Written.{written_twice}
use Rattle.cfg_dma.proofs.laws.bytes_put_in_parts_are_put_whole.Goals as goal

pub returns : goal.returns
returns c = written_twice
