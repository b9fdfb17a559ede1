use Rattle.std.proofs.Common.{arith}
use Rattle.cfg_dma.specs.Writes.{next_write}
use Rattle.cfg_dma.proofs.Started.{word_written}
use Rattle.cfg_dma.proofs.laws.a_write_that_moves_shows_its_control_word.Goals as goal

pub returns : goal.returns
returns c = λ items bytes before descriptor transfer a writing.
    word_written a.memory descriptor next_write transfer.length transfer.address writing.written (omega arith)
