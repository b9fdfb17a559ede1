use Rattle.cfg_dma.proofs.Started.{word_written}
use Rattle.cfg_dma.proofs.laws.a_read_that_moves_shows_its_control_word.Goals as goal

pub returns : goal.returns
returns c = λ items before descriptor control transfer a fits moving.
    word_written a.memory descriptor control transfer.length transfer.address moving.written fits
