use Rattle.desc_toml.proofs.Says.{described_reads, reads_described}
use Rattle.desc_toml.proofs.laws.machine_is_read_as_the_tables_say.Goals as goal

pub returns : goal.returns
returns c = λ bytes machine. (described_reads bytes machine, reads_described bytes machine)
