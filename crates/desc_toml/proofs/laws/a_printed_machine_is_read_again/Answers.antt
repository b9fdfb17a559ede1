use Rattle.desc_toml.proofs.Printed.{printed_reads}
use Rattle.desc_toml.proofs.laws.a_printed_machine_is_read_again.Goals as goal

pub returns : goal.returns
returns c = printed_reads
