use Rattle.loader_script.proofs.ReadAgain.{length-entry_bytes}
use Rattle.loader_script.proofs.laws.entry_has_128_bytes.Goals as goal

pub returns : goal.returns
returns c = length-entry_bytes
