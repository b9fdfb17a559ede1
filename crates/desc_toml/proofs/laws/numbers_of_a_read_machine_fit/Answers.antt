use Rattle.desc_toml.proofs.Fields.{read_fits}
use Rattle.desc_toml.proofs.laws.numbers_of_a_read_machine_fit.Goals as goal

pub returns : goal.returns
returns c = record { fields = read_fits; uuids = λ bytes machine is. (read_fits bytes machine is).uuids }
