use Rattle.memory_dump.proofs.Fronts.{fronts}
use Rattle.memory_dump.proofs.laws.fronts_of_a_text_are_cut_off.Goals as goal

pub returns : goal.returns
returns c = fronts
