use Rattle.load_states.specs.Runs.{NoAnswer}
use Rattle.load_states.proofs.MoreAnswers.{kept_more}
use Rattle.load_states.proofs.laws.no_answer_is_any.Goals as goal

pub returns : goal.returns
returns g c = kept_more NoAnswer g.A.Answering.may (λ handed request answer none. absurd none)
