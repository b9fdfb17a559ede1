use Rattle.std.proofs.Common.{arith, ap, ◌∙◌}
use Rattle.load_states.specs.declared.reading.Reading.{Reading}
use Rattle.load_states.specs.declared.stage.Stage.TheVariants.{Awaits}
use Rattle.firmware_load.proofs.AtStages.{file_small, known_at}
use Rattle.firmware_load.proofs.loading.Loading.look.Goals as goal

pub overflow_add-self : goal.overflow_add-self
overflow_add-self c = omega (arith, file_small (known_at c.requires.inside.1.kept (c.requires.stage ∙ ap (λ (reading : Reading). Awaits reading) c.in-File.is)))
