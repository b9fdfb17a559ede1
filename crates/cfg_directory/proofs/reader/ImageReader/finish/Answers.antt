use Rattle.std.proofs.Common.{ap, sym, ◌∙◌}
use Rattle.cfg_directory.specs.Fed.{finished}
use Rattle.cfg_directory.proofs.States.{ends_early}
use Rattle.cfg_directory.proofs.reader.ImageReader.finish.Goals as goal

pub returns-in_default : goal.returns-in_default
returns-in_default c =
    sym (ends_early c.self.inside.stage c.self.inside.held c.self.invariant c.in_default.not-Contents c.in_default.not-Refused)
    ∙ ap finished c.self.view_is
