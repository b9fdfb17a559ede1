use Rattle.std.proofs.Common.{subst}
use Rattle.cfg_directory.specs.Fed.{Fed, IsFed}
use Rattle.cfg_directory.specs.Held.{fed_by}
use Rattle.cfg_directory.proofs.States.{taken_on}
use Rattle.cfg_directory.proofs.reader.ImageReader.feed.Goals as goal

pub returns-in-Ok-clause-fed : goal.returns-in-Ok-clause-fed
returns-in-Ok-clause-fed c =
    let held = c.take_piece.new.held in
    subst (λ (before : Fed). IsFed before c.args.piece.now (fed_by c.in-Ok.stage held)) c.self.view_is
    (taken_on c.self.inside.stage c.self.inside.held c.args.piece.now c.in-Ok.stage held c.in-Ok.ensures).fed
