use Rattle.std.proofs.Common.{List, ℕ, ap, ◌∙◌}
use Rattle.load_states.specs.LoadState.{listed_named}
use Rattle.load_states.specs.Steps.{stage_for}
use Rattle.firmware_load.proofs.firmware.stage_for.Goals as goal

pub returns-in-None : goal.returns-in-None
returns-in-None c = ap stage_for (c.in-None.ensures ∙ ap (λ (name : List ℕ). listed_named c.args.listed.now name) c.loader_name.ensures)

pub returns-in-Some : goal.returns-in-Some
returns-in-Some c =
    c.stage_of_script.ensures c.in-Some.file.now.name
    ∙ ap stage_for (c.in-Some.ensures ∙ ap (λ (name : List ℕ). listed_named c.args.listed.now name) c.loader_name.ensures)
