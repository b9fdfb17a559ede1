use Rattle.std.proofs.Common.{◌/◌, length, ◌∙◌}
use Rattle.smbios_install.proofs.Placing.{placing_of}
use Rattle.smbios_install.proofs.commands.placing.Goals as goal

pub returns-in-Some : goal.returns-in-Some
returns-in-Some c =
    c.in-Some.ensures ∙ placing_of c.args.script.now (length c.args.script.now / 128) c.as_chunks.result.0.now c.as_chunks.ensures.front

pub returns-in-None : goal.returns-in-None
returns-in-None c =
    c.in-None.ensures ∙ placing_of c.args.script.now (length c.args.script.now / 128) c.as_chunks.result.0.now c.as_chunks.ensures.front
