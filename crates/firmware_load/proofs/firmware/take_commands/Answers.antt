use Rattle.std.proofs.Common.{List, ◌++◌, ◌/◌, length, map, ap, ◌∙◌}
use Rattle.std.proofs.lemmas.List.{take_all}
use Rattle.loader_script.specs.declared.entry.Entry.{Entry}
use Rattle.loader_script.specs.Spelling.{entry_of}
use Rattle.loader_script.proofs.Scripts.{entries_of-chunks}
use Rattle.firmware_load.proofs.firmware.take_commands.Goals as goal

pub returns-clause-after : goal.returns-clause-after
returns-clause-after c =
    c.loop-command.invariant.taken
    ∙ ap (λ (more : List Entry). c.args.script.now.items ++ more)
    (ap (map entry_of) (take_all c.loop-command.command-index c.as_chunks.result.0.now c.loop-command-test.false ∙ c.as_chunks.ensures.front)
    ∙ entries_of-chunks (length c.args.bytes.now / 128) c.args.bytes.now)
