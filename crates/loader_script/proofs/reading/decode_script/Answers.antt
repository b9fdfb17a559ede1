use Rattle.std.proofs.Common.{◌/◌, length, map, ap, ◌∙◌}
use Rattle.std.proofs.lemmas.List.{take_all}
use Rattle.loader_script.specs.Spelling.{entry_of}
use Rattle.loader_script.proofs.Scripts.{entries_of-chunks}
use Rattle.loader_script.proofs.reading.decode_script.Goals as goal

pub returns-clause-ok : goal.returns-clause-ok
returns-clause-ok c =
    c.loop-entry.invariant
    ∙ ap (map entry_of) (take_all c.loop-entry.entry-index c.as_chunks.result.0.now c.loop-entry-test.false ∙ c.as_chunks.ensures.front)
    ∙ entries_of-chunks (length c.args.bytes.now / 128) c.args.bytes.now
