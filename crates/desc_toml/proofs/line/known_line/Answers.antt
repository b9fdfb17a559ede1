use Rattle.std.proofs.Common.{ap, ◌∙◌}
use Rattle.desc_toml.specs.Lines.{key_line}
use Rattle.desc_toml.proofs.line.known_line.Goals as goal

pub returns : goal.returns
returns c =
    c.key_line.ensures ∙ ap (key_line c.args.cause.now c.args.table c.args.index) (c.as_bytes.ensures.value ∙ c.key_name-name.ensures)
