use Rattle.std.proofs.Common.{sym, ◌∙◌}
use Rattle.vt_layout.proofs.Sizes.{length-spelled}
use Rattle.loader_script.proofs.writing.rows_size.Goals as goal

pub returns : goal.returns
returns c = c.size_of.ensures ∙ sym (length-spelled c.args.rows.now c.requires.fit)
