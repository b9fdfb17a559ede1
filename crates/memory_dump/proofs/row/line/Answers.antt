use Rattle.std.proofs.Common.{◌∙◌}
use Rattle.memory_dump.proofs.DumpLines.{line_written}
use Rattle.memory_dump.proofs.row.line.Goals as goal

pub returns : goal.returns
returns c =
    line_written c.args.address c.args.row.now _ _ _ _ _ c.requires (c.copy_from_slice.ensures.after ∙ c.to_be_bytes.ensures)
    c.copy_from_slice-2.ensures.after c.digits-digits.ensures c.copy_from_slice-3.ensures.after c.copy_from_slice-4.ensures.after
