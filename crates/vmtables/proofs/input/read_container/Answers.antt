use Rattle.std.proofs.Common.{◌∙◌, sym}
use Rattle.vmtables.proofs.Judged.{fed_none}
use Rattle.vmtables.proofs.input.read_container.Goals as goal

pub read_into-requires : goal.read_into-requires
read_into-requires g c = c.new-reader.ensures ∙ sym fed_none
