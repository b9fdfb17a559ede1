use Rattle.std.proofs.Common.{ap, ◌∙◌}
use Rattle.uuid.specs.Parts.{swap_fields}
use Rattle.machine_desc.proofs.uuids.uuid_bytes.Goals as goal

pub returns : goal.returns
returns c = c.to_bytes_le.ensures ∙ ap swap_fields c.from_u128.ensures
