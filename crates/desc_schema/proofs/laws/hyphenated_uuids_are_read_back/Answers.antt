use Rattle.desc_schema.proofs.UuidText.{hyphenated_reads}
use Rattle.desc_schema.proofs.laws.hyphenated_uuids_are_read_back.Goals as goal

pub returns : goal.returns
returns c = hyphenated_reads
