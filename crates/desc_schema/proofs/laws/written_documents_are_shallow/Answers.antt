use Rattle.desc_schema.proofs.Shallow.{written_shallow}
use Rattle.desc_schema.proofs.laws.written_documents_are_shallow.Goals as goal

pub returns : goal.returns
returns c = written_shallow
