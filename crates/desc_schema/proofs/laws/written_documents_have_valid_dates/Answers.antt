use Rattle.desc_schema.proofs.Shallow.{written_dated}
use Rattle.desc_schema.proofs.laws.written_documents_have_valid_dates.Goals as goal

pub returns : goal.returns
returns c = written_dated
