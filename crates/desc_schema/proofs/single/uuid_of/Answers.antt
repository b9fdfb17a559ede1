use Rattle.std.proofs.lemmas.Bool.{false≢true}
use Rattle.uuid.specs.Text.{parsed}
use Rattle.desc_schema.proofs.OneValue.{no_uuid}
use Rattle.desc_schema.proofs.single.uuid_of.Goals as goal

pub returns-in-Err : goal.returns-in-Err
returns-in-Err c = rw c.out_of_range.ensures (no_uuid c.args.at (parsed c.args.text.now) (λ bytes read. false≢true (c.in-Err.ensures.ok.1 (bytes, read))))
