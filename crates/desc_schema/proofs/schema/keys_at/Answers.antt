use Rattle.desc_schema.proofs.Known.{fields_found, fields_none}
use Rattle.desc_schema.proofs.schema.keys_at.Goals as goal

pub returns-in-Some : goal.returns-in-Some
returns-in-Some c = fields_found c.args.schema.now c.args.table c.in-Some.table.now c.in-Some.ensures.lookup.3.0 c.in-Some.ensures.lookup.1

pub returns-in-None : goal.returns-in-None
returns-in-None c = fields_none c.args.schema.now c.args.table c.in-None.ensures.lookup.3
