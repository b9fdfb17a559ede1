use Rattle.std.proofs.Common.{refl, ap, ◌∙◌}
use Rattle.toml.specs.View.{members_view}
use Rattle.desc_schema.proofs.WriterSteps.{put_inserted}
use Rattle.desc_schema.proofs.writing.put.Goals as goal

pub returns : goal.returns
returns c =
    ap members_view c.in_ok-insert.ensures.entries
    ∙ put_inserted c.args.table.now.entries c.in_ok-key.key c.args.node
    ∙ rw c.in_ok-key.ensures.ok refl
