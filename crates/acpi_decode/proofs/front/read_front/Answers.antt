use Rattle.std.proofs.Common.{arith, ◌∙◌}
use Rattle.std.proofs.lemmas.Option.{MatchOption-at_some}
use Rattle.acpi_decode.proofs.ReadBytes.{front_read, number_found}
use Rattle.acpi_decode.proofs.front.read_front.Goals as goal

pub returns-clause-signature : goal.returns-clause-signature
returns-clause-signature g c =
    let chunk = MatchOption-at_some _ _ c.unwrap.result c.unwrap.ensures c.as_array.ensures.cases in
    chunk.same ∙ front_read (g.V.MemView.seen c.args.view.now) c.args.address 8 c.copy_out.new.bytes 4 c.copy_out.ensures (omega arith)

pub returns-clause-length : goal.returns-clause-length
returns-clause-length g c =
    number_found (g.V.MemView.seen c.args.view.now) c.args.address 8 c.copy_out.new.bytes 4 4 c.get_u32.result c.copy_out.ensures (omega arith)
    c.get_u32.ensures
