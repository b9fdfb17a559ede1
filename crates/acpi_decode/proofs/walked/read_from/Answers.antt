use Rattle.std.proofs.Common.{inl, inr, ⊎_elim}
use Rattle.std.proofs.lemmas.Result.{err_from_is_err_and}
use Rattle.acpi_decode.proofs.Walks.{begun_with, begun_is, walk_leads, walk_refused}
use Rattle.acpi_decode.proofs.walked.read_from.Goals as goal

pub returns-in_err-take_tables-clause-refused : goal.returns-in_err-take_tables-clause-refused
returns-in_err-take_tables-clause-refused g c =
    let seen = g.V.MemView.seen c.args.view.now in
    let p = err_from_is_err_and c.from_residual-in_err-take_tables.result c.from_residual-in_err-take_tables.ensures.1 in
    let root = c.read_root-root.result in
    let head = c.in_ok-head.head in
    rw (p.1, p.2) (⊎_elim (λ memory. inl memory)
    (λ refused. inr (walk_refused c.args.form seen c.args.rsdp root.oem_id root.root head
    (begun_with root.oem_id head c.new.result) c.in_err-take_tables.field-0.0
    c.read_root-root.ensures c.in_ok-length.ensures.passes (begun_is root.oem_id head c.new.result c.new.ensures) refused)) c.in_err-take_tables.ensures.fault)

pub returns-clause-shown : goal.returns-clause-shown
returns-clause-shown g c =
    let seen = g.V.MemView.seen c.args.view.now in
    let root = c.read_root-root.result in
    let head = c.in_ok-head.head in
    walk_leads c.args.form seen c.args.rsdp root.oem_id root.root head
    (begun_with root.oem_id head c.new.result) c.take_tables.new.found c.read_root-root.ensures
    c.in_ok-length.ensures.passes c.in_ok-head.ensures (begun_is root.oem_id head c.new.result c.new.ensures) c.in_ok-take_tables.ensures.taken
