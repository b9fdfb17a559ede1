use Rattle.std.proofs.Common.{◌≡◌, ◌⊎◌, inl, inr, ⊎_elim, rules, sym, subst, ◌∙◌}
use Rattle.std.proofs.lemmas.Result.{err_from_is_err_and}
use Rattle.acpi_decode.specs.declared.walked.Walked.{Walked}
use Rattle.acpi_decode.specs.Taken.{IsTaken, IsRefused}
use Rattle.acpi_decode.specs.declared.fault.AcpiFault.TheVariants.{OutOfMemory}
use Rattle.acpi_decode.proofs.Firsts.{fault_at}
use Rattle.acpi_decode.proofs.Takings.{IsSound, twice_refused, entry_refused, target_refused, table_taken}
use Rattle.acpi_decode.proofs.take.take_known.Goals as goal

pub returns-then-has_kind-clause-fault : goal.returns-then-has_kind-clause-fault
returns-then-has_kind-clause-fault g c =
    inr (twice_refused c.args.form c.args.kind (g.V.MemView.seen c.args.view.now) c.args.address c.args.found.now c.requires.header c.requires.signed
    (sym c.has_room.ensures ∙ search rules) c.in_ok-test_whole.ensures.passes (sym c.has_kind.ensures ∙ search rules))

pub returns-in_err-table-clause-fault : goal.returns-in_err-table-clause-fault
returns-in_err-table-clause-fault g c =
    let seen = g.V.MemView.seen c.args.view.now in
    let p = err_from_is_err_and c.from_residual-in_err-table.result c.from_residual-in_err-table.ensures.1 in
    let sound : IsSound c.args.form c.args.kind seen c.args.address c.args.found.now = record {
      header = c.requires.header;
      signed = c.requires.signed;
      room = sym c.has_room.ensures ∙ search rules;
      whole = c.in_ok-test_whole.ensures.passes;
      none = sym c.has_kind.ensures ∙ search rules;
    } in
    fault_at (λ fault. (fault ≡ OutOfMemory) ⊎ IsRefused c.args.form seen c.args.address c.args.found.now fault) _ p.0 _ p.1 p.2 (⊎_elim (λ memory. inl memory)
    (λ bad. inr (entry_refused c.args.form c.args.kind seen c.args.address c.args.found.now c.in_err-table.field-0.0 sound bad)) c.in_err-table.ensures.fault)

pub returns-in_err-targets-clause-fault : goal.returns-in_err-targets-clause-fault
returns-in_err-targets-clause-fault g c =
    let seen = g.V.MemView.seen c.args.view.now in
    let p = err_from_is_err_and c.from_residual-in_err-targets.result c.from_residual-in_err-targets.ensures.1 in
    let sound : IsSound c.args.form c.args.kind seen c.args.address c.args.found.now = record {
      header = c.requires.header;
      signed = c.requires.signed;
      room = sym c.has_room.ensures ∙ search rules;
      whole = c.in_ok-test_whole.ensures.passes;
      none = sym c.has_kind.ensures ∙ search rules;
    } in
    fault_at (λ fault. (fault ≡ OutOfMemory) ⊎ IsRefused c.args.form seen c.args.address c.args.found.now fault) _ p.0 _ p.1 p.2 (⊎_elim (λ memory. inl memory)
    (λ faulty. inr (target_refused c.args.form c.args.kind seen c.args.address c.args.found.now c.in_ok-table.table c.in_err-targets.field-0.0 sound
    c.in_ok-table.ensures.read faulty)) c.in_err-targets.ensures.fault)

pub returns-clause-taken : goal.returns-clause-taken
returns-clause-taken g c =
    let seen = g.V.MemView.seen c.args.view.now in
    let sound : IsSound c.args.form c.args.kind seen c.args.address c.args.found.now = record {
      header = c.requires.header;
      signed = c.requires.signed;
      room = sym c.has_room.ensures ∙ search rules;
      whole = c.in_ok-test_whole.ensures.passes;
      none = sym c.has_kind.ensures ∙ search rules;
    } in
    subst (λ (all : Walked). IsTaken c.args.form seen c.args.address c.args.found.now all) (sym c.add_table.ensures)
    (table_taken c.args.form c.args.kind seen c.args.address c.args.found.now c.in_ok-table.table c.in_ok-targets.targets sound c.in_ok-table.ensures.read
    c.in_ok-targets.ensures.read)
