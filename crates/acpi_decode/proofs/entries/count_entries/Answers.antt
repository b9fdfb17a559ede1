use Rattle.std.proofs.Common.{◌≡◌, ◌+◌, ◌-◌, true, Some, arith, ap, subst, sym, ◌∙◌}
use Rattle.std.proofs.lemmas.Result.{err_from_is_err_and}
use Rattle.vt_layout.specs.BadEntries.{IsBadEntry}
use Rattle.acpi_decode.specs.declared.fault.AcpiFault.TheVariants.{BadEntry}
use Rattle.acpi_decode.specs.Seen.{is_ram}
use Rattle.acpi_decode.specs.EntryFaults.{EntryFault}
use Rattle.acpi_decode.specs.EntryHeads.{IsGoodLength}
use Rattle.acpi_decode.proofs.InRam.{address_fits, part_ram}
use Rattle.acpi_decode.proofs.CountedEntries.{one_more_counted, bad_counted}
use Rattle.acpi_decode.proofs.entries.count_entries.Goals as goal

pub overflow_add-table : goal.overflow_add-table
overflow_add-table g c =
    let seen = g.V.MemView.seen c.args.view.now in
    let below = address_fits seen c.args.table c.args.total c.loop-place.place (g.met.V.MemView.bounded c.args.view.now) c.requires.ram
    c.loop-place-test.true in
    omega (arith, below)

pub next_length-requires-clause-ram : goal.next_length-requires-clause-ram
next_length-requires-clause-ram g c =
    let seen = g.V.MemView.seen c.args.view.now in
    let left = c.args.total - c.loop-place.place in
    subst (λ place. is_ram seen (c.args.table + place) left ≡ true) (sym c.from.ensures)
    (part_ram seen c.args.table c.args.total c.loop-place.place left c.requires.ram (omega arith))

pub returns-in_err-place-clause-fault : goal.returns-in_err-place-clause-fault
returns-in_err-place-clause-fault g c =
    let seen = g.V.MemView.seen c.args.view.now in
    let types = g.R.EntryReader.types in
    let table = c.args.table in
    let place = c.loop-place.place in
    let bad = c.in_err-place.ensures.bad in
    let here = subst (λ at. IsBadEntry types seen (table + at) (c.args.total - place)) c.from.ensures bad.1 in
    let told = err_from_is_err_and c.from_residual.result c.from_residual.ensures.1 in
    rw (told.1, told.2)
    (subst (EntryFault (Some types) seen table (table + c.args.front) (c.args.total - c.args.front))
    (sym (bad.0 ∙ ap (λ at. BadEntry (table + at)) c.from.ensures))
    (bad_counted types seen table c.args.front place c.args.total c.loop-place.count c.loop-place.invariant.from c.loop-place-test.true
    c.loop-place.invariant.counted here))

pub loop-place-preserved : goal.loop-place-preserved
loop-place-preserved g c =
    let seen = g.V.MemView.seen c.args.view.now in
    let types = g.R.EntryReader.types in
    let place = c.loop-place.place in
    let left = c.args.total - place in
    let total = c.in_ok-place.field-0 in
    let good : IsGoodLength types seen (c.args.table + place) left total =
    subst (λ at. IsGoodLength types seen (c.args.table + at) left total) c.from.ensures c.in_ok-place.ensures.good in
    record {
      from = omega arith;
      within = omega (arith, good.3);
      counted = one_more_counted types seen c.args.table c.args.front place left c.loop-place.count total g.met.R.EntryReader.readable
          c.loop-place.invariant.from (part_ram seen c.args.table c.args.total place left c.requires.ram (omega arith)) c.loop-place.invariant.counted good;
    }
