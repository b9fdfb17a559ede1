use Rattle.std.proofs.Common.{◌≡◌, ◌+◌, true, arith, subst, sym}
use Rattle.acpi_decode.specs.Seen.{is_ram}
use Rattle.acpi_decode.proofs.InRam.{address_fits, part_ram}
use Rattle.acpi_decode.proofs.ReadEntries.{AreRead, none_read, two_left, next_read, one_more_read}
use Rattle.acpi_decode.proofs.entries.read_entries.Goals as goal

pub loop-place-init : goal.loop-place-init
loop-place-init g c =
    let seen = g.V.MemView.seen c.args.view.now in
    let types = g.R.EntryReader.types in
    let make = g.R.EntryReader.entry in
    record {
      from = omega arith;
      within = c.requires.within;
      read = subst (AreRead types make seen c.args.table c.args.front c.args.front c.args.total) (sym c.in_ok-list.ensures)
          (none_read types make seen c.args.table c.args.front c.args.total c.requires.shown.0 c.requires.shown.1);
    }

pub overflow_add-at : goal.overflow_add-at
overflow_add-at g c =
    let seen = g.V.MemView.seen c.args.view.now in
    let below = address_fits seen c.args.table c.args.total c.loop-place.place (g.met.V.MemView.bounded c.args.view.now) c.requires.ram
    c.loop-place-test.true in
    omega (arith, below)

pub read_entry_head-head-requires : goal.read_entry_head-head-requires
read_entry_head-head-requires g c =
    let seen = g.V.MemView.seen c.args.view.now in
    subst (λ place. is_ram seen (c.args.table + place) 2 ≡ true) (sym c.from.ensures)
    (part_ram seen c.args.table c.args.total c.loop-place.place 2 c.requires.ram
    (two_left g.R.EntryReader.types g.R.EntryReader.entry seen c.args.table c.args.front c.loop-place.place c.args.total c.loop-place.list
    c.loop-place.invariant.read c.loop-place-test.true))

pub read_body-requires-clause-ram : goal.read_body-requires-clause-ram
read_body-requires-clause-ram g c =
    let seen = g.V.MemView.seen c.args.view.now in
    let head = c.read_entry_head-head.result in
    let next = next_read g.R.EntryReader.types g.R.EntryReader.entry seen c.args.table c.args.front c.loop-place.place c.from.result c.args.total
    head.kind head.total c.loop-place.list c.loop-place.invariant.read c.loop-place-test.true c.from.ensures c.read_entry_head-head.ensures in
    subst (λ place. is_ram seen (c.args.table + place) head.total ≡ true) (sym c.from.ensures)
    (part_ram seen c.args.table c.args.total c.loop-place.place head.total c.requires.ram next.within)

pub read_body-requires-clause-enough : goal.read_body-requires-clause-enough
read_body-requires-clause-enough g c =
    let seen = g.V.MemView.seen c.args.view.now in
    let head = c.read_entry_head-head.result in
    let next = next_read g.R.EntryReader.types g.R.EntryReader.entry seen c.args.table c.args.front c.loop-place.place c.from.result c.args.total
    head.kind head.total c.loop-place.list c.loop-place.invariant.read c.loop-place-test.true c.from.ensures c.read_entry_head-head.ensures in
    next.long

pub overflow_add-place : goal.overflow_add-place
overflow_add-place g c =
    let seen = g.V.MemView.seen c.args.view.now in
    let head = c.read_entry_head-head.result in
    let next = next_read g.R.EntryReader.types g.R.EntryReader.entry seen c.args.table c.args.front c.loop-place.place c.from.result c.args.total
    head.kind head.total c.loop-place.list c.loop-place.invariant.read c.loop-place-test.true c.from.ensures c.read_entry_head-head.ensures in
    omega (arith, next.within, c.ranges.total)

pub loop-place-smaller : goal.loop-place-smaller
loop-place-smaller g c =
    let seen = g.V.MemView.seen c.args.view.now in
    let head = c.read_entry_head-head.result in
    let next = next_read g.R.EntryReader.types g.R.EntryReader.entry seen c.args.table c.args.front c.loop-place.place c.from.result c.args.total
    head.kind head.total c.loop-place.list c.loop-place.invariant.read c.loop-place-test.true c.from.ensures c.read_entry_head-head.ensures in
    omega (arith, next.within, next.some)

pub loop-place-preserved : goal.loop-place-preserved
loop-place-preserved g c =
    let seen = g.V.MemView.seen c.args.view.now in
    let types = g.R.EntryReader.types in
    let make = g.R.EntryReader.entry in
    let place = c.loop-place.place in
    let head = c.read_entry_head-head.result in
    let body = c.in_ok-read_body.ensures in
    let next = next_read types make seen c.args.table c.args.front place c.from.result c.args.total head.kind head.total c.loop-place.list
    c.loop-place.invariant.read c.loop-place-test.true c.from.ensures c.read_entry_head-head.ensures in
    let after = c.from-in-loop-place.ensures in
    record {
      from = omega arith;
      within = omega (arith, next.within);
      read = one_more_read types make seen c.args.table c.args.front place c.from.result (place + c.from-in-loop-place.result) c.args.total head.kind
          head.total c.loop-place.list c.push.new.self c.in_ok-read_body.field-0 body.0 g.met.R.EntryReader.readable c.loop-place.invariant.from
          c.loop-place.invariant.read next c.from.ensures body.1 body.2 (omega (arith, after)) c.in_ok-push.ensures.ok;
    }
