use Rattle.std.proofs.Common.{◌≡◌, ◌+◌, ◌*◌, ◌≤◌, true, inl, inr, ⊎_elim, arith, ap, sym, subst, ◌∙◌}
use Rattle.std.proofs.lemmas.Result.{err_from_is_err_and}
use Rattle.acpi_model.specs.Form.{address_size}
use Rattle.acpi_decode.specs.Seen.{is_ram, number_at}
use Rattle.acpi_decode.proofs.InRam.{part_ram, address_fits}
use Rattle.acpi_decode.proofs.NamedRoot.{entry_within, entry_counted}
use Rattle.acpi_decode.proofs.NamedInTurn.{IsReached, passed_over, reached_more, next_refused}
use Rattle.acpi_decode.proofs.root_entries.take_tables.Goals as goal
use Rattle.acpi_decode.proofs.root_entries.take_tables.Goals.{in-Some+in_ok-take_at, in_default}

pub overflow_add-entry : goal.overflow_add-entry
overflow_add-entry g c =
    let seen = g.V.MemView.seen c.args.view.now in
    let size = c.address_size-size.result in
    let inside = entry_within c.args.form.extended c.args.length c.loop-index.index size c.address_size-size.ensures.size c.loop-index-test.true in
    let within : c.from.result + address_size c.args.form ≤ c.args.length = omega (arith, c.from.ensures, inside) in
    let ram = subst (λ n. is_ram seen c.args.root n ≡ true) (sym c.requires.told) c.requires.passes.1.1.1.0 in
    omega (arith, address_fits seen c.args.root c.args.length c.from.result (g.met.V.MemView.bounded c.args.view.now) ram (omega (arith, within)))

pub read_entry-requires : goal.read_entry-requires
read_entry-requires g c =
    let seen = g.V.MemView.seen c.args.view.now in
    let size = c.address_size-size.result in
    let inside = entry_within c.args.form.extended c.args.length c.loop-index.index size c.address_size-size.ensures.size c.loop-index-test.true in
    let within : c.from.result + address_size c.args.form ≤ c.args.length = omega (arith, c.from.ensures, inside) in
    let ram = subst (λ n. is_ram seen c.args.root n ≡ true) (sym c.requires.told) c.requires.passes.1.1.1.0 in
    part_ram seen c.args.root c.args.length c.from.result (address_size c.args.form) ram within

pub returns-in_err-take_at-clause-fault : goal.returns-in_err-take_at-clause-fault
returns-in_err-take_at-clause-fault g c =
    let seen = g.V.MemView.seen c.args.view.now in
    let root = c.args.root in
    let index = c.loop-index.index in
    let p = err_from_is_err_and c.from_residual.result c.from_residual.ensures.1 in
    let place : root + c.from.result ≡ root + 36 + address_size c.args.form * index =
    subst (λ n. root + c.from.result ≡ root + 36 + n * index) c.address_size-size.ensures.size (omega (arith, c.from.ensures)) in
    let named = c.in-Some.ensures.named ∙ ap (λ a. number_at seen a (address_size c.args.form)) place in
    rw (p.1, p.2) (⊎_elim (λ memory. inl memory)
    (λ refused. inr (next_refused c.args.form seen root c.args.found.now c.loop-index.found index c.in-Some.address c.in_err-take_at.field-0.0
    c.requires.passes
    (entry_counted c.args.form.extended c.args.length _ index c.address_size-size.result c.address_size-size.ensures.size c.loop-index-test.true
    c.requires.told) named c.in-Some.ensures.nonzero c.loop-index.invariant refused))
    c.in_err-take_at.ensures.fault)

pub loop-index-preserved : goal.loop-index-preserved
loop-index-preserved g c =
    let seen = g.V.MemView.seen c.args.view.now in
    let root = c.args.root in
    let begun = c.args.found.now in
    let index = c.loop-index.index in
    let place : root + c.from.result ≡ root + 36 + address_size c.args.form * index =
    subst (λ n. root + c.from.result ≡ root + 36 + n * index) c.address_size-size.ensures.size (omega (arith, c.from.ensures)) in
    elim c.match-read_entry.branch [
      | in-Some+in_ok-take_at w ↦
          let named = w.in-Some.ensures.named ∙ ap (λ a. number_at seen a (address_size c.args.form)) place in
          subst (λ found. IsReached c.args.form seen root begun found (index + 1)) (sym w.found-is)
          (reached_more c.args.form seen root begun c.loop-index.found w.take_at.new.found index w.in-Some.address named w.in-Some.ensures.nonzero
          w.in_ok-take_at.ensures.taken c.loop-index.invariant)
      | in_default w ↦
          let zero = sym (ap (λ a. number_at seen a (address_size c.args.form)) place) ∙ w.in_default.ensures.zero in
          subst (λ found. IsReached c.args.form seen root begun found (index + 1)) (sym w.found-is)
          (passed_over c.args.form seen root begun c.loop-index.found index zero c.loop-index.invariant)
    ]
