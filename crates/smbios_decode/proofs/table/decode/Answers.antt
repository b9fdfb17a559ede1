use Rattle.std.proofs.Common.{◌≡◌, ◌+◌, Err, ap, sym, subst, inr}
use Rattle.std.proofs.lemmas.Result.{err_from_is_err_and}
use Rattle.smbios_decode.specs.Faults.{IsRead, BeginsWhole}
use Rattle.smbios_decode.specs.declared.fault.SmbiosFault.TheVariants.{OutOfMemory}
use Rattle.smbios_decode.proofs.Headed.{behind_is}
use Rattle.smbios_decode.proofs.Onward.{IsReached, whole_at, reached_whole, reached_more, read_last, refused_there, no_end}
use Rattle.smbios_decode.proofs.table.decode.Goals as goal

pub returns-in_err-found-clause-refused : goal.returns-in_err-found-clause-refused
returns-in_err-found-clause-refused c =
    let p = err_from_is_err_and c.from_residual.result c.from_residual.ensures.1 in
    rw (p.1, p.2)
    (refused_there c.args.bytes.now c.loop-place.place c.loop-place.structures c.in_err-found.field-0.0 c.loop-place.invariant c.in_err-found.ensures.fault)

pub returns-then-found-clause-read : goal.returns-then-found-clause-read
returns-then-found-clause-read c =
    subst (IsRead c.args.bytes.now) (sym c.in_ok-push.ensures.ok)
    (read_last c.args.bytes.now c.loop-place.place c.loop-place.structures c.in_ok-found.found c.loop-place.invariant c.in_ok-found.ensures.found
    c.if-found.true)

pub loop-place-preserved : goal.loop-place-preserved
loop-place-preserved c =
    subst (IsReached c.args.bytes.now (c.loop-place.place + c.in_ok-found.found.size)) (sym c.in_ok-push.ensures.ok)
    (reached_more c.args.bytes.now c.loop-place.place c.loop-place.structures c.in_ok-found.found c.loop-place.invariant c.in_ok-found.ensures.found
    c.if-found.false)

pub returns-clause-refused : goal.returns-clause-refused
returns-clause-refused c = inr (no_end c.args.bytes.now c.loop-place.place c.loop-place.structures c.loop-place.invariant c.loop-place-test.false)

pub returns-in_err-found-clause-no_memory : goal.returns-in_err-found-clause-no_memory
returns-in_err-found-clause-no_memory c =
    let bytes = c.args.bytes.now in
    let place = c.loop-place.place in
    let p = err_from_is_err_and c.from_residual.result c.from_residual.ensures.1 in
    rw (p.1, p.2)
    (λ want.
    let same : c.in_err-found.field-0.0 ≡ OutOfMemory = cc in
    whole_at bytes place c.loop-place.invariant.whole (subst BeginsWhole (behind_is bytes place) (c.in_err-found.ensures.no_memory (ap Err same))))

pub returns-in_err-push-clause-no_memory : goal.returns-in_err-push-clause-no_memory
returns-in_err-push-clause-no_memory c =
    λ want. reached_whole c.args.bytes.now c.loop-place.place c.loop-place.structures c.in_ok-found.found c.loop-place.invariant c.in_ok-found.ensures.found
