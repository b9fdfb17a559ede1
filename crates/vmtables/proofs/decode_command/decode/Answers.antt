use Rattle.std.proofs.Common.{refl, sym}
use Rattle.vmtables.specs.Decode.{DecodeMakes, not_told}
use Rattle.vmtables.proofs.Endings.{cut_off, ended_so, quiet_streams, refused, wrote, wrote_streams}
use Rattle.vmtables.proofs.QuietFaults.{tell_quiet}
use Rattle.vmtables.proofs.Told.{told_text}
use Rattle.vmtables.proofs.decode_command.decode.Goals as goal

pub returns-in_err-bytes-clause-ran : goal.returns-in_err-bytes-clause-ran
returns-in_err-bytes-clause-ran g c = λ seen.
    let read = c.in_err-bytes.ensures in
    cut_off (DecodeMakes c.args.search) c.in_err-bytes.field-0.0 c.from_residual.result seen _ _ _ read.failed read.too_long c.from_residual.ensures.1

pub returns-in_err-text-clause-ran : goal.returns-in_err-text-clause-ran
returns-in_err-text-clause-ran g c = λ seen.
    let read = c.in_ok-bytes.ensures in
    let why = c.in_err-text in
    let answer = c.from_residual-in_err-text in
    refused (DecodeMakes c.args.search) c.in_ok-bytes.bytes c.in_ok-bytes.bytes why.field-0.0 answer.result seen seen _ _ _
    (ended_so _ _ _ read.given read.end read.ended) refl (not_told why.ensures.err refl) answer.ensures.1

pub returns-in_err-text-clause-streams : goal.returns-in_err-text-clause-streams
returns-in_err-text-clause-streams g c =
    let read = c.in_ok-bytes.ensures in
    let why = c.in_err-text in
    let answer = c.from_residual-in_err-text in
    quiet_streams why.field-0.0 answer.result c.in_ok-bytes.bytes _ _ _ (tell_quiet c.args.search c.in_ok-bytes.bytes why.field-0.0 why.ensures.err)
    answer.ensures.1 (read.sound (λ is. cc)) read.too_long

pub returns-clause-ran : goal.returns-clause-ran
returns-clause-ran g c = λ seen.
    let read = c.in_ok-bytes.ensures in
    let written = c.write_text.ensures in
    let is = c.in_ok-text.ensures.ok in
    wrote (DecodeMakes c.args.search) c.write_text.result c.in_ok-bytes.bytes c.as_slice.result.now seen seen _ _ _ _
    (ended_so _ _ _ read.given read.end read.ended)
    (told_text c.args.search c.in_ok-bytes.bytes c.in_ok-text.text c.as_slice.result.now seen (sym c.as_slice.ensures) is)
    written.ok written.fault written.front

pub returns-clause-streams : goal.returns-clause-streams
returns-clause-streams g c =
    let read = c.in_ok-bytes.ensures in
    let written = c.write_text.ensures in
    wrote_streams c.write_text.result c.in_ok-bytes.bytes c.as_slice.result.now _ _ _ _ (read.sound (λ is. cc)) read.too_long
    written.ok written.fault written.front
