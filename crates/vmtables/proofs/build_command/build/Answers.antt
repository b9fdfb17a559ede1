use Rattle.std.proofs.Common.{refl, subst, sym}
use Rattle.vmtables.specs.Build.{IsImage, BuildMakes, built, not_built}
use Rattle.vmtables.proofs.Endings.{cut_off, ended_so, refused, wrote, wrote_streams, quiet_streams}
use Rattle.vmtables.proofs.QuietFaults.{build_quiet}
use Rattle.vmtables.proofs.build_command.build.Goals as goal

pub returns-in_err-bytes-clause-ran : goal.returns-in_err-bytes-clause-ran
returns-in_err-bytes-clause-ran g c = λ seen.
    let read = c.in_err-bytes.ensures in
    cut_off BuildMakes c.in_err-bytes.field-0.0 c.from_residual.result seen _ _ _ read.failed read.too_long c.from_residual.ensures.1

pub returns-in_err-text-clause-ran : goal.returns-in_err-text-clause-ran
returns-in_err-text-clause-ran g c = λ seen.
    let read = c.in_ok-bytes.ensures in
    let why = c.in_err-text in
    let answer = c.from_residual-in_err-text in
    refused BuildMakes c.in_ok-bytes.bytes c.as_slice.result.now why.field-0.0 answer.result seen seen _ _ _
    (ended_so _ _ _ read.given read.end read.ended) c.as_slice.ensures (not_built why.ensures.err refl) answer.ensures.1

pub returns-in_err-text-clause-streams : goal.returns-in_err-text-clause-streams
returns-in_err-text-clause-streams g c =
    let read = c.in_ok-bytes.ensures in
    let why = c.in_err-text in
    let answer = c.from_residual-in_err-text in
    quiet_streams why.field-0.0 answer.result c.in_ok-bytes.bytes _ _ _ (build_quiet c.as_slice.result.now why.field-0.0 why.ensures.err)
    answer.ensures.1 (read.sound (λ is. cc)) read.too_long

pub returns-clause-ran : goal.returns-clause-ran
returns-clause-ran g c = λ seen.
    let read = c.in_ok-bytes.ensures in
    let written = c.write_text.ensures in
    let image : IsImage c.in_ok-bytes.bytes c.as_slice-2.result.now =
    subst (λ bytes. IsImage bytes c.as_slice-2.result.now) c.as_slice.ensures
    (subst (IsImage c.as_slice.result.now) (sym c.as_slice-2.ensures) c.in_ok-text.ensures.ok) in
    wrote BuildMakes c.write_text.result c.in_ok-bytes.bytes c.as_slice-2.result.now seen seen _ _ _ _
    (ended_so _ _ _ read.given read.end read.ended) (built image refl) written.ok written.fault written.front

pub returns-clause-streams : goal.returns-clause-streams
returns-clause-streams g c =
    let read = c.in_ok-bytes.ensures in
    let written = c.write_text.ensures in
    wrote_streams c.write_text.result c.in_ok-bytes.bytes c.as_slice-2.result.now _ _ _ _ (read.sound (λ is. cc)) read.too_long
    written.ok written.fault written.front
