use Rattle.command_acts.specs.Allocators.{MayAnswer}
use Rattle.vmtables.specs.Boot.{BootMakes, booted}
use Rattle.vmtables.proofs.Endings.{cut_off, ended_so, refused, dump_wrote, dump_streams, world_dumped, quiet_streams}
use Rattle.vmtables.proofs.QuietFaults.{boot_known, boot_quiet}
use Rattle.vmtables.proofs.boot_command.boot.Goals as goal

pub returns-in_err-bytes-clause-ran : goal.returns-in_err-bytes-clause-ran
returns-in_err-bytes-clause-ran g c =
    let read = c.in_err-bytes.ensures in
    cut_off (BootMakes (MayAnswer g.A.ZoneAlloc.state g.A.ZoneAlloc.gives) c.args.setting.now) c.in_err-bytes.field-0.0 c.from_residual.result _ _ _ _
    read.failed read.too_long
    c.from_residual.ensures.1

pub returns-in_err-boot_described-clause-ran : goal.returns-in_err-boot_described-clause-ran
returns-in_err-boot_described-clause-ran g c =
    let read = c.in_ok-bytes.ensures in
    let failed = c.in_err-boot_described in
    let answer = c.from_residual-in_err-boot_described in
    refused (BootMakes (MayAnswer g.A.ZoneAlloc.state g.A.ZoneAlloc.gives) c.args.setting.now) c.in_ok-bytes.bytes c.as_slice.result.now
    failed.field-0.0 answer.result _ _ _ _ _
    (ended_so _ _ _ read.given read.end read.ended) c.as_slice.ensures failed.ensures.err answer.ensures.1

pub returns-clause-ran : goal.returns-clause-ran
returns-clause-ran g c =
    let read = c.in_ok-bytes.ensures in
    let written = c.write_dump.ensures in
    let is = rw c.as_slice.ensures at c.in_ok-boot_described.ensures.ok in
    dump_wrote (BootMakes (MayAnswer g.A.ZoneAlloc.state g.A.ZoneAlloc.gives) c.args.setting.now) c.write_dump.result c.in_ok-bytes.bytes
    is.booted.loaded.world _ _ _ _ _ _
    (ended_so _ _ _ read.given read.end read.ended) is.booted.loaded.world_is
    (booted is (world_dumped _ _ is.booted.loaded.world_is written.lawful written.holds)) written.ok written.fault written.front

pub returns-clause-streams : goal.returns-clause-streams
returns-clause-streams g c =
    let read = c.in_ok-bytes.ensures in
    let written = c.write_dump.ensures in
    let is = c.in_ok-boot_described.ensures.ok in
    dump_streams c.write_dump.result c.in_ok-bytes.bytes is.booted.loaded.world _ _ _ _ _ (read.sound (λ failed. cc)) read.too_long is.booted.loaded.world_is
    written.ok written.fault written.front

pub returns-in_err-boot_described-clause-streams : goal.returns-in_err-boot_described-clause-streams
returns-in_err-boot_described-clause-streams g c =
    let read = c.in_ok-bytes.ensures in
    let failed = c.in_err-boot_described in
    let answer = c.from_residual-in_err-boot_described in
    quiet_streams failed.field-0.0 answer.result c.in_ok-bytes.bytes _ _ _ (boot_quiet _ _ _ _ _ failed.field-0.0 failed.ensures.err)
    answer.ensures.1 (read.sound (λ is. cc)) read.too_long

pub returns-in_err-boot_described-clause-known : goal.returns-in_err-boot_described-clause-known
returns-in_err-boot_described-clause-known g c =
    let failed = c.in_err-boot_described in
    let answer = c.from_residual-in_err-boot_described in
    boot_known _ _ _ _ _ failed.field-0.0 answer.result failed.ensures.err answer.ensures.1
