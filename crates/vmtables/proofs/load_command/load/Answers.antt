use Rattle.std.proofs.Common.{refl}
use Rattle.command_acts.specs.Allocators.{MayAnswer}
use Rattle.vmtables.specs.Load.{LoadMakes, loaded}
use Rattle.vmtables.proofs.Endings.{cut_off, ended_so, refused, dump_wrote, dump_streams, world_dumped, quiet_streams, read_whole}
use Rattle.vmtables.proofs.InstalledFiles.{shows_installed}
use Rattle.vmtables.proofs.QuietFaults.{container_quiet, load_known}
use Rattle.vmtables.proofs.load_command.load.Goals as goal

pub returns-in_err-reader-clause-ran : goal.returns-in_err-reader-clause-ran
returns-in_err-reader-clause-ran g c =
    let read = c.in_err-reader.ensures in
    cut_off (LoadMakes (MayAnswer g.A.ZoneAlloc.state g.A.ZoneAlloc.gives) c.args.options.now) c.in_err-reader.field-0.0
    c.from_residual.result _ _ _ _ read.failed read.too_long
    c.from_residual.ensures.1

pub returns-in_err-load_container-clause-ran : goal.returns-in_err-load_container-clause-ran
returns-in_err-load_container-clause-ran g c =
    let read = c.in_ok-reader.ensures in
    let given = read.given in
    let failed = c.in_err-load_container in
    let answer = c.from_residual-in_err-load_container in
    refused (LoadMakes (MayAnswer g.A.ZoneAlloc.state g.A.ZoneAlloc.gives) c.args.options.now) given.bytes given.bytes failed.field-0.0
    answer.result _ _ _ _ _
    (ended_so _ _ _ given.given given.none_left given.ended) refl (failed.ensures.err given.bytes given.took) answer.ensures.1

pub returns-clause-ran : goal.returns-clause-ran
returns-clause-ran g c =
    let read = c.in_ok-reader.ensures in
    let given = read.given in
    let written = c.write_dump.ensures in
    let is = c.in_ok-load_container.ensures.ok given.bytes given.took in
    dump_wrote (LoadMakes (MayAnswer g.A.ZoneAlloc.state g.A.ZoneAlloc.gives) c.args.options.now) c.write_dump.result given.bytes
    is.2.world _ _ _ _ _ _
    (ended_so _ _ _ given.given given.none_left given.ended) is.2.world_is
    (loaded is.0 is.1 is.2
    (shows_installed (MayAnswer g.A.ZoneAlloc.state g.A.ZoneAlloc.gives) c.args.options.now.install given.bytes is.0 _ c.args.options.now.setting _ _ is.1 is.2)
    (world_dumped _ _ is.2.world_is written.lawful written.holds)) written.ok written.fault written.front

pub returns-clause-streams : goal.returns-clause-streams
returns-clause-streams g c =
    let read = c.in_ok-reader.ensures in
    let given = read.given in
    let written = c.write_dump.ensures in
    let is = c.in_ok-load_container.ensures.ok given.bytes given.took in
    dump_streams c.write_dump.result given.bytes is.2.world _ _ _ _ _ (read.sound (λ failed. cc))
    (read_whole c.in_ok-reader.reader given.bytes _ _ read.too_long) is.2.world_is
    written.ok written.fault written.front

pub returns-in_err-load_container-clause-known : goal.returns-in_err-load_container-clause-known
returns-in_err-load_container-clause-known g c =
    let given = c.in_ok-reader.ensures.given in
    let failed = c.in_err-load_container in
    let answer = c.from_residual-in_err-load_container in
    load_known _ _ given.bytes _ _ failed.field-0.0 answer.result (failed.ensures.err given.bytes given.took) answer.ensures.1

pub returns-in_err-load_container-clause-streams : goal.returns-in_err-load_container-clause-streams
returns-in_err-load_container-clause-streams g c =
    let read = c.in_ok-reader.ensures in
    let given = read.given in
    let failed = c.in_err-load_container in
    let answer = c.from_residual-in_err-load_container in
    quiet_streams failed.field-0.0 answer.result given.bytes _ _ _ (container_quiet _ _ _ _ _ failed.field-0.0 (failed.ensures.err given.bytes given.took))
    answer.ensures.1 (read.sound (λ is. cc)) (read_whole c.in_ok-reader.reader given.bytes _ _ read.too_long)
