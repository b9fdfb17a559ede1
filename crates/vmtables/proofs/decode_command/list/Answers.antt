use Rattle.std.proofs.Common.{refl}
use Rattle.scan_text.specs.List.{list_of}
use Rattle.vmtables.specs.Decode.{ListMakes, listed, not_listed}
use Rattle.vmtables.proofs.Endings.{cut_off, ended_so, quiet_streams, refused, wrote, wrote_streams}
use Rattle.vmtables.proofs.QuietFaults.{list_quiet}
use Rattle.vmtables.proofs.decode_command.list.Goals as goal

pub returns-in_err-bytes-clause-ran : goal.returns-in_err-bytes-clause-ran
returns-in_err-bytes-clause-ran g c = λ seen.
    let read = c.in_err-bytes.ensures in
    cut_off (ListMakes c.args.search) c.in_err-bytes.field-0.0 c.from_residual.result seen _ _ _ read.failed read.too_long c.from_residual.ensures.1

pub returns-in_err-inventory-clause-ran : goal.returns-in_err-inventory-clause-ran
returns-in_err-inventory-clause-ran g c = λ seen.
    let read = c.in_ok-bytes.ensures in
    let why = c.in_err-inventory in
    let answer = c.from_residual-in_err-inventory in
    refused (ListMakes c.args.search) c.in_ok-bytes.bytes c.in_ok-bytes.bytes why.field-0.0 answer.result seen seen _ _ _
    (ended_so _ _ _ read.given read.end read.ended) refl (not_listed why.ensures.err refl) answer.ensures.1

pub returns-in_err-inventory-clause-streams : goal.returns-in_err-inventory-clause-streams
returns-in_err-inventory-clause-streams g c =
    let read = c.in_ok-bytes.ensures in
    let why = c.in_err-inventory in
    let answer = c.from_residual-in_err-inventory in
    quiet_streams why.field-0.0 answer.result c.in_ok-bytes.bytes _ _ _ (list_quiet c.args.search c.in_ok-bytes.bytes why.field-0.0 why.ensures.err)
    answer.ensures.1 (read.sound (λ is. cc)) read.too_long

pub returns-clause-ran : goal.returns-clause-ran
returns-clause-ran g c = λ seen.
    let read = c.in_ok-bytes.ensures in
    let written = c.write_list-written.ensures in
    let inventory = c.in_ok-inventory.inventory in
    wrote (ListMakes c.args.search) c.write_list-written.result c.in_ok-bytes.bytes (list_of inventory) seen seen _ _ _ _
    (ended_so _ _ _ read.given read.end read.ended) (listed inventory c.in_ok-inventory.ensures.ok refl refl) written.ok written.fault written.front

pub returns-clause-streams : goal.returns-clause-streams
returns-clause-streams g c =
    let read = c.in_ok-bytes.ensures in
    let written = c.write_list-written.ensures in
    wrote_streams c.write_list-written.result c.in_ok-bytes.bytes (list_of c.in_ok-inventory.inventory) _ _ _ _ (read.sound (λ is. cc)) read.too_long
    written.ok written.fault written.front
