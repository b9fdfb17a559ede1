use Rattle.std.proofs.Common.{◌≡◌, true, length, Some, ap, sym, subst, ◌∙◌}
use Rattle.vt_bytes.specs.View.{View, bytes_in}
use Rattle.vt_bytes.proofs.Seen.{bytes_in-seen}
use Rattle.acpi_decode.specs.Seen.{is_ram}
use Rattle.anchor_scan.proofs.SeenWithin.{all_within, range_ram}
use Rattle.anchor_scan.proofs.view.SeenMemView.copy_out.Goals as goal

pub copy_out-requires : goal.copy_out-requires
copy_out-requires c =
    let m = c.args.self.now.0.now.memory in
    range_ram m c.args.address (length c.args.bytes.now)
    (subst (λ (view : View). is_ram view c.args.address (length c.args.bytes.now) ≡ true) (all_within m c.top-top.ensures.lawful) c.requires)

pub returns : goal.returns
returns c =
    let m = c.args.self.now.0.now.memory in
    let same = all_within m c.top-top.ensures.lawful in
    let ram = range_ram m c.args.address (length c.args.bytes.now)
    (subst (λ (view : View). is_ram view c.args.address (length c.args.bytes.now) ≡ true) same c.requires) in
    ap (λ (view : View). bytes_in view c.args.address (length c.args.bytes.now)) same
    ∙ bytes_in-seen m c.args.address (length c.args.bytes.now) ram ∙ ap Some (sym c.copy_out.ensures)
