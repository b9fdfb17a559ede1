use Rattle.std.proofs.Common.{◌≡◌, true, ap, sym, subst, ◌∙◌}
use Rattle.vt_bytes.specs.View.{View}
use Rattle.acpi_decode.specs.Seen.{is_ram, sum_at}
use Rattle.anchor_scan.proofs.SeenWithin.{all_within, range_ram, range_summed}
use Rattle.anchor_scan.proofs.view.SeenMemView.sum_range.Goals as goal

pub sum_range-requires : goal.sum_range-requires
sum_range-requires c =
    let m = c.args.self.now.0.now.memory in
    range_ram m c.args.address c.args.count
    (subst (λ (view : View). is_ram view c.args.address c.args.count ≡ true) (all_within m c.top-top.ensures.lawful) c.requires)

pub returns : goal.returns
returns c =
    let m = c.args.self.now.0.now.memory in
    let same = all_within m c.top-top.ensures.lawful in
    let ram = range_ram m c.args.address c.args.count (subst (λ (view : View). is_ram view c.args.address c.args.count ≡ true) same c.requires) in
    c.sum_range.ensures ∙ range_summed m c.args.address c.args.count ram
    ∙ ap (λ (view : View). sum_at view c.args.address c.args.count) (sym same)
