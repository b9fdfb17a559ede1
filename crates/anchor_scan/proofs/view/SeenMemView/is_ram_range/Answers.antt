use Rattle.std.proofs.Common.{ap, sym, ◌∙◌}
use Rattle.vt_bytes.specs.View.{View}
use Rattle.acpi_decode.specs.Seen.{is_ram}
use Rattle.anchor_scan.proofs.SeenWithin.{all_within, range_tested}
use Rattle.anchor_scan.proofs.view.SeenMemView.is_ram_range.Goals as goal

pub returns : goal.returns
returns c =
    let m = c.args.self.now.0.now.memory in
    c.is_ram_range.ensures.value ∙ sym (range_tested m c.args.address c.args.count)
    ∙ ap (λ (view : View). is_ram view c.args.address c.args.count) (sym (all_within m c.top-top.ensures.lawful))
