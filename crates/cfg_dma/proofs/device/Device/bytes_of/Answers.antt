use Rattle.std.proofs.Common.{length, arith, ap, sym, ◌∙◌}
use Rattle.std.specs.Option.{option_copied}
use Rattle.cfg_dma.proofs.Holds.{file_small}
use Rattle.cfg_dma.proofs.device.Device.bytes_of.Goals as goal

pub returns-in-Some-clause-small : goal.returns-in-Some-clause-small
returns-in-Some-clause-small c =
    omega (
      arith,
      file_small c.self.inside.items c.args.select c.in-Some.item.now (sym c.by_select.ensures ∙ ap option_copied c.in-Some.is),
      ap length c.as_slice.ensures,
      c.self.invariant.1.items.small,
    )
