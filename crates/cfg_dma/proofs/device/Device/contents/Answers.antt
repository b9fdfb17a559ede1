use Rattle.std.proofs.Common.{◌≡◌, length, arith, ap, ◌∙◌}
use Rattle.cfg_dma.specs.Device.{DeviceState, contents}
use Rattle.cfg_dma.proofs.Holds.{contents-signature, contents-features, contents-directory, contents-file}
use Rattle.cfg_dma.proofs.device.Device.contents.Goals as goal

pub returns-in-0-clause-value : goal.returns-in-0-clause-value
returns-in-0-clause-value c = contents-signature c.args.self.now.items c.args.select c.in-0.is

pub returns-in-1-clause-value : goal.returns-in-1-clause-value
returns-in-1-clause-value c = contents-features c.args.self.now.items c.args.select c.in-1.is

pub returns-in-25-clause-value : goal.returns-in-25-clause-value
returns-in-25-clause-value c =
    c.as_slice.ensures ∙ c.self.invariant.0.0.is ∙ contents-directory c.self.inside.items c.args.select c.in-25.is
    ∙ ap (λ (d : DeviceState). contents d.items c.args.select) c.self.view_is

pub returns-in-25-clause-small : goal.returns-in-25-clause-small
returns-in-25-clause-small c = omega (arith, ap length c.as_slice.ensures, c.self.invariant.0.0.small)

pub returns-in_default-clause-value : goal.returns-in_default-clause-value
returns-in_default-clause-value c =
    c.bytes_of.ensures.value
    ∙ contents-file c.args.self.now.items c.args.select (λ (is : c.args.select ≡ 0). absurd (omega arith))
    (λ (is : c.args.select ≡ 1). absurd (omega arith)) (λ (is : c.args.select ≡ 25). absurd (omega arith))
