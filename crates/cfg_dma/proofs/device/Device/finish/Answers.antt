use Rattle.std.proofs.Common.{length, arith, ap}
use Rattle.cfg_dma.specs.Touching.{IsInDescriptor}
use Rattle.guest_memory.proofs.Touching.{touches_put}
use Rattle.cfg_dma.proofs.device.Device.finish.Goals as goal

pub copy_in-requires : goal.copy_in-requires
copy_in-requires c = λ i below. c.requires.ram i (omega (arith, ap length c.to_be_bytes.ensures))

pub returns-clause-touches : goal.returns-clause-touches
returns-clause-touches c =
    touches_put (IsInDescriptor c.args.descriptor) c.args.memory.now.memory.top c.args.descriptor _ _ _ c.copy_in.ensures.touched
    (λ place its. (its.0, omega (arith, its.1, ap length c.to_be_bytes.ensures)))
