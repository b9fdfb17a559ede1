use Rattle.std.proofs.Common.{refl}
use Rattle.cfg_dma.proofs.device.Device.start.Goals as goal

pub read-asked-requires : goal.read-asked-requires
read-asked-requires c = c.if-is_ram_range.ensures.ram.0 refl

pub carry_out-requires-clause-ram : goal.carry_out-requires-clause-ram
carry_out-requires-clause-ram c = c.if-is_ram_range.ensures.ram.0 refl
