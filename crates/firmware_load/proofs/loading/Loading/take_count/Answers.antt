use Rattle.std.proofs.Common.{arith}
use Rattle.firmware_load.specs.Inside.{load_of}
use Rattle.firmware_load.proofs.AtStages.{count_small, over_at}
use Rattle.firmware_load.proofs.loading.Loading.take_count.Goals as goal

pub overflow_cast-count : goal.overflow_cast-count
overflow_cast-count c =
    omega (
      arith,
      count_small c.args.self.now.guest.device.items (load_of c.args.self.now) c.buffered.result.now c.get_be-count.result
          c.requires.inside.1.kept.device.items
          (over_at c.requires.inside.1.kept c.requires.stage c.requires.over) c.buffered.ensures.bytes c.get_be-count.ensures,
    )

pub overflow_mul-self : goal.overflow_mul-self
overflow_mul-self c =
    omega (
      arith,
      count_small c.args.self.now.guest.device.items (load_of c.args.self.now) c.buffered.result.now c.get_be-count.result
          c.requires.inside.1.kept.device.items
          (over_at c.requires.inside.1.kept c.requires.stage c.requires.over) c.buffered.ensures.bytes c.get_be-count.ensures,
    )
