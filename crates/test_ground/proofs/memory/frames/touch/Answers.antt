use Rattle.std.proofs.Common.{rules, ◌≡◌, length, subst}
use Rattle.vt_bytes.specs.Memory.{IsRamRange}
use Rattle.test_ground.proofs.memory.frames.touch.Goals as goal

-- src/frames.rt:85:5
pub copy_in-requires : goal.copy_in-requires
copy_in-requires g c =
    subst (IsRamRange c.in_ok-memory.memory.memory.top c.args.address)
    (let same : c.args.len ≡ length c.as_slice.result.now = search (c.as_slice.ensures.len, c.in_ok-bytes.ensures.len) in same)
    (c.is_ram_range.ensures.ram.0 (search rules))
