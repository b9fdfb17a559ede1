use Rattle.std.proofs.Common.{ℕ, ◌<◌, slice_index}
use Rattle.guest_memory.specs.Store.{in_frame}
use Rattle.guest_memory.proofs.store.Store.holds_bytes.Given as goal

-- the frames before this one hold bytes
abbrev pub invariant-loop-frame : goal.invariant-loop-frame
invariant-loop-frame l = (k i : ℕ) → k < l.frame → slice_index (in_frame l.self k) i < 256
