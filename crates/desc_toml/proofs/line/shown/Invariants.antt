use Rattle.std.proofs.Common.{length, ◌-◌, ◌≡◌, ◌≤◌, map, take}
use Rattle.desc_toml.specs.Lines.{shown_byte}
use Rattle.desc_toml.proofs.line.shown.Given as goal

abbrev pub invariant-loop-place : goal.invariant-loop-place
invariant-loop-place l = (l.shown.bytes ≡ map shown_byte (take l.place l.key)) × (length l.shown.bytes ≡ l.place) × (l.place ≤ length l.key) × (l.place ≤ 64)

abbrev pub decreases-loop-place : goal.decreases-loop-place
decreases-loop-place l = length l.key - l.place
