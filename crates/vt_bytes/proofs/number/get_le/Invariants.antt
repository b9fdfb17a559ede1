use Rattle.std.proofs.Common.{◌≡◌, ◌+◌, ◌-◌, ◌^◌, ◌<◌, ◌≤◌, take, drop}
use Rattle.vt_bytes.specs.Numbers.{le}
use Rattle.vt_bytes.proofs.number.get_le.Given as goal

abbrev pub invariant-loop-place : goal.invariant-loop-place
invariant-loop-place l = record {
  from : l.at ≤ l.place;
  value : l.number ≡ le (take (l.at + l.n - l.place) (drop l.place l.bytes));
  small : l.number < 256 ^ (l.at + l.n - l.place);
}
