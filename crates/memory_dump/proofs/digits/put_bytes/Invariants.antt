use Rattle.std.proofs.Common.{◌≡◌, ◌*◌, ◌++◌, length, take, drop}
use Rattle.memory_dump.specs.Reading.{bytes_of}
use Rattle.memory_dump.proofs.digits.put_bytes.Given as goal

abbrev pub invariant-loop-i : goal.invariant-loop-i
invariant-loop-i l = record {
  size : length l.bytes ≡ length l.initial.bytes;
  so_far : take l.i l.bytes ++ bytes_of (drop (2 * l.i) l.digits) ≡ bytes_of l.digits;
}
