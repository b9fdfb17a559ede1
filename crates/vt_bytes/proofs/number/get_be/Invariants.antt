use Rattle.std.proofs.Common.{◌≡◌, ◌^◌, ◌<◌, take}
use Rattle.vt_bytes.specs.Numbers.{be}
use Rattle.vt_bytes.proofs.number.get_be.Given as goal

abbrev pub invariant-loop-byte : goal.invariant-loop-byte
invariant-loop-byte l = record {
  value : l.number ≡ be (take l.byte-index l.byte-items);
  small : l.number < 256 ^ l.byte-index;
}
