use Rattle.std.proofs.Common.{◌≡◌, take}
use Rattle.vt_bytes.specs.Numbers.{byte_sum}
use Rattle.vt_bytes.proofs.sum.sum_of_rest.Given as goal

abbrev pub invariant-loop-byte : goal.invariant-loop-byte
invariant-loop-byte l = l.sum ≡ byte_sum (take l.byte-index l.bytes)
