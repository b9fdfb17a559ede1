use Rattle.std.proofs.Common.{◌≡◌, ◌+◌, ◌*◌, length}
use Rattle.test_files.proofs.directory.limits.put_contents.Given as goal

abbrev pub invariant-loop-chunk : goal.invariant-loop-chunk
invariant-loop-chunk l = length l.bytes ≡ length l.initial.bytes + l.chunk * 65536
