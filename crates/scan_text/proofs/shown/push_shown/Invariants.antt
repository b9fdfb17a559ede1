use Rattle.std.proofs.Common.{◌≡◌, ◌+◌, ◌++◌, length, take}
use Rattle.scan_text.specs.List.{shown}
use Rattle.scan_text.proofs.shown.push_shown.Given as goal

abbrev pub invariant-loop-byte : goal.invariant-loop-byte
invariant-loop-byte l = record {
  so_far : l.line.bytes ≡ l.initial.line.bytes ++ shown (take l.byte-index l.text);
  size : length l.line.bytes ≡ length l.initial.line.bytes + l.byte-index;
}
