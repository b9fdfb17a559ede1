use Rattle.std.proofs.Common.{◌≡◌, ◌-◌, ◌*◌, [], length, drop}
use Rattle.cfg_directory.specs.Container.{directory_so}
use Rattle.cfg_directory.proofs.reading.read_directory.Given as goal

abbrev pub invariant-loop-index : goal.invariant-loop-index
invariant-loop-index l = record {
  said : directory_so (l.count - l.index) l.index l.listed l.rest ≡ directory_so l.count 0 [] l.bytes;
  rest : l.rest ≡ drop (64 * l.index) l.bytes;
  count : length l.listed ≡ l.index;
}
