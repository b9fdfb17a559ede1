use Rattle.std.proofs.Common.{◌<◌, ◌≤◌, ◌++◌, length, sym, ◌∙◌, arith}
use Rattle.cfg_directory.specs.Held.{bytes_of}
use Rattle.cfg_directory.proofs.Gathered.{left_over, some_left}
use Rattle.cfg_directory.proofs.gathering.take_contents.Goals as goal

pub returns-then-not-is_empty : goal.returns-then-not-is_empty
returns-then-not-is_empty c =
    let past : length c.loop-held.held.listed ≤ c.loop-held.held.next = omega (arith, c.len.ensures, c.loop-held-test.false) in
    let some : 0 < length c.loop-held.left.now = some_left c.loop-held.left.now (sym c.is_empty.ensures ∙ c.if-not-is_empty.true) in
    left_over c.loop-held.held c.loop-held.left.now (bytes_of c.args.held.now ++ c.args.piece.now) c.loop-held.invariant.gathers
    c.loop-held.invariant.joined past some
