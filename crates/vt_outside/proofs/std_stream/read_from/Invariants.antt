use Rattle.std.specs.Io.KnownBytes.{Keeps}
use Rattle.vt_outside.proofs.std_stream.read_from.Given as goal

abbrev pub invariant-loop-turn : goal.invariant-loop-turn
invariant-loop-turn g l = Keeps (g.R.Read.remaining l.initial.reader) (g.R.Read.remaining l.reader)
