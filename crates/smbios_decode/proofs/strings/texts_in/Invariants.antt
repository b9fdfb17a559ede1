use Rattle.std.proofs.Common.{◌≡◌, map}
use Rattle.smbios_decode.proofs.strings.texts_in.Given as goal

abbrev pub invariant-loop-piece : goal.invariant-loop-piece
invariant-loop-piece l = l.texts ≡ map (λ piece. piece.now) l.yielded
