use Rattle.std.proofs.Common.{◌≡◌, ◌++◌, replicate}
use Rattle.aml_encode.proofs.path.put_beginning.Given as goal

-- so many levels up so far
abbrev pub invariant-levels : goal.invariant-levels
invariant-levels l = l.into ≡ l.fn.into ++ replicate l._level 0x5E
