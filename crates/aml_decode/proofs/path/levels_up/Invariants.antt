use Rattle.std.proofs.Common.{◌≡◌, ◌+◌, drop}
use Rattle.std.specs.Prelude.{◌==◌}
use Rattle.std.specs.List.{prefix_len}
use Rattle.aml_decode.proofs.path.levels_up.Given as goal

-- those so far, and those that are still to come, are all
abbrev pub invariant-loop-byte : goal.invariant-loop-byte
invariant-loop-byte l =
    record {
      so_far : l.parents ≡ l.byte-index;
      all : l.byte-index + prefix_len (λ c. c == 0x5E) (drop l.byte-index l.text) ≡ prefix_len (λ c. c == 0x5E) l.text;
    }
