use Rattle.std.proofs.Common.{◌≡◌, ◌++◌, drop}
use Rattle.std.specs.List.{flat_map}
use Rattle.desc_toml.proofs.values.put_each.Given as goal

-- what is put with what is left to put
abbrev pub invariant-loop-part : goal.invariant-loop-part
invariant-loop-part g l =
    l.values ++ flat_map g.T.Valued.values_of (drop l.part-index l.parts) ≡ l.initial.values ++ flat_map g.T.Valued.values_of l.parts
