use Rattle.std.proofs.Common.{◌≡◌, ◌-◌}
use Rattle.desc_toml.specs.Values.{each_of}
use Rattle.desc_toml.proofs.Each.{with_left}
use Rattle.desc_toml.proofs.parts.list_of.Given as goal

abbrev pub invariant-loop : goal.invariant-loop
invariant-loop g l = with_left g.T.Part.taken (l.count - l.counter) l.list l.values ≡ each_of g.T.Part.taken l.count l.initial.values
