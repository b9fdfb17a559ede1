use Rattle.std.proofs.Common.{◌≡◌, true, take, drop}
use Rattle.machine_desc.proofs.OwnNumbers.{refused_from, are_below}
use Rattle.machine_desc.proofs.numbers.first_refused.Given as goal

-- the elements that are left decide, and the numbers of those before them are below one
abbrev pub invariant-loop-index : goal.invariant-loop-index
invariant-loop-index g l =
    (refused_from g.E.Numbered.is_lawful g.E.Numbered.number l.elements l.index (drop l.index l.elements)
    ≡ refused_from g.E.Numbered.is_lawful g.E.Numbered.number l.elements 0 l.elements)
    × (are_below g.E.Numbered.number l.above (take l.index l.elements) ≡ true)
