use Rattle.std.proofs.Common.{rules, ◌≡◌, ◌-◌, ◌≤◌, arith, subst, sym}
use Rattle.std.specs.Int.{next_multiple_of}
use Rattle.zone_alloc.specs.Ranges.{HasNoMultiple}
use Rattle.zone_alloc.proofs.Multiples.{IsNext, next_is, next_is_least}
use Rattle.zone_alloc.proofs.searching.next_place.Goals as goal

pub returns-in_err-place-clause-none : goal.returns-in_err-place-clause-none
returns-in_err-place-clause-none c =
    let none : HasNoMultiple c.args.from c.args.end c.args.size c.args.align =
    λ factor above within.
    let next : IsNext c.args.from c.args.align (next_multiple_of c.args.from c.args.align) = next_is c.args.from c.args.align c.requires in
    c.in_err-place.ensures (
      c.requires,
      omega (
        arith,
        next_is_least c.args.from c.args.align (next_multiple_of c.args.from c.args.align) factor next.multiple next.near above,
        within,
        c.ranges.end.fits,
      ),
    ) in
    search rules

pub returns-then-place-last-clause-next : goal.returns-then-place-last-clause-next
returns-then-place-last-clause-next c =
    let next : IsNext c.args.from c.args.align c.in_ok-place.place =
    subst (IsNext c.args.from c.args.align) (sym c.in_ok-place.ensures.1) (next_is c.args.from c.args.align c.requires) in
    let last : c.in_ok-last.last ≡ c.args.end - c.args.size = c.in_ok-last.ensures.1 in
    let room : c.args.size ≤ c.args.end = c.in_ok-last.ensures.0 in
    record {
      multiple = next.multiple;
      above = next.above;
      near = next.near;
      within = omega (arith, last, room, c.if-place-last.true);
    }
