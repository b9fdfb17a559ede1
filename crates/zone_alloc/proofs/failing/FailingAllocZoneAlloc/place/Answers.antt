use Rattle.std.proofs.Common.{ℕ, List, Contains, subst, sym}
use Rattle.std.proofs.lemmas.Bool.{false≢true}
use Rattle.std.specs.Result.{result_ok}
use Rattle.zone_alloc.specs.Allocators.{FailingState, IsListed, shelf_gives}
use Rattle.zone_alloc.proofs.failing.FailingAllocZoneAlloc.place.Goals as goal

pub returns-clause-gives : goal.returns-clause-gives
returns-clause-gives c = (
  λ listed.
      let inside : Contains c.self.inside.fails c.self.inside.calls = subst IsListed (sym c.self.view_is) listed in
      absurd (false≢true (c.if-is_listed.ensures.1 (subst (λ (fails : List ℕ). Contains fails c.self.inside.calls) (sym c.as_slice.ensures) inside))),
  λ others. subst (λ (f : FailingState). shelf_gives f.shelf (record { zone = c.args.zone; size = c.args.size; align = c.args.align })
      (result_ok c.place.result)) c.self.view_is
      c.place.ensures.gives,
)
