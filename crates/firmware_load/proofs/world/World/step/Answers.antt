use Rattle.std.proofs.Common.{List, [], ◌∷◌, Bool}
use Rattle.guest_memory.specs.Touched.{TouchesOnly}
use Rattle.command_acts.specs.Allocators.{MayAnswer}
use Rattle.command_acts.specs.FilesInMemory.{placed_ranges}
use Rattle.load_states.specs.LoadState.{LoadState, memory_of}
use Rattle.load_states.specs.Runs.{NoAnswer}
use Rattle.load_states.specs.Touching.{MayTouchOver}
use Rattle.firmware_load.proofs.LoadStates.{of_world}
use Rattle.firmware_load.proofs.StepInside.{kept_after}
use Rattle.firmware_load.proofs.world.World.step.Goals as goal

pub returns-clause-kept : goal.returns-clause-kept
returns-clause-kept g c =
    let A = g.A.ZoneAlloc in
    let place = c.args.place.now in
    kept_after {A = g.row.A.Denot} A.state A.gives (A.state place).begun (MayAnswer A.state A.gives (A.state place).begun)
    (λ handed request answer may. may) c.args.self.now c.self.inside.loading
    c.in-Some.loading c.step.new.self c.args.event c.in-Some.is c.self.view_is c.requires.zones c.step.ensures.steps

pub returns-clause-first : goal.returns-clause-first
returns-clause-first g c =
    let A = g.A.ZoneAlloc in
    let place = c.args.place.now in
    kept_after {A = g.row.A.Denot} A.state A.gives (A.state place).begun NoAnswer (λ handed request answer none. absurd none) c.args.self.now
    c.self.inside.loading c.in-Some.loading c.step.new.self c.args.event c.in-Some.is c.self.view_is c.requires.zones c.step.ensures.steps

pub returns-clause-touches : goal.returns-clause-touches
returns-clause-touches g c =
    of_world (λ (w : LoadState) (touched : List Bool). TouchesOnly
    (MayTouchOver (memory_of w).top (c.args.event ∷ []) (placed_ranges c.step.new.self.guest.placements.placed.items)) (memory_of w).top touched
    c.step.new.self.guest.memory.touched) c.args.self.now c.self.inside.loading c.in-Some.loading c.self.view_is c.in-Some.is c.step.ensures.touches.touches
