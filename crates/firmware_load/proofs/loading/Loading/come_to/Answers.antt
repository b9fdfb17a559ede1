use Rattle.std.proofs.Common.{List, arith, sym, subst, inr, ◌∙◌}
use Rattle.cfg_directory.specs.declared.listed.Listed.{Listed}
use Rattle.command_acts.specs.Allocators.{MayAnswer}
use Rattle.firmware_load.specs.Inside.{IsReady}
use Rattle.firmware_load.proofs.AtStages.{command_small, is_ready}
use Rattle.firmware_load.proofs.AtCommands.{command_found, none_found, command_steps, closing_steps, request_is}
use Rattle.firmware_load.proofs.loading.Loading.come_to.Goals as goal

pub carry_out-self-requires-clause-ready : goal.carry_out-self-requires-clause-ready
carry_out-self-requires-clause-ready g c =
    let l = c.args.self.now in
    let entry = c.in-Some.entry.now in
    let read = c.in-Some.ensures.lookup in
    let found = command_found c.deref.result.now l.script.items c.args.index entry c.deref.ensures.value read.3.0 read.1 in
    subst (λ (listed : List Listed). IsReady l.guest listed) (sym c.deref-in-Some.ensures.value)
    (is_ready l c.args.index entry c.requires.inside c.requires.stage found)

pub carry_out-self-requires-clause-index : goal.carry_out-self-requires-clause-index
carry_out-self-requires-clause-index g c = omega (arith, command_small c.requires.inside.1.kept c.requires.stage)

pub returns-in-Some-clause-steps : goal.returns-in-Some-clause-steps
returns-in-Some-clause-steps g c =
    let A = g.A.ZoneAlloc in
    let place = c.args.place.now in
    let l = c.args.self.now in
    let entry = c.in-Some.entry.now in
    let read = c.in-Some.ensures.lookup in
    let found = command_found c.deref.result.now l.script.items c.args.index entry c.deref.ensures.value read.3.0 read.1 in
    command_steps (MayAnswer {A = g.row.A.Denot} A.state A.gives (A.state place).begun) l c.carry_out-self.new.self
    c.carry_out-self.result c.deref-in-Some.result.now c.args.index entry c.requires.stage found c.deref-in-Some.ensures.value
    (c.carry_out-self.ensures.goes l.script.items)

pub returns-in-Some-clause-unasked : goal.returns-in-Some-clause-unasked
returns-in-Some-clause-unasked g c =
    let l = c.args.self.now in
    let entry = c.in-Some.entry.now in
    let read = c.in-Some.ensures.lookup in
    let found = command_found c.deref.result.now l.script.items c.args.index entry c.deref.ensures.value read.3.0 read.1 in
    λ none. c.carry_out-self.ensures.unasked (sym (request_is l c.args.index entry c.requires.stage found) ∙ none)

pub returns-in-Some-clause-no_room : goal.returns-in-Some-clause-no_room
returns-in-Some-clause-no_room g c =
    let l = c.args.self.now in
    let entry = c.in-Some.entry.now in
    let read = c.in-Some.ensures.lookup in
    let found = command_found c.deref.result.now l.script.items c.args.index entry c.deref.ensures.value read.3.0 read.1 in
    λ index is.
    let said = c.carry_out-self.ensures.no_room index is in inr (said.1, said.2 ∙ sym (request_is l c.args.index entry c.requires.stage found))

pub returns-in-None-clause-steps : goal.returns-in-None-clause-steps
returns-in-None-clause-steps g c =
    let A = g.A.ZoneAlloc in
    let place = c.args.place.now in
    let l = c.args.self.now in
    let none = none_found c.deref.result.now l.script.items c.args.index c.deref.ensures.value c.in-None.ensures.lookup.3 in
    closing_steps (MayAnswer {A = g.row.A.Denot} A.state A.gives (A.state place).begun) l c.clear.new.self c.args.index
    c.requires.stage none c.clear.ensures.memory c.clear.ensures.device c.clear.ensures.placements
