use Rattle.std.proofs.Common.{IsSome, refl, sym, subst}
use Rattle.command_acts.specs.Allocators.{MayAnswer}
use Rattle.vmtables.proofs.Booting.{booted_so, failed_to_boot, held_by}
use Rattle.vmtables.proofs.machine_booting.load_image.Goals as goal

pub returns-in_err-load_items-clause-err : goal.returns-in_err-load_items-clause-err
returns-in_err-load_items-clause-err g c =
    let failed = c.in_err-load_items in
    let answer = c.from_residual.result in
    failed_to_boot (MayAnswer g.A.ZoneAlloc.state g.A.ZoneAlloc.gives) c.args.setting.now c.args.machine.now _ _ _ _ failed.field-0.0 answer
    (λ begun handed request place may. may.lawful) c.requires.built c.requires.small failed.ensures.err c.from_residual.ensures.1

pub memory-requires : goal.memory-requires
memory-requires g c = subst IsSome (sym c.in_ok-load_items.ensures.ok.world_is) refl

pub returns-clause-ok : goal.returns-clause-ok
returns-clause-ok g c =
    booted_so (MayAnswer g.A.ZoneAlloc.state g.A.ZoneAlloc.gives) c.args.setting.now c.args.machine.now _ _ _ _
    (λ begun handed request place may. may.lawful) c.requires.built c.requires.small c.in_ok-load_items.ensures.ok
    (held_by _ c.memory.result.now.memory c.memory.ensures.memory c.holds_bytes.ensures)
