use Rattle.std.proofs.Common.{◌≡◌, suc, ◌+◌, ◌*◌, ◌≤◌, ◌∷◌, ◌++◌, [], arith, ap, ◌∙◌, sym}
use Rattle.acpi_decode.specs.Allocations.{allocation_at, allocations_at}
use Rattle.acpi_decode.proofs.InRam.{address_fits, part_ram}
use Rattle.acpi_decode.proofs.ReadMcfg.{one_more}
use Rattle.acpi_decode.proofs.mcfg.read_allocations.Goals as goal

pub overflow_add-at : goal.overflow_add-at
overflow_add-at g c =
    let seen = g.V.MemView.seen c.args.view.now in
    let within : c.from.result + 16 ≤ c.args.total = omega (arith, c.from.ensures, c.loop-index-test.true) in
    omega (arith, address_fits seen c.args.table c.args.total c.from.result (g.met.V.MemView.bounded c.args.view.now) c.requires.ram (omega (arith, within)))

pub read_allocation-requires : goal.read_allocation-requires
read_allocation-requires g c =
    let within : c.from.result + 16 ≤ c.args.total = omega (arith, c.from.ensures, c.loop-index-test.true) in
    part_ram (g.V.MemView.seen c.args.view.now) c.args.table c.args.total c.from.result 16 c.requires.ram within

pub loop-index-preserved : goal.loop-index-preserved
loop-index-preserved g c =
    let seen = g.V.MemView.seen c.args.view.now in
    let behind = c.args.table + 44 in
    let place : c.args.table + c.from.result ≡ behind + 16 * c.loop-index.index = omega (arith, c.from.ensures) in
    let next : c.loop-index.index + 1 ≡ suc c.loop-index.index = omega arith in
    c.in_ok-push.ensures.ok ∙ ap (λ before. before ++ c.in_ok-read_allocation.field-0 ∷ []) c.loop-index.invariant
    ∙ ap (λ a. allocations_at seen behind c.loop-index.index ++ a ∷ []) (c.in_ok-read_allocation.ensures ∙ ap (allocation_at seen) place)
    ∙ sym (one_more seen behind c.loop-index.index) ∙ ap (allocations_at seen behind) (sym next)
