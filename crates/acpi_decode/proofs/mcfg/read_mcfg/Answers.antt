use Rattle.std.proofs.Common.{◌≡◌, ◌+◌, ◌-◌, ◌/◌, true, arith, ap, subst, ◌∙◌}
use Rattle.acpi_model.specs.declared.acpi.Table.TheVariants.{Mcfg as McfgVariant}
use Rattle.acpi_decode.specs.Seen.{is_ram}
use Rattle.acpi_decode.specs.Allocations.{allocations_at}
use Rattle.acpi_decode.proofs.InRam.{front_ram}
use Rattle.acpi_decode.proofs.ReadMcfg.{filled, mcfg_read}
use Rattle.acpi_decode.proofs.mcfg.read_mcfg.Goals as goal

pub copy_out-requires : goal.copy_out-requires
copy_out-requires g c =
    let seen = g.V.MemView.seen c.args.view.now in
    let is = filled seen c.args.address c.requires.room in
    front_ram seen c.args.address c.args.total 44 c.requires.ram (omega (arith, c.requires.told, is.long))

pub read_allocations-requires-clause-within : goal.read_allocations-requires-clause-within
read_allocations-requires-clause-within g c =
    let is = filled (g.V.MemView.seen c.args.view.now) c.args.address c.requires.room in
    omega (arith, c.requires.told, is.long)

pub returns : goal.returns
returns g c =
    let seen = g.V.MemView.seen c.args.view.now in
    let ram = subst (λ n. is_ram seen c.args.address n ≡ true) c.requires.told c.requires.ram in
    let behind = c.in_ok-allocations.ensures ∙ ap (λ n. allocations_at seen (c.args.address + 44) ((n - 44) / 16)) c.requires.told in
    ap McfgVariant c.of.ensures
    ∙ mcfg_read seen c.args.address c.copy_out.new.bytes c.in_ok-front.front c.in_ok-allocations.allocations (filled seen c.args.address c.requires.room) ram
    c.copy_out.ensures c.in_ok-front.ensures behind
