use Rattle.std.proofs.Common.{◌≡◌, ◌+◌, ◌-◌, ◌*◌, ◌≤◌, true, Some, arith, ap, sym, subst, ◌∙◌}
use Rattle.std.proofs.lemmas.Nat.{mul-le}
use Rattle.vt_bytes.specs.View.{bytes_in}
use Rattle.acpi_model.specs.declared.acpi.Table.TheVariants.{Slit as SlitVariant}
use Rattle.acpi_model.specs.SlitKind.{count_at}
use Rattle.acpi_decode.specs.Seen.{is_ram}
use Rattle.acpi_decode.proofs.InRam.{front_ram}
use Rattle.acpi_decode.proofs.ReadSlit.{counted, count_read, slit_read, slit_ram}
use Rattle.acpi_decode.proofs.slit.read_slit.Goals as goal

pub copy_out-requires : goal.copy_out-requires
copy_out-requires g c =
    let seen = g.V.MemView.seen c.args.view.now in
    front_ram seen c.args.address (44 + count_at seen c.args.address * count_at seen c.args.address) 44
    (slit_ram seen c.args.address c.requires.room c.requires.ram) (omega arith)

pub overflow_cast-count : goal.overflow_cast-count
overflow_cast-count g c =
    let seen = g.V.MemView.seen c.args.view.now in
    let count = count_read seen c.args.address c.copy_out.new.bytes c.in_ok-front.front c.copy_out.ensures c.in_ok-front.ensures in
    let is = counted seen c.args.address c.requires.room in
    omega (arith, count, is.few)

pub overflow_mul-end : goal.overflow_mul-end
overflow_mul-end g c =
    let seen = g.V.MemView.seen c.args.view.now in
    let count = count_read seen c.args.address c.copy_out.new.bytes c.in_ok-front.front c.copy_out.ensures c.in_ok-front.ensures in
    let is = counted seen c.args.address c.requires.room in
    let few : c.in_ok-front.front.count ≤ 1024 = omega (arith, count, is.few) in
    omega (arith, mul-le c.in_ok-front.front.count c.in_ok-front.front.count 1024 1024 few few)

pub overflow_add-end : goal.overflow_add-end
overflow_add-end g c =
    let seen = g.V.MemView.seen c.args.view.now in
    let count = count_read seen c.args.address c.copy_out.new.bytes c.in_ok-front.front c.copy_out.ensures c.in_ok-front.ensures in
    let is = counted seen c.args.address c.requires.room in
    let few : c.in_ok-front.front.count ≤ 1024 = omega (arith, count, is.few) in
    omega (arith, mul-le c.in_ok-front.front.count c.in_ok-front.front.count 1024 1024 few few)

pub read_block-requires-clause-ram : goal.read_block-requires-clause-ram
read_block-requires-clause-ram g c =
    let seen = g.V.MemView.seen c.args.view.now in
    let count = count_read seen c.args.address c.copy_out.new.bytes c.in_ok-front.front c.copy_out.ensures c.in_ok-front.ensures in
    subst (λ n. is_ram seen c.args.address (44 + n * n) ≡ true) (sym count) (slit_ram seen c.args.address c.requires.room c.requires.ram)

pub returns : goal.returns
returns g c =
    let seen = g.V.MemView.seen c.args.view.now in
    let count = count_read seen c.args.address c.copy_out.new.bytes c.in_ok-front.front c.copy_out.ensures c.in_ok-front.ensures in
    let left : 44 + c.in_ok-front.front.count * c.in_ok-front.front.count - 44 ≡ c.in_ok-front.front.count * c.in_ok-front.front.count = omega arith in
    let behind =
    subst (λ n. bytes_in seen (c.args.address + 44) n ≡ Some c.in_ok-distances.distances) (left ∙ ap (λ n. n * n) count) c.in_ok-distances.ensures in
    ap SlitVariant c.of.ensures ∙ slit_read seen c.args.address c.copy_out.new.bytes c.in_ok-front.front c.in_ok-distances.distances
    (counted seen c.args.address c.requires.room) (slit_ram seen c.args.address c.requires.room c.requires.ram) c.copy_out.ensures c.in_ok-front.ensures behind
