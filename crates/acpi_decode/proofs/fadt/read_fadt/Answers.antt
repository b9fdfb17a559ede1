use Rattle.std.proofs.Common.{◌≡◌, ◌-◌, ◌++◌, replicate, subst, ap, ◌∙◌}
use Rattle.acpi_model.specs.declared.acpi.Table.TheVariants.{Fadt as FadtVariant}
use Rattle.acpi_model.specs.FadtKind.{filled_in}
use Rattle.acpi_decode.specs.Seen.{bytes_from}
use Rattle.acpi_decode.proofs.InRam.{front_ram}
use Rattle.acpi_decode.proofs.ReadFadt.{fadt_filled}
use Rattle.acpi_decode.proofs.fadt.read_fadt.Goals as goal

pub read_padded-bytes-requires-clause-ram : goal.read_padded-bytes-requires-clause-ram
read_padded-bytes-requires-clause-ram g c =
    front_ram (g.V.MemView.seen c.args.view.now) c.args.address c.args.length c.whole_size-size.result c.requires.ram c.whole_size-size.ensures.within

pub returns : goal.returns
returns g c =
    let seen = g.V.MemView.seen c.args.view.now in
    let bytes = c.read_padded-bytes.result in
    let links = c.links_in-links.result in
    let sized = c.whole_size-size.ensures.front in
    ap (λ t. FadtVariant t links) (c.filled_in.ensures ∙ ap (λ n. filled_in n c.in_ok-fadt.fadt) sized)
    ∙ fadt_filled seen c.args.address c.args.length c.in_ok-fadt.fadt links c.rows-2.result.now c.requires.long c.requires.ram bytes
    (subst (λ n. bytes ≡ bytes_from seen c.args.address n ++ replicate (276 - n) 0) sized c.read_padded-bytes.ensures)
    c.in_ok-fadt.ensures (c.rows-2.ensures.rows ∙ c.in_ok-rows_of.ensures.rows) c.links_in-links.ensures
