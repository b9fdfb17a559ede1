use Rattle.std.proofs.Common.{ap, is_some, sym, ◌∙◌, cond, nat_le, false}
use Rattle.acpi_model.specs.McfgKind.{mcfg_shape}
use Rattle.acpi_decode.specs.declared.kind.KnownKind.{KnownKind}
use Rattle.acpi_decode.specs.KnownKinds.{kind_of}
use Rattle.acpi_decode.specs.KindTests.{has_room}
use Rattle.acpi_decode.proofs.ShortFadts.{fadt_room}
use Rattle.acpi_decode.proofs.ReadMcfg.{filled_room}
use Rattle.acpi_decode.proofs.table.has_room.Goals as goal

pub returns-in-Fadt : goal.returns-in-Fadt
returns-in-Fadt g c =
    let seen = g.V.MemView.seen c.args.view.now in
    c.is_fadt_length.ensures ∙ ap (λ total. cond (nat_le c.args.form.least_fadt total) (nat_le 36 total) false) c.requires.told
    ∙ fadt_room c.args.form seen c.args.address
    ∙ sym (ap (λ (k : KnownKind). has_room (kind_of c.args.form k) seen c.args.address) c.in-Fadt.is)

pub returns-in-Mcfg : goal.returns-in-Mcfg
returns-in-Mcfg g c =
    let seen = g.V.MemView.seen c.args.view.now in
    c.is_mcfg_length.ensures ∙ ap (λ total. is_some (mcfg_shape total)) c.requires.told ∙ filled_room seen c.args.address
    ∙ sym (ap (λ (k : KnownKind). has_room (kind_of c.args.form k) seen c.args.address) c.in-Mcfg.is)
