use Rattle.std.proofs.Common.{ap, sym, subst, ◌∙◌}
use Rattle.std.specs.Option.{option_map}
use Rattle.smbios_decode.specs.Kinds.{kind_of, IsBodyOr}
use Rattle.smbios_decode.proofs.Bodies.{known_body, counted_body}
use Rattle.smbios_decode.proofs.body.read_body.Goals as goal

pub returns-in-Some-OemStrings : goal.returns-in-Some-OemStrings
returns-in-Some-OemStrings c =
    let known = sym c.known_kind.ensures ∙ ap (option_map kind_of) c.in-Some-OemStrings.is ∙ cc c.in-Some-OemStrings.field-0-is in
    counted_body c.args.number c.args.area.now c.args.strings c.oem_strings.result known c.oem_strings.ensures.ok c.oem_strings.ensures.err

pub returns-in-Some : goal.returns-in-Some
returns-in-Some c =
    let known = sym c.known_kind.ensures ∙ ap (option_map kind_of) c.in-Some.is in
    subst (λ strings. IsBodyOr c.args.number c.args.area.now strings c.record.result) c.as_slice.ensures
    (known_body c.in-Some.kind c.args.number c.args.area.now c.as_slice.result.now c.record.result known c.record.ensures.ok c.record.ensures.err)
