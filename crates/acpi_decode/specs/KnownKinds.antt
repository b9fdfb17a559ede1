-- The kinds of tables that are read as records.
use Rattle.std.specs.Prelude.{ℕ, List, [], ◌∷◌, Option}
use Rattle.std.specs.List.{find}
use Rattle.std.specs.Str.{bytes_eq}
use Rattle.acpi_model.specs.Kinds.{Kind}
use Rattle.acpi_model.specs.declared.form.Form.{Form}
use Rattle.acpi_model.specs.Form.{xsdt_form}
use Rattle.acpi_model.specs.FadtKind.{fadt_kind_by}
use Rattle.acpi_model.specs.MadtKind.{madt_kind}
use Rattle.acpi_model.specs.SratKind.{srat_kind}
use Rattle.acpi_model.specs.SlitKind.{slit_kind}
use Rattle.acpi_model.specs.McfgKind.{mcfg_kind}
use Rattle.acpi_model.specs.HpetKind.{hpet_kind}
use Rattle.acpi_decode.specs.declared.kind.KnownKind.{KnownKind}
use Rattle.acpi_decode.specs.declared.kind.KnownKind.TheVariants.{Fadt, Madt, Srat, Slit, Mcfg, Hpet}

abbrev pub kind_of : Form → KnownKind → Kind
kind_of form Fadt = fadt_kind_by form
kind_of form Madt = madt_kind
kind_of form Srat = srat_kind
kind_of form Slit = slit_kind
kind_of form Mcfg = mcfg_kind
kind_of form Hpet = hpet_kind

abbrev pub known_kinds : List KnownKind
known_kinds = Fadt ∷ Madt ∷ Srat ∷ Slit ∷ Mcfg ∷ Hpet ∷ []

-- the one with a signature
abbrev pub known_kind : List ℕ → Option KnownKind
known_kind signature = find (λ kind. bytes_eq signature (kind_of xsdt_form kind).signature) known_kinds
