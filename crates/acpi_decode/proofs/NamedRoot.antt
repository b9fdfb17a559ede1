-- Where the entries of a root stand, by its form.
use Rattle.std.proofs.Common.{◌≡◌, ℕ, ◌+◌, ◌-◌, ◌*◌, ◌/◌, ◌<◌, ◌≤◌, Bool, true, false, arith, sym, subst}
use Rattle.acpi_model.specs.declared.form.Form.{Form}
use Rattle.acpi_model.specs.Form.{address_size}
use Rattle.acpi_decode.specs.Read.{entry_count}

abbrev form_of : Bool → Form
form_of extended = record { extended = extended; least_fadt = 0 }

-- each entry lies within it
pub entry_within : (extended : Bool) (total index size : ℕ) → size ≡ address_size (form_of extended) → index < (total - 36) / size
    → 36 + size * index + address_size (form_of extended) ≤ total
entry_within true total index size is below =
    let eights : index < (total - 36) / 8 = subst (λ n. index < (total - 36) / n) is below in
    subst (λ n. 36 + n * index + 8 ≤ total) (sym is) (omega (arith, eights))
entry_within false total index size is below =
    let fours : index < (total - 36) / 4 = subst (λ n. index < (total - 36) / n) is below in
    subst (λ n. 36 + n * index + 4 ≤ total) (sym is) (omega (arith, fours))

-- and is one of those that are counted
pub entry_counted : (extended : Bool) (total told index size : ℕ) → size ≡ address_size (form_of extended) → index < (total - 36) / size → total ≡ told
    → index < entry_count (form_of extended) told
entry_counted true total told index size is below same =
    subst (λ t. index < (t - 36) / 8) same (subst (λ n. index < (total - 36) / n) is below)
entry_counted false total told index size is below same =
    subst (λ t. index < (t - 36) / 4) same (subst (λ n. index < (total - 36) / n) is below)
