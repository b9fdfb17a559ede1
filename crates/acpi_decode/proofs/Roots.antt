-- The RSDP, by its bytes.
use Rattle.std.proofs.Common.{◌≡◌, ℕ, ◌+◌, Bool, true, false, List, Option, Some, None, is_some, arith, refl, ap, sym, subst, ◌∙◌}
use Rattle.std.specs.Option.{option_map, unwrap_or}
use Rattle.vt_bytes.specs.Numbers.{le}
use Rattle.vt_bytes.specs.View.{View, bytes_in, number_in}
use Rattle.vt_layout.specs.declared.row.Row.TheVariants.{Number}
use Rattle.vt_layout.specs.Shown.{LayoutShown}
use Rattle.acpi_model.specs.declared.form.Form.{Form}
use Rattle.acpi_model.specs.Form.{address_size, root_place}
use Rattle.acpi_model.specs.Rsdp.{rsdp_rows_by, IsRsdpBy, HasRsdpBy}
use Rattle.acpi_decode.specs.Seen.{is_ram, number_at}

abbrev form_of : Bool → Form
form_of extended = record { extended = extended; least_fadt = 0 }

-- the address of the root stands at its place
root_there : (extended : Bool) (view : View) (rsdp : ℕ) (oem_id : List ℕ) (revision root : ℕ)
    → LayoutShown view rsdp (rsdp_rows_by (form_of extended) oem_id revision (Number (address_size (form_of extended)) root))
    → number_in view (rsdp + root_place (form_of extended)) (address_size (form_of extended)) ≡ Some root
root_there true view rsdp oem_id revision root shown =
    let place : rsdp + 24 ≡ rsdp + 8 + 1 + 6 + 1 + 4 + 4 = omega arith in
    ap (λ a. number_in view a 8) place ∙ shown.1.1.1.1.1.1.0
root_there false view rsdp oem_id revision root shown =
    let place : rsdp + 16 ≡ rsdp + 8 + 1 + 6 + 1 = omega arith in
    ap (λ a. number_in view a 4) place ∙ shown.1.1.1.1.0

id_there : (form : Form) (view : View) (rsdp : ℕ) (oem_id : List ℕ) (root : ℕ) → IsRsdpBy form view rsdp oem_id root
    → bytes_in view (rsdp + 9) 6 ≡ Some oem_id
id_there form view rsdp oem_id root is =
    let place : rsdp + 9 ≡ rsdp + 8 + 1 = omega arith in
    ap (λ a. bytes_in view a 6) place ∙ is.shown.1.1.0

-- what is there is RAM
told_ram : (bytes : Option (List ℕ)) (n : ℕ) → option_map le bytes ≡ Some n → is_some bytes ≡ true
told_ram None n is = absurd (cc is)
told_ram (Some bytes) n is = refl

pub id_ram : (form : Form) (view : View) (rsdp : ℕ) → HasRsdpBy form view rsdp → is_ram view (rsdp + 9) 6 ≡ true
id_ram form view rsdp (oem_id, root, is) = ap is_some (id_there form view rsdp oem_id root is)

pub root_ram : (form : Form) (view : View) (rsdp : ℕ) → HasRsdpBy form view rsdp → is_ram view (rsdp + root_place form) (address_size form) ≡ true
root_ram form view rsdp (oem_id, root, is) = told_ram _ root (root_there form.extended view rsdp oem_id is.revision root is.shown)

-- what a reader takes of it
pub root_read : (form : Form) (view : View) (rsdp : ℕ) (id : List ℕ) (told : ℕ) → HasRsdpBy form view rsdp → bytes_in view (rsdp + 9) 6 ≡ Some id
    → told ≡ number_at view (rsdp + root_place form) (address_size form) → IsRsdpBy form view rsdp id told
root_read form view rsdp id told (oem_id, root, is) there told_is =
    let same : oem_id ≡ id = cc (id_there form view rsdp oem_id root is, there) in
    let number : root ≡ told =
    sym (told_is ∙ ap (λ o. unwrap_or o 0) (root_there form.extended view rsdp oem_id is.revision root is.shown)) in
    subst (λ x. IsRsdpBy form view rsdp id x) number (subst (λ o. IsRsdpBy form view rsdp o root) same is)
