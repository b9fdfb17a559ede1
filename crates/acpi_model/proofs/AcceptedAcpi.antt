-- What the rules say of an accepted machine's ACPI tables.
use Rattle.std.proofs.Common.{◌≡◌, ℕ, ◌≤◌, ◌%◌, ◌==◌, Bool, true, false, List, [], ◌∷◌, get_or, is_some, Option, Some, None, IsSome, IfSome, ◌&&◌}
use Rattle.std.proofs.Common.{nat_le, length, not}
use Rattle.std.proofs.Common.{if◌then◌else◌, refl, ap, sym, ◌∙◌}
use Rattle.std.proofs.lemmas.Bool.{and_parts, leb-true}
use Rattle.std.specs.Option.{option_map_or}
use Rattle.machine_desc.specs.declared.machine.Machine.{Machine}
use Rattle.machine_desc.specs.declared.machine.Acpi.{Acpi}
use Rattle.machine_desc.specs.declared.acpi_parts.Power.{Power}
use Rattle.machine_desc.specs.Rules.{ends_in_space, is_padded_text, only_at, breach_of_acpi, is_empty, is_met, parts_on_power, lists_on_apic, IsAccepted}
use Rattle.machine_desc.specs.Rules.{has_ports, has_lawful_gpe, has_lawful_reset, is_lawful_power}
use Rattle.machine_desc.specs.Fields.{IsFittingPower, HasFittingFields}
use Rattle.machine_desc.proofs.Accepted.{kept, holds_where_kept, each_kept}
use Rattle.machine_desc.proofs.Passing.{passing_at}
use Rattle.acpi_records.specs.Header.{FitsHead}

-- both identifiers can be padded to their fields
pub record ArePadded (acpi : Acpi) : Type 0 where
  pub oem_id : is_padded_text 6 acpi.oem_id ≡ true
  pub oem_table_id : is_padded_text 8 acpi.oem_table_id ≡ true

both_hold : (first second : Bool) → (if first then only_at 1 second else Some 0) ≡ None → (first ≡ true) × (second ≡ true)
both_hold true true is = (refl, refl)
both_hold true false is = absurd (cc)
both_hold false second is = absurd (cc)

-- an accepted machine's identifiers can be padded
pub accepted_padded : (m : Machine) (acpi : Acpi) → IsAccepted m → m.acpi ≡ Some acpi → ArePadded acpi
accepted_padded m acpi accepted is =
    let is_kept = kept m accepted 16 in
    let both = both_hold (is_padded_text 6 acpi.oem_id) (is_padded_text 8 acpi.oem_table_id) (sym (ap breach_of_acpi is) ∙ is_kept) in
    record { oem_id = both.0; oem_table_id = both.1 }

short : (size : ℕ) (text : List ℕ) → is_padded_text size text ≡ true → length text ≤ size
short size text is =
    leb-true (length text) size (and_parts (nat_le (length text) size) (not (ends_in_space text)) is).0

-- and fit the fields of a header
pub accepted_fits : (m : Machine) (acpi : Acpi) → IsAccepted m → m.acpi ≡ Some acpi → FitsHead acpi
accepted_fits m acpi accepted is =
    let padded = accepted_padded m acpi accepted is in
    record { oem_id = short 6 acpi.oem_id padded.oem_id; oem_table_id = short 8 acpi.oem_table_id padded.oem_table_id }

-- a part that isn't there is none
pub absent : {A : Type 0} (part : Option A) → (IsSome part → ⊥) → part ≡ None
absent None none = refl
absent (Some a) none = absurd (none refl)

-- a part that is there isn't none
pub not_none : {A : Type 0} (part : Option A) → part ≡ None → IsSome part → ⊥
not_none None none some = cc
not_none (Some a) none some = cc

-- An accepted machine without ACPI tables has no part that needs them.
pub no_part : {A : Type 0} (m : Machine) (part : Option A) → (IsSome part → IsSome m.acpi) → m.acpi ≡ None → part ≡ None
no_part m part needs none = absent part (λ some. not_none m.acpi none (needs some))

-- the rules hold of a part that isn't there only where nothing needs it
no_elements : {A B : Type 0} (part : Option A) (list : List B) → part ≡ None → is_met (is_some part) (not (is_empty list)) ≡ true → list ≡ []
no_elements part [] none met = refl
no_elements part (b ∷ list) none met =
    let there : is_some part ≡ true = met in
    absurd (cc (there, none))

-- An accepted machine without interrupt controllers has none of the lists that need them; the list is that of an index of the rule.
pub no_list : {B : Type 0} (m : Machine) (list : List B) (index : ℕ) → IsAccepted m → m.apic ≡ None
    → get_or (lists_on_apic m) index false ≡ not (is_empty list) → list ≡ []
no_list m list index accepted none is =
    let all = each_kept m accepted 15 (is_met (is_some m.apic)) (lists_on_apic m) refl in
    let at : is_met (is_some m.apic) (get_or (lists_on_apic m) index false) ≡ true =
    passing_at (is_met (is_some m.apic)) (lists_on_apic m) index false all refl in
    no_elements m.apic list none (ap (is_met (is_some m.apic)) (sym is) ∙ at)

-- An accepted machine without power management has none of the parts that need it: no bridge, and no serial ports.
met_on_power : (m : Machine) → IsAccepted m → (index : ℕ) → is_met (is_some m.power) (get_or (parts_on_power m) index false) ≡ true
met_on_power m accepted index =
    passing_at (is_met (is_some m.power)) (parts_on_power m) index false (each_kept m accepted 14 (is_met (is_some m.power)) (parts_on_power m) refl) refl

unmet : (needed there : Bool) → needed ≡ false → there ≡ true → is_met needed there ≡ true → ⊥
unmet true there none some met = absurd (cc)
unmet false true none some met = cc
unmet false false none some met = cc

pub no_bridge : (m : Machine) → IsAccepted m → m.power ≡ None → m.bridge ≡ None
no_bridge m accepted none =
    absent m.bridge (λ some. unmet (is_some m.power) (is_some m.bridge) (ap is_some none) some (met_on_power m accepted 0))

pub no_uarts : (m : Machine) → IsAccepted m → m.power ≡ None → m.uarts ≡ []
no_uarts m accepted none = no_elements m.power m.uarts none (met_on_power m accepted 1)

lawful_at : (part : Option Power) → option_map_or is_lawful_power part true ≡ true → IfSome part (λ power. is_lawful_power power ≡ true)
lawful_at None lawful = tt
lawful_at (Some power) lawful = lawful

-- its block of general-purpose events has at most 30 bytes
pub few_events : (power : Power) → is_lawful_power power ≡ true → power.gpe_len ≤ 30
few_events power lawful =
    let outer = and_parts (has_ports power && has_lawful_gpe power) (has_lawful_reset power) lawful in
    let inner = and_parts (has_ports power) (has_lawful_gpe power) outer.0 in
    let both = and_parts ((power.gpe_len % 2 == 0) && nat_le power.gpe_len 30) (if power.gpe_len == 0 then power.gpe == 0 else not (power.gpe == 0)) inner.1 in
    leb-true power.gpe_len 30 (and_parts (power.gpe_len % 2 == 0) (nat_le power.gpe_len 30) both.0).1

few_at : (part : Option Power) → IfSome part (λ power. is_lawful_power power ≡ true) → IfSome part (λ power. power.gpe_len ≤ 30)
few_at None lawful = tt
few_at (Some power) lawful = few_events power lawful

pub accepted_events : (m : Machine) → IsAccepted m → IfSome m.power (λ power. power.gpe_len ≤ 30)
accepted_events m accepted =
    few_at m.power (lawful_at m.power (holds_where_kept 0 (option_map_or is_lawful_power m.power true) (kept m accepted 17)))

joined : {A : Type 0} (P Q : A → Type 0) (part : Option A) → IfSome part P → IfSome part Q → IfSome part (λ a. P a × Q a)
joined P Q None p q = tt
joined P Q (Some a) p q = (p, q)

-- what is known of the power of an accepted machine whose numbers fit their fields
pub fits_power : (m : Machine) → HasFittingFields m → IsAccepted m → IfSome m.power (λ power. IsFittingPower power × (power.gpe_len ≤ 30))
fits_power m fit accepted = joined IsFittingPower (λ power. power.gpe_len ≤ 30) m.power fit.power (accepted_events m accepted)
