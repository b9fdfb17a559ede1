-- The maker of tables is got back from its padded identifiers.
use Rattle.std.proofs.Common.{◌≡◌, ℕ, zero, suc, ◌-◌, true, false, not, List, [], ◌∷◌, ◌++◌, length, replicate, slice_get, cond, nat_le, ◌==◌}
use Rattle.std.proofs.Common.{arith, refl, ap, ◌∙◌, sym}
use Rattle.std.proofs.lemmas.Bool.{and_parts, not-true}
use Rattle.std.specs.Option.{option_map_or}
use Rattle.machine_desc.specs.declared.machine.Acpi.{Acpi}
use Rattle.machine_desc.specs.Rules.{ends_in_space, is_padded_text}
use Rattle.acpi_records.specs.Header.{padded, head_of}
use Rattle.acpi_model.specs.Maker.{in_front, unpadded, acpi_in}

-- the last byte of a longer text
ends_alike : (first next : ℕ) (text : List ℕ) → ends_in_space (first ∷ next ∷ text) ≡ ends_in_space (next ∷ text)
ends_alike first next text =
    let place : length (first ∷ next ∷ text) - 1 ≡ suc (length (next ∷ text) - 1) = omega arith in
    ap (λ k. option_map_or (λ byte. byte == 0x20) (slice_get (first ∷ next ∷ text) k) false) place

unpadded-spaces : (count : ℕ) → unpadded (replicate count 0x20) ≡ []
unpadded-spaces zero = refl
unpadded-spaces (suc count) = ap (in_front 0x20) (unpadded-spaces count)

-- a text that doesn't end in a space is got back from behind its padding
unpadded-padded : (text : List ℕ) (count : ℕ) → ends_in_space text ≡ false → unpadded (text ++ replicate count 0x20) ≡ text
unpadded-padded [] count ends = unpadded-spaces count
unpadded-padded (first ∷ []) count ends = ap (in_front first) (unpadded-spaces count) ∙ ap (λ is. cond is [] (first ∷ [])) ends
unpadded-padded (first ∷ next ∷ text) count ends =
    ap (in_front first) (unpadded-padded (next ∷ text) count (sym (ends_alike first next text) ∙ ends))

field_back : (size : ℕ) (text : List ℕ) → is_padded_text size text ≡ true → unpadded (padded size text) ≡ text
field_back size text is =
    let ends = not-true (ends_in_space text) (and_parts (nat_le (length text) size) (not (ends_in_space text)) is).1 in
    unpadded-padded text (size - length text) ends

-- the maker of these identifiers
acpi_from : List ℕ → List ℕ → Acpi
acpi_from oem_id oem_table_id = record { oem_id = oem_id; oem_table_id = oem_table_id }

pub acpi_back : (acpi : Acpi) → is_padded_text 6 acpi.oem_id ≡ true → is_padded_text 8 acpi.oem_table_id ≡ true
    → acpi_in (padded 6 acpi.oem_id) (head_of acpi 1) ≡ acpi
unfolding acpi_from
acpi_back acpi is also =
    ap (λ text. acpi_from text (unpadded (padded 8 acpi.oem_table_id))) (field_back 6 acpi.oem_id is)
    ∙ ap (acpi_from acpi.oem_id) (field_back 8 acpi.oem_table_id also)
