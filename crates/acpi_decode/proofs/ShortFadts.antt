-- An FADT of as many bytes as it tells: its form, and where it ends.
use Rattle.std.proofs.Common.{◌≡◌, ℕ, ◌+◌, ◌≤◌, Bool, true, false, cond, nat_le, List, [], ◌∷◌, take, drop, Some, None, inl, inr, arith, refl, ap, sym}
use Rattle.std.proofs.Common.{subst, ◌∙◌}
use Rattle.std.specs.Option.{option_map_or}
use Rattle.std.proofs.lemmas.Bool.{le-leb, lt-leb, leb-true, leb-false, cases_Bool}
use Rattle.std.proofs.lemmas.List.{take-append-drop}
use Rattle.vt_bytes.specs.View.{View}
use Rattle.vt_layout.specs.declared.row.Row.{Row}
use Rattle.vt_layout.specs.Rows.{size}
use Rattle.vt_layout.proofs.Sizes.{size-append}
use Rattle.acpi_model.specs.declared.form.Form.{Form}
use Rattle.acpi_model.specs.Fronts.{rows_inside}
use Rattle.acpi_model.specs.FadtKind.{fadt_kind_by, fadt_shape, fadt_counts, fadt_rows_in}
use Rattle.acpi_model.proofs.Fronts.{size-both, inside_within}
use Rattle.acpi_decode.specs.Seen.{total_at}
use Rattle.acpi_decode.specs.KindTests.{has_room}
use Rattle.acpi_decode.specs.ShortFadts.{fadt_front, ends_of, front_end}
use Rattle.acpi_decode.proofs.Rooms.{HasShape, shape_with_room}

-- one that has its form has the rows that lie inside its bytes
shape_is : (within : Bool) (rows found : List Row) → cond within (Some rows) None ≡ Some found → found ≡ rows
shape_is true rows found is = cc
shape_is false rows found is = absurd (cc is)

pub fadt_shaped : (form : Form) (view : View) (address : ℕ) → has_room (fadt_kind_by form) view address ≡ true
    → HasShape (fadt_kind_by form) view address (fadt_front (total_at view address))
fadt_shaped form view address room =
    let fit = shape_with_room (fadt_kind_by form) view address room in
    subst (HasShape (fadt_kind_by form) view address) (shape_is (nat_le form.least_fadt (total_at view address)) (fadt_front (total_at view address)) fit.0
    fit.1.shape) fit.1

-- It has its form where it has as many bytes as the form says, and its header's.
room_in : (least : Bool) (total : ℕ) (front : List Row) → (36 ≤ total → 36 + size front ≤ total)
    → cond least (nat_le 36 total) false ≡ option_map_or (λ rows. nat_le (36 + size rows) total) (cond least (Some front) None) false
room_in false total front inside = refl
room_in true total front inside =
    elim (cases_Bool (nat_le 36 total)) [
      | inl long ↦ long ∙ sym (le-leb (36 + size front) total (inside (leb-true 36 total long)))
      | inr short ↦ short ∙ sym (lt-leb (36 + size front) total (omega (arith, leb-false 36 total short)))
    ]

pub fadt_room : (form : Form) (view : View) (address : ℕ) → cond (nat_le form.least_fadt (total_at view address)) (nat_le 36 (total_at view address)) false
    ≡ has_room (fadt_kind_by form) view address
fadt_room form view address =
    let total : ℕ = total_at view address in
    room_in (nat_le form.least_fadt total) total (fadt_front total) (inside_within fadt_counts 36 total fadt_shape)

-- its rows up to the last field inside its bytes end at the last of the fields' ends that is none greater
end_of : (within : Bool) (place found count more : ℕ) (rows : List Row) → found ≡ place + size (take count rows) + size (take more (drop count rows))
    → cond within found place ≡ place + size (take (cond within (count + more) 0) rows)
end_of true place found count more rows is = omega (arith, is, size-both count more rows)
end_of false place found count more rows is = omega arith

ends_told : (counts : List ℕ) (place total : ℕ) (rows : List Row)
    → front_end (ends_of place counts rows) total place ≡ place + size (take (rows_inside counts place total rows) rows)
ends_told [] place total rows = omega arith
ends_told (count ∷ counts) place total rows =
    let end : ℕ = place + size (take count rows) in
    let rest : List Row = drop count rows in
    end_of (nat_le end total) place (front_end (ends_of end counts rest) total end) count (rows_inside counts end total rest) rows
    (ends_told counts end total rest)

pub fadt_ends : (total : ℕ) → front_end (ends_of 36 fadt_counts fadt_shape) total 36 ≡ 36 + size (fadt_front total)
fadt_ends total = ends_told fadt_counts 36 total fadt_shape

-- they are no more than it has, and no more than those of a whole one
pub front_short : (total : ℕ) → 36 ≤ total → (36 + size (fadt_front total) ≤ total) × (36 + size (fadt_front total) ≤ 276)
front_short total long =
    let rest : List Row = drop (fadt_rows_in total) fadt_shape in
    let sized : size (fadt_front total) + size rest ≡ 240 =
    sym (size-append (fadt_front total) rest) ∙ ap size (take-append-drop (fadt_rows_in total) fadt_shape) in
    (inside_within fadt_counts 36 total fadt_shape long, omega (arith, sized))
