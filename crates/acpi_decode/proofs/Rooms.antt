-- The shape of a table that has the form of its kind.
use Rattle.std.proofs.Common.{◌≡◌, ℕ, ◌+◌, ◌≤◌, true, false, nat_le, List, Option, Some, None, refl, ap, ◌∙◌}
use Rattle.std.specs.Option.{option_map_or}
use Rattle.std.proofs.lemmas.Bool.{le-leb, leb-true}
use Rattle.vt_bytes.specs.View.{View}
use Rattle.vt_layout.specs.declared.row.Row.{Row}
use Rattle.vt_layout.specs.Rows.{size}
use Rattle.acpi_model.specs.Kinds.{Kind}
use Rattle.acpi_decode.specs.Seen.{total_at}
use Rattle.acpi_decode.specs.KindTests.{shape_at, front_of, has_room}

pub record HasShape (kind : Kind) (view : View) (address : ℕ) (rows : List Row) : Type 0 where
  pub shape : shape_at kind view address ≡ Some rows
  pub front : front_of kind view address ≡ 36 + size rows
  pub enough : 36 + size rows ≤ total_at view address

room_of : (shape : Option (List Row)) (total : ℕ) → option_map_or (λ rows. nat_le (36 + size rows) total) shape false ≡ true
    → (rows : List Row) × (shape ≡ Some rows) × (36 + size rows ≤ total)
room_of None total is = absurd (cc is)
room_of (Some rows) total is = (rows, refl, leb-true (36 + size rows) total is)

pub shape_with_room : (kind : Kind) (view : View) (address : ℕ) → has_room kind view address ≡ true → (rows : List Row) × HasShape kind view address rows
shape_with_room kind view address is =
    let room = room_of (shape_at kind view address) (total_at view address) is in (
      room.0,
      record { shape = room.1; front = ap (λ shape. option_map_or (λ rows. 36 + size rows) shape 36) room.1; enough = room.2 },
    )

-- and where there is such a shape, the table has the form
pub room_with_shape : (kind : Kind) (view : View) (address : ℕ) (rows : List Row) → shape_at kind view address ≡ Some rows
    → 36 + size rows ≤ total_at view address → has_room kind view address ≡ true
room_with_shape kind view address rows shape enough =
    ap (λ o. option_map_or (λ rows. nat_le (36 + size rows) (total_at view address)) o false) shape ∙ le-leb (36 + size rows) (total_at view address) enough
