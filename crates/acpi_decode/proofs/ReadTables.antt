-- A table of a known kind that was read, by its kind.
use Rattle.std.proofs.Common.{◌≡◌, ℕ, ◌+◌, ◌-◌, true, List, [], Some, None, arith, refl, sym, subst}
use Rattle.vt_bytes.specs.View.{View}
use Rattle.vt_layout.specs.Entries.{Entry, Types, EntriesShown}
use Rattle.acpi_model.specs.declared.form.Form.{Form}
use Rattle.acpi_model.specs.declared.acpi.Table.{Table}
use Rattle.acpi_model.specs.Kinds.{Kind, EndsWith}
use Rattle.acpi_decode.specs.declared.kind.KnownKind.{KnownKind}
use Rattle.acpi_decode.specs.KnownKinds.{kind_of}
use Rattle.acpi_decode.specs.Seen.{is_ram, total_at}
use Rattle.acpi_decode.specs.KindTests.{front_of, has_room}
use Rattle.acpi_decode.specs.Read.{table_at, IsRead}
use Rattle.acpi_decode.proofs.InRam.{front_ram}
use Rattle.acpi_decode.proofs.Rooms.{shape_with_room}

-- it is RAM as far as its rows go
pub rows_ram : (form : Form) (k : KnownKind) (view : View) (address length : ℕ) → length ≡ total_at view address → is_ram view address length ≡ true
    → has_room (kind_of form k) view address ≡ true → is_ram view address (front_of (kind_of form k) view address) ≡ true
rows_ram form k view address length told ram room =
    let fit = shape_with_room (kind_of form k) view address room in
    front_ram view address length (front_of (kind_of form k) view address) ram (omega (arith, told, fit.1.front, fit.1.enough))

-- with entries that fill it behind so many bytes
pub read_with_entries : (kind : Kind) (types : Types) (front : ℕ) (view : View) (address length : ℕ) (t : Table) → kind.types ≡ Some types
    → front_of kind view address ≡ front → length ≡ total_at view address
    → (entries : List Entry) × EntriesShown types view address (address + front) (length - front) entries × (t ≡ table_at kind view address entries)
    → IsRead kind view address t
read_with_entries kind types front view address length t its_types its_front told (entries, shown, is) =
    let of_total = subst (λ n. EntriesShown types view address (address + front) (n - front) entries) told shown in
    let of_front = subst (λ n. EntriesShown types view address (address + n) (total_at view address - n) entries) (sym its_front) of_total in (
      entries,
      subst (λ o. EndsWith o view address (address + front_of kind view address) (total_at view address - front_of kind view address) entries)
          (sym its_types) of_front,
      is,
    )

-- and without entries
pub read_alone : (kind : Kind) (view : View) (address : ℕ) (t : Table) → kind.types ≡ None → t ≡ table_at kind view address [] → IsRead kind view address t
read_alone kind view address t its_types is = (
  [],
  subst (λ o. EndsWith o view address (address + front_of kind view address) (total_at view address - front_of kind view address) [])
      (sym its_types) refl,
  is,
)
