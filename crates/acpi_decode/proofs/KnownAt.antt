-- A table of a known kind that stands at an address is the one that its bytes are, and passes its tests.
use Rattle.std.proofs.Common.{◌≡◌, ℕ, ◌+◌, ◌-◌, true, List, Some, arith, ap, sym, subst, ◌∙◌}
use Rattle.std.specs.Option.{option_map_or}
use Rattle.vt_bytes.specs.View.{View}
use Rattle.vt_layout.specs.Rows.{size, shape}
use Rattle.vt_layout.specs.Entries.{Entry}
use Rattle.vt_layout.proofs.NumberedRows.{size-shape}
use Rattle.acpi_model.specs.declared.form.Form.{Form}
use Rattle.acpi_model.specs.declared.acpi.Table.{Table}
use Rattle.acpi_model.specs.Kinds.{Kind, TableLayout, IsLayoutAt, EndsWith}
use Rattle.acpi_model.specs.Acpi.{IsAtBy}
use Rattle.acpi_model.proofs.OneLayout.{one_at}
use Rattle.acpi_decode.specs.declared.kind.KnownKind.{KnownKind}
use Rattle.acpi_decode.specs.KnownKinds.{kind_of}
use Rattle.acpi_decode.specs.Seen.{is_ram, signature_at, total_at}
use Rattle.acpi_decode.specs.Tests.{Pass}
use Rattle.acpi_decode.specs.TableTests.{whole_tests}
use Rattle.acpi_decode.specs.KindTests.{shape_at, front_of, has_room}
use Rattle.acpi_decode.specs.Read.{table_at}
use Rattle.acpi_decode.proofs.KindsListed.{known_as}
use Rattle.acpi_decode.proofs.Headed.{table_tested}
use Rattle.acpi_decode.proofs.Rooms.{room_with_shape}
use Rattle.acpi_decode.proofs.TableStands.{table_stands}

-- the tests of a table of a kind pass, and these entries fill it
pub record IsKnownAt (form : Form) (k : KnownKind) (view : View) (address : ℕ) (entries : List Entry) : Type 0 where
  pub header : is_ram view address 36 ≡ true
  pub signed : signature_at view address ≡ (kind_of form k).signature
  pub room : has_room (kind_of form k) view address ≡ true
  pub whole : Pass (whole_tests view address)
  pub ends : EndsWith (kind_of form k).types view address (address + front_of (kind_of form k) view address)
      (total_at view address - front_of (kind_of form k) view address)
      entries

pub known_stands : (form : Form) (k : KnownKind) (view : View) (address : ℕ) (entries : List Entry) → IsKnownAt form k view address entries
    → IsAtBy form view address (table_at (kind_of form k) view address entries)
known_stands form k view address entries is = table_stands form k view address entries is.signed is.room is.whole is.ends

layout_known : (form : Form) (k : KnownKind) (view : View) (address : ℕ) (l : TableLayout) → kind_of form k ≡ l.kind → IsLayoutAt view address l
    → IsKnownAt form k view address l.entries
layout_known form k view address l kinds is =
    let tested = table_tested view address l.kind.signature l.head is.total l.body is.stands in
    let shaped : shape_at (kind_of form k) view address ≡ Some (shape l.body) =
    ap (λ (kind : Kind). kind.shape view address (total_at view address)) kinds ∙ ap (l.kind.shape view address) tested.told ∙ is.shaped in
    let sizes = size-shape l.body in
    let told = tested.told in
    let front : 36 + size l.body ≡ front_of (kind_of form k) view address =
    ap (λ n. 36 + n) (sym sizes) ∙ sym (ap (λ o. option_map_or (λ rows. 36 + size rows) o 36) shaped) in
    let ends =
    subst (λ (kind : Kind). EndsWith kind.types view address (address + (36 + size l.body)) (is.total - (36 + size l.body)) l.entries) (sym kinds) is.ends in
    let of_total = subst (λ n. EndsWith (kind_of form k).types view address (address + (36 + size l.body)) (n - (36 + size l.body)) l.entries)
    (sym told) ends in
    record {
      header = tested.header;
      signed = tested.signed ∙ ap (λ (kind : Kind). kind.signature) (sym kinds);
      room = room_with_shape (kind_of form k) view address (shape l.body) shaped (omega (arith, sizes, told, is.stands.long_enough));
      whole = tested.whole;
      ends = subst (λ n. EndsWith (kind_of form k).types view address (address + n) (total_at view address - n) l.entries) front of_total;
    }

-- a table that stands at an address, by its kind
pub record IsOfKind (form : Form) (view : View) (address : ℕ) (t : Table) : Type 0 where
  pub kind : KnownKind
  pub entries : List Entry
  pub known : IsKnownAt form kind view address entries
  pub is : t ≡ table_at (kind_of form kind) view address entries

pub at_known : (form : Form) (view : View) (address : ℕ) (t : Table) → IsAtBy form view address t → IsOfKind form view address t
at_known form view address t is =
    let listed = known_as form is.layout.kind.signature is.layout.kind is.known in
    let known = layout_known form listed.0 view address is.layout listed.1 is.stands in
    record {
      kind = listed.0;
      entries = is.layout.entries;
      known = known;
      is = one_at form view address t (table_at (kind_of form listed.0) view address is.layout.entries) is
          (known_stands form listed.0 view address is.layout.entries known);
    }
