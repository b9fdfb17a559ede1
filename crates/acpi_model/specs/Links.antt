-- Pointers out of a table: as they are written, each with the place of the file of the tables still to be added, and as a reader finds
-- them, each an address.
use Rattle.std.specs.Prelude.{◌≡◌, ℕ, ◌+◌, List, Option, MatchOption, ◌==◌, if◌then◌else◌}
use Rattle.vt_layout.specs.declared.row.Row.{Row}
use Rattle.vt_layout.specs.declared.row.Row.TheVariants.{Number, Pointer}
use Rattle.acpi_model.specs.declared.link.Link.{Link}
use Rattle.acpi_model.specs.declared.link.Link.TheVariants.{Offset, Address}
use Rattle.acpi_model.specs.Kinds.{tables_name}

-- the row of a link, of so many bytes
abbrev pub link_row : ℕ → Link → Row
link_row width (Offset offset) = Pointer width tables_name offset
link_row width (Address address) = Number width address

-- the link that a row is: one that is no pointer and no number leads nowhere
abbrev pub link_of : Row → Link
link_of (Pointer width target offset) = Offset offset
link_of (Number width address) = Address address
link_of row = Address 0

-- with the place of the file of the tables added, where each file stands at its place
abbrev pub linked_link : (List ℕ → ℕ) → Link → Link
linked_link place_of (Offset offset) = Address (offset + place_of tables_name)
linked_link place_of (Address address) = Address address

-- the address that a link tells, where 0 leads nowhere; an offset tells none yet
abbrev pub address_of : Link → ℕ
address_of (Offset offset) = 0
address_of (Address address) = address

-- Of two links that lead to one thing the wide one counts, where it leads anywhere (ACPI 6.5, 5.2.9, X_FIRMWARE_CTRL and X_DSDT).
abbrev pub wide_or : Link → Link → ℕ
wide_or wide narrow = if address_of wide == 0 then address_of narrow else address_of wide

-- What an address leads to: nothing where it is 0, else what stands there.
abbrev pub IsFound : {T : Type 0} → (ℕ → T → Type 0) → ℕ → Option T → Type 0
IsFound Stands address found = MatchOption found (address ≡ 0) (λ what. (address ≡ 0 → ⊥) × Stands address what)
