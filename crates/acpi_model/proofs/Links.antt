-- Pointers out of tables: what holds of each row of a link.
use Rattle.std.proofs.Common.{◌≡◌, ℕ, List, refl}
use Rattle.vt_layout.specs.declared.row.Row.TheVariants.{Number}
use Rattle.vt_layout.specs.Rows.{width_of, linked_row, shape_of}
use Rattle.acpi_model.specs.declared.link.Link.{Link}
use Rattle.acpi_model.specs.declared.link.Link.TheVariants.{Offset, Address}
use Rattle.acpi_model.specs.Kinds.{IsBodyRow}
use Rattle.acpi_model.specs.Links.{link_row, link_of, linked_link}

-- it has its width
pub width-link : (width : ℕ) (link : Link) → width_of (link_row width link) ≡ width
width-link width (Offset offset) = refl
width-link width (Address address) = refl

-- it may stand behind a header
pub is_body : (width : ℕ) (link : Link) → IsBodyRow (link_row width link)
is_body width (Offset offset) = refl
is_body width (Address address) = tt

-- with its file's place added it is a number, of the address to which the link leads then
pub shape-link : (place_of : List ℕ → ℕ) (width : ℕ) (link : Link) → shape_of (linked_row place_of (link_row width link)) ≡ Number width 0
shape-link place_of width (Offset offset) = refl
shape-link place_of width (Address address) = refl

pub link-linked : (place_of : List ℕ → ℕ) (width : ℕ) (link : Link)
    → link_of (linked_row place_of (link_row width link)) ≡ linked_link place_of link
link-linked place_of width (Offset offset) = refl
link-linked place_of width (Address address) = refl
