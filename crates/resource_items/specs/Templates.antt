-- Items, and the template that they make up (ACPI 6.5, 6.4).
use Rattle.std.specs.Prelude.{ℕ, List, [], ◌∷◌, ◌++◌}
use Rattle.std.specs.List.{AllByRecursion, flat_map}
use Rattle.vt_layout.specs.declared.row.Row.{Row}
use Rattle.vt_layout.specs.Rows.{IsRow, spelled}
use Rattle.vt_layout.specs.Fields.{field_rows}
use Rattle.resource_items.specs.declared.resource_item.ResourceItem.{ResourceItem}
use Rattle.resource_items.specs.declared.resource_item.ResourceItem.TheVariants.{Port, Irq, Memory, Word, Dword, Qword}
use Rattle.resource_items.specs.IoPort.{io_port_fields}
use Rattle.resource_items.specs.IrqMask.{irq_mask_fields}
use Rattle.resource_items.specs.FixedMemory.{fixed_memory_fields}
use Rattle.resource_items.specs.AddressSpaces.{word_space_fields, dword_space_fields, qword_space_fields}

abbrev pub item_rows : ResourceItem → List Row
item_rows (Port p) = field_rows (io_port_fields p)
item_rows (Irq i) = field_rows (irq_mask_fields i)
item_rows (Memory m) = field_rows (fixed_memory_fields m)
item_rows (Word s) = field_rows (word_space_fields s)
item_rows (Dword s) = field_rows (dword_space_fields s)
item_rows (Qword s) = field_rows (qword_space_fields s)

-- each number is below 256 to the power of its row's width, as those of an item's type are
abbrev pub FitsItem : ResourceItem → Type 0
FitsItem item = AllByRecursion IsRow (item_rows item)

abbrev pub item_bytes : ResourceItem → List ℕ
item_bytes item = spelled (item_rows item)

-- The End Tag (6.4.2.9). Its second byte is no checksum where it is 0.
abbrev pub end_tag : List ℕ
end_tag = 0x79 ∷ 0 ∷ []

-- the items, one after the other, and the End Tag
abbrev pub template_of : List ResourceItem → List ℕ
template_of items = flat_map item_bytes items ++ end_tag
