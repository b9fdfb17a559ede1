-- The items that stand at the front of bytes, one after the other (ACPI 6.5, 6.4).
use Rattle.std.specs.Prelude.{ℕ, zero, suc, eqb, ◌==◌, List, [], ◌∷◌, length, drop, get_or, Option, Some, None, option_map, Result, Ok, Err, if◌then◌else◌}
use Rattle.std.specs.List.{starts_with}
use Rattle.vt_layout.specs.declared.value.Value.{Value}
use Rattle.vt_layout.specs.declared.record_reader.RecordFault.{RecordFault}
use Rattle.vt_layout.specs.Fields.{Field, field_bytes}
use Rattle.vt_layout.specs.Records.{record_in}
use Rattle.resource_items.specs.declared.resource_item.ResourceItem.{ResourceItem}
use Rattle.resource_items.specs.declared.resource_item.ResourceItem.TheVariants.{Port, Irq, Memory, Word, Dword, Qword}
use Rattle.resource_items.specs.IoPort.{io_port_fields, io_port_made}
use Rattle.resource_items.specs.IrqMask.{irq_mask_fields, irq_mask_made}
use Rattle.resource_items.specs.FixedMemory.{fixed_memory_fields, fixed_memory_made}
use Rattle.resource_items.specs.AddressSpaces.{word_space_fields, word_space_made, dword_space_fields, dword_space_made, qword_space_fields, qword_space_made}
use Rattle.resource_items.specs.Templates.{item_bytes}

-- a record that was read of bytes, where they begin as it is written
abbrev pub as_written : {T : Type 0} → (T → List Field) → List ℕ → Result T RecordFault → Option T
as_written fields bytes (Err fault) = None
as_written fields bytes (Ok t) = if starts_with eqb bytes (field_bytes (fields t)) then Some t else None

-- the record of a type as which bytes begin, if there is one
abbrev pub laid_at : {T : Type 0} → (T → List Field) → (List Value → T) → List ℕ → Option T
laid_at fields made bytes = as_written fields bytes (record_in fields made bytes [])

-- The item as which bytes begin, by the first byte, which tells its kind. There is none where they are of another form.
abbrev pub item_of_kind : ℕ → List ℕ → Option ResourceItem
item_of_kind kind bytes =
    if kind == 0x47 then option_map Port (laid_at io_port_fields io_port_made bytes)
    else if kind == 0x22 then option_map Irq (laid_at irq_mask_fields irq_mask_made bytes)
    else if kind == 0x86 then option_map Memory (laid_at fixed_memory_fields fixed_memory_made bytes)
    else if kind == 0x88 then option_map Word (laid_at word_space_fields word_space_made bytes)
    else if kind == 0x87 then option_map Dword (laid_at dword_space_fields dword_space_made bytes)
    else if kind == 0x8A then option_map Qword (laid_at qword_space_fields qword_space_made bytes)
    else None

abbrev pub first_item : List ℕ → Option ResourceItem
first_item bytes = item_of_kind (get_or bytes 0 0) bytes

-- what stands behind an item
abbrev pub behind_item : ResourceItem → List ℕ → List ℕ
behind_item item bytes = drop (length (item_bytes item)) bytes

-- an item in front of those that are told of what stands behind it, or none
abbrev pub items_behind : (List ℕ → List ResourceItem) → List ℕ → Option ResourceItem → List ResourceItem
items_behind later bytes None = []
items_behind later bytes (Some item) = item ∷ later (behind_item item bytes)

-- at most so many items, one after the other, up to the first of another form
abbrev pub items_from : ℕ → List ℕ → List ResourceItem
items_from zero bytes = []
items_from (suc most) bytes = items_behind (items_from most) bytes (first_item bytes)

-- all of them: each has bytes, so that there are no more of them than bytes
abbrev pub items_in : List ℕ → List ResourceItem
items_in bytes = items_from (length bytes) bytes
