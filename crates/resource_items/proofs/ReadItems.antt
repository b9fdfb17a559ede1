-- An item is read again from its bytes, whatever follows them: its first byte tells which record stands there.
use Rattle.std.proofs.Common.{◌≡◌, ℕ, List, [], ◌∷◌, ◌++◌, Result, Ok, Err, ◌==◌, cond, refl, sym, ap, ◌∙◌}
use Rattle.vt_layout.specs.declared.value.Value.{Value}
use Rattle.vt_layout.specs.declared.record_reader.RecordFault.{RecordFault}
use Rattle.vt_layout.specs.declared.record_reader.RecordFault.TheVariants.{TooShort}
use Rattle.vt_layout.specs.Fields.{Field}
use Rattle.vt_layout.specs.Records.{record_in}
use Rattle.vt_layout.proofs.WrittenRecords.{written_read}
use Rattle.resource_items.specs.declared.resource_item.ResourceItem.{ResourceItem}
use Rattle.resource_items.specs.declared.resource_item.ResourceItem.TheVariants.{Port, Irq, Memory, Word, Dword, Qword}
use Rattle.resource_items.specs.IoPort.{io_port_fields, io_port_made}
use Rattle.resource_items.specs.IrqMask.{irq_mask_fields, irq_mask_made}
use Rattle.resource_items.specs.FixedMemory.{fixed_memory_fields, fixed_memory_made}
use Rattle.resource_items.specs.AddressSpaces.{word_space_fields, word_space_made, dword_space_fields, dword_space_made}
use Rattle.resource_items.specs.AddressSpaces.{qword_space_fields, qword_space_made}
use Rattle.resource_items.specs.Templates.{FitsItem, item_bytes, end_tag}

-- a record that stands at the front of bytes, as an item
item_of : {T : Type 0} → (T → ResourceItem) → Result T RecordFault → Result ResourceItem RecordFault
item_of kind (Ok t) = Ok (kind t)
item_of kind (Err fault) = Err fault

part_in : {T : Type 0} → (T → ResourceItem) → (T → List Field) → (List Value → T) → List ℕ → Result ResourceItem RecordFault
part_in kind fields made bytes = item_of kind (record_in fields made bytes [])

-- the item that stands at the front of bytes
pub item_in : List ℕ → Result ResourceItem RecordFault
item_in [] = Err TooShort
item_in (first ∷ bytes) =
    cond (first == 0x47) (part_in Port io_port_fields io_port_made (first ∷ bytes))
    (cond (first == 0x22) (part_in Irq irq_mask_fields irq_mask_made (first ∷ bytes))
    (cond (first == 0x86) (part_in Memory fixed_memory_fields fixed_memory_made (first ∷ bytes))
    (cond (first == 0x88) (part_in Word word_space_fields word_space_made (first ∷ bytes))
    (cond (first == 0x87) (part_in Dword dword_space_fields dword_space_made (first ∷ bytes))
    (cond (first == 0x8A) (part_in Qword qword_space_fields qword_space_made (first ∷ bytes))
    (Err TooShort))))))

pub item_back : (item : ResourceItem) (more : List ℕ) → FitsItem item → item_in (item_bytes item ++ more) ≡ Ok item
unfolding item_in part_in item_of
item_back (Port p) more fits =
    ap (item_of Port) (written_read 6 io_port_fields io_port_made p (record { back = refl; shaped = refl; counted = refl; readable = refl }) refl more fits)
item_back (Irq i) more fits =
    ap (item_of Irq) (written_read 2 irq_mask_fields irq_mask_made i (record { back = refl; shaped = refl; counted = refl; readable = refl }) refl more fits)
item_back (Memory m) more fits =
    ap (item_of Memory) (written_read 5 fixed_memory_fields fixed_memory_made m
    (record { back = refl; shaped = refl; counted = refl; readable = refl }) refl more fits)
item_back (Word s) more fits =
    ap (item_of Word) (written_read 10 word_space_fields word_space_made s (record { back = refl; shaped = refl; counted = refl; readable = refl })
    refl more fits)
item_back (Dword s) more fits =
    ap (item_of Dword) (written_read 10 dword_space_fields dword_space_made s (record { back = refl; shaped = refl; counted = refl; readable = refl })
    refl more fits)
item_back (Qword s) more fits =
    ap (item_of Qword) (written_read 10 qword_space_fields qword_space_made s (record { back = refl; shaped = refl; counted = refl; readable = refl })
    refl more fits)

-- so no item is without bytes, or begins as the End Tag does
none_there : (item : ResourceItem) (bytes more : List ℕ) → FitsItem item → item_in bytes ≡ Err TooShort → bytes ≡ item_bytes item ++ more → ⊥
none_there item bytes more fits none same =
    let read : Err TooShort ≡ Ok item = sym none ∙ ap item_in same ∙ item_back item more fits in
    cc read

pub not_empty : (item : ResourceItem) (more : List ℕ) → FitsItem item → [] ≡ item_bytes item ++ more → ⊥
unfolding item_in
not_empty item more fits same = none_there item [] more fits refl same

pub not_end : (item : ResourceItem) (x y : List ℕ) → FitsItem item → end_tag ++ x ≡ item_bytes item ++ y → ⊥
unfolding item_in
not_end item x y fits same = none_there item (end_tag ++ x) y fits refl same
