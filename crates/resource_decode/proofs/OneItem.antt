-- An item is read exactly of bytes that begin as it is written.
use Rattle.std.proofs.Common.{◌≡◌, ℕ, ◌<◌, Bool, true, false, List, ◌++◌, length, get_or, Option, Some, None, option_map, cond, eqb, refl, ap, ◌∙◌, lit<}
use Rattle.vt_layout.specs.declared.value.Value.{Value}
use Rattle.vt_layout.specs.Fields.{Field, field_bytes}
use Rattle.resource_items.specs.declared.resource_item.ResourceItem.{ResourceItem}
use Rattle.resource_items.specs.declared.resource_item.ResourceItem.TheVariants.{Port, Irq, Memory, Word, Dword, Qword}
use Rattle.resource_items.specs.IoPort.{io_port_fields, io_port_made}
use Rattle.resource_items.specs.IrqMask.{irq_mask_fields, irq_mask_made}
use Rattle.resource_items.specs.FixedMemory.{fixed_memory_fields, fixed_memory_made}
use Rattle.resource_items.specs.AddressSpaces.{word_space_fields, word_space_made, dword_space_fields, dword_space_made, qword_space_fields, qword_space_made}
use Rattle.resource_items.specs.Templates.{FitsItem, item_bytes}
use Rattle.resource_decode.specs.Items.{laid_at, first_item}
use Rattle.resource_decode.proofs.OneRecord.{laid_back, laid_stands}

-- one that is written is read, whatever follows it
pub item_back : (item : ResourceItem) (more : List ℕ) → FitsItem item → first_item (item_bytes item ++ more) ≡ Some item
item_back (Port p) more fits =
    ap (option_map Port) (laid_back 6 io_port_fields io_port_made p (record { back = refl; shaped = refl; counted = refl; readable = refl }) refl refl
    more fits)
item_back (Irq i) more fits =
    ap (option_map Irq) (laid_back 2 irq_mask_fields irq_mask_made i (record { back = refl; shaped = refl; counted = refl; readable = refl }) refl
    refl more fits)
item_back (Memory m) more fits =
    ap (option_map Memory)
    (laid_back 5 fixed_memory_fields fixed_memory_made m (record { back = refl; shaped = refl; counted = refl; readable = refl }) refl refl more fits)
item_back (Word s) more fits =
    ap (option_map Word)
    (laid_back 10 word_space_fields word_space_made s (record { back = refl; shaped = refl; counted = refl; readable = refl }) refl refl more fits)
item_back (Dword s) more fits =
    ap (option_map Dword)
    (laid_back 10 dword_space_fields dword_space_made s (record { back = refl; shaped = refl; counted = refl; readable = refl }) refl refl more fits)
item_back (Qword s) more fits =
    ap (option_map Qword)
    (laid_back 10 qword_space_fields qword_space_made s (record { back = refl; shaped = refl; counted = refl; readable = refl }) refl refl more fits)

-- bytes begin with an item
abbrev Begins : List ℕ → ResourceItem → Type 0
Begins bytes item = (more : List ℕ) × (bytes ≡ item_bytes item ++ more)

-- whatever is told is an item with which bytes begin
abbrev Stands : List ℕ → Option ResourceItem → Type 0
Stands bytes told = (item : ResourceItem) → told ≡ Some item → Begins bytes item

-- nothing is told
none_stands : (bytes : List ℕ) → Stands bytes None
none_stands bytes item is = absurd (cc is)

-- so is what is told of records of one kind
mapped_stands : {T : Type 0} (kind : T → ResourceItem) (fields : T → List Field) (bytes : List ℕ)
    → ((t : T) → field_bytes (fields t) ≡ item_bytes (kind t)) → (told : Option T)
    → ((t : T) → told ≡ Some t → (more : List ℕ) × (bytes ≡ field_bytes (fields t) ++ more)) → Stands bytes (option_map kind told)
mapped_stands kind fields bytes same None front item is = absurd (cc is)
mapped_stands kind fields bytes same (Some t) front item is =
    let there = front t refl in
    let own : kind t ≡ item = cc is in
    (there.0, there.1 ∙ ap (λ first. first ++ there.0) (same t ∙ ap item_bytes own))

-- where the record is read
kind_stands : {T : Type 0} (kind : T → ResourceItem) (fields : T → List Field) (made : List Value → T) (bytes : List ℕ)
    → ((t : T) → field_bytes (fields t) ≡ item_bytes (kind t)) → Stands bytes (option_map kind (laid_at fields made bytes))
kind_stands kind fields made bytes same = mapped_stands kind fields bytes same (laid_at fields made bytes) (λ t is. laid_stands fields made bytes t is)

-- and what is told by a test
either_stands : (test : Bool) (bytes : List ℕ) (told other : Option ResourceItem) → Stands bytes told → Stands bytes other
    → Stands bytes (cond test told other)
either_stands true bytes told other is also = is
either_stands false bytes told other is also = also

-- what is read stands there
pub item_stands : (bytes : List ℕ) → Stands bytes (first_item bytes)
item_stands bytes =
    let kind = get_or bytes 0 0 in
    either_stands (eqb kind 0x47) bytes _ _ (kind_stands Port io_port_fields io_port_made bytes (λ p. refl))
    (either_stands (eqb kind 0x22) bytes _ _ (kind_stands Irq irq_mask_fields irq_mask_made bytes (λ i. refl))
    (either_stands (eqb kind 0x86) bytes _ _ (kind_stands Memory fixed_memory_fields fixed_memory_made bytes (λ m. refl))
    (either_stands (eqb kind 0x88) bytes _ _ (kind_stands Word word_space_fields word_space_made bytes (λ s. refl))
    (either_stands (eqb kind 0x87) bytes _ _ (kind_stands Dword dword_space_fields dword_space_made bytes (λ s. refl))
    (either_stands (eqb kind 0x8A) bytes _ _ (kind_stands Qword qword_space_fields qword_space_made bytes (λ s. refl)) (none_stands bytes))))))

-- each item has bytes
pub item_some : (item : ResourceItem) → 0 < length (item_bytes item)
item_some (Port p) = lit< tt
item_some (Irq i) = lit< tt
item_some (Memory m) = lit< tt
item_some (Word s) = lit< tt
item_some (Dword s) = lit< tt
item_some (Qword s) = lit< tt
