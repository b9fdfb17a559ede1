-- Interrupts (IRQ Descriptor without its byte of flags, ACPI 6.5, 6.4.2.1).
use Rattle.std.specs.Prelude.{List, [], ◌∷◌}
use Rattle.vt_layout.specs.declared.value.Value.{Value}
use Rattle.vt_layout.specs.Values.{value_at, word_of}
use Rattle.vt_layout.specs.Fields.{Field, byte, word}
use Rattle.resource_items.specs.declared.irq_mask.IrqMask.{IrqMask}

abbrev pub irq_mask_fields : IrqMask → List Field
irq_mask_fields i = byte 0x22 ∷ word i.mask ∷ []

abbrev pub irq_mask_made : List Value → IrqMask
irq_mask_made values = record { mask = word_of (value_at 1 values) }
