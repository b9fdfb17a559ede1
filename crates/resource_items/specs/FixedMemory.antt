-- Memory that stays where it is, and that can be written (32-Bit Fixed Memory Range Descriptor, ACPI 6.5, 6.4.3.4). 9 bytes stand behind
-- its length.
use Rattle.std.specs.Prelude.{List, [], ◌∷◌}
use Rattle.vt_layout.specs.declared.value.Value.{Value}
use Rattle.vt_layout.specs.Values.{value_at, dword_of}
use Rattle.vt_layout.specs.Fields.{Field, byte, word, dword}
use Rattle.resource_items.specs.declared.fixed_memory.FixedMemory.{FixedMemory}

abbrev pub fixed_memory_fields : FixedMemory → List Field
fixed_memory_fields m = byte 0x86 ∷ word 9 ∷ byte 1 ∷ dword m.base ∷ dword m.length ∷ []

abbrev pub fixed_memory_made : List Value → FixedMemory
fixed_memory_made values = record { base = dword_of (value_at 3 values); length = dword_of (value_at 4 values) }
