-- Ports (I/O Port Descriptor, ACPI 6.5, 6.4.2.5). All 16 bits of their addresses are decoded, and the alignment of the first one is 1.
use Rattle.std.specs.Prelude.{List, [], ◌∷◌}
use Rattle.vt_layout.specs.declared.value.Value.{Value}
use Rattle.vt_layout.specs.Values.{value_at, byte_of, word_of}
use Rattle.vt_layout.specs.Fields.{Field, byte, word}
use Rattle.resource_items.specs.declared.io_port.IoPort.{IoPort}

abbrev pub io_port_fields : IoPort → List Field
io_port_fields p = byte 0x47 ∷ byte 1 ∷ word p.min ∷ word p.max ∷ byte 1 ∷ byte p.length ∷ []

abbrev pub io_port_made : List Value → IoPort
io_port_made values = record {
  min = word_of (value_at 2 values);
  max = word_of (value_at 3 values);
  length = byte_of (value_at 5 values);
}
