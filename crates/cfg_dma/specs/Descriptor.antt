-- Descriptors of transfers: 16 bytes in the guest's memory (QEMU, docs/specs/fw_cfg, "DMA interface").
use Rattle.std.specs.Prelude.{ℕ, ◌/◌, ◌==◌, Bool, not, List, take, bit_and, if◌then◌else◌}
use Rattle.vt_bytes.specs.Numbers.{be}
use Rattle.vt_bytes.specs.Parts.{part}
use Rattle.cfg_dma.specs.declared.transfer.Kind.{Kind}
use Rattle.cfg_dma.specs.declared.transfer.Kind.TheVariants.{Read, Write, Skip, Nothing}
use Rattle.cfg_dma.specs.declared.descriptor.Descriptor.{Descriptor}

-- three numbers, each high byte first: a control word of 4 bytes, a length of 4, and an address of 8
abbrev pub descriptor_in : List ℕ → Descriptor
descriptor_in bytes = record { control = be (take 4 bytes); length = be (part bytes 4 4); address = be (part bytes 8 8) }

-- whether a bit of a control word is set: bit 1 is read, bit 2 skip, bit 3 select and bit 4 write
abbrev pub has_bit : ℕ → ℕ → Bool
has_bit control bit = not (bit_and control bit == 0)

-- what is asked for: a read, else a write, else a skip, else nothing
abbrev pub kind_of : ℕ → Kind
kind_of control =
    if has_bit control 0x02 then Read
    else (if has_bit control 0x10 then Write else (if has_bit control 0x04 then Skip else Nothing))

-- whether an item is selected first, and which: the upper 16 bits name it
abbrev pub selects : ℕ → Bool
selects control = has_bit control 0x08

abbrev pub select_of : ℕ → ℕ
select_of control = control / 0x10000
