-- The zones of memory in which an Allocate asks for a place (QEMU, hw/acpi/bios-linker-loader.c).
use Rattle.std.specs.Prelude.{ℕ, zero, suc}
use Rattle.vt_outside.specs.Placement.{Range, high_zone, f_segment}
use Rattle.zone_alloc.specs.declared.zone.Zone.{Zone}
use Rattle.zone_alloc.specs.declared.zone.Zone.TheVariants.{High, Fseg}

-- the addresses of a zone below a top
abbrev pub zone_range : ℕ → Zone → Range
zone_range top High = high_zone top
zone_range top Fseg = f_segment

-- the zone of the number in an Allocate: 1 is High, and 2 is the F segment; what any other number gives means nothing
abbrev pub zone_numbered : ℕ → Zone
zone_numbered (suc zero) = High
zone_numbered _ = Fseg

-- the number of a zone in an Allocate
abbrev pub number_of_zone : Zone → ℕ
number_of_zone High = 1
number_of_zone Fseg = 2
