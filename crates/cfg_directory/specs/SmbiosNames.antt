-- The names of the files of SMBIOS structures (QEMU, hw/smbios/smbios.c).
use Rattle.std.specs.Prelude.{ℕ, List, codes}

abbrev pub anchor_name : List ℕ
anchor_name = codes "etc/smbios/smbios-anchor"

abbrev pub structures_name : List ℕ
structures_name = codes "etc/smbios/smbios-tables"
