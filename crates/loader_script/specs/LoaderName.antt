-- The file that a script is (QEMU, hw/acpi/bios-linker-loader.c).
use Rattle.std.specs.Prelude.{ℕ, List, codes}

-- the name of the script's file
abbrev pub loader_name : List ℕ
loader_name = codes "etc/table-loader"
