-- A character of a text (ACPI 6.5, 20.2.3).
use Rattle.std.specs.Prelude.{ℕ, Bool, ◌&&◌, nat_lt}

abbrev pub is_char : ℕ → Bool
is_char c = nat_lt 0 c && nat_lt c 0x80
