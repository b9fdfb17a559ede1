-- How many bytes a pointer may have.
use Rattle.std.specs.Prelude.{ℕ, Bool, ◌||◌, ◌==◌}

-- the test of it
abbrev pub is_pointer_size : ℕ → Bool
is_pointer_size size = (size == 1 || size == 2) || (size == 4 || size == 8)
