-- Reading in parts, each giving what stands there and what follows it.
use Rattle.std.specs.Prelude.{ℕ, ◌*◌, Bool, ◌==◌, List, [], length, take, drop, Result, Ok, Err, nat_lt, if◌then◌else◌}
use Rattle.vt_outside.specs.Readings.{◌into◌}
use Rattle.cfg_directory.specs.declared.listed.Listed.{Listed}
use Rattle.cfg_directory.specs.declared.container.ImageFault.{ImageFault}
use Rattle.cfg_directory.specs.declared.container.ImageFault.TheVariants.{Truncated}
use Rattle.cfg_directory.specs.Container.{directory_so, flags_so}

-- whether a flag lets a file be written
abbrev pub is_set : ℕ → Bool
is_set flag = flag == 1

-- so many entries
unfoldable pub directory_at : ℕ → List ℕ → Result (List Listed × List ℕ) ImageFault
directory_at count bytes =
    if nat_lt (length bytes) (64 * count) then Err Truncated
    else (directory_so count 0 [] bytes into (λ listed. Ok (listed, drop (64 * count) bytes)))

-- the flags of so many files
unfoldable pub flags_at : ℕ → List ℕ → Result (List Bool × List ℕ) ImageFault
flags_at count bytes =
    if nat_lt (length bytes) count then Err Truncated
    else (flags_so 0 (take count bytes) into (λ flags. Ok (flags, drop count bytes)))
