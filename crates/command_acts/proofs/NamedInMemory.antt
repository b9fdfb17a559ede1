-- The placed file that has a name, with its bytes in memory.
use Rattle.std.proofs.Common.{◌≡◌, ℕ, List, Some, IsSome, IsNone, option_map, ap, subst, ◌∙◌}
use Rattle.std.specs.Str.{bytes_eq}
use Rattle.vt_bytes.specs.Memory.{Memory}
use Rattle.command_acts.specs.declared.placed.PlacedFile.{PlacedFile}
use Rattle.loader_script.specs.Run.{Placed, placed_of}
use Rattle.command_acts.specs.FilesInMemory.{placed_named, placed_in, files_in}
use Rattle.loader_script.proofs.Named.{find-map, IsSome-before_map, IsNone-before_map}

-- it is the one that has the name without its bytes
pub named_in : (m : Memory) (placed : List PlacedFile) (name : List ℕ)
    → placed_of (files_in m placed) name ≡ option_map (placed_in m) (placed_named placed name)
named_in m placed name = find-map (placed_in m) (λ (p : Placed). bytes_eq p.name name) placed

-- one that is there with its bytes is there without them
pub some_named : (m : Memory) (placed : List PlacedFile) (name : List ℕ) → IsSome (placed_of (files_in m placed) name) → IsSome (placed_named placed name)
some_named m placed name some =
    IsSome-before_map (placed_in m) (placed_named placed name) (subst IsSome (named_in m placed name) some)

-- one that isn't there with its bytes isn't there
pub none_named : (m : Memory) (placed : List PlacedFile) (name : List ℕ) → IsNone (placed_of (files_in m placed) name) → IsNone (placed_named placed name)
none_named m placed name none =
    IsNone-before_map (placed_in m) (placed_named placed name) (subst IsNone (named_in m placed name) none)

-- the one that is there has its bytes from memory
pub found_in : (m : Memory) (placed : List PlacedFile) (name : List ℕ) (p : PlacedFile) → placed_named placed name ≡ Some p
    → placed_of (files_in m placed) name ≡ Some (placed_in m p)
found_in m placed name p found = named_in m placed name ∙ ap (option_map (placed_in m)) found
