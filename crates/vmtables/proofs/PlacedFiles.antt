-- Files that a load has placed, as they stand in memory.
use Rattle.std.proofs.Common.{◌≡◌, ℕ, List, [], ◌∷◌, ap}
use Rattle.std.specs.List.{AllByRecursion}
use Rattle.vt_bytes.specs.Memory.{Memory, bytes_at}
use Rattle.vt_bytes.proofs.Bytes.{length-bytes_at}
use Rattle.loader_script.specs.Left.{IsOutside, Holds}
use Rattle.command_acts.specs.declared.placed.PlacedFile.{PlacedFile}
use Rattle.command_acts.specs.FilesInMemory.{IsBeside, files_in}

-- files stand in memory with the bytes that it holds there
pub holds_now : (m : Memory) (placed : List PlacedFile) → Holds m (files_in m placed)
holds_now m [] = tt
holds_now m (p ∷ placed) = (ap (bytes_at m p.place) (length-bytes_at m p.place p.size), holds_now m placed)

-- an address outside of the files is beside each of them
pub beside_each : (m : Memory) (placed : List PlacedFile) (address : ℕ) → IsOutside (files_in m placed) address
    → AllByRecursion (IsBeside address) placed
beside_each m [] address outside = tt
beside_each m (p ∷ placed) address outside =
    (rw length-bytes_at at outside.0, beside_each m placed address outside.1)
