-- What the image of a machine promises of the memory that it is loaded into.
use Rattle.std.specs.Prelude.{◌≡◌, ℕ, ◌+◌, ◌*◌, ◌<◌, ◌≤◌, ◌⊎◌, List, [], ◌∷◌, length}
use Rattle.std.specs.Option.{option_map_or}
use Rattle.vt_outside.specs.File.{File}
use Rattle.vt_bytes.specs.Numbers.{le_bytes}
use Rattle.vt_bytes.specs.Memory.{IsRam, Memory, at, bios_end, bios_start, seen}
use Rattle.loader_script.specs.Run.{Placed, Done, place_of, files_with, run}
use Rattle.loader_script.specs.Left.{IsOutside, Holds}
use Rattle.machine_desc.specs.declared.machine.Machine.{Machine}
use Rattle.dsdt_terms.specs.Dsdt.{id_address}
use Rattle.acpi_model.specs.Found.{ShowsBytes}
use Rattle.table_model.specs.Inventory.{Shows, inventory_of}
use Rattle.cfg_directory.specs.Files.{files_of}
use Rattle.image_files.specs.Places.{ArePlaces}
use Rattle.image_files.specs.Linked.{AreLinked}
use Rattle.vm_image.specs.Image.{image_files, image_script, image_items, address_name}

-- the address past the last one of a machine's memory below 4 GiB
abbrev pub top_of : Machine → ℕ
top_of m = m.top_mib * 0x100000

-- the files of fw_cfg once the host was told where the id of the generation is, where there is one: its address stands in 8 bytes, low byte
-- first
abbrev pub told_files : Machine → List Placed → List File
told_files m placed =
    option_map_or (λ id. files_with (files_of (image_items m)) address_name (le_bytes 8 (id_address (place_of placed)))) m.generation
    (files_of (image_items m))

-- Whatever lawful places its files are given, the run of the script is done, the files stand there with their holes filled, and the host was
-- told where the id of the generation is. Nothing else of fw_cfg is written.
abbrev pub IsLoadedAnywhere : Machine → Type 0
IsLoadedAnywhere m =
    (places : List ℕ) → ArePlaces (top_of m) [] (image_files m) places
    → (placed : List Placed) × AreLinked (place_of placed) (image_files m) places placed
    × (run (files_of (image_items m)) (image_script m) places ≡ (Done, record { files = told_files m placed; placed = placed; places = [] }))

-- an address of the BIOS area: a valid RSDP or anchor stands nowhere else
abbrev pub IsBios : ℕ → Type 0
IsBios address = (bios_start ≤ address) × (address < bios_end)

-- the address is in one of the files
abbrev pub IsInside : List Placed → ℕ → Type 0
IsInside [] address = ⊥
IsInside (p ∷ placed) address = ((p.place ≤ address) × (address < p.place + length p.bytes)) ⊎ IsInside placed address

-- The files stand in memory, which holds bytes alone, and what else there is of the BIOS area holds the fill byte. Nothing is asked of any other address: a
-- valid RSDP or anchor stands in the BIOS area alone, and all that they lead to stands in a file. So a guest's other processors may
-- have written anything elsewhere outside of the files.
pub record HoldsFiles (memory : Memory) (placed : List Placed) : Type 0 where
  pub files : Holds memory placed
  pub bios : (address : ℕ) → bios_start ≤ address → address < bios_end → IsOutside placed address → at memory address ≡ memory.fill
  pub alone : ShowsBytes (seen memory)

-- Wherever its files come to stand, a memory that holds them shows exactly the machine's inventory, whatever its fill byte is.
abbrev pub IsShownAnywhere : Machine → Type 0
IsShownAnywhere m =
    (places : List ℕ) (placed : List Placed) (memory : Memory) → ArePlaces (top_of m) [] (image_files m) places
    → AreLinked (place_of placed) (image_files m) places placed → memory.top ≡ top_of m → HoldsFiles memory placed
    → Shows memory.top (seen memory) (inventory_of m)

-- Two memories of bytes have one top, and agree at each address of RAM that is in the BIOS area or in one of the files.
pub record AgreeOnFiles (memory other : Memory) (placed : List Placed) : Type 0 where
  pub top : other.top ≡ memory.top
  pub bytes : (address : ℕ) → IsRam memory.top address → IsBios address ⊎ IsInside placed address → at other address ≡ at memory address
  pub alone : ShowsBytes (seen other)

-- Wherever its files come to stand, a memory that holds them, and any other that agrees with it on them, show exactly the machine's
-- inventory, whatever the fill byte of either is.
abbrev pub AreShownAlike : Machine → Type 0
AreShownAlike m =
    (places : List ℕ) (placed : List Placed) (memory other : Memory) → ArePlaces (top_of m) [] (image_files m) places
    → AreLinked (place_of placed) (image_files m) places placed → memory.top ≡ top_of m → HoldsFiles memory placed
    → AgreeOnFiles memory other placed → Shows memory.top (seen memory) (inventory_of m) × Shows other.top (seen other) (inventory_of m)
