-- The transfers of a load, in their order.
use Rattle.std.specs.Prelude.{ℕ, zero, suc, ◌+◌, ◌-◌, ◌*◌, ◌/◌, List, [], ◌∷◌, ◌++◌, length, min}
use Rattle.std.specs.Option.{option_map_or}
use Rattle.cfg_directory.specs.declared.item.Item.{Item}
use Rattle.cfg_directory.specs.Items.{named}
use Rattle.loader_script.specs.LoaderName.{loader_name}
use Rattle.loader_script.specs.declared.entry.Entry.{Entry}
use Rattle.loader_script.specs.declared.entry.Entry.TheVariants.{Allocate, AddPointer, AddChecksum, WritePointer, Misnamed, Skipped}
use Rattle.cfg_dma.specs.declared.transfer.Finished.{Finished}
use Rattle.cfg_dma.specs.Reads.{read_of}
use Rattle.cfg_dma.specs.Writes.{skip_of, write_of}
use Rattle.command_acts.specs.declared.placed.PlacedFile.{PlacedFile}
use Rattle.load_states.specs.Guarded.{buffer_at, buffer_size}
use Rattle.load_states.specs.Steps.{asked}

-- how many reads so many bytes take through the buffer
abbrev pub pieces_of : ℕ → ℕ
pieces_of size = (size + 4095) / 4096

-- the read of a piece of an item's bytes, of which there are so many from a start on
abbrev pub piece_read : ℕ → ℕ → ℕ → ℕ → Finished
piece_read select start size piece = read_of select (start + buffer_size * piece) (asked (size - buffer_size * piece)) buffer_at

-- the reads of the first so many pieces
abbrev pub first_reads : ℕ → ℕ → ℕ → ℕ → List Finished
first_reads select start size zero = []
first_reads select start size (suc piece) = first_reads select start size piece ++ piece_read select start size piece ∷ []

abbrev pub all_reads : ℕ → ℕ → ℕ → List Finished
all_reads select start size = first_reads select start size (pieces_of size)

-- the reads of the directory: the number of files, and then its entries
abbrev pub count_read : Finished
count_read = read_of 0x19 0 4 buffer_at

abbrev pub directory_reads : List Item → List Finished
directory_reads items = count_read ∷ all_reads 0x19 4 (64 * length items)

-- the reads of the script
abbrev pub script_reads : List Item → List Finished
script_reads items = option_map_or (λ (item : Item). all_reads item.select 0 (length item.bytes)) (named items loader_name) []

-- the read of a placed file, whole and straight to its place
abbrev pub file_read : List Item → PlacedFile → List Finished
file_read items p = option_map_or (λ (item : Item). read_of item.select 0 p.size p.place ∷ []) (named items p.name) []

-- the skip and the write of a WritePointer
abbrev pub pointer_moves : List Item → List ℕ → ℕ → ℕ → List Finished
pointer_moves items dest offset size =
    option_map_or (λ (item : Item). skip_of item.select offset ∷ write_of item.select offset size buffer_at ∷ []) (named items dest) []

-- the transfers of commands that were carried out, of which each Allocate has placed the next file
abbrev pub command_moves : List Item → List Entry → List PlacedFile → List Finished
command_moves items [] placed = []
command_moves items (Allocate name align zone ∷ commands) [] = []
command_moves items (Allocate name align zone ∷ commands) (p ∷ placed) = file_read items p ++ command_moves items commands placed
command_moves items (WritePointer dest src dst_offset src_offset size ∷ commands) placed =
    pointer_moves items dest dst_offset size ++ command_moves items commands placed
command_moves items (AddPointer dest src offset size ∷ commands) placed = command_moves items commands placed
command_moves items (AddChecksum name offset start count ∷ commands) placed = command_moves items commands placed
command_moves items (Misnamed command ∷ commands) placed = command_moves items commands placed
command_moves items (Skipped command ∷ commands) placed = command_moves items commands placed

-- the transfers of a load that has carried out these commands, and placed these files
abbrev pub moves : List Item → List Entry → List PlacedFile → List Finished
moves items commands placed = directory_reads items ++ script_reads items ++ command_moves items commands placed

-- how many bytes the script has
abbrev pub script_size : List Item → ℕ
script_size items = option_map_or (λ (item : Item). length item.bytes) (named items loader_name) 0

-- how many commands a script has at most
abbrev pub most_commands : List Item → ℕ
most_commands items = min (script_size items) 1048576 / 128

-- The most transfers that a load of items makes: the reads of the directory and of the script, and two for each command.
abbrev pub most_transfers : List Item → ℕ
most_transfers items = length (directory_reads items) + length (script_reads items) + 2 * most_commands items
