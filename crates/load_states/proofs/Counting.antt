-- How many transfers a load makes.
use Rattle.std.proofs.Common.{◌≡◌, ℕ, zero, suc, ◌*◌, ◌<◌, List, [], ◌∷◌, length, Option, Some, arith, refl, ap, ◌∙◌, length-append}
use Rattle.std.specs.Option.{option_map_or}
use Rattle.cfg_directory.specs.declared.item.Item.{Item}
use Rattle.cfg_directory.specs.Items.{named}
use Rattle.loader_script.specs.LoaderName.{loader_name}
use Rattle.load_states.specs.Guarded.{buffer_size}
use Rattle.load_states.specs.Moves.{pieces_of, piece_read, first_reads, all_reads, directory_reads, script_reads}
use Rattle.load_states.specs.Moves.{most_transfers}
use Rattle.load_states.specs.Kept.{with_entries, with_commands}

-- the first so many reads are so many
pub length-first_reads : (select start size pieces : ℕ) → length (first_reads select start size pieces) ≡ pieces
length-first_reads select start size zero = refl
length-first_reads select start size (suc pieces) =
    omega (
      arith,
      length-append (first_reads select start size pieces) (piece_read select start size pieces ∷ []),
      length-first_reads select start size pieces,
    )

-- a piece that begins before the end is one of all pieces
pub piece_below : (size pieces : ℕ) → buffer_size * pieces < size → pieces < pieces_of size
piece_below size pieces below = omega arith

-- the reads of the script are as many as its pieces
length-script_of : (o : Option Item) (loader : Item) → o ≡ Some loader
    → length (option_map_or (λ (item : Item). all_reads item.select 0 (length item.bytes)) o []) ≡ pieces_of (length loader.bytes)
length-script_of o loader there =
    ap (λ (found : Option Item). length (option_map_or (λ (item : Item). all_reads item.select 0 (length item.bytes)) found [])) there
    ∙ length-first_reads loader.select 0 (length loader.bytes) (pieces_of (length loader.bytes))

-- there is room for one more read of the entries
pub entries_room : (items : List Item) (size pieces : ℕ) → size ≡ 64 * length items → buffer_size * pieces < size
    → length (with_entries size pieces) < most_transfers items
entries_room items size pieces is below =
    omega (
      arith,
      length-first_reads 0x19 4 size pieces,
      length-first_reads 0x19 4 (64 * length items) (pieces_of (64 * length items)),
    )

-- and for one more of the script
pub script_room : (items : List Item) (loader : Item) (select size pieces : ℕ) → named items loader_name ≡ Some loader → size ≡ length loader.bytes
    → buffer_size * pieces < size → length (with_commands items select size pieces) < most_transfers items
script_room items loader select size pieces there is below =
    let room : length (first_reads select 0 size pieces) < length (script_reads items) =
    omega (arith, length-first_reads select 0 size pieces, length-script_of (named items loader_name) loader there) in
    omega (arith, length-append (directory_reads items) (first_reads select 0 size pieces))
