-- What an AddPointer and an AddChecksum make of the placed files, once these are found.
use Rattle.std.proofs.Common.{◌≡◌, ℕ, ◌+◌, ◌-◌, ◌%◌, List, Some, slice_index, slice_set, refl}
use Rattle.vt_bytes.specs.Numbers.{le, le_bytes, byte_sum}
use Rattle.vt_bytes.specs.Parts.{part, put_at}
use Rattle.loader_script.specs.Run.{Placed, placed_of, placed_with, pointer_sum, with_pointer, with_sum}

-- what an AddPointer adds up
pub sum_of : (placed : List Placed) (dest src : List ℕ) (offset size : ℕ) (d s : Placed) → placed_of placed dest ≡ Some d → placed_of placed src ≡ Some s
    → pointer_sum placed dest src offset size ≡ le (part d.bytes offset size) + s.place
sum_of placed dest src offset size d s found source_found = rw (found, source_found) refl

pub with_pointer-is : (placed : List Placed) (dest src : List ℕ) (offset size : ℕ) (d s : Placed) → placed_of placed dest ≡ Some d
    → placed_of placed src ≡ Some s
    → with_pointer dest src offset size placed ≡ placed_with placed dest (put_at d.bytes offset (le_bytes size (le (part d.bytes offset size) + s.place)))
with_pointer-is placed dest src offset size d s found source_found = rw (found, source_found) refl

pub with_sum-is : (placed : List Placed) (name : List ℕ) (offset start count : ℕ) (d : Placed) → placed_of placed name ≡ Some d
    → with_sum name offset start count placed
    ≡ placed_with placed name (slice_set d.bytes offset ((slice_index d.bytes offset + (256 - byte_sum (part d.bytes start count))) % 256))
with_sum-is placed name offset start count d found = rw found refl
