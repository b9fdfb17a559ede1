-- Frames with a fill byte, which each of them holds before it is touched, and all their bytes in a row.
use Rattle.std.specs.Prelude.{◌≡◌, ℕ, ◌+◌, ◌<◌, ◌≤◌, List, [], ◌∷◌, ◌++◌, Bool, true, false, map, replicate, Option, Some, None, get_or, slice_set}
use Rattle.std.specs.List.{refill}
use Rattle.vt_bytes.specs.Parts.{part, put_at}
use Rattle.vt_bytes.specs.Memory.{Memory, high_start}
use Rattle.raw_frames.specs.Block.{AreFrames}
use Rattle.guest_memory.specs.Touched.{HeldMemory}

-- The fill byte, and of each frame its bytes, or none before it is touched.
pub record Stored : Type 0 where
  pub fill : ℕ
  pub frames : List (Option (List ℕ))

-- whether a frame has bytes of its own
abbrev pub is_filled : Option (List ℕ) → Bool
is_filled None = false
is_filled (Some bytes) = true

-- what a frame holds: its own bytes, or the fill byte alone
abbrev pub or_blank : ℕ → Option (List ℕ) → List ℕ
or_blank fill None = replicate 4096 fill
or_blank fill (Some bytes) = bytes

-- what the frame at an index holds, and whether it has bytes of its own
abbrev pub in_frame : Stored → ℕ → List ℕ
in_frame stored index = or_blank stored.fill (get_or stored.frames index None)

abbrev pub is_held : Stored → ℕ → Bool
is_held stored index = is_filled (get_or stored.frames index None)

-- the frames of which len bytes from a place on in the one at an index were lent, and these came back in their place
abbrev pub with_part : Stored → ℕ → ℕ → ℕ → List ℕ → Stored
with_part stored index place len bytes =
    record stored {
      frames = slice_set stored.frames index (Some (put_at (in_frame stored index) place (refill len (part (in_frame stored index) place
          len) bytes)));
    }

-- What the parts of a store keep: a frame of fill bytes, a flag for each frame that has bytes of its own, and all frames.
pub record IsStore (fill : ℕ) (blank : List ℕ) (flags : List Bool) (frames : List (Option (List ℕ))) : Type 0 where
  pub fills : blank ≡ replicate 4096 fill
  pub tells : flags ≡ map is_filled frames
  pub all : AreFrames frames

-- what frames hold, one after the other
unfoldable pub bytes_of : ℕ → List (Option (List ℕ)) → List ℕ
bytes_of fill [] = []
bytes_of fill (frame ∷ frames) = or_blank fill frame ++ bytes_of fill frames

-- All bytes of a store in a row, and the byte that each of them was at the beginning.
pub record Filled : Type 0 where
  pub fill : ℕ
  pub bytes : List ℕ

abbrev pub filled_of : Stored → Filled
filled_of stored = record { fill = stored.fill; bytes = bytes_of stored.fill stored.frames }

-- What of all bytes is RAM: the two parts of the first MiB that the RAM map names, and the 32 MiB that end at the top.
unfoldable pub parts_of : List ℕ → List (List ℕ)
parts_of bytes = part bytes 0 0xA0000 ∷ part bytes 0xE0000 0x20000 ∷ part bytes 0x100000 0x2000000 ∷ []

-- the memory of a top that such bytes are
abbrev pub memory_of : ℕ → Filled → Memory
memory_of top held = record { top = top; fill = held.fill; parts = parts_of held.bytes }

-- what is seen of a memory of a top that a store holds
abbrev pub held_memory : ℕ → Stored → HeldMemory
held_memory top stored = record { memory = memory_of top (filled_of stored); touched = map is_filled stored.frames }

-- where all bytes in a row have the byte of an address of RAM
pub record IsPlaceOf (top address place : ℕ) : Type 0 where
  pub low : address < 0x100000 → place ≡ address
  pub high : 0x100000 ≤ address → place + high_start top ≡ address + 0x100000
