-- Which frames of a memory are touched. It is no part of what the memory is: two memories are equal where their tops, their fill bytes and
-- their bytes of RAM are, however many of their frames were touched.
use Rattle.std.specs.Prelude.{◌≡◌, ℕ, suc, ◌⊎◌, ◌<◌, Bool, true, false, ◌||◌, List, [], ◌∷◌, length, slice_index_or}
use Rattle.std.specs.List.{count_by, refill}
use Rattle.vt_bytes.specs.Memory.{Memory, bytes_at, with_bytes}
use Rattle.guest_memory.specs.Frames.{IsInFrame, HoldsFill, frame_limit, meets}

-- What is seen of a guest's memory: the memory, and of each frame, in order, whether it is touched.
pub record HeldMemory : Type 0 where
  pub memory : Memory
  pub touched : List Bool

-- whether a frame is touched
abbrev pub is_touched : List Bool → ℕ → Bool
is_touched touched frame = slice_index_or touched frame false

-- how many frames are touched
abbrev pub touched_count : List Bool → ℕ
touched_count touched = count_by (λ is. is) touched

-- What each keeps: it tells of every frame whether it is touched, and one that isn't holds the fill byte alone.
pub record IsHeld (held : HeldMemory) : Type 0 where
  pub count : length held.touched ≡ frame_limit
  pub blank : (frame : ℕ) → frame < frame_limit → is_touched held.touched frame ≡ false → HoldsFill held.memory frame

-- the frames from an index on, of which those that pass a test are touched now, and the others as they were
unfoldable pub touched_from : (ℕ → Bool) → ℕ → List Bool → List Bool
touched_from test index [] = []
touched_from test index (was ∷ touched) = (was || test index) ∷ touched_from test (suc index) touched

-- the frames after so many bytes from an address on were touched
abbrev pub touched_at : ℕ → ℕ → ℕ → List Bool → List Bool
touched_at top address count touched = touched_from (meets top address count) 0 touched

-- a memory of which so many bytes from an address on were lent, and these came back in their place
abbrev pub with_lent : HeldMemory → ℕ → ℕ → List ℕ → HeldMemory
with_lent held address count bytes = record {
  memory = with_bytes held.memory address (refill count (bytes_at held.memory address count) bytes);
  touched = touched_at held.memory.top address count held.touched;
}

-- Each frame that is touched now and wasn't before has an address with this property.
abbrev pub TouchesOnly : (ℕ → Type 0) → ℕ → List Bool → List Bool → Type 0
TouchesOnly Has top before now = (frame : ℕ) → is_touched now frame ≡ true
    → (is_touched before frame ≡ true) ⊎ ((address : ℕ) × IsInFrame top frame address × Has address)
