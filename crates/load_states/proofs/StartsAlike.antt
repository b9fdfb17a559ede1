-- A load that asks for a transfer does so in the same way over another memory, and a command that is carried out too.
use Rattle.std.proofs.Common.{◌≡◌, ℕ, List, Option, Some, None, refl, sym, ap, subst}
use Rattle.vt_bytes.specs.Memory.{Memory, IsMemory, with_bytes}
use Rattle.vt_bytes.proofs.Memories.{lawful_with}
use Rattle.cfg_directory.specs.declared.listed.Listed.{Listed}
use Rattle.loader_script.specs.declared.entry.Entry.{Entry}
use Rattle.loader_script.specs.declared.entry.Entry.TheVariants.{Allocate, AddPointer, AddChecksum, WritePointer, Misnamed, Skipped}
use Rattle.loader_script.specs.declared.refusing.Cause.{Cause}
use Rattle.cfg_dma.specs.Transfers.{Attached, attached}
use Rattle.cfg_dma.specs.Reads.{started}
use Rattle.cfg_dma.specs.Writes.{selected_skip, next_write}
use Rattle.command_acts.specs.declared.placed.PlacedFile.{PlacedFile}
use Rattle.load_states.specs.declared.stage.Stage.{Stage}
use Rattle.load_states.specs.declared.reading.Reading.{Reading}
use Rattle.load_states.specs.declared.reading.Reading.TheVariants as read
use Rattle.load_states.specs.declared.stage.Stage.TheVariants.{Awaits, AwaitsSkip, AwaitsWrite}
use Rattle.load_states.specs.Guarded.{descriptor_at, buffer_at}
use Rattle.load_states.specs.LoadState.{LoadState, memory_of, with_memory, listed_named}
use Rattle.load_states.specs.Steps.{Asking, asking, asks, asking_for, carried_out, commanded, placed_at, with_placed, skips, writes, number_for}
use Rattle.load_states.proofs.Frames.{descriptor_ram}
use Rattle.load_states.specs.Pieces.{SameButMemory}
use Rattle.load_states.proofs.DevicesAlike.{OneDevice, one_started}

-- a load's memory, and another one that it may be over
pub record AreMemories (m n : Memory) : Type 0 where
  pub here : IsMemory m
  pub there : IsMemory n
  pub top : n.top ≡ m.top

-- a load whose device goes on in the same way
by_device : (w : LoadState) (s : Stage) (placed : List PlacedFile) (a b : Attached) → OneDevice a b
    → SameButMemory (record w { attached = a; stage = s; placed = placed }) (record w { attached = b; stage = s; placed = placed })
by_device w s placed a b same = ap (λ d. record w { attached = attached d b.memory; stage = s; placed = placed }) same

-- a transfer is started
starting_alike : (control size address : ℕ) (w : LoadState) (s : Stage) (placed : List PlacedFile) (m n : Memory) → AreMemories m n
    → SameButMemory (record w { attached = started descriptor_at control size address (attached w.attached.device m); stage = s; placed = placed })
    (record w { attached = started descriptor_at control size address (attached w.attached.device n); stage = s; placed = placed })
starting_alike control size address w s placed m n are =
    by_device w s placed (started descriptor_at control size address (attached w.attached.device m))
    (started descriptor_at control size address (attached w.attached.device n))
    (one_started descriptor_at control size address w.attached.device m n are.here are.there are.top (λ i within. descriptor_ram m.top i within))

-- what is asked for isn't said by memory
same_asking : (reading : Reading) (w : LoadState) (n : Memory) → asking_for reading (with_memory w n) ≡ asking_for reading w
same_asking read.Count w n = refl
same_asking (read.Entries size taken) w n = refl
same_asking (read.Commands select size taken) w n = refl
same_asking (read.File index) w n = refl

asking_alike : (reading : Reading) (what : Asking) (w : LoadState) (n : Memory) → AreMemories (memory_of w) n
    → SameButMemory (asking reading what w) (asking reading what (with_memory w n))
asking_alike reading what w n are =
    starting_alike what.control what.size what.address w (Awaits reading) w.placed (memory_of w) n are

-- a reading is asked for
pub asks_alike : (reading : Reading) (w : LoadState) (n : Memory) → AreMemories (memory_of w) n
    → SameButMemory (asks reading w) (asks reading (with_memory w n))
asks_alike reading w n are =
    subst (λ what. SameButMemory (asks reading w) (asking reading what (with_memory w n))) (sym (same_asking reading w n))
    (asking_alike reading (asking_for reading w) w n are)

-- ---- commands

-- a file is placed
placed_alike : (index : ℕ) (name : List ℕ) (place : ℕ) (found : Option Listed) (w : LoadState) (n : Memory) → AreMemories (memory_of w) n
    → SameButMemory (placed_at index name place found w) (placed_at index name place found (with_memory w n))
placed_alike index name place None w n are = refl
placed_alike index name place (Some file) w n are =
    asks_alike (read.File index) (with_placed name place file w) n are

-- a skip is asked for
skips_alike : (index offset : ℕ) (found : Option Listed) (w : LoadState) (n : Memory) → AreMemories (memory_of w) n
    → SameButMemory (skips index offset found w) (skips index offset found (with_memory w n))
skips_alike index offset None w n are = refl
skips_alike index offset (Some file) w n are =
    starting_alike (selected_skip file.select) offset 0 w (AwaitsSkip index) w.placed (memory_of w) n are

-- a command that isn't refused is carried out
carried_alike : (index : ℕ) (entry : Entry) (answer : Option ℕ) (w : LoadState) (n : Memory) → AreMemories (memory_of w) n
    → SameButMemory (carried_out index entry answer w) (carried_out index entry answer (with_memory w n))
carried_alike index (Allocate name align zone) None w n are = refl
carried_alike index (Allocate name align zone) (Some place) w n are = placed_alike index name place (listed_named w.listed name) w n are
carried_alike index (AddPointer dest src offset size) answer w n are = refl
carried_alike index (AddChecksum name offset start count) answer w n are = refl
carried_alike index (WritePointer dest src dst_offset src_offset size) answer w n are =
    skips_alike index dst_offset (listed_named w.listed dest) w n are
carried_alike index (Misnamed command) answer w n are = refl
carried_alike index (Skipped command) answer w n are = refl

-- and it is refused for one cause
pub commands_alike : (index : ℕ) (entry : Entry) (cause : Option Cause) (answer : Option ℕ) (w : LoadState) (n : Memory)
    → AreMemories (memory_of w) n → SameButMemory (commanded index entry cause answer w) (commanded index entry cause answer (with_memory w n))
commands_alike index entry (Some cause) answer w n are = refl
commands_alike index entry None answer w n are = carried_alike index entry answer w n are

-- a number is written
pub writes_alike : (index : ℕ) (found : Option Entry) (w : LoadState) (n : Memory) → AreMemories (memory_of w) n
    → SameButMemory (writes index found w) (writes index found (with_memory w n))
writes_alike index (Some (WritePointer dest src dst_offset src_offset size)) w n are =
    let number = number_for w src src_offset size in
    starting_alike next_write size buffer_at w (AwaitsWrite index) w.placed (with_bytes (memory_of w) buffer_at number) (with_bytes n buffer_at number)
    (record { here = lawful_with (memory_of w) buffer_at number are.here; there = lawful_with n buffer_at number are.there; top = are.top })
writes_alike index (Some (Allocate name align zone)) w n are = refl
writes_alike index (Some (AddPointer dest src offset size)) w n are = refl
writes_alike index (Some (AddChecksum name offset start count)) w n are = refl
writes_alike index (Some (Misnamed command)) w n are = refl
writes_alike index (Some (Skipped command)) w n are = refl
writes_alike index None w n are = refl
