-- A firmware that looks at a transfer sees the same over another memory, and takes the same.
use Rattle.std.proofs.Common.{◌≡◌, ℕ, ◌-◌, ◌*◌, Bool, true, false, if◌then◌else◌, List, arith, refl, sym, ap}
use Rattle.std.proofs.Common.{subst, ◌∙◌}
use Rattle.vt_bytes.specs.Memory.{Memory, bytes_at}
use Rattle.vt_bytes.specs.Numbers.{be}
use Rattle.cfg_directory.specs.declared.item.Item.{Item}
use Rattle.cfg_directory.specs.Items.{IsItems}
use Rattle.cfg_dma.specs.Reads.{moved_by}
use Rattle.command_acts.specs.Runs.{Answers}
use Rattle.load_states.specs.declared.reading.Reading.{Reading}
use Rattle.load_states.specs.declared.reading.Reading.TheVariants as read
use Rattle.load_states.specs.declared.stage.Stage.TheVariants.{Awaits}
use Rattle.load_states.specs.Guarded.{descriptor_at, buffer_at, buffer_size}
use Rattle.load_states.specs.LoadState.{LoadState, memory_of, with_memory, items_now}
use Rattle.load_states.specs.Moves.{piece_read}
use Rattle.load_states.specs.Steps.{is_over, taken_of, counted, entries_taken, commands_taken, asked}
use Rattle.load_states.specs.Kept.{StageKeeps, Knows, read_by}
use Rattle.load_states.proofs.Known.{word_of}
use Rattle.load_states.proofs.Looks.{over_now}
use Rattle.load_states.proofs.Readings.{IsReadOver}
use Rattle.load_states.proofs.LooksAlike.{read_tells}
use Rattle.load_states.specs.Pieces.{SameButMemory}

-- a choice
pub chooses_alike : (c : Bool) (x y u v : LoadState) → (c ≡ true → SameButMemory x u) → (c ≡ false → SameButMemory y v)
    → SameButMemory (if c then x else y) (if c then u else v)
chooses_alike true x y u v first second = first refl
chooses_alike false x y u v first second = second refl

-- a choice whose test is the same over both memories
pub tests_alike : (c d : Bool) (x y u v : LoadState) → d ≡ c → (c ≡ true → SameButMemory x u) → (c ≡ false → SameButMemory y v)
    → SameButMemory (if c then x else y) (if d then u else v)
tests_alike c d x y u v same first second =
    subst (λ d. SameButMemory (if c then x else y) (if d then u else v)) (sym same) (chooses_alike c x y u v first second)

-- ---- what is taken

-- a piece that was read is in the buffer in both memories
piece_same : (items : List Item) (select start size taken p q : ℕ) (m n : Memory) → taken ≡ buffer_size * p → taken ≡ buffer_size * q
    → bytes_at m buffer_at (asked (size - buffer_size * p)) ≡ moved_by items (piece_read select start size p)
    → bytes_at n buffer_at (asked (size - buffer_size * q)) ≡ moved_by items (piece_read select start size q)
    → bytes_at n buffer_at (asked (size - taken)) ≡ bytes_at m buffer_at (asked (size - taken))
piece_same items select start size taken p q m n here there held also =
    let pieces : q ≡ p = omega (arith, here, there) in
    let moved : bytes_at n buffer_at (asked (size - buffer_size * p)) ≡ moved_by items (piece_read select start size p) =
    subst (λ k. bytes_at n buffer_at (asked (size - buffer_size * k)) ≡ moved_by items (piece_read select start size k)) pieces also in
    subst (λ t. bytes_at n buffer_at (asked (size - t)) ≡ bytes_at m buffer_at (asked (size - t))) (sym here) (moved ∙ sym held)

taken_alike : (May More : Answers) (items : List Item) (w : LoadState) (n : Memory) (reading : Reading) (known : Knows May items w reading)
    (also : Knows More items (with_memory w n) reading) → IsReadOver (read_by May items w reading known) w
    → IsReadOver (read_by More items (with_memory w n) reading also) (with_memory w n)
    → SameButMemory (taken_of reading w) (taken_of reading (with_memory w n))
taken_alike May More items w n read.Count known also over past =
    ap (λ bytes. counted (be bytes) (with_memory w n)) (past.held ∙ sym over.held)
taken_alike May More items w n (read.Entries size taken) known also over past =
    ap (λ bytes. entries_taken size taken (asked (size - taken)) bytes (with_memory w n))
    (piece_same (items_now w) 0x19 4 size taken known.pieces also.pieces (memory_of w) n known.taken_is also.taken_is over.held past.held)
taken_alike May More items w n (read.Commands select size taken) known also over past =
    ap (λ bytes. commands_taken select size taken (asked (size - taken)) bytes (with_memory w n))
    (piece_same (items_now w) select 0 size taken known.pieces also.pieces (memory_of w) n known.taken_is also.taken_is over.held past.held)
taken_alike May More items w n (read.File index) known also over past = refl

-- ---- a look at a read

pub looks_alike : (May More : Answers) (items : List Item) (w : LoadState) (n : Memory) (reading : Reading) → IsItems items → IsItems (items_now w)
    → StageKeeps May items w (Awaits reading) → StageKeeps More items (with_memory w n) (Awaits reading)
    → SameButMemory (if is_over w then taken_of reading w else w)
    (if is_over (with_memory w n) then taken_of reading (with_memory w n) else with_memory w n)
looks_alike May More items w n reading lawful now here there =
    let other : LoadState = with_memory w n in
    let r = read_by May items w reading here.0 in
    let q = read_by More items other reading there.0 in
    let word = word_of May items w reading lawful now here.0 in
    let also = word_of More items other reading lawful now there.0 in
    let same : is_over other ≡ is_over w =
    read_tells (items_now w) q.before descriptor_at q.control q.transfer other.attached also.0 also.1 there.1
    ∙ sym (read_tells (items_now w) r.before descriptor_at r.control r.transfer w.attached word.0 word.1 here.1) in
    tests_alike (is_over w) (is_over other) (taken_of reading w) w (taken_of reading other) other same
    (λ zero. taken_alike May More items w n reading here.0 there.0
    (over_now (items_now w) r.before descriptor_at r.control r.transfer w.attached word.0 word.1 here.1 zero)
    (over_now (items_now w) q.before descriptor_at q.control q.transfer other.attached also.0 also.1 there.1 (same ∙ zero)))
    (λ still. refl)
