-- What holds of each reading: what is known while it is asked for or awaited, and the read by which it is.
use Rattle.std.proofs.Common.{◌≡◌, ℕ, suc, ◌+◌, ◌-◌, ◌*◌, ◌^◌, ◌<◌, ◌≤◌, ◌==◌, ◌⊎◌, true, false, List, [], ◌∷◌, ◌++◌, length, inl, inr, arith, refl}
use Rattle.std.proofs.Common.{ap, ap₂, sym, subst, ◌∙◌, length-append}
use Rattle.std.specs.List.{AllByRecursion}
use Rattle.vt_bytes.specs.Memory.{Memory, IsRam, at}
use Rattle.vt_bytes.proofs.Bytes.{bytes_at-same}
use Rattle.vt_bytes.proofs.Each.{each_front, each_back}
use Rattle.cfg_directory.specs.declared.item.Item.{Item}
use Rattle.cfg_directory.specs.Items.{IsItems, named}
use Rattle.cfg_directory.specs.Files.{files_of}
use Rattle.loader_script.specs.LoaderName.{loader_name}
use Rattle.loader_script.specs.Run.{Placed}
use Rattle.cfg_dma.specs.Device.{contents}
use Rattle.cfg_dma.specs.Transfers.{Attached}
use Rattle.cfg_dma.specs.Reads.{CanRead, IsBesideRead, selected_read, next_read, read_of}
use Rattle.command_acts.specs.declared.placed.PlacedFile.{PlacedFile}
use Rattle.command_acts.specs.FilesInMemory.{files_in, AreApart, ArePlaced, IsBeside}
use Rattle.command_acts.specs.Runs.{Answers, at_files, placed_at}
use Rattle.load_states.specs.declared.reading.Reading.{Reading}
use Rattle.load_states.specs.declared.reading.Reading.TheVariants as read
use Rattle.load_states.specs.declared.stage.Stage.{Stage}
use Rattle.load_states.specs.Guarded.{descriptor_at, buffer_at, buffer_size, is_work, is_guarded}
use Rattle.load_states.specs.LoadState.{LoadState, Opening, memory_of, items_now}
use Rattle.load_states.specs.Steps.{Asking, asked, asking_for, script_control}
use Rattle.load_states.specs.Moves.{count_read, piece_read, most_transfers}
use Rattle.load_states.specs.Kept.{KeepsNow, IsComing, HasCarriedOut, Knows, LoadRead, IsLeft, read_by}
use Rattle.load_states.proofs.Frames.{files_same, beside_work, buffer_ram, buffer_is_work, work_is_guarded}
use Rattle.load_states.proofs.Taken.{going_on, nothing_still, entries_still, commands_still, script_still}
use Rattle.load_states.proofs.Counting.{entries_room, script_room}
use Rattle.load_states.proofs.CanReads.{place_beside, count_can, piece_can, script_can, file_can, directory_holds, file_select_small}
use Rattle.load_states.proofs.Looks.{by_test}
use Rattle.load_states.proofs.Zoned.{IsZoned, zoned_files}

-- ---- the file that was placed last, and those before it

-- of files that stand apart, those before the last do, the last is RAM, and they are apart from it
pub record AreBefore (top : ℕ) (before : List PlacedFile) (last : PlacedFile) : Type 0 where
  pub placed : ArePlaced top before
  pub ram : (i : ℕ) → i < last.size → IsRam top (last.place + i)
  pub apart : AllByRecursion (λ (p : PlacedFile). AreApart p last) before

last_apart : (top : ℕ) (before : List PlacedFile) (last : PlacedFile) → ArePlaced top (before ++ last ∷ []) → AreBefore top before last
last_apart top [] last placed = record { placed = tt; ram = placed.0; apart = tt }
last_apart top (p ∷ before) last placed =
    let rest = last_apart top before last placed.3 in
    record {
      placed = (placed.0, placed.1, each_front (AreApart p) before (last ∷ []) placed.2, rest.placed);
      ram = rest.ram;
      apart = ((each_back (AreApart p) before (last ∷ []) placed.2).0, rest.apart);
    }

pub are_before : (top : ℕ) (placed before : List PlacedFile) (last : PlacedFile) → placed ≡ before ++ last ∷ [] → ArePlaced top placed
    → AreBefore top before last
are_before top placed before last are apart = last_apart top before last (subst (ArePlaced top) are apart)

-- what holds of each placed file holds of each before the last, and of the last
pub of_before : (P : PlacedFile → Type 0) (placed before : List PlacedFile) (last : PlacedFile) → placed ≡ before ++ last ∷ [] → AllByRecursion P placed
    → AllByRecursion P before
of_before P placed before last are all = each_front P before (last ∷ []) (subst (AllByRecursion P) are all)

pub of_last : (P : PlacedFile → Type 0) (placed before : List PlacedFile) (last : PlacedFile) → placed ≡ before ++ last ∷ [] → AllByRecursion P placed → P last
of_last P placed before last are all = (each_back P before (last ∷ []) (subst (AllByRecursion P) are all)).0

-- where none is placed none is the last
pub none_before : {A : Type 0} (placed before : List PlacedFile) (last : PlacedFile) → placed ≡ [] → placed ≡ before ++ last ∷ [] → A
none_before placed before last none are = absurd (omega (arith, ap length none, ap length are, length-append before (last ∷ [])))

-- ---- at another device, memory and stage

-- the files before the last one hold the same
abbrev pub FrontStays : LoadState → Memory → Type 0
FrontStays w m = (before : List PlacedFile) (last : PlacedFile) → w.placed ≡ before ++ last ∷ [] → files_in m before ≡ files_in (memory_of w) before

-- What was known is known still, and the read is the same.
pub record Still (May : Answers) (items : List Item) (next : LoadState) (reading : Reading) (r : LoadRead) : Type 0 where
  pub known : Knows May items next reading
  pub same : read_by May items next reading known ≡ r

-- The commands that were carried out were so with other answers, and over another memory.
abbrev pub Carries : Answers → Answers → List Item → LoadState → Memory → Type 0
Carries May More items w m = (count : ℕ) (before : List PlacedFile) (last : PlacedFile) (coming : Placed) → w.placed ≡ before ++ last ∷ []
    → HasCarriedOut May items count (at_files (files_of (items_now w)) (files_in (memory_of w) before ++ coming ∷ []) []) w
    → HasCarriedOut More items count (at_files (files_of (items_now w)) (files_in m before ++ coming ∷ []) []) w

-- the file that comes is still to come
abbrev coming_still : (May More : Answers) (items : List Item) (index : ℕ) (w : LoadState) (a : Attached) (s : Stage)
    → a.device.items ≡ items_now w → Carries May More items w a.memory → IsComing May items index w → IsComing More items index (going_on w a s)
coming_still May More items index w a s same carries coming = record {
  script = script_still items w a s coming.script;
  before = coming.before;
  last = coming.last;
  align = coming.align;
  zone = coming.zone;
  command = coming.command;
  file = coming.file;
  placed_are = coming.placed_are;
  there = ap (λ (is : List Item). named is coming.last.name) same ∙ coming.there;
  size = coming.size;
  run = subst
      (λ (is : List Item). HasCarriedOut More items (suc index)
      (at_files (files_of is) (files_in a.memory coming.before ++ placed_at (files_of is) coming.last.name coming.last.place ∷ []) []) w)
      (sym same)
      (carries (suc index) coming.before coming.last (placed_at (files_of (items_now w)) coming.last.name coming.last.place) coming.placed_are
      coming.run);
}

pub known_in : (May More : Answers) (items : List Item) (w : LoadState) (a : Attached) (s : Stage) (reading : Reading)
    → a.device.items ≡ items_now w → Carries May More items w a.memory → (known : Knows May items w reading)
    → Still More items (going_on w a s) reading (read_by May items w reading known)
known_in May More items w a s read.Count its carries known = record { known = nothing_still items w a s its known; same = refl }
known_in May More items w a s (read.Entries size taken) its carries known =
    record { known = entries_still items size taken w a s its known; same = refl }
known_in May More items w a s (read.Commands select size taken) its carries known =
    record { known = commands_still items select size taken w a s its known; same = refl }
known_in May More items w a s (read.File index) its carries known =
    record { known = coming_still May More items index w a s its carries known; same = refl }

pub known_still : (May : Answers) (items : List Item) (w : LoadState) (a : Attached) (s : Stage) (reading : Reading) → a.device.items ≡ items_now w
    → FrontStays w a.memory → (known : Knows May items w reading) → Still May items (going_on w a s) reading (read_by May items w reading known)
known_still May items w a s reading its stays known =
    known_in May May items w a s reading its (λ count before last coming are run.
    subst (λ (files : List Placed). HasCarriedOut May items count (at_files (files_of (items_now w)) (files ++ coming ∷ []) []) w)
    (sym (stays before last are)) run) known

-- ---- the read

-- it can be carried out, where it isn't empty
pub can_read : (May : Answers) (its : Opening) (w : LoadState) (reading : Reading) → KeepsNow May its w → (known : Knows May its.items w reading)
    → 0 < (read_by May its.items w reading known).transfer.length → CanRead (items_now w) its.top descriptor_at
    (read_by May its.items w reading known).transfer
can_read May its w read.Count kept known some =
    subst (λ (is : List Item). CanRead is its.top descriptor_at count_read) (sym known.begun) (count_can its.items its.top kept.names)
can_read May its w (read.Entries size taken) kept known some =
    let below : buffer_size * known.pieces < size = omega (arith, known.taken_is, known.some_left) in
    let within : 4 + size ≤ length (contents its.items 0x19) = omega (arith, known.size_is, directory_holds its.items kept.names) in
    subst (λ (is : List Item). CanRead is its.top descriptor_at (piece_read 0x19 4 size known.pieces)) (sym known.begun)
    (piece_can its.items its.top 0x19 4 size known.pieces within below)
can_read May its w (read.Commands select size taken) kept known some =
    let below : buffer_size * known.pieces < size = omega (arith, known.taken_is, known.some_left) in
    subst (λ (is : List Item). CanRead is its.top descriptor_at (piece_read select 0 size known.pieces)) (sym known.begun)
    (script_can its.items its.top known.loader select size known.pieces kept.lawful known.there known.select_is known.size_is below)
can_read May its w (read.File index) kept known some =
    let last = known.last in
    file_can (items_now w) its.top last.name known.file last kept.device.items known.there known.size some
    (are_before its.top w.placed known.before last known.placed_are kept.loading.apart).ram
    (of_last (IsZoned its.top) w.placed known.before last known.placed_are (zoned_files kept))

-- one into the buffer isn't empty
pub some_read : (May : Answers) (items : List Item) (w : LoadState) (reading : Reading) → IsLeft reading → (known : Knows May items w reading)
    → 0 < (read_by May items w reading known).transfer.length
some_read May items w read.Count left known = omega arith
some_read May items w (read.Entries size taken) left known = omega (arith, known.taken_is, known.some_left)
some_read May items w (read.Commands select size taken) left known = omega (arith, known.taken_is, known.some_left)
some_read May items w (read.File index) left known = absurd left

-- and there is room for it
pub few_before : (May : Answers) (items : List Item) (w : LoadState) (reading : Reading) → IsLeft reading → (known : Knows May items w reading)
    → length (read_by May items w reading known).before < most_transfers items
few_before May items w read.Count left known = omega arith
few_before May items w (read.Entries size taken) left known =
    entries_room items size known.pieces known.size_is (omega (arith, known.taken_is, known.some_left))
few_before May items w (read.Commands select size taken) left known =
    script_room items known.loader select size known.pieces known.there known.size_is (omega (arith, known.taken_is, known.some_left))
few_before May items w (read.File index) left known = absurd left

-- the control word of the next commands of the script isn't zero, and has four bytes
script_word : (select taken : ℕ) → select < 65536 → (0 < script_control select taken) × (script_control select taken < 2 ^ 32)
script_word select taken small =
    by_test (λ (control : ℕ). (0 < control) × (control < 2 ^ 32)) (taken == 0) (selected_read select) next_read
    (λ first. (omega arith, omega arith)) (λ later. (omega arith, omega arith))

-- so it is with each control word
pub word_of : (May : Answers) (items : List Item) (w : LoadState) (reading : Reading) → IsItems items → IsItems (items_now w)
    → (known : Knows May items w reading)
    → (0 < (read_by May items w reading known).control) × ((read_by May items w reading known).control < 2 ^ 32)
word_of May items w read.Count lawful now known = (omega arith, omega arith)
word_of May items w (read.Entries size taken) lawful now known = (omega arith, omega arith)
word_of May items w (read.Commands select size taken) lawful now known =
    let small = file_select_small items loader_name known.loader lawful known.there in
    script_word select taken (omega (arith, small, known.select_is))
word_of May items w (read.File index) lawful now known =
    let small = file_select_small (items_now w) known.last.name known.file now known.there in (omega arith, omega arith)

-- what the firmware asks for is that read
abbrev pub asking_as : LoadRead → Asking
asking_as r = record { control = r.control; size = r.transfer.length; address = r.transfer.address }

pub asking_is : (May : Answers) (items : List Item) (w : LoadState) (reading : Reading) → IsLeft reading → (known : Knows May items w reading)
    → asking_for reading w ≡ asking_as (read_by May items w reading known)
asking_is May items w read.Count left known = refl
asking_is May items w (read.Entries size taken) left known =
    ap (λ (n : ℕ). record { control = next_read; size = asked (size - n); address = buffer_at }) known.taken_is
asking_is May items w (read.Commands select size taken) left known =
    ap (λ (n : ℕ). record { control = script_control select taken; size = asked (size - n); address = buffer_at }) known.taken_is
asking_is May items w (read.File index) left known = absurd left

-- ---- the memory that it goes to

-- what is outside of the work range is beside a read into the buffer
buffer_beside : (select offset size address : ℕ) → size ≤ buffer_size → is_work address ≡ false
    → IsBesideRead address descriptor_at (read_of select offset size buffer_at)
buffer_beside select offset size address fits other =
    let beside = beside_work address other in (
      beside.0,
      elim beside.1 as (λ _. (address < buffer_at) ⊎ (buffer_at + size ≤ address)) [ inl l ↦ inl l | inr l ↦ inr (omega arith) ],
    )

-- what is outside of it and of the placed files is beside each read
pub beside_read : (May : Answers) (items : List Item) (w : LoadState) (reading : Reading) (known : Knows May items w reading) (address : ℕ)
    → is_work address ≡ false → AllByRecursion (IsBeside address) w.placed
    → IsBesideRead address descriptor_at (read_by May items w reading known).transfer
beside_read May items w read.Count known address other beside = buffer_beside 0x19 0 4 address (omega arith) other
beside_read May items w (read.Entries size taken) known address other beside =
    buffer_beside 0x19 (4 + buffer_size * known.pieces) (asked (size - buffer_size * known.pieces)) address (omega arith) other
beside_read May items w (read.Commands select size taken) known address other beside =
    buffer_beside select (0 + buffer_size * known.pieces) (asked (size - buffer_size * known.pieces)) address (omega arith) other
beside_read May items w (read.File index) known address other beside =
    ((beside_work address other).0, of_last (IsBeside address) w.placed known.before known.last known.placed_are beside)

-- a place of RAM that no other processor writes
abbrev pub IsGuardedRam : ℕ → ℕ → Type 0
IsGuardedRam top address = IsRam top address × (is_guarded top address ≡ true)

buffer_guarded : (top i : ℕ) → i < buffer_size → IsGuardedRam top (buffer_at + i)
buffer_guarded top i within = (buffer_ram top i within, work_is_guarded top (buffer_at + i) (buffer_is_work i within))

-- each read goes to such places
pub read_guarded : (May : Answers) (items : List Item) (top : ℕ) (w : LoadState) (reading : Reading) → ArePlaced top w.placed
    → AllByRecursion (IsZoned top) w.placed → (known : Knows May items w reading) (i : ℕ)
    → i < (read_by May items w reading known).transfer.length → IsGuardedRam top ((read_by May items w reading known).transfer.address + i)
read_guarded May items top w read.Count apart zoned known i within = buffer_guarded top i (omega arith)
read_guarded May items top w (read.Entries size taken) apart zoned known i within = buffer_guarded top i (omega arith)
read_guarded May items top w (read.Commands select size taken) apart zoned known i within = buffer_guarded top i (omega arith)
read_guarded May items top w (read.File index) apart zoned known i within = (
  (are_before top w.placed known.before known.last known.placed_are apart).ram i within,
  (of_last (IsZoned top) w.placed known.before known.last known.placed_are zoned i within).0,
)

-- the files before the last hold the same where memory outside of the work range does
pub front_outside : (top : ℕ) (w : LoadState) (m : Memory) → (memory_of w).top ≡ top → ArePlaced top w.placed → AllByRecursion (IsZoned top) w.placed
    → ((address : ℕ) → IsRam top address → is_guarded top address ≡ true → is_work address ≡ false → at m address ≡ at (memory_of w) address)
    → FrontStays w m
front_outside top w m its_top apart zoned same before last are =
    files_same top (memory_of w) m before its_top (are_before top w.placed before last are apart).placed
    (of_before (IsZoned top) w.placed before last are zoned) same

-- lists that end in the same way are the same before their last elements
ends_alike : (xs ys : List PlacedFile) (x y : PlacedFile) → xs ++ x ∷ [] ≡ ys ++ y ∷ [] → xs ≡ ys
ends_alike [] [] x y is = refl
ends_alike [] (v ∷ ys) x y is = absurd (omega (arith, ap length is, length-append ys (y ∷ [])))
ends_alike (u ∷ xs) [] x y is = absurd (omega (arith, ap length is, length-append xs (x ∷ [])))
ends_alike (u ∷ xs) (v ∷ ys) x y is =
    let heads : u ≡ v = cc in
    let tails : xs ++ x ∷ [] ≡ ys ++ y ∷ [] = cc in
    ap₂ (λ (p : PlacedFile) (ps : List PlacedFile). p ∷ ps) heads (ends_alike xs ys x y tails)

same_end : (placed xs ys : List PlacedFile) (x y : PlacedFile) → placed ≡ xs ++ x ∷ [] → placed ≡ ys ++ y ∷ [] → xs ≡ ys
same_end placed xs ys x y first second = ends_alike xs ys x y (sym first ∙ second)

-- files hold what they held while one that they are apart from is read
files_stay : (top select : ℕ) (last : PlacedFile) (old new : Memory) (before : List PlacedFile)
    → ((address : ℕ) → IsBesideRead address descriptor_at (read_of select 0 last.size last.place) → at new address ≡ at old address)
    → AllByRecursion (λ (p : PlacedFile). AreApart p last) before → AllByRecursion (IsZoned top) before → files_in new before ≡ files_in old before
files_stay top select last old new [] same apart zoned = refl
files_stay top select last old new (p ∷ before) same apart zoned =
    ap₂ (λ (x : Placed) (xs : List Placed). x ∷ xs)
    (ap (λ (held : List ℕ). record { name = p.name; place = p.place; bytes = held }) (bytes_at-same new old p.place p.size (λ i within.
    same (p.place + i) (
      place_beside top p i zoned.0 within,
      elim apart.0.ranges as (λ _. (p.place + i < last.place) ⊎ (last.place + last.size ≤ p.place + i)) [
        | inl l ↦ inl (omega arith)
        | inr l ↦ inr (omega arith)
      ],
    ))))
    (files_stay top select last old new before same apart.1 zoned.1)

-- the files before the last hold what they held while it is read, and where one is read into the buffer none is placed
pub front_beside : (May : Answers) (items : List Item) (top : ℕ) (w : LoadState) (m : Memory) (reading : Reading) (known : Knows May items w reading)
    → ArePlaced top w.placed → AllByRecursion (IsZoned top) w.placed
    → ((address : ℕ) → IsBesideRead address descriptor_at (read_by May items w reading known).transfer → at m address ≡ at (memory_of w) address)
    → FrontStays w m
front_beside May items top w m read.Count known apart zoned same before last are = none_before w.placed before last known.placed are
front_beside May items top w m (read.Entries size taken) known apart zoned same before last are = none_before w.placed before last known.placed are
front_beside May items top w m (read.Commands select size taken) known apart zoned same before last are =
    none_before w.placed before last known.placed are
front_beside May items top w m (read.File index) known apart zoned same before last are =
    let same_last = same_end w.placed known.before before known.last last known.placed_are are in
    subst (λ (front : List PlacedFile). files_in m front ≡ files_in (memory_of w) front) same_last
    (files_stay top known.file.select known.last (memory_of w) m known.before same
    (are_before top w.placed known.before known.last known.placed_are apart).apart
    (of_before (IsZoned top) w.placed known.before known.last known.placed_are zoned))
