-- What a step of the load leaves as it was.
use Rattle.std.proofs.Common.{◌≡◌, ℕ, ◌+◌, ◌<◌, ◌≤◌, ◌⊎◌, inl, inr, true, false, List, [], ◌∷◌, length, ◌&&◌}
use Rattle.std.proofs.Common.{arith, refl, sym, ap, ap₂, subst, ◌∙◌}
use Rattle.std.specs.Prelude.{nat_lt, nat_le, ◌||◌}
use Rattle.std.specs.List.{AllByRecursion}
use Rattle.std.proofs.lemmas.Bool.{leb-false, ltb-false, le-leb, lt-ltb, and_from, and_cases, or_parts, or_left, or_right}
use Rattle.vt_outside.specs.Placement.{high_zone}
use Rattle.vt_bytes.specs.Memory.{Memory, IsRam, at}
use Rattle.vt_bytes.proofs.Bytes.{bytes_at-same}
use Rattle.loader_script.specs.declared.refusing.FileInfo.{FileInfo}
use Rattle.loader_script.specs.Run.{Placed, infos_of}
use Rattle.cfg_directory.specs.Files.{files_of}
use Rattle.cfg_directory.specs.Shapes.{HaveOneShape}
use Rattle.cfg_dma.specs.Device.{StandsWhereLeft}
use Rattle.cfg_dma.specs.Reads.{GoesOn}
use Rattle.command_acts.specs.declared.placed.PlacedFile.{PlacedFile}
use Rattle.command_acts.specs.FilesInMemory.{files_in, ArePlaced, IsBeside, IsLoading}
use Rattle.command_acts.specs.Placing.{count_places, places_in}
use Rattle.command_acts.specs.Runs.{Answers}
use Rattle.load_states.specs.Guarded.{descriptor_at, buffer_at, is_work, is_guarded}
use Rattle.load_states.specs.LoadState.{LoadState, Opening, memory_of, items_now}
use Rattle.load_states.specs.Kept.{KeepsNow, StageKeeps, IsInZone, IsFilledBios}
use Rattle.load_states.proofs.Zoned.{IsZoned, above_work, bios_ram}
use Rattle.load_states.proofs.Shaped.{same_infos, loading_shaped}

-- ---- the work range

-- the descriptor stands in RAM
pub descriptor_ram : (top i : ℕ) → i < 16 → IsRam top (descriptor_at + i)
descriptor_ram top i within = inl (omega arith, omega arith)

-- so does the buffer
pub buffer_ram : (top i : ℕ) → i < 4096 → IsRam top (buffer_at + i)
buffer_ram top i within = inl (omega arith, omega arith)

-- the descriptor is in the work range
pub descriptor_is_work : (i : ℕ) → i < 16 → is_work (descriptor_at + i) ≡ true
descriptor_is_work i within =
    let address = descriptor_at + i in
    or_left (nat_le descriptor_at address && nat_lt address 0x7010) (nat_le buffer_at address && nat_lt address 0x9000)
    (and_from (nat_le descriptor_at address) (nat_lt address 0x7010) (le-leb descriptor_at address (omega arith))
    (lt-ltb address 0x7010 (omega arith)))

-- so is the buffer
pub buffer_is_work : (i : ℕ) → i < 4096 → is_work (buffer_at + i) ≡ true
buffer_is_work i within =
    let address = buffer_at + i in
    or_right (nat_le descriptor_at address && nat_lt address 0x7010) (nat_le buffer_at address && nat_lt address 0x9000)
    (and_from (nat_le buffer_at address) (nat_lt address 0x9000) (le-leb buffer_at address (omega arith)) (lt-ltb address 0x9000 (omega arith)))

-- the work range is guarded
pub work_is_guarded : (top address : ℕ) → is_work address ≡ true → is_guarded top address ≡ true
work_is_guarded top address is =
    or_left (is_work address || (nat_le 0xE0000 address && nat_lt address 0x100000))
    (nat_le (high_zone top).start address && nat_lt address top)
    (or_left (is_work address) (nat_le 0xE0000 address && nat_lt address 0x100000) is)

-- an address that isn't in a range is below it or from its end on
outside : (address start end : ℕ) → (nat_le start address && nat_lt address end) ≡ false → (address < start) ⊎ (end ≤ address)
outside address start end is =
    elim (and_cases (nat_le start address) (nat_lt address end) is) as (λ _. (address < start) ⊎ (end ≤ address)) [
      | inl below ↦ inl (leb-false start address below)
      | inr from ↦ inr (ltb-false address end from)
    ]

-- an address that isn't in the work range is beside the descriptor and beside the buffer
pub beside_work : (address : ℕ) → is_work address ≡ false
    → ((address < descriptor_at) ⊎ (descriptor_at + 16 ≤ address)) × ((address < buffer_at) ⊎ (buffer_at + 4096 ≤ address))
beside_work address is =
    let ranges = or_parts (nat_le descriptor_at address && nat_lt address 0x7010) (nat_le buffer_at address && nat_lt address 0x9000) is in (
      outside address descriptor_at 0x7010 ranges.0,
      outside address buffer_at 0x9000 ranges.1,
    )

-- ---- placed files

-- files hold the same bytes where guarded places beside the work range do
pub files_same : (top : ℕ) (before after : Memory) (placed : List PlacedFile) → before.top ≡ top → ArePlaced top placed
    → AllByRecursion (IsZoned top) placed
    → ((address : ℕ) → IsRam top address → is_guarded top address ≡ true → is_work address ≡ false → at after address ≡ at before address)
    → files_in after placed ≡ files_in before placed
files_same top before after [] its_top apart zoned same = refl
files_same top before after (p ∷ placed) its_top apart zoned same =
    ap₂ (λ (x : Placed) (xs : List Placed). x ∷ xs)
    (ap (λ (held : List ℕ). record { name = p.name; place = p.place; bytes = held }) (bytes_at-same after before p.place p.size
    (λ i within. same (p.place + i) (apart.0 i within) (zoned.0 i within).0 (zoned.0 i within).1)))
    (files_same top before after placed its_top apart.3 zoned.1 same)

-- ---- what is kept

-- What a step of the firmware or of the device leaves: what a load keeps at each moment, and memory as it was outside of the work range and of
-- placed files, where more may be placed than were.
pub record KeepsOn (May : Answers) (its : Opening) (w next : LoadState) : Type 0 where
  pub now : KeepsNow May its next
  pub beside : (address : ℕ) → AllByRecursion (IsBeside address) next.placed → AllByRecursion (IsBeside address) w.placed
  pub outside : (address : ℕ) → IsRam its.top address → is_work address ≡ false → AllByRecursion (IsBeside address) next.placed
      → at (memory_of next) address ≡ at (memory_of w) address

-- the BIOS area is outside of the work range
pub bios_outside : (May : Answers) (its : Opening) (w next : LoadState) → KeepsNow May its w
    → ((address : ℕ) → AllByRecursion (IsBeside address) next.placed → AllByRecursion (IsBeside address) w.placed)
    → ((address : ℕ) → IsRam its.top address → is_work address ≡ false → AllByRecursion (IsBeside address) next.placed
    → at (memory_of next) address ≡ at (memory_of w) address)
    → IsFilledBios its.fill next
bios_outside May its w next kept beside same address from below other =
    same address (bios_ram its.top address from below) (above_work address (omega arith)) other ∙ kept.bios address from below (beside address other)

-- A step goes so if it changes no byte but in the work range and in placed files, and of its.items their bytes at most, places no file, and what holds
-- at its new stage holds.
pub kept_from : (May : Answers) (its : Opening) (w next : LoadState)
    → KeepsNow May its w → GoesOn w.attached next.attached → HaveOneShape (items_now w) (items_now next)
    → next.placed ≡ w.placed
    → ((address : ℕ) → IsRam its.top address → is_work address ≡ false → AllByRecursion (IsBeside address) w.placed
    → at (memory_of next) address ≡ at (memory_of w) address)
    → StandsWhereLeft next.attached.device → StageKeeps May its.items next next.stage → KeepsOn May its w next
kept_from May its w next kept goes shape placed same stands stage =
    let before : (address : ℕ) → AllByRecursion (IsBeside address) next.placed → AllByRecursion (IsBeside address) w.placed =
    λ address beside. subst (AllByRecursion (IsBeside address)) placed beside in
    let outside : (address : ℕ) → IsRam its.top address → is_work address ≡ false → AllByRecursion (IsBeside address) next.placed
    → at (memory_of next) address ≡ at (memory_of w) address = λ address ram other beside. same address ram other (before address beside) in
    record {
      now = record {
        lawful = kept.lawful;
        names = kept.names;
        opening = goes.opening ∙ kept.opening;
        shape = shape ∙ kept.shape;
        device = goes.device;
        room = goes.room ∙ kept.room;
        stands = stands;
        memory = goes.memory;
        top = goes.top ∙ kept.top;
        fill = goes.fill ∙ kept.fill;
        loading = subst (IsLoading its.top (files_of (items_now next))) (sym placed)
            (loading_shaped its.top (items_now w) (items_now next) w.placed shape kept.loading);
        zones = subst (AllByRecursion (IsInZone its.top)) (sym placed) kept.zones;
        count = subst (λ (files : List PlacedFile). length files ≡ count_places (places_in files (infos_of (files_of (items_now next))))) (sym placed)
            (subst (λ (infos : List FileInfo). length w.placed ≡ count_places (places_in w.placed infos))
            (sym (same_infos (items_now w) (items_now next) shape)) kept.count);
        bios = bios_outside May its w next kept before outside;
        stage = stage;
      };
      beside = before;
      outside = outside;
    }
