-- A piece of the device's transfer keeps what the load keeps.
use Rattle.std.proofs.Common.{◌≡◌, ℕ, ◌<◌, false, ◌+◌, List, [], ◌∷◌, ◌++◌, length, map, Option, None, inl, inr}
use Rattle.std.proofs.Common.{arith, refl, sym, ap, subst, ◌∙◌}
use Rattle.std.specs.List.{AllByRecursion}
use Rattle.vt_bytes.specs.Memory.{Memory, IsMemory, IsRam, at}
use Rattle.cfg_directory.specs.declared.item.Item.{Item}
use Rattle.cfg_directory.specs.Shapes.{shape_of, HaveOneShape}
use Rattle.vt_bytes.proofs.Numbers.{length-le_bytes}
use Rattle.cfg_dma.specs.Device.{IsDevice, StandsWhereLeft}
use Rattle.cfg_dma.proofs.Standing.{piece_address, read_stands, write_stands}
use Rattle.cfg_dma.specs.declared.transfer.Finished.{Finished}
use Rattle.cfg_dma.specs.Transfers.{Attached, piece}
use Rattle.cfg_dma.specs.Reads.{IsAwaited, CanRead, GoesOn, IsBesideRead}
use Rattle.cfg_dma.specs.Writes.{CanWrite, IsWriteAwaited, skip_of, write_of}
use Rattle.cfg_dma.proofs.Awaited.{read_moves_on, piece_idle}
use Rattle.cfg_dma.proofs.WriteAwaited.{write_moves_on, written_items}
use Rattle.command_acts.specs.declared.placed.PlacedFile.{PlacedFile}
use Rattle.command_acts.specs.FilesInMemory.{IsBeside, files_in, place_of}
use Rattle.command_acts.specs.Runs.{Answers}
use Rattle.load_states.specs.declared.event.Event.TheVariants.{Device}
use Rattle.load_states.specs.declared.stage.Stage.{Stage}
use Rattle.load_states.specs.declared.reading.Reading.{Reading}
use Rattle.load_states.specs.declared.stage.Stage.TheVariants.{Asks, Awaits, AtCommand, AwaitsSkip, AsksWrite, AwaitsWrite, Done, Refused}
use Rattle.load_states.specs.Guarded.{descriptor_at, buffer_at, is_work}
use Rattle.load_states.specs.LoadState.{LoadState, Opening, memory_of, items_now, files_now}
use Rattle.load_states.specs.Steps.{step, number_for}
use Rattle.load_states.specs.Kept.{KeepsNow, StageKeeps, IsAwaiting, read_by, moves_before}
use Rattle.load_states.proofs.Known.{front_beside, known_still, can_read, beside_read}
use Rattle.load_states.proofs.Frames.{KeepsOn, kept_from, files_same}
use Rattle.load_states.proofs.Pointing.{can_put, pointing_still, beside_word}
use Rattle.load_states.proofs.Zoned.{zoned_files}

-- ---- the load after a piece

-- the load with this device and memory
abbrev with_attached : LoadState → Attached → LoadState
with_attached w a = record w { attached = a }

-- outside of the work range and of the placed files memory is the same
abbrev StaysAround : ℕ → List PlacedFile → Memory → Memory → Type 0
StaysAround top placed before after =
    (address : ℕ) → IsRam top address → is_work address ≡ false → AllByRecursion (IsBeside address) placed → at after address ≡ at before address

-- What a piece leads to: the load goes on, with items of one shape, memory stays around, the device stands where it should, and what holds at its
-- stage holds.
abbrev LeadsOn : Answers → List Item → ℕ → LoadState → Stage → Attached → Type 0
LeadsOn May items top w s a =
    GoesOn w.attached a × HaveOneShape (items_now w) a.device.items × StaysAround top w.placed w.attached.memory a.memory
    × StandsWhereLeft a.device × StageKeeps May items (with_attached w a) s

-- where no transfer is in flight nothing changes
idle_leads : (May : Answers) (its : Opening) (bytes : ℕ) (w : LoadState) (s : Stage) → KeepsNow May its w → w.attached.device.flight ≡ None
    → StageKeeps May its.items w s → LeadsOn May its.items its.top w s (piece bytes w.attached)
idle_leads May its bytes w s kept idle keeps =
    subst (λ (a : Attached). LeadsOn May its.items its.top w s a) (sym (piece_idle bytes w.attached idle)) (
      record { room = refl; opening = refl; device = kept.device; memory = kept.memory; top = refl; fill = refl },
      refl,
      λ address ram other beside. refl,
      kept.stands,
      keeps,
    )

-- What a piece does to a read that is awaited.
abbrev MovesOn : List Finished → ℕ → Finished → Attached → Attached → Type 0
MovesOn before control transfer a after =
    IsAwaited after.device.items before descriptor_at control transfer after × GoesOn a after × (after.device.items ≡ a.device.items)
    × ((address : ℕ) → IsBesideRead address descriptor_at transfer → at after.memory address ≡ at a.memory address)

-- a read that can be carried out moves on
can_move : (top : ℕ) (before : List Finished) (control : ℕ) (transfer : Finished) (bytes : ℕ) (a : Attached) → a.memory.top ≡ top
    → IsDevice a.device → IsMemory a.memory → CanRead a.device.items top descriptor_at transfer
    → IsAwaited a.device.items before descriptor_at control transfer a → MovesOn before control transfer a (piece bytes a)
can_move top before control transfer bytes a its_top device memory can awaited =
    let here : CanRead a.device.items a.memory.top descriptor_at transfer =
    subst (λ t. CanRead a.device.items t descriptor_at transfer) (sym its_top) can in
    let moved = read_moves_on a before descriptor_at control bytes transfer device memory here awaited in (
      subst (λ (is : List Item). IsAwaited is before descriptor_at control transfer (piece bytes a)) (sym moved.2) moved.0,
      moved.1,
      moved.2,
      moved.3,
    )

-- a read moves on if it can be carried out where it isn't empty
some_move : (top : ℕ) (before : List Finished) (control : ℕ) (transfer : Finished) (bytes : ℕ) (a : Attached) → a.memory.top ≡ top
    → IsDevice a.device → IsMemory a.memory → (0 < transfer.length → CanRead a.device.items top descriptor_at transfer)
    → IsAwaited a.device.items before descriptor_at control transfer a → MovesOn before control transfer a (piece bytes a)
some_move top before control transfer bytes a its_top device memory can awaited =
    elim awaited as (λ _. MovesOn before control transfer a (piece bytes a)) [
      | inl moving ↦
          let left = moving.some_left in
          can_move top before control transfer bytes a its_top device memory (can (omega arith)) (inl moving)
      | inr over ↦
          subst (MovesOn before control transfer a) (sym (piece_idle bytes a over.idle)) (
            inr over,
            record { room = refl; opening = refl; device = device; memory = memory; top = refl; fill = refl },
            refl,
            λ address other. refl,
          )
    ]

-- a piece of a read that is awaited
reading_leads : (May : Answers) (its : Opening) (bytes : ℕ) (w : LoadState) (reading : Reading) → KeepsNow May its w → StageKeeps May its.items w
    (Awaits reading) → LeadsOn May its.items its.top w (Awaits reading) (piece bytes w.attached)
reading_leads May its bytes w reading kept keeps =
    let known = keeps.0 in
    let r = read_by May its.items w reading known in
    let after = piece bytes w.attached in
    let moved = some_move its.top r.before r.control r.transfer bytes w.attached kept.top kept.device kept.memory
    (can_read May its w reading kept known) keeps.1 in
    let still = known_still May its.items w after w.stage reading moved.2
    (front_beside May its.items its.top w after.memory reading known kept.loading.apart (zoned_files kept) moved.3) known in (
      moved.1,
      ap (map shape_of) moved.2,
      λ address ram other beside. moved.3 address (beside_read May its.items w reading known address other beside),
      read_stands after.device.items r.before descriptor_at r.control r.transfer after moved.0 (piece_address bytes w.attached ∙ kept.stands.address),
      (still.known, subst (IsAwaiting (with_attached w after)) (sym still.same) moved.0),
    )

-- a piece of a write that is awaited
writing_leads : (May : Answers) (its : Opening) (bytes index : ℕ) (w : LoadState) → KeepsNow May its w → StageKeeps May its.items w
    (AwaitsWrite index) → LeadsOn May its.items its.top w (AwaitsWrite index) (piece bytes w.attached)
writing_leads May its bytes index w kept keeps =
    let items_before = keeps.0 in
    let known = keeps.1 in
    let number = number_for w known.src known.src_offset known.size in
    let before = moves_before its.items index w w.placed ++ skip_of known.file.select known.dst_offset ∷ [] in
    let transfer = write_of known.file.select known.dst_offset known.size buffer_at in
    let after = piece bytes w.attached in
    let can : CanWrite items_before its.top descriptor_at transfer = can_put May its.items items_before index its.top w known in
    let size : length number ≡ known.size = length-le_bytes known.size (place_of w.placed known.src + known.src_offset) in
    let moved = write_moves_on w.attached items_before number before descriptor_at bytes transfer kept.device kept.memory
    (subst (λ t. CanWrite items_before t descriptor_at transfer) (sym kept.top) can) keeps.2 in
    let outside : (address : ℕ) → is_work address ≡ false → at after.memory address ≡ at (memory_of w) address =
    λ address other. moved.2 address (beside_word address other) in
    let same : files_in after.memory w.placed ≡ files_now w =
    files_same its.top (memory_of w) after.memory w.placed kept.top kept.loading.apart (zoned_files kept)
    (λ address ram guarded other. outside address other) in
    let shaped : (a : Attached) → IsWriteAwaited items_before number before descriptor_at transfer a → HaveOneShape items_before a.device.items = λ a awaited.
    written_items items_before number before its.top descriptor_at transfer a known.lawful.distinct can size awaited in (
      moved.1,
      shaped after moved.0 ∙ sym (shaped w.attached keeps.2),
      λ address ram other beside. outside address other,
      write_stands items_before number before descriptor_at transfer after moved.0 (piece_address bytes w.attached ∙ kept.stands.address),
      (items_before, pointing_still May its.items items_before index w after w.stage same known, moved.0),
    )

-- a piece at each stage
stage_leads : (May : Answers) (its : Opening) (bytes : ℕ) (w : LoadState) (s : Stage) → KeepsNow May its w → StageKeeps May its.items w s
    → LeadsOn May its.items its.top w s (piece bytes w.attached)
stage_leads May its bytes w (Asks reading) kept keeps = idle_leads May its bytes w (Asks reading) kept keeps.1.1.idle.idle keeps
stage_leads May its bytes w (Awaits reading) kept keeps = reading_leads May its bytes w reading kept keeps
stage_leads May its bytes w (AtCommand index) kept keeps = idle_leads May its bytes w (AtCommand index) kept keeps.2.idle keeps
stage_leads May its bytes w (AwaitsSkip index) kept keeps = idle_leads May its bytes w (AwaitsSkip index) kept keeps.1.idle keeps
stage_leads May its bytes w (AsksWrite index) kept keeps = idle_leads May its bytes w (AsksWrite index) kept keeps.1.idle keeps
stage_leads May its bytes w (AwaitsWrite index) kept keeps = writing_leads May its bytes index w kept keeps
stage_leads May its bytes w Done kept keeps = idle_leads May its bytes w Done kept keeps.0.idle keeps
stage_leads May its bytes w (Refused why) kept keeps = idle_leads May its bytes w (Refused why) kept keeps.idle keeps

-- A piece of the device's transfer keeps what the load keeps.
pub device_keeps : (May : Answers) (its : Opening) (w : LoadState) (bytes : ℕ) (answer : Option ℕ) → KeepsNow May its w → KeepsOn May its w
    (step (Device bytes) answer w)
device_keeps May its w bytes answer kept =
    let leads = stage_leads May its bytes w w.stage kept kept.stage in
    kept_from May its w (with_attached w (piece bytes w.attached)) kept leads.0 leads.1 refl leads.2 leads.3 leads.4
