-- A step of the firmware that asks for a read keeps what the load keeps.
use Rattle.std.proofs.Common.{◌≡◌, ℕ, ◌<◌, List, length, map, None, inl, false, arith, refl, sym, ap, subst, ◌∙◌}
use Rattle.vt_bytes.specs.Memory.{Memory, IsMemory, at}
use Rattle.vt_bytes.proofs.Memories.{others_with}
use Rattle.cfg_directory.specs.declared.item.Item.{Item}
use Rattle.cfg_directory.specs.Shapes.{shape_of}
use Rattle.cfg_dma.specs.Device.{IsDevice}
use Rattle.cfg_dma.specs.declared.transfer.Finished.{Finished}
use Rattle.cfg_dma.specs.Transfers.{Attached, room_of}
use Rattle.cfg_dma.specs.Reads.{IsMoving, CanRead, GoesOn, AsksFor, started, descriptor_bytes}
use Rattle.cfg_dma.proofs.Standing.{read_stands, started_address}
use Rattle.cfg_dma.proofs.Started.{read_is_started}
use Rattle.command_acts.specs.Runs.{Answers}
use Rattle.load_states.specs.declared.reading.Reading.{Reading}
use Rattle.load_states.specs.declared.stage.Stage.TheVariants.{Asks, Awaits}
use Rattle.load_states.specs.Guarded.{descriptor_at, is_work}
use Rattle.load_states.specs.LoadState.{LoadState, Opening}
use Rattle.load_states.specs.Steps.{Asking, asking, firmware_step}
use Rattle.load_states.specs.Kept.{KeepsNow, StageKeeps, LoadRead, IsAwaiting, read_by}
use Rattle.load_states.proofs.Frames.{KeepsOn, kept_from, beside_work}
use Rattle.load_states.proofs.Known.{known_still, front_outside, can_read, some_read, few_before, asking_is}
use Rattle.load_states.proofs.Taken.{going_on}
use Rattle.load_states.proofs.Zoned.{zoned_files}

-- What a read that is started leads to: it is awaited, the device and memory go on, and memory outside of the work range stays.
abbrev pub StartsOn : LoadRead → Attached → Attached → Type 0
StartsOn r a after =
    IsMoving after.device.items r.before descriptor_at r.control r.transfer after × GoesOn a after × (after.device.items ≡ a.device.items)
    × ((address : ℕ) → is_work address ≡ false → at after.memory address ≡ at a.memory address)

-- the device and memory once it is started
abbrev pub started_by : LoadRead → Attached → Attached
started_by r a = started descriptor_at r.control r.transfer.length r.transfer.address a

-- a read that can be carried out, and for which there is room, is started
pub starts_on : (top : ℕ) (r : LoadRead) (a : Attached) → a.memory.top ≡ top → IsDevice a.device
    → IsMemory a.memory → a.device.flight ≡ None → a.device.finished ≡ r.before → length r.before < room_of a.device
    → CanRead a.device.items top descriptor_at r.transfer → AsksFor r.control a.device r.transfer → StartsOn r a (started_by r a)
starts_on top r a its_top device memory idle finished room can asks =
    let transfer : Finished = r.transfer in
    let spare : 0 < a.device.spare = omega (arith, ap length finished) in
    let here : CanRead a.device.items a.memory.top descriptor_at transfer =
    subst (λ t. CanRead a.device.items t descriptor_at transfer) (sym its_top) can in
    let after = started_by r a in
    let spelled = descriptor_bytes r.control transfer.length transfer.address in
    let starts = read_is_started a r.before descriptor_at r.control transfer device memory idle spare finished here asks in (
      subst (λ (is : List Item). IsMoving is r.before descriptor_at r.control transfer after) (sym starts.2) starts.0,
      starts.1,
      starts.2,
      λ address other.
          ap (λ (m : Memory). at m address) starts.3
          ∙ others_with a.memory descriptor_at spelled address memory (beside_work address other).0,
    )

-- What is asked for is awaited then.
pub asks_keeps : (May : Answers) (its : Opening) (w : LoadState) (reading : Reading) → KeepsNow May its w → StageKeeps May its.items w (Asks reading)
    → KeepsOn May its w (firmware_step (Asks reading) None w)
asks_keeps May its w reading kept keeps =
    let buffered = keeps.0 in
    let known = keeps.1.0 in
    let next = keeps.1.1 in
    let r = read_by May its.items w reading known in
    let few = few_before May its.items w reading buffered known in
    let starts = starts_on its.top r w.attached kept.top kept.device kept.memory next.idle.idle next.idle.finished
    (omega (arith, few, kept.room)) (can_read May its w reading kept known (some_read May its.items w reading buffered known)) next.asks in
    let after = started_by r w.attached in
    let still = known_still May its.items w after (Awaits reading) reading starts.2
    (front_outside its.top w after.memory kept.top kept.loading.apart (zoned_files kept) (λ address ram guarded other. starts.3 address other)) known in
    let there : LoadState = going_on w after (Awaits reading) in
    subst (λ (what : Asking). KeepsOn May its w (asking reading what w))
    (sym (asking_is May its.items w reading buffered known))
    (kept_from May its w there kept starts.1 (ap (map shape_of) starts.2) refl
    (λ address ram other beside. starts.3 address other)
    (read_stands after.device.items r.before descriptor_at r.control r.transfer after (inl starts.0)
    (started_address descriptor_at r.control r.transfer.length r.transfer.address w.attached))
    (still.known, subst (IsAwaiting there) (sym still.same) (inl starts.0)))
