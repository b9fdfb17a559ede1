-- A transfer that is in flight has its descriptor and its range of addresses in RAM, at each stage of the firmware.
use Rattle.std.proofs.Common.{◌≡◌, ℕ, ◌+◌, ◌≤◌, List, Option, None, IfSome, inl, inr, arith, sym, subst}
use Rattle.std.specs.List.{AllByRecursion}
use Rattle.vt_bytes.specs.Memory.{IsRamRange}
use Rattle.cfg_directory.specs.declared.item.Item.{Item}
use Rattle.cfg_dma.specs.declared.transfer.Flight.{Flight}
use Rattle.cfg_dma.specs.declared.transfer.Finished.{Finished}
use Rattle.cfg_dma.specs.Writes.{IsWriteAwaited}
use Rattle.cfg_dma.specs.Transfers.{Attached, CanMove}
use Rattle.command_acts.specs.FilesInMemory.{ArePlaced}
use Rattle.command_acts.specs.Runs.{Answers}
use Rattle.load_states.specs.declared.stage.Stage.{Stage}
use Rattle.load_states.specs.declared.stage.Stage.TheVariants.{Asks, Awaits, AtCommand, AwaitsSkip, AsksWrite, AwaitsWrite, Done, Refused}
use Rattle.load_states.specs.Guarded.{descriptor_at, buffer_at}
use Rattle.load_states.specs.LoadState.{LoadState, Opening, memory_of}
use Rattle.load_states.specs.Kept.{KeepsNow, StageKeeps, LoadRead, IsAwaiting, read_by}
use Rattle.load_states.proofs.Known.{read_guarded}
use Rattle.load_states.proofs.Pointing.{pointer_fits}
use Rattle.load_states.proofs.Zoned.{IsZoned, zoned_files}

-- where no transfer is in flight there is nothing to show
idle_moves : (a : Attached) → a.device.flight ≡ None → CanMove a
idle_moves a idle =
    subst (λ (o : Option Flight). IfSome o (λ (flight : Flight).
    IsRamRange a.memory.top flight.descriptor 16 × IsRamRange a.memory.top flight.transfer.address flight.transfer.length)) (sym idle) tt

-- the range of 640 KiB from address 0 on is RAM
low_ram : (top address count : ℕ) → address + count ≤ 0xA0000 → IsRamRange top address count
low_ram top address count low i within = inl (omega arith, omega arith)

-- a read that is awaited can move where its range is RAM
awaited_moves : (r : LoadRead) (w : LoadState) → IsAwaiting w r
    → IsRamRange (memory_of w).top r.transfer.address r.transfer.length → CanMove w.attached
awaited_moves r w awaited ram = elim awaited as (λ _. CanMove w.attached) [
  | inl moving ↦
      subst (λ (o : Option Flight). IfSome o (λ (flight : Flight).
      IsRamRange (memory_of w).top flight.descriptor 16 × IsRamRange (memory_of w).top flight.transfer.address flight.transfer.length))
      (sym moving.flight) (low_ram (memory_of w).top descriptor_at 16 (omega arith), ram)
  | inr over ↦ idle_moves w.attached over.idle
]

-- so can a write
write_moves : (items : List Item) (bytes : List ℕ) (before : List Finished) (transfer : Finished) (w : LoadState)
    → IsWriteAwaited items bytes before descriptor_at transfer w.attached
    → IsRamRange (memory_of w).top transfer.address transfer.length → CanMove w.attached
write_moves items bytes before transfer w awaited ram = elim awaited as (λ _. CanMove w.attached) [
  | inl writing ↦
      subst (λ (o : Option Flight). IfSome o (λ (flight : Flight).
      IsRamRange (memory_of w).top flight.descriptor 16 × IsRamRange (memory_of w).top flight.transfer.address flight.transfer.length))
      (sym writing.flight) (low_ram (memory_of w).top descriptor_at 16 (omega arith), ram)
  | inr written ↦ idle_moves w.attached written.idle
]

-- a transfer can move at each stage
stage_moves : (May : Answers) (items : List Item) (w : LoadState) (stage : Stage) → ArePlaced (memory_of w).top w.placed
    → AllByRecursion (IsZoned (memory_of w).top) w.placed → StageKeeps May items w stage → CanMove w.attached
stage_moves May items w (Asks reading) placed zoned keeps = idle_moves w.attached keeps.1.1.idle.idle
stage_moves May items w (Awaits reading) placed zoned keeps =
    awaited_moves (read_by May items w reading keeps.0) w keeps.1
    (λ i within. (read_guarded May items (memory_of w).top w reading placed zoned keeps.0 i within).0)
stage_moves May items w (AtCommand index) placed zoned keeps = idle_moves w.attached keeps.2.idle
stage_moves May items w (AwaitsSkip index) placed zoned keeps = idle_moves w.attached keeps.1.idle
stage_moves May items w (AsksWrite index) placed zoned keeps = idle_moves w.attached keeps.1.idle
stage_moves May items w (AwaitsWrite index) placed zoned keeps =
    let few = pointer_fits May items keeps.0 index w keeps.1 in
    write_moves _ _ _ _ w keeps.2 (low_ram (memory_of w).top buffer_at keeps.1.size (omega (arith, few)))
stage_moves May items w Done placed zoned keeps = idle_moves w.attached keeps.0.idle
stage_moves May items w (Refused why) placed zoned keeps = idle_moves w.attached keeps.idle

-- A load's transfer can move.
pub kept_moves : {May : Answers} {its : Opening} {w : LoadState} → KeepsNow May its w
    → CanMove w.attached
kept_moves {May} {its} {w} kept =
    stage_moves May its.items w w.stage (subst (λ t. ArePlaced t w.placed) (sym kept.top) kept.loading.apart)
    (subst (λ t. AllByRecursion (IsZoned t) w.placed) (sym kept.top) (zoned_files kept)) kept.stage
