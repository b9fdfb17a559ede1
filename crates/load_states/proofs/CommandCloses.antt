-- The closing step, behind the last command.
use Rattle.std.proofs.Common.{◌≡◌, ℕ, ◌+◌, ◌-◌, ◌<◌, ◌≤◌, ◌⊎◌, true, false, List, [], length, replicate, Result, Ok}
use Rattle.std.proofs.Common.{inl, inr, arith, refl, ap, sym, subst, ◌∙◌}
use Rattle.std.proofs.lemmas.Bool.Decides.{nat_tests}
use Rattle.std.proofs.lemmas.List.{get_or-replicate, length-replicate, take_all}
use Rattle.std.specs.Prelude.{IfOk}
use Rattle.vt_bytes.specs.Memory.{Memory, IsMemory, IsRamRange, at, with_bytes}
use Rattle.vt_bytes.proofs.Memories.{byte_with, others_with, lawful_with}
use Rattle.loader_script.specs.declared.entry.Entry.{Entry}
use Rattle.loader_script.specs.Run.{Placed, Done, opening}
use Rattle.cfg_directory.specs.Files.{files_of}
use Rattle.command_acts.specs.FilesInMemory.{files_in, placed_ranges}
use Rattle.command_acts.specs.declared.fault.LoadFault.{LoadFault}
use Rattle.command_acts.specs.Runs.{Answers, EndsWith, at_files}
use Rattle.load_states.specs.declared.stage.Stage.TheVariants.{AtCommand}
use Rattle.load_states.specs.Guarded.{descriptor_at, buffer_at, buffer_size, is_work}
use Rattle.load_states.specs.LoadState.{LoadState, Opening, memory_of, items_now, files_now, progress_of}
use Rattle.load_states.specs.Steps.{cleared, closed}
use Rattle.load_states.specs.Kept.{KeepsNow, StageKeeps, IsCleared}
use Rattle.load_states.specs.Moves.{moves}
use Rattle.load_states.proofs.Frames.{KeepsOn, kept_from, files_same, beside_work, descriptor_ram, buffer_ram}
use Rattle.load_states.proofs.Fronts.{all_done}
use Rattle.load_states.proofs.CommandCauses.{ended_run}
use Rattle.load_states.proofs.Zoned.{zoned_files}

-- a range that is filled holds the fill byte
pub filled_there : (m : Memory) (start count fill address : ℕ) → IsMemory m → IsRamRange m.top start count → start ≤ address → address < start + count
    → at (with_bytes m start (replicate count fill)) address ≡ fill
filled_there m start count fill address lawful ram from below =
    let i = address - start in
    let place : address ≡ start + i = omega arith in
    let within : i < count = omega arith in
    ap (at (with_bytes m start (replicate count fill))) place
    ∙ byte_with m start (replicate count fill) i lawful (λ k less. ram k (omega (arith, length-replicate count fill)))
    (omega (arith, length-replicate count fill))
    ∙ get_or-replicate count i fill 0 within

-- and other bytes stay
pub filled_other : (m : Memory) (start count fill address : ℕ) → IsMemory m → (address < start) ⊎ (start + count ≤ address)
    → at (with_bytes m start (replicate count fill)) address ≡ at m address
filled_other m start count fill address lawful other =
    others_with m start (replicate count fill) address lawful
    (subst (λ (n : ℕ). (address < start) ⊎ (start + n ≤ address)) (sym (length-replicate count fill)) other)

-- an address of the work range is one of the descriptor or of the buffer
work_parts : (address : ℕ) → is_work address ≡ true
    → ((descriptor_at ≤ address) × (address < descriptor_at + 16)) ⊎ ((buffer_at ≤ address) × (address < buffer_at + 4096))
work_parts address is = grind (arith, nat_tests)

-- clearing leaves the bytes outside of the work range
cleared_other : (m : Memory) (address : ℕ) → IsMemory m → is_work address ≡ false → at (cleared m) address ≡ at m address
cleared_other m address lawful other =
    let beside = beside_work address other in
    let first = with_bytes m descriptor_at (replicate 16 m.fill) in
    filled_other first buffer_at buffer_size m.fill address (lawful_with m descriptor_at (replicate 16 m.fill) lawful) beside.1
    ∙ filled_other m descriptor_at 16 m.fill address lawful beside.0

-- and fills those of it
cleared_work : (m : Memory) → IsMemory m → IsCleared (cleared m)
cleared_work m lawful address work =
    let first = with_bytes m descriptor_at (replicate 16 m.fill) in
    let first_lawful = lawful_with m descriptor_at (replicate 16 m.fill) lawful in
    elim (work_parts address work) as (λ _. at (cleared m) address ≡ m.fill) [
      | inl is ↦
          filled_other first buffer_at buffer_size m.fill address first_lawful (inl (omega (arith, is.1)))
          ∙ filled_there m descriptor_at 16 m.fill address lawful (descriptor_ram m.top) is.0 is.1
      | inr is ↦ filled_there first buffer_at buffer_size m.fill address first_lawful (buffer_ram m.top) is.0 is.1
    ]

-- placed files stay
files_cleared : (May : Answers) (its : Opening) (w : LoadState) → KeepsNow May its w → files_in (cleared (memory_of w)) w.placed ≡ files_now w
files_cleared May its w kept =
    files_same its.top (memory_of w) (cleared (memory_of w)) w.placed kept.top kept.loading.apart (zoned_files kept)
    (λ address ram guarded other. cleared_other (memory_of w) address kept.memory other)

-- The firmware closes the load behind the last command.
pub closed_keeps : (May : Answers) (its : Opening) (w : LoadState) (index : ℕ) → KeepsNow May its w → StageKeeps May its.items w (AtCommand index)
    → length w.script ≤ index → KeepsOn May its w (closed w)
closed_keeps May its w index kept keeps past =
    let m = memory_of w in
    let ends = all_done May (files_of its.items) w.script index (placed_ranges w.placed) (progress_of w) past keeps.3 in
    let same = files_cleared May its w kept in
    kept_from May its w (closed w) kept
    (record {
      room = refl;
      opening = refl;
      device = kept.device;
      memory = lawful_with (with_bytes m descriptor_at (replicate 16 m.fill)) buffer_at (replicate buffer_size m.fill)
          (lawful_with m descriptor_at (replicate 16 m.fill) kept.memory);
      top = refl;
      fill = refl;
    }) refl refl
    (λ address ram other beside. cleared_other m address kept.memory other) kept.stands (
      ended_run May its.items w.script Done (Ok tt) (closed w) keeps.2.idle keeps.0.script
          (subst (λ (now : List Placed). EndsWith May 0 w.script (opening (files_of its.items) []) Done (at_files (files_of (items_now w)) now []))
          (sym same) ends) refl,
      subst (λ (r : Result (List Entry) LoadFault). IfOk r (λ script. w.attached.device.finished ≡ moves its.items script w.placed)) (sym keeps.0.script)
          (keeps.2.finished ∙ ap (λ (commands : List Entry). moves its.items commands w.placed) (take_all index w.script past)),
      cleared_work m kept.memory,
    )
