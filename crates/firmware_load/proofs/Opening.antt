-- What a load keeps when it begins.
use Rattle.std.proofs.Common.{◌≡◌, ℕ, ◌≤◌, ◌∙◌, List, [], length, Result, Ok, Err, IfOk, vec_capacity, arith, refl, sym, ap, ap₂, subst}
use Rattle.std.specs.List.{AllByRecursion}
use Rattle.vt_outside.specs.Name.{IsName}
use Rattle.vt_bytes.specs.Memory.{IsTop, IsMemory, IsRam, at}
use Rattle.cfg_directory.specs.declared.item.Item.{Item}
use Rattle.cfg_directory.specs.Items.{IsItems}
use Rattle.cfg_directory.specs.Files.{files_of}
use Rattle.loader_script.specs.declared.entry.Entry.{Entry}
use Rattle.loader_script.specs.Run.{infos_of}
use Rattle.cfg_dma.specs.Device.{DeviceState}
use Rattle.command_acts.specs.Placing.{ArePlacements}
use Rattle.command_acts.specs.Runs.{Answers}
use Rattle.command_acts.specs.declared.fault.LoadFault.{LoadFault}
use Rattle.command_acts.specs.Script.{script_in}
use Rattle.load_states.specs.LoadState.{Opening, begun_with, opening_of}
use Rattle.load_states.specs.Loads.{IsBegun, begun_device}
use Rattle.load_states.specs.Steps.{opening_stage}
use Rattle.load_states.specs.Runs.{AnyLawful}
use Rattle.load_states.proofs.Opening.{begun_keeps}
use Rattle.firmware_load.specs.declared.loading.Loading.{Loading}
use Rattle.firmware_load.specs.Inside.{load_of, IsInside, KeepsInside, IsOnRun}

-- there is room for a script where there is room for more
pub room_more : (decoded : Result (List Entry) LoadFault) (few many : ℕ) → few ≤ many → IfOk decoded (λ script. length script ≤ few)
    → IfOk decoded (λ script. length script ≤ many)
room_more (Ok script) few many more room = omega arith
room_more (Err why) few many more room = tt

-- A load as it is begun: what each of its parts says when it is made.
pub record IsOpening (its : Opening) (l : Loading) : Type 0 where
  pub lawful : IsItems its.items
  pub names : AllByRecursion (λ (item : Item). IsName item.name) its.items
  pub device_is : l.guest.device ≡ begun_device its.items
  pub memory : IsMemory l.guest.memory.memory
  pub top_is : l.guest.memory.memory.top ≡ its.top
  pub fill_is : l.guest.memory.memory.fill ≡ its.fill
  pub filled : (address : ℕ) → IsRam its.top address → at l.guest.memory.memory address ≡ its.fill
  pub is_top : IsTop its.top
  pub stage : l.stage ≡ opening_stage
  pub listed : l.listed.items ≡ []
  pub script : l.script.items ≡ []
  pub placed : l.guest.placements.placed.items ≡ []
  pub placements : ArePlacements l.guest.placements
  pub infos : l.guest.placements.infos.items ≡ infos_of (files_of its.items)
  pub listed_room : length its.items ≤ vec_capacity l.listed
  pub script_room : IfOk (script_in its.items) (λ script. length script ≤ vec_capacity l.script)

-- its load is one that is begun
pub opening_begun : (its : Opening) (l : Loading) → IsOpening its l → IsBegun its (load_of l)
opening_begun its l opening = record {
  lawful = opening.lawful;
  names = opening.names;
  opening = ap₂ (λ (top fill : ℕ). begun_with l.guest.device.opening top fill) opening.top_is opening.fill_is
      ∙ ap (λ (d : DeviceState). begun_with d.opening its.top its.fill) opening.device_is;
  device = opening.device_is;
  memory = opening.memory;
  blank = λ address ram. opening.filled address (subst (λ t. IsRam t address) opening.top_is ram) ∙ sym opening.fill_is;
  nothing = record { begun = ap (λ (d : DeviceState). d.items) opening.device_is; listed = opening.listed; script = opening.script; placed = opening.placed };
  stage = opening.stage;
}

-- It keeps inside what a load keeps.
pub opening_inside : (its : Opening) (l : Loading) → IsOpening its l → IsInside its l
opening_inside its l opening = record {
  kept = (begun_keeps (AnyLawful its.top) its (load_of l) (opening_begun its l opening)).now;
  rooms = record {
    listed = opening.listed_room;
    script = opening.script_room;
    infos = opening.infos;
    placements = opening.placements;
  };
}

-- a load that was just begun was begun with the items that it has
pub opening_inside_own : (l : Loading) → KeepsInside l → IsBegun (opening_of (load_of l)) (load_of l)
    → (top fill : ℕ) × IsInside (begun_with l.guest.device.items top fill) l
opening_inside_own l inside begun =
    let own : inside.0.items ≡ l.guest.device.items = sym (ap (λ (d : DeviceState). d.items) begun.device ∙ inside.1.kept.opening) in
    (inside.0.top, inside.0.fill, subst (λ (items : List Item). IsInside (begun_with items inside.0.top inside.0.fill) l) own inside.1)

-- A load that was just begun is at the start of its run, however places will be answered.
pub opening_on_run : (May : Answers) (l : Loading) → IsBegun (opening_of (load_of l)) (load_of l) → IsOnRun May (load_of l) [] (load_of l)
opening_on_run May l begun = record { ran = refl; kept = begun_keeps May (opening_of (load_of l)) (load_of l) begun }
