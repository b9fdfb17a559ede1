-- What the firmware has taken and placed is the same at another device, memory and stage.
use Rattle.std.proofs.Common.{◌≡◌, ℕ, List, ◌∙◌}
use Rattle.cfg_directory.specs.declared.item.Item.{Item}
use Rattle.cfg_dma.specs.Transfers.{Attached}
use Rattle.load_states.specs.declared.stage.Stage.{Stage}
use Rattle.load_states.specs.LoadState.{LoadState, items_now}
use Rattle.load_states.specs.Kept.{HasNothing, HasEntries, HasCommands, HasScript}

-- the load with this device and memory, at this stage
abbrev pub going_on : LoadState → Attached → Stage → LoadState
going_on w a s = record w { attached = a; stage = s }

-- nothing is taken still
abbrev pub nothing_still : (items : List Item) (w : LoadState) (a : Attached) (s : Stage) → a.device.items ≡ items_now w → HasNothing items w
    → HasNothing items (going_on w a s)
nothing_still items w a s same has = record { begun = same ∙ has.begun; listed = has.listed; script = has.script; placed = has.placed }

-- as many entries are taken
abbrev pub entries_still : (items : List Item) (size taken : ℕ) (w : LoadState) (a : Attached) (s : Stage) → a.device.items ≡ items_now w
    → HasEntries items size taken w
    → HasEntries items size taken (going_on w a s)
entries_still items size taken w a s same has = record {
  begun = same ∙ has.begun;
  pieces = has.pieces;
  taken_is = has.taken_is;
  size_is = has.size_is;
  some_left = has.some_left;
  listed = has.listed;
  script = has.script;
  placed = has.placed;
}

-- as many commands are taken
abbrev pub commands_still : (items : List Item) (select size taken : ℕ) (w : LoadState) (a : Attached) (s : Stage)
    → a.device.items ≡ items_now w → HasCommands items select size taken w → HasCommands items select size taken (going_on w a s)
commands_still items select size taken w a s same has = record {
  begun = same ∙ has.begun;
  pieces = has.pieces;
  taken_is = has.taken_is;
  some_left = has.some_left;
  loader = has.loader;
  there = has.there;
  select_is = has.select_is;
  size_is = has.size_is;
  whole = has.whole;
  whole_is = has.whole_is;
  listed = has.listed;
  script = has.script;
  placed = has.placed;
}

-- the whole script is taken still
abbrev pub script_still : (items : List Item) (w : LoadState) (a : Attached) (s : Stage) → HasScript items w → HasScript items (going_on w a s)
script_still items w a s has = record { listed = has.listed; script = has.script }
