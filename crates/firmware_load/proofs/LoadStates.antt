-- States of a load whose guest has changed, and of a world that holds a load.
use Rattle.std.proofs.Common.{◌≡◌, List, Bool, Option, Some, IfSome, sym, ap, ap₂, subst, ◌∙◌}
use Rattle.cfg_directory.specs.declared.listed.Listed.{Listed}
use Rattle.loader_script.specs.declared.entry.Entry.{Entry}
use Rattle.cfg_dma.specs.Transfers.{Attached, attached}
use Rattle.command_acts.specs.declared.placements.Placements.{Placements}
use Rattle.load_states.specs.declared.stage.Stage.{Stage}
use Rattle.load_states.specs.LoadState.{LoadState}
use Rattle.firmware_load.specs.declared.guest.Guest.{Guest}
use Rattle.firmware_load.specs.declared.loading.Loading.{Loading}
use Rattle.firmware_load.specs.World.{WorldState}
use Rattle.firmware_load.specs.Inside.{load_at, load_of, world_in}

-- a guest with another device or memory, and with the same placements
pub load_moved : (old new : Guest) (after : Attached) (its_stage : Stage) (its_listed : List Listed) (its_script : List Entry)
    → attached new.device new.memory.memory ≡ after → new.placements ≡ old.placements
    → load_at new its_stage its_listed its_script ≡ record (load_at old its_stage its_listed its_script) { attached = after }
load_moved old new after its_stage its_listed its_script moved same =
    let made : Attached → Placements → LoadState = λ a p. record {
      attached = a;
      stage = its_stage;
      listed = its_listed;
      script = its_script;
      placed = p.placed.items;
    } in
    ap₂ made moved same

-- what holds of a load and of its frames, said of a world that holds the load
pub of_world : (Holds : LoadState → List Bool → Type 0) (seen : WorldState) (loading : Option Loading) (l : Loading) → world_in loading ≡ seen
    → loading ≡ Some l → Holds (load_of l) l.guest.memory.touched → IfSome seen.load (λ w. Holds w seen.touched)
of_world Holds seen loading l is there holds =
    subst (λ (w : WorldState). IfSome w.load (λ load. Holds load w.touched)) (ap world_in (sym there) ∙ is) holds
