-- What a load keeps when it is begun.
use Rattle.std.proofs.Common.{◌≡◌, ℕ, List, [], ◌∷◌, length, map, inl, arith, refl, ap, sym, subst, ◌∙◌}
use Rattle.std.specs.List.{AllByRecursion}
use Rattle.vt_bytes.specs.Memory.{IsRam, at}
use Rattle.cfg_directory.specs.declared.item.Item.{Item}
use Rattle.cfg_directory.specs.Items.{IsItems}
use Rattle.cfg_directory.specs.Shapes.{shape_of}
use Rattle.cfg_dma.specs.Device.{DeviceState, IsDevice, StandsWhereLeft}
use Rattle.cfg_dma.specs.Transfers.{room_of}
use Rattle.cfg_directory.specs.Files.{files_of}
use Rattle.loader_script.specs.declared.refusing.FileInfo.{FileInfo}
use Rattle.loader_script.specs.Run.{infos_of}
use Rattle.command_acts.specs.declared.placed.PlacedFile.{PlacedFile}
use Rattle.command_acts.specs.FilesInMemory.{IsLoading}
use Rattle.command_acts.specs.Placing.{count_places, places_in}
use Rattle.command_acts.specs.Runs.{Answers}
use Rattle.load_states.specs.LoadState.{LoadState, Opening, memory_of, items_now}
use Rattle.load_states.specs.Kept.{IsKept, IsInZone, StageKeeps}
use Rattle.load_states.specs.Loads.{IsBegun, begun_device}
use Rattle.load_states.proofs.Zoned.{bios_ram}

-- no files have no places
pub nothing_placed : (infos : List FileInfo) → 0 ≡ count_places (places_in [] infos)
nothing_placed [] = refl
nothing_placed (info ∷ infos) = nothing_placed infos

-- a device that is begun is lawful
begun_lawful : (items : List Item) → IsItems items → IsDevice (begun_device items)
begun_lawful items lawful = record { items = lawful; offset = omega arith; flight = tt }

-- A load that is begun keeps, over no events, what a load keeps, however places will be answered.
pub begun_keeps : (May : Answers) (its : Opening) (w : LoadState) → IsBegun its w → IsKept May its [] w
begun_keeps May its w begun =
    let none : w.placed ≡ [] = begun.nothing.placed in
    let top : (memory_of w).top ≡ its.top = ap (λ (o : Opening). o.top) begun.opening in
    let fill : (memory_of w).fill ≡ its.fill = ap (λ (o : Opening). o.fill) begun.opening in
    let filled : (address : ℕ) → IsRam its.top address → at (memory_of w) address ≡ its.fill =
    λ address ram. begun.blank address (subst (λ t. IsRam t address) (sym top) ram) ∙ fill in
    record {
      now = record {
        lawful = begun.lawful;
        names = begun.names;
        opening = ap (λ (o : Opening). o.items) begun.opening;
        shape = ap (λ (d : DeviceState). map shape_of d.items) begun.device;
        device = subst IsDevice (sym begun.device) (begun_lawful its.items begun.lawful);
        room = ap (λ (d : DeviceState). room_of d) begun.device ∙ omega arith;
        stands = subst StandsWhereLeft (sym begun.device) (record { address = refl; moving = tt; idle = (refl, refl) });
        memory = begun.memory;
        top = top;
        fill = fill;
        loading = subst (IsLoading its.top (files_of (items_now w))) (sym none) (record { apart = tt; sizes = tt });
        zones = subst (AllByRecursion (IsInZone its.top)) (sym none) tt;
        count = subst (λ (placed : List PlacedFile). length placed ≡ count_places (places_in placed (infos_of (files_of (items_now w))))) (sym none)
            (nothing_placed (infos_of (files_of (items_now w))));
        bios = λ address from below beside. filled address (bios_ram its.top address from below);
        stage = subst (StageKeeps May its.items w) (sym begun.stage) (
          tt,
          (
            begun.nothing,
            record {
              idle = record {
                idle = ap (λ (d : DeviceState). d.flight) begun.device;
                finished = ap (λ (d : DeviceState). d.finished) begun.device;
              };
              asks = inl (refl, omega arith, refl);
            },
          ),
        );
      };
      others = λ address ram other beside told. filled address ram;
    }
