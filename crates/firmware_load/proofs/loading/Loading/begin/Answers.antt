use Rattle.std.proofs.Common.{List, length, arith, refl, ap, subst, ◌∙◌}
use Rattle.cfg_directory.specs.declared.item.Item.{Item}
use Rattle.cfg_directory.specs.Items.{IsItems}
use Rattle.cfg_dma.specs.Device.{DeviceState}
use Rattle.cfg_directory.specs.Files.{files_of}
use Rattle.loader_script.specs.Run.{infos_of}
use Rattle.command_acts.specs.Script.{script_in}
use Rattle.firmware_load.specs.declared.loading.Loading.{Loading}
use Rattle.load_states.specs.Loads.{begun_device}
use Rattle.load_states.specs.Steps.{opening_stage}
use Rattle.load_states.specs.Runs.{NoAnswer}
use Rattle.load_states.proofs.Opening.{begun_keeps}
use Rattle.load_states.specs.LoadState.{begun_with}
use Rattle.firmware_load.specs.Inside.{load_of}
use Rattle.firmware_load.proofs.Opening.{IsOpening, opening_begun, opening_inside, room_more}
use Rattle.firmware_load.proofs.loading.Loading.begin.Goals as goal

pub returns : goal.returns
returns c =
    let l : Loading = record {
      guest = record { device = c.in_ok-device.device; memory = c.in_ok-memory.memory; placements = c.in_ok-placements.placements };
      stage = opening_stage;
      listed = c.in_ok-listed.listed;
      script = c.in_ok-script.script;
    } in
    let its = begun_with c.args.items c.args.top c.args.fill in
    let opening : IsOpening its l = record {
      lawful = subst IsItems c.items.view_is c.items.invariant;
      names = c.in_ok-device.ensures.names;
      device_is = c.in_ok-device.ensures.begun
          ∙ ap (λ room. let d : DeviceState = record (begun_device c.args.items) { spare = room } in d) c.most_transfers-transfers.ensures;
      memory = c.in_ok-memory.ensures.lawful;
      top_is = c.in_ok-memory.ensures.top;
      fill_is = c.in_ok-memory.ensures.fill;
      filled = c.in_ok-memory.ensures.filled;
      is_top = c.requires;
      stage = refl;
      listed = c.in_ok-listed.ensures.items;
      script = c.in_ok-script.ensures.items;
      placed = c.in_ok-placements.ensures.none;
      placements = c.in_ok-placements.ensures.are;
      infos = c.in_ok-placements.ensures.infos
          ∙ (c.in_ok-infos.ensures ∙ ap (λ (items : List Item). infos_of (files_of items)) c.all-2.ensures.items);
      listed_room = omega (arith, c.in_ok-listed.ensures.capacity, ap length c.all.ensures.items);
      script_room = room_more (script_in c.args.items) c.script_len.result _ c.in_ok-script.ensures.capacity c.script_len.ensures;
    } in
    let begun = opening_begun its l opening in
    record {
      begun = begun;
      kept = begun_keeps NoAnswer its (load_of l) begun;
      inside = (its, opening_inside its l opening);
      untouched = c.in_ok-memory.ensures.untouched;
    }
