use Rattle.std.proofs.Common.{◌≡◌, ◌-◌, List, [], None, vec_capacity, vec_len, arith, ap, ap₂, ◌∙◌}
use Rattle.cfg_directory.specs.declared.item.Item.{Item}
use Rattle.cfg_directory.specs.Restored.{restored}
use Rattle.cfg_directory.proofs.Restored.{kept_restores}
use Rattle.cfg_dma.specs.declared.transfer.Finished.{Finished}
use Rattle.cfg_dma.specs.Device.{DeviceState}
use Rattle.cfg_dma.proofs.device.Device.begin.Goals as goal

pub returns-clause-begun : goal.returns-clause-begun
returns-clause-begun c =
    let opening : restored c.args.items c.in_ok-kept.kept ≡ c.args.items =
    ap (restored c.args.items) (c.in_ok-kept.ensures.kept) ∙ kept_restores c.args.items in
    let made = c.in_ok-finished.finished in
    let room : vec_capacity made - vec_len made ≡ c.args.transfers = omega (arith, c.in_ok-finished.ensures.len, c.in_ok-finished.ensures.exact) in
    ap₂ (λ (opening : List Item) (finished : List Finished). let d : DeviceState = record {
      items = c.args.items;
      opening = opening;
      select = 0;
      offset = 0;
      address = 0;
      flight = None;
      finished = finished;
      spare = vec_capacity made - vec_len made;
    } in d)
    opening c.in_ok-finished.ensures.items
    ∙ ap (λ spare. let d : DeviceState = record {
      items = c.args.items;
      opening = c.args.items;
      select = 0;
      offset = 0;
      address = 0;
      flight = None;
      finished = [];
      spare = spare;
    } in d)
    room
