use Rattle.std.proofs.Common.{◌≡◌, ◌≤◌, Some, length, arith, sym, ap, ◌∙◌}
use Rattle.std.specs.Option.{option_copied}
use Rattle.cfg_directory.specs.Items.{named}
use Rattle.loader_script.specs.LoaderName.{loader_name}
use Rattle.firmware_load.proofs.RoomOfLoads.{loader_small}
use Rattle.firmware_load.proofs.rooms.script_size.Goals as goal

-- the script's file, as it is found, has few bytes
few : (c : goal.After-len) → length c.in-Some.item.now.bytes ≤ 67108864
few c =
    let there : named c.args.items.now loader_name ≡ Some c.in-Some.item.now =
    sym (ap (named c.args.items.now) c.loader_name.ensures) ∙ sym c.find.ensures ∙ ap option_copied c.in-Some.is in
    loader_small c.args.items.now c.in-Some.item.now c.all-items.ensures.kept there

pub overflow_cast-result : goal.overflow_cast-result
overflow_cast-result c = omega (arith, few c, c.len.ensures)

pub returns-in-Some-clause-small : goal.returns-in-Some-clause-small
returns-in-Some-clause-small c = omega (arith, few c, c.len.ensures)
