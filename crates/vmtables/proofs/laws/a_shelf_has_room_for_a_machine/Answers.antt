use Rattle.vmtables.proofs.BootEnds.{shelf_has_room, shelf_has_room_for_generated}
use Rattle.vmtables.proofs.laws.a_shelf_has_room_for_a_machine.Goals as goal

pub returns-clause-boot : goal.returns-clause-boot
returns-clause-boot c = shelf_has_room

pub returns-clause-generated : goal.returns-clause-generated
returns-clause-generated c = shelf_has_room_for_generated
