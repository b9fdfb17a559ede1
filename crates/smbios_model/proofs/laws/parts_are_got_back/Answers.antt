use Rattle.std.proofs.Common.{refl}
use Rattle.smbios_model.proofs.GotBack.{uuid_back, system_back, slot_back, dimm_back, range_back}
use Rattle.smbios_model.proofs.laws.parts_are_got_back.Goals as goal

pub returns : goal.returns
returns c = record {
  firmware = λ f. refl;
  uuid = uuid_back;
  system = system_back;
  chassis = λ c. refl;
  socket = λ s. refl;
  slot = slot_back;
  dimm = dimm_back;
  range = range_back;
}
