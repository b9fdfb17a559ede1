use Rattle.std.proofs.Common.{ℕ, ◌+◌, arith, refl}
use Rattle.anchor_scan.proofs.ReadAndSeen.{number_there, one_byte}
use Rattle.anchor_scan.proofs.smbios2.read_smbios2.Goals as goal

pub returns : goal.returns
returns c =
    let m = c.args.memory.now.memory in
    let address = c.args.address in
    let bytes = c.copy_out.new.bytes in
    let there = λ (place width number : ℕ). number_there m address 31 (address + place) place width number bytes c.requires c.copy_out.ensures refl in
    let byte = λ (place : ℕ). one_byte m address 31 place bytes c.copy_out.ensures in
    record {
      sized = refl;
      unrevised = refl;
      major = there 6 1 _ (omega arith) (byte 6 (omega arith));
      minor = there 7 1 _ (omega arith) (byte 7 (omega arith));
      maximum_size = there 0x16 2 c.word_at.result (omega arith) c.word_at.ensures;
      leads = there 0x18 4 c.get_le.result (omega arith) c.get_le.ensures;
    }
