-- The bytes of an anchor that is installed.
use Rattle.std.proofs.Common.{◌≡◌, ℕ, inl, inr, List, length, codes, ap, ◌∙◌, arith}
use Rattle.vt_bytes.specs.Numbers.{le, byte_sum}
use Rattle.vt_bytes.specs.Parts.{part}
use Rattle.smbios_install.proofs.Bytes.{part-beside_set, part-one, summed, length-summed, sum-summed}
use Rattle.smbios_install.proofs.FormKnown.{IsSmbios3, IsSmbios2}
use Rattle.smbios_install.proofs.Pointed.{TellsPlace}

-- a 64-bit entry point that tells a place, with its sum
pub record StandsSmbios3 (bytes : List ℕ) (place : ℕ) : Type 0 where
  pub size : length bytes ≡ 0x18
  pub mark : part bytes 0 5 ≡ codes "_SM3_"
  pub sum : byte_sum (part bytes 0 0x18) ≡ 0
  pub told : le (part bytes 6 1) ≡ 0x18
  pub leads : le (part bytes 0x10 8) ≡ place

-- an old anchor that does, with both of its sums
pub record StandsSmbios2 (bytes : List ℕ) (place : ℕ) : Type 0 where
  pub size : length bytes ≡ 31
  pub mark : part bytes 0 4 ≡ codes "_SM_"
  pub sum : byte_sum (part bytes 0 31) ≡ 0
  pub told : le (part bytes 5 1) ≡ 31
  pub second : part bytes 0x10 5 ≡ codes "_DMI_"
  pub second_sum : byte_sum (part bytes 0x10 15) ≡ 0
  pub leads : le (part bytes 0x18 4) ≡ place

pub stands_smbios3 : (bytes now : List ℕ) (place : ℕ) → IsSmbios3 bytes → TellsPlace bytes 0x10 8 place now → StandsSmbios3 (summed now 5 0 24) place
stands_smbios3 bytes now place is tells =
    let size = length-summed now 5 0 24 ∙ tells.same_size ∙ is.size in
    let now_size : length now ≡ 0x18 = tells.same_size ∙ is.size in
    let length_size = is.size in
    record {
      size = size;
      mark = part-beside_set now 5 _ 0 5 (inr (omega arith)) ∙ tells.beside 0 5 (inl (omega arith)) ∙ is.mark;
      sum = sum-summed now 5 0 24 (omega arith) (omega arith) (omega arith);
      told = ap le (part-beside_set now 5 _ 6 1 (inl (omega arith)) ∙ tells.beside 6 1 (inl (omega arith)))
          ∙ part-one bytes 6 (omega arith) ∙ is.told;
      leads = ap le (part-beside_set now 5 _ 0x10 8 (inl (omega arith))) ∙ tells.number;
    }

pub stands_smbios2 : (bytes now : List ℕ) (place : ℕ) → IsSmbios2 bytes → TellsPlace bytes 0x18 4 place now
    → StandsSmbios2 (summed (summed now 0x15 0x10 15) 4 0 31) place
stands_smbios2 bytes now place is tells =
    let mid = summed now 0x15 0x10 15 in
    let now_size : length now ≡ 31 = tells.same_size ∙ is.size in
    let mid_size : length mid ≡ 31 = length-summed now 0x15 0x10 15 ∙ now_size in
    let length_size = is.size in
    record {
      size = length-summed mid 4 0 31 ∙ mid_size;
      mark = part-beside_set mid 4 _ 0 4 (inr (omega arith)) ∙ part-beside_set now 0x15 _ 0 4 (inr (omega arith))
          ∙ tells.beside 0 4 (inl (omega arith)) ∙ is.mark;
      sum = sum-summed mid 4 0 31 (omega arith) (omega arith) (omega arith);
      told = ap le (part-beside_set mid 4 _ 5 1 (inl (omega arith)) ∙ part-beside_set now 0x15 _ 5 1 (inr (omega arith))
          ∙ tells.beside 5 1 (inl (omega arith))) ∙ part-one bytes 5 (omega arith) ∙ is.told;
      second = part-beside_set mid 4 _ 0x10 5 (inl (omega arith)) ∙ part-beside_set now 0x15 _ 0x10 5 (inr (omega arith))
          ∙ tells.beside 0x10 5 (inl (omega arith)) ∙ is.second;
      second_sum = ap byte_sum (part-beside_set mid 4 _ 0x10 15 (inl (omega arith)))
          ∙ sum-summed now 0x15 0x10 15 (omega arith) (omega arith) (omega arith);
      leads = ap le (part-beside_set mid 4 _ 0x18 4 (inl (omega arith)) ∙ part-beside_set now 0x15 _ 0x18 4 (inl (omega arith))) ∙ tells.number;
    }
