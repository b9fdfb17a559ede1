-- A structure that a reader finds at the front of bytes.
use Rattle.std.specs.Prelude.{◌≡◌, ℕ, List, ◌++◌, length, ◌==◌}
use Rattle.smbios_model.specs.Smbios.{IsStructure}
use Rattle.smbios_decode.specs.declared.structure.Found.{Found}

-- The bytes begin with the structure, which has so many of them, and which is the last where it is of type 127.
pub record IsFound (bytes : List ℕ) (found : Found) : Type 0 where
  pub first : List ℕ
  pub rest : List ℕ
  pub number : ℕ
  pub split : bytes ≡ first ++ rest
  pub sized : length first ≡ found.size
  pub stands : IsStructure first number found.structure
  pub last : found.is_last ≡ (number == 127)
