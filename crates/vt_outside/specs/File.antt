-- What a file of fw_cfg is to a script that loads it (QEMU, docs/specs/fw_cfg).
use Rattle.std.specs.Prelude.{ℕ, Bool, List}

-- a file of fw_cfg: its name, its bytes as they are now, and whether a guest may write it
pub record File : Type 0 where
  pub name : List ℕ
  pub bytes : List ℕ
  pub writable : Bool
