-- Devices that are filled with files of one size, which have the selectors from 0x20 on.
use Rattle.std.specs.Prelude.{◌≡◌, ℕ, ◌*◌, List, length}
use Rattle.cfg_directory.specs.declared.item.Item.{Item}
use Rattle.cfg_directory.specs.Items.{AreNumberedFrom, total_size}

-- so many files of so many bytes each
pub record HasFiles (items : List Item) (count size : ℕ) : Type 0 where
  pub many : length items ≡ count
  pub bytes : total_size items ≡ count * size
  pub numbered : AreNumberedFrom 0x20 items
