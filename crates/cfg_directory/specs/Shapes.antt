-- What writes to the items of a device leave as it was: their names, their selectors, how many bytes they have, and whether they may be
-- written, in their order.
use Rattle.std.specs.Prelude.{◌≡◌, Bool, List, length, map}
use Rattle.cfg_directory.specs.declared.item.Item.{Item}
use Rattle.cfg_directory.specs.declared.listed.Listed.{Listed}

-- all of an item but its bytes
pub record Shape : Type 0 where
  pub listed : Listed
  pub writable : Bool

abbrev pub shape_of : Item → Shape
shape_of item = record { listed = record { name = item.name; select = item.select; size = length item.bytes }; writable = item.writable }

-- items differ in their bytes at most
abbrev pub HaveOneShape : List Item → List Item → Type 0
HaveOneShape before after = map shape_of after ≡ map shape_of before
