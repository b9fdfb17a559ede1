-- The items of a device as files.
use Rattle.std.specs.Prelude.{List, map}
use Rattle.vt_outside.specs.File.{File}
use Rattle.cfg_directory.specs.declared.item.Item.{Item}

-- items as the run of a script begins with them
abbrev pub files_of : List Item → List File
files_of items = map (λ (item : Item). record { name = item.name; bytes = item.bytes; writable = item.writable }) items
