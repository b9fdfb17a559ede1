-- The laws of an array of 4,096 bytes, as what lies in a filled place.
use mathlib.Core.Path.{refl}
use denote.Param.Laws.{Laws, of_field, array_laws}
use denote.Param.Shared.{copy_shared}
use denote.Struct.Field.{u8-field}
use denote.Struct.Laws.{u8-laws, u8-copy}
use Rattle.std.specs.Borrow.{u8}
use Rattle.raw_frames.specs.Ownership.{Frame}

byte_laws : Laws u8
byte_laws = of_field u8-field u8-laws refl (copy_shared u8-field u8-copy)

pub frame_laws : Laws Frame
frame_laws = array_laws u8 byte_laws 4096
