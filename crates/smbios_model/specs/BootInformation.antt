-- System Boot Information, type 32 (DMTF DSP0134, version 3.0.0, 7.33).
use Rattle.std.specs.Prelude.{List, [], ◌∷◌}
use Rattle.vt_layout.specs.declared.value.Value.{Value}
use Rattle.vt_layout.specs.Values.{value_at, byte_of}
use Rattle.vt_layout.specs.Fields.{Field, byte, reserved}
use Rattle.smbios_model.specs.declared.boot_information.BootInfo.{BootInfo}
use Rattle.smbios_model.specs.declared.smbios.Body.TheVariants.{Boot}
use Rattle.smbios_model.specs.StructureKinds.{StructureKind, StructureLayout, kind_with, layout_with}

-- what it says in the rows of its area behind the structure's header
abbrev pub boot_fields : BootInfo → List Field
boot_fields i =
    reserved 6 ∷ byte i.status ∷ []

-- the record of the values of these rows
abbrev pub boot_in : List Value → BootInfo
boot_in values = record { status = byte_of (value_at 1 values) }

abbrev pub boot_kind : StructureKind
boot_kind = kind_with 32 boot_fields boot_in Boot

abbrev pub boot_layout : BootInfo → StructureLayout
boot_layout i = layout_with boot_kind (boot_fields i)

-- what a machine is written as that boots without an error
abbrev pub boot_info : BootInfo
boot_info = record { status = 0 }
