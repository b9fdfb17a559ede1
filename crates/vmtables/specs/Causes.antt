-- The fault of a call that the fault of a part gives.
use Rattle.std.specs.Prelude.{◌≡◌}
use Rattle.vmtables.specs.declared.input.InputFault.{InputFault}
use Rattle.vmtables.specs.declared.input.InputFault.TheVariants as input
use Rattle.desc_toml.specs.declared.fault.DescFault.{DescFault}
use Rattle.desc_toml.specs.declared.fault.DescFault.TheVariants as description
use Rattle.image_files.specs.declared.image.ImageBuildFault.{ImageBuildFault}
use Rattle.image_files.specs.declared.image.ImageBuildFault.TheVariants as image
use Rattle.cfg_directory.specs.declared.container.ImageFault.{ImageFault}
use Rattle.cfg_directory.specs.declared.container.ImageFault.TheVariants as container
use Rattle.smbios_install.specs.declared.fault.InstallFault.{InstallFault}
use Rattle.smbios_install.specs.declared.fault.InstallFault.TheVariants as install
use Rattle.anchor_scan.specs.declared.fault.ScanFault.{ScanFault}
use Rattle.anchor_scan.specs.declared.fault.ScanFault.TheVariants as scan
use Rattle.table_describe.specs.declared.description.DescribeFault.{DescribeFault}
use Rattle.table_describe.specs.declared.description.DescribeFault.TheVariants as describing
use Rattle.vmtables.specs.declared.fault.Fault.{Fault}
use Rattle.vmtables.specs.declared.fault.Fault.TheVariants.{ReadFault, Description, Container, Install, Tables, NotProfile, OutOfMemory}
use Rattle.vmtables.specs.declared.fault.Fault.TheVariants.{InputTooLong, ImageTooLarge}

-- that of the reading of an input
abbrev pub input_fault : InputFault → Fault
input_fault input.Failed = ReadFault
input_fault input.TooLong = InputTooLong
input_fault input.OutOfMemory = OutOfMemory

abbrev pub IsOfDescription : DescFault → Fault → Type 0
IsOfDescription description.OutOfMemory fault = fault ≡ OutOfMemory
IsOfDescription refused fault = fault ≡ Description refused

abbrev pub IsOfImage : ImageBuildFault → Fault → Type 0
IsOfImage image.ImageTooLarge fault = fault ≡ ImageTooLarge
IsOfImage image.OutOfMemory fault = fault ≡ OutOfMemory

abbrev pub IsOfContainer : ImageFault → Fault → Type 0
IsOfContainer container.OutOfMemory fault = fault ≡ OutOfMemory
IsOfContainer refused fault = fault ≡ Container refused

abbrev pub IsOfInstalling : InstallFault → Fault → Type 0
IsOfInstalling install.OutOfMemory fault = fault ≡ OutOfMemory
IsOfInstalling refused fault = fault ≡ Install refused

abbrev pub IsOfTables : ScanFault → Fault → Type 0
IsOfTables scan.OutOfMemory fault = fault ≡ OutOfMemory
IsOfTables refused fault = fault ≡ Tables refused

abbrev pub IsOfDescribing : DescribeFault → Fault → Type 0
IsOfDescribing describing.OutOfMemory fault = fault ≡ OutOfMemory
IsOfDescribing (describing.NotProfile item) fault = fault ≡ NotProfile item
