-- How the top call ends: the status and the line of each fault, the numbers of statuses, and how long an input may be.
use Rattle.std.specs.Prelude.{ℕ, ◌-◌, List, [], ◌++◌, ◌∷◌, length, codes, Option, Some, Result, Ok, Err, decimal}
use Rattle.desc_toml.specs.Lines.{line_of as description_line}
use Rattle.cfg_directory.specs.declared.container.ImageFault.{ImageFault}
use Rattle.cfg_directory.specs.declared.container.ImageFault.TheVariants as container
use Rattle.loader_script.specs.declared.refusing.Cause.{Cause}
use Rattle.loader_script.specs.declared.refusing.Cause.TheVariants as cause
use Rattle.command_acts.specs.declared.fault.LoadFault.{LoadFault}
use Rattle.command_acts.specs.declared.fault.LoadFault.TheVariants as load
use Rattle.memory_dump.specs.declared.fault.DumpFault.{DumpFault}
use Rattle.memory_dump.specs.declared.fault.DumpFault.TheVariants as dump
use Rattle.memory_dump.specs.Reading.{whole_lines}
use Rattle.anchor_scan.specs.declared.fault.ScanFault.{ScanFault}
use Rattle.anchor_scan.specs.declared.fault.ScanFault.TheVariants as scan
use Rattle.smbios_install.specs.declared.fault.InstallFault.{InstallFault}
use Rattle.smbios_install.specs.declared.fault.InstallFault.TheVariants as install
use Rattle.scan_text.specs.Lines.{acpi_line, smbios_line}
use Rattle.vmtables.specs.declared.fault.Fault.{Fault}
use Rattle.vmtables.specs.declared.fault.Fault.TheVariants as fault
use Rattle.vmtables.specs.declared.status.Status.{Status}
use Rattle.vmtables.specs.declared.status.Status.TheVariants as status

-- the status of a load that ended before its script did
abbrev pub status_of_load : LoadFault → Status
status_of_load load.NoScript = status.ImageRefused
status_of_load load.ScriptLength = status.ImageRefused
status_of_load (load.Command index why) = status.ImageRefused
status_of_load (load.NoRoom index) = status.NoRoom

-- the status of a call that a fault ended
abbrev pub status_of_fault : Fault → Status
status_of_fault fault.ReadFault = status.ReadFault
status_of_fault fault.Usage = status.Usage
status_of_fault (fault.Description refused) = status.DescriptionRefused
status_of_fault (fault.Container refused) = status.ImageRefused
status_of_fault (fault.Install refused) = status.ImageRefused
status_of_fault (fault.Load why) = status_of_load why
status_of_fault (fault.Dump refused line) = status.DumpRefused
status_of_fault (fault.Tables refused) = status.TablesRefused
status_of_fault (fault.NotProfile item) = status.TablesRefused
status_of_fault fault.WriteFault = status.WriteFault
status_of_fault fault.OutOfMemory = status.OutOfMemory
status_of_fault fault.InputTooLong = status.InputTooLong
status_of_fault fault.ImageTooLarge = status.ImageTooLarge

-- the status of a call that ended so
abbrev pub status_of : Result (Unit {0}) Fault → Status
status_of (Ok done) = status.Ok
status_of (Err fault) = status_of_fault fault

-- the number of a container's fault, in the order of the causes; want of memory is none of them
abbrev pub container_number : ImageFault → ℕ
container_number container.Truncated = 1
container_number container.TooMany = 2
container_number (container.BadName index) = 3
container_number (container.TwiceNamed index) = 4
container_number (container.TwiceSelected index) = 5
container_number (container.BadSelect index) = 6
container_number (container.BadFlag index) = 7
container_number container.TrailingBytes = 8
container_number container.TooLarge = 9
container_number container.OutOfMemory = 0

-- the number of a reason against installing SMBIOS files, in the order of the reasons; want of memory is none of them
abbrev pub install_number : InstallFault → ℕ
install_number install.NoAnchor = 1
install_number install.NoTables = 2
install_number install.EmptyTables = 3
install_number install.BadAnchor = 4
install_number install.ScriptLength = 5
install_number (install.AlreadyPlaced command) = 6
install_number install.ScriptFull = 7
install_number install.TooMany = 8
install_number install.TooLarge = 9
install_number install.OutOfMemory = 0

-- the number of a cause to refuse a command, in the order of the causes
abbrev pub cause_number : Cause → ℕ
cause_number cause.BadName = 1
cause_number cause.NoFile = 2
cause_number cause.AlreadyPlaced = 3
cause_number cause.NotPlaced = 4
cause_number cause.Empty = 5
cause_number cause.BadAlign = 6
cause_number cause.BadZone = 7
cause_number cause.BadSize = 8
cause_number cause.ReadOnly = 9
cause_number cause.OutOfRange = 10
cause_number cause.TooFar = 11

-- the number of a dump's fault, in the order of the faults; want of memory is none of them
abbrev pub dump_number : DumpFault → ℕ
dump_number dump.BadHeader = 1
dump_number (dump.BadLine line) = 2
dump_number (dump.OutOfOrder line) = 3
dump_number (dump.AllFill line) = 4
dump_number (dump.NotRam line) = 5
dump_number dump.Truncated = 6
dump_number dump.OutOfMemory = 0

-- the number of the line at fault, of which the header's is 1; of bytes that were cut off it is how many whole lines they have
abbrev pub faulty_line : List ℕ → DumpFault → ℕ
faulty_line bytes dump.BadHeader = 1
faulty_line bytes (dump.BadLine line) = line
faulty_line bytes (dump.OutOfOrder line) = line
faulty_line bytes (dump.AllFill line) = line
faulty_line bytes (dump.NotRam line) = line
faulty_line bytes dump.Truncated = whole_lines bytes
faulty_line bytes dump.OutOfMemory = 0

-- the line of a container that is refused, of SMBIOS files that aren't installed, and of a load that ended before its script did
abbrev pub container_line : ImageFault → List ℕ
container_line refused = codes "container: fault " ++ decimal (container_number refused) ++ 10 ∷ []

abbrev pub install_line : InstallFault → List ℕ
install_line refused = codes "install: fault " ++ decimal (install_number refused) ++ 10 ∷ []

abbrev pub load_line : LoadFault → List ℕ
load_line load.NoScript = codes "script: none" ++ 10 ∷ []
load_line load.ScriptLength = codes "script: length" ++ 10 ∷ []
load_line (load.Command index why) = codes "command " ++ decimal index ++ codes ": cause " ++ decimal (cause_number why) ++ 10 ∷ []
load_line (load.NoRoom index) = codes "no room at command " ++ decimal index ++ 10 ∷ []

-- the line of bytes that are no dump, and of a memory whose tables have a fault
abbrev pub dump_line : DumpFault → ℕ → List ℕ
dump_line refused line = codes "dump: fault " ++ decimal (dump_number refused) ++ codes " line " ++ decimal line ++ 10 ∷ []

abbrev pub tables_line : ScanFault → List ℕ
tables_line (scan.Acpi refused) = acpi_line refused
tables_line (scan.Smbios refused) = smbios_line refused
tables_line scan.OutOfMemory = codes "out of memory" ++ 10 ∷ []

-- the line of a memory that no machine shows, with the first item that fails
abbrev pub profile_line : ℕ → List ℕ
profile_line item = codes "tables: not this profile, item " ++ decimal item ++ 10 ∷ []

-- the line of a fault, which ends in a line feed
abbrev pub line_of : Fault → List ℕ
line_of fault.ReadFault = codes "read fault" ++ 10 ∷ []
line_of fault.Usage = codes "usage: vmtables build, load, decode, boot, lint or gen" ++ 10 ∷ []
line_of (fault.Description refused) = description_line refused
line_of (fault.Container refused) = container_line refused
line_of (fault.Install refused) = install_line refused
line_of (fault.Load why) = load_line why
line_of (fault.Dump refused line) = dump_line refused line
line_of (fault.Tables refused) = tables_line refused
line_of (fault.NotProfile item) = profile_line item
line_of fault.WriteFault = codes "write fault" ++ 10 ∷ []
line_of fault.OutOfMemory = codes "out of memory" ++ 10 ∷ []
line_of fault.InputTooLong = codes "input too long" ++ 10 ∷ []
line_of fault.ImageTooLarge = codes "image too large" ++ 10 ∷ []

-- the number of a status, with which a process ends
abbrev pub number_of : Status → ℕ
number_of status.Ok = 0
number_of status.ReadFault = 1
number_of status.Usage = 2
number_of status.DescriptionRefused = 3
number_of status.NoRoom = 4
number_of status.ImageRefused = 5
number_of status.DumpRefused = 6
number_of status.TablesRefused = 7
number_of status.WriteFault = 8
number_of status.OutOfMemory = 9
number_of status.InputTooLong = 10
number_of status.ImageTooLarge = 11

-- how many bytes an input may have
abbrev pub input_limit : ℕ
input_limit = 67108864

-- how many bytes a source gave, from what it had left before and after
abbrev pub given_count : Option (List ℕ) → Option (List ℕ) → ℕ
given_count (Some before) (Some after) = length before - length after
given_count _ _ = 0
