-- The terms of a machine's DSDT (ACPI 6.5, 5.2.11.1): the devices that a guest finds through AML alone, in the scope of the system bus.
use Rattle.std.specs.Prelude.{ℕ, ◌+◌, ◌-◌, Bool, true, false, List, [], ◌∷◌, ◌++◌, length, map, take, Option, option_map, option_to_list}
use Rattle.std.specs.Prelude.{is_some, codes, if◌then◌else◌}
use Rattle.std.specs.List.{enumerate_from}
use Rattle.std.specs.Option.{option_map_or}
use Rattle.vt_layout.specs.declared.row.Row.{Row}
use Rattle.vt_layout.specs.declared.row.Row.TheVariants.{Bytes, Pointer}
use Rattle.aml_terms.specs.declared.term.Path.{Path}
use Rattle.aml_terms.specs.declared.term.Term.{Term}
use Rattle.aml_terms.specs.declared.term.Term.TheVariants.{Int, Fixed, Scope}
use Rattle.aml_terms.specs.Trees.{views}
use Rattle.aml_terms.specs.Written.{all_spelled}
use Rattle.machine_desc.specs.declared.machine.Machine.{Machine}
use Rattle.machine_desc.specs.declared.acpi_parts.Power.{Power}
use Rattle.machine_desc.specs.declared.acpi_parts.Cpu.{Cpu}
use Rattle.machine_desc.specs.declared.device_parts.Bridge.{Bridge}
use Rattle.machine_desc.specs.declared.device_parts.Uart.{Uart}
use Rattle.dsdt_terms.specs.Bridge.{bridge_device}
use Rattle.dsdt_terms.specs.Devices.{uart_device, clock_device, keyboard_device, timer_device, cpu_device, generation_device}

-- a device that is there or isn't
abbrev pub if_there : Bool → Term → List Term
if_there there term = if there then term ∷ [] else []

-- whether power management tells of a clock, and of a keyboard
abbrev pub has_clock : Option Power → Bool
has_clock power = option_map_or (λ (p : Power). p.rtc) power false

abbrev pub has_keyboard : Option Power → Bool
has_keyboard power = option_map_or (λ (p : Power). p.keyboard) power false

abbrev pub uart_devices : List Uart → List Term
uart_devices uarts = map uart_device (enumerate_from 0 uarts)

-- a processor's number is its position
abbrev pub cpu_devices : List Cpu → List Term
cpu_devices cpus = map (λ (c : ℕ × Cpu). cpu_device c.0) (enumerate_from 0 cpus)

-- The devices in front of the processors: bridge, serial ports, clock, keyboard and timer.
abbrev pub front_devices : Machine → List Term
front_devices m =
    option_to_list (option_map bridge_device m.bridge) ++ uart_devices m.uarts ++ if_there (has_clock m.power) clock_device
    ++ if_there (has_keyboard m.power) keyboard_device ++ option_to_list (option_map timer_device m.hpet)

-- those that are the same wherever a file stands
abbrev pub placeless_devices : Machine → List Term
placeless_devices m = front_devices m ++ cpu_devices m.cpus

-- the one that leads to the id of a generation, where there is an id, with the low half of its address
abbrev pub generation_devices : Term → Option ℕ → List Term
generation_devices low id = option_to_list (option_map (λ number. generation_device low) id)

-- the devices of a machine, in order
abbrev pub devices_with : Term → Machine → List Term
devices_with low m = placeless_devices m ++ generation_devices low m.generation

-- the scope of the system bus (5.3.1)
abbrev pub system_bus : Path
system_bus = record { root = true; parents = 0; segments = codes "_SB_" ∷ [] }

abbrev pub terms_with : Term → Machine → List Term
terms_with low m = Scope system_bus (devices_with low m) ∷ []

-- The file that holds the id of the generation, and how many bytes from its start the id is.
abbrev pub generation_file : List ℕ
generation_file = codes "etc/vmgenid_guid"

abbrev pub id_offset : ℕ
id_offset = 40

-- where the id is, where each file stands at its place
abbrev pub id_address : (List ℕ → ℕ) → ℕ
id_address place_of = id_offset + place_of generation_file

-- The terms as they are written, where the low half of the id's address is always a dword, to which the place of its file is to be added;
-- as they are read where the id is at an address below 4 GiB; and as they are kept, with 0 in place of that address.
abbrev pub dsdt_terms : Machine → List Term
dsdt_terms m = terms_with (Fixed id_offset) m

abbrev pub terms_at : ℕ → Machine → List Term
terms_at address m = terms_with (Int address) m

abbrev pub kept_terms : Machine → List Term
kept_terms m = terms_at 0 m

-- what they are written as
abbrev pub dsdt_bytes : Machine → List ℕ
dsdt_bytes m = all_spelled (views (dsdt_terms m))

-- The low half of the id's address stands in front of the last byte, which is the high half: so many bytes stand before it.
abbrev pub front_bytes : Machine → List ℕ
front_bytes m = take (length (dsdt_bytes m) - 5) (dsdt_bytes m)

-- That as rows behind the header of the table: in one, or where there is an id, with a pointer to it.
abbrev pub dsdt_body : Machine → List Row
dsdt_body m =
    if is_some m.generation
    then Bytes (length (front_bytes m)) (front_bytes m) ∷ Pointer 4 generation_file id_offset ∷ Bytes 1 (0 ∷ []) ∷ []
    else Bytes (length (dsdt_bytes m)) (dsdt_bytes m) ∷ []

-- a bridge but for its configuration space, of which its device tells only whether it has some
abbrev pub without_ecam : Bridge → Bridge
without_ecam b = record b { ecam = 0 }
