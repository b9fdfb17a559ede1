-- Worked devices, and their bytes, which were made by hand from the standard (ACPI 6.5, chapters 6 and 20).
use Rattle.std.specs.Prelude.{ℕ, List, [], ◌∷◌, ◌++◌, codes}
use Rattle.machine_desc.specs.declared.device_parts.Route.{Route}

-- the route of device 1, pin 0, to GSI 16, and that of device 0
abbrev pub route_of_device_1 : Route
route_of_device_1 = record { device = 1; pin = 0; gsi = 16 }

abbrev pub route_of_device_1_bytes : List ℕ
route_of_device_1_bytes = 0x12 ∷ 0x0B ∷ 4 ∷ 0x0C ∷ 0xFF ∷ 0xFF ∷ 1 ∷ 0 ∷ 0 ∷ 0 ∷ 0x0A ∷ 0x10 ∷ []

abbrev pub route_of_device_0 : Route
route_of_device_0 = record { device = 0; pin = 0; gsi = 16 }

abbrev pub route_of_device_0_bytes : List ℕ
route_of_device_0_bytes = 0x12 ∷ 9 ∷ 4 ∷ 0x0B ∷ 0xFF ∷ 0xFF ∷ 0 ∷ 0 ∷ 0x0A ∷ 0x10 ∷ []

-- the processor at position 2
abbrev pub processor_2_bytes : List ℕ
processor_2_bytes =
    0x5B ∷ 0x82 ∷ 0x1B ∷ 0x43 ∷ 0x30 ∷ 0x30 ∷ 0x32 ∷ 8 ∷ 0x5F ∷ 0x48 ∷ 0x49 ∷ 0x44 ∷ 0x0D ∷ 0x41 ∷ 0x43 ∷ 0x50 ∷ 0x49 ∷ 0x30 ∷ 0x30 ∷ 0x30 ∷ 0x37
    ∷ 0 ∷ 8 ∷ 0x5F ∷ 0x55 ∷ 0x49 ∷ 0x44 ∷ 0x0A ∷ 2 ∷ []

-- the device that leads to the id of a generation, 40 bytes from the start of its file: 5B 82, 55 bytes, `VGEN`; `_HID` "QEMUVGID"; `_CID`
-- "VM_Gen_Counter"; `ADDR`, a package of 8 bytes with 2 values, the dword 40 and zero
abbrev pub generation_bytes : List ℕ
generation_bytes =
    0x5B ∷ 0x82 ∷ 0x37 ∷ codes "VGEN"
    ++ 8 ∷ codes "_HID" ++ 0x0D ∷ codes "QEMUVGID" ++ 0
    ∷ 8 ∷ codes "_CID" ++ 0x0D ∷ codes "VM_Gen_Counter" ++ 0
    ∷ 8 ∷ codes "ADDR" ++ 0x12 ∷ 8 ∷ 2 ∷ 0x0C ∷ 40 ∷ 0 ∷ 0 ∷ 0 ∷ 0 ∷ []

-- a DSDT of no devices
abbrev pub no_devices_bytes : List ℕ
no_devices_bytes = 0x10 ∷ 6 ∷ 0x5C ∷ 0x5F ∷ 0x53 ∷ 0x42 ∷ 0x5F ∷ []
