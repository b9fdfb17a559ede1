-- Tests in their order, and the fault of the first that fails.
use Rattle.std.specs.Prelude.{◌≡◌, ◌⊎◌, Bool, true, false, List, [], ◌∷◌}
use Rattle.acpi_decode.specs.declared.fault.AcpiFault.{AcpiFault}

-- a test, and the fault that is told where it fails
abbrev pub Test : Type 0
Test = Bool × AcpiFault

-- Faults that come behind tests: those that are told where each test passes.
abbrev pub Faults : Type 1
Faults = AcpiFault → Type 0

-- none comes behind
abbrev pub NoFault : Faults
NoFault fault = ⊥

-- The fault is that of the first test that fails, or where each passes, one of those that come behind.
abbrev pub FirstFails : List Test → Faults → Faults
FirstFails [] Behind fault = Behind fault
FirstFails (test ∷ tests) Behind fault =
    ((test.0 ≡ false) × (fault ≡ test.1)) ⊎ ((test.0 ≡ true) × FirstFails tests Behind fault)

-- each test passes
abbrev pub Pass : List Test → Type 0
Pass [] = Unit {0}
Pass (test ∷ tests) = (test.0 ≡ true) × Pass tests
