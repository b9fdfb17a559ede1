-- The first fault of a table, and of a memory from its RSDP on (ACPI 6.5, 5.2).
use Rattle.std.specs.Prelude.{◌≡◌, ℕ, ◌+◌, ◌-◌, ◌⊎◌, List, ◌∷◌, ◌++◌, Option, Some, None, Result, Ok, Err}
use Rattle.vt_bytes.specs.View.{View}
use Rattle.acpi_records.specs.declared.header.Head.{Head}
use Rattle.acpi_model.specs.declared.form.Form.{Form}
use Rattle.acpi_model.specs.Form.{xsdt_form}
use Rattle.acpi_model.specs.declared.acpi.FadtTargets.{FadtTargets}
use Rattle.acpi_model.specs.declared.acpi.OtherTable.{OtherTable}
use Rattle.acpi_model.specs.declared.acpi.Table.{Table}
use Rattle.acpi_model.specs.declared.link.FadtLinks.{FadtLinks}
use Rattle.acpi_model.specs.Kinds.{Kind}
use Rattle.acpi_model.specs.Rsdp.{IsRsdpBy}
use Rattle.acpi_model.specs.Xsdt.{IsRoot}
use Rattle.acpi_model.specs.Acpi.{kind_by, AreFoundBy, LeadsToAcpiBy}
use Rattle.acpi_decode.specs.declared.fault.AcpiFault.{AcpiFault}
use Rattle.acpi_decode.specs.declared.fault.AcpiFault.TheVariants.{OutOfMemory}
use Rattle.acpi_decode.specs.declared.walked.Walked.{Walked}
use Rattle.acpi_decode.specs.Seen.{signature_at, total_at}
use Rattle.acpi_decode.specs.EntryFaults.{EntryFault}
use Rattle.acpi_decode.specs.Tests.{Faults, FirstFails, NoFault}
use Rattle.acpi_decode.specs.TableTests.{root_tests}
use Rattle.acpi_decode.specs.KindTests.{target_tests, table_tests, front_of}

-- the first fault of what pointers lead to, where there are some
abbrev pub TargetFault : View → Option FadtLinks → Faults
TargetFault view None fault = ⊥
TargetFault view (Some links) fault = FirstFails (target_tests view links) NoFault fault

-- Of the entries of a table of a kind, which fill it behind its rows, the first bad one.
abbrev pub BadEntryOf : Option Kind → View → ℕ → Faults
BadEntryOf None view address = NoFault
BadEntryOf (Some kind) view address =
    EntryFault kind.types view address (address + front_of kind view address) (total_at view address - front_of kind view address)

-- the fault of the table at an address, behind those that were found before
abbrev pub IsFault : Form → View → ℕ → List Table → Faults
IsFault form view address before =
    FirstFails (table_tests form view address before) (BadEntryOf (kind_by form (signature_at view address)) view address)

-- A root names a table at fault: those at the entries before it are found.
pub record IsTableFault (form : Form) (view : View) (root : ℕ) (fault : AcpiFault) : Type 0 where
  pub head : Head
  pub before : List ℕ
  pub address : ℕ
  pub after : List ℕ
  pub listed : IsRoot form view root head (before ++ address ∷ after)
  pub tables : List Table
  pub targets : FadtTargets
  pub others : List OtherTable
  pub found : AreFoundBy form view before tables targets others
  pub is : IsFault form view address tables fault

-- The first fault from the RSDP at an address on: that of the root, or of a table that it names.
pub record FirstBy (form : Form) (view : View) (rsdp : ℕ) (fault : AcpiFault) : Type 0 where
  pub oem_id : List ℕ
  pub xsdt : ℕ
  pub valid : IsRsdpBy form view rsdp oem_id xsdt
  pub is : FirstFails (root_tests form view xsdt) (IsTableFault form view xsdt) fault

abbrev pub First : View → ℕ → AcpiFault → Type 0
First view rsdp fault = FirstBy xsdt_form view rsdp fault

-- What is read from the RSDP at an address on: the tables, and the id of the machine's generation, to which they lead.
abbrev pub IsWalkedBy : Form → View → ℕ → Walked → Type 0
IsWalkedBy form view rsdp walked = LeadsToAcpiBy form view rsdp walked.tables walked.generation

abbrev pub IsWalked : View → ℕ → Walked → Type 0
IsWalked view rsdp walked = IsWalkedBy xsdt_form view rsdp walked

-- what a memory is read as
abbrev pub MeansBy : Form → View → ℕ → Result Walked AcpiFault → Type 0
MeansBy form view rsdp (Ok walked) = IsWalkedBy form view rsdp walked
MeansBy form view rsdp (Err fault) = FirstBy form view rsdp fault

-- a result is what was meant, unless memory ran out
abbrev pub OrNoMemory : Result Walked AcpiFault → Result Walked AcpiFault → Type 0
OrNoMemory result meant = (result ≡ meant) ⊎ (result ≡ Err OutOfMemory)
