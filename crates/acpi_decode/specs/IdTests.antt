-- The tests of a DSDT that is read: behind those of the table comes that of the id of the machine's generation, to which its terms lead.
use Rattle.std.specs.Prelude.{ℕ, ◌+◌, ◌-◌, List, [], ◌∷◌, ◌++◌, Option, Some, None, Result, Ok, Err}
use Rattle.vt_bytes.specs.View.{View}
use Rattle.aml_terms.specs.declared.fault.AmlFault.{AmlFault}
use Rattle.aml_terms.specs.Trees.{Trees, views}
use Rattle.aml_terms.specs.Reading.{read_terms}
use Rattle.aml_generation.specs.Generation.{taken}
use Rattle.acpi_model.specs.declared.dsdt.Dsdt.{Dsdt}
use Rattle.acpi_model.specs.declared.dsdt.Dsdt.TheVariants.{Terms, Foreign}
use Rattle.acpi_decode.specs.declared.fault.AcpiFault.TheVariants.{OutsideRam}
use Rattle.acpi_decode.specs.Seen.{is_ram, bytes_from, total_at}
use Rattle.acpi_decode.specs.Tests.{Test}
use Rattle.acpi_decode.specs.TableTests.{dsdt_tests}

-- the address of the id that a definition block tells, as it is read: one that spells no terms tells none
abbrev pub told_in : Result Trees AmlFault → Option ℕ
told_in (Ok terms) = (taken terms).0
told_in (Err fault) = None

-- and a DSDT
abbrev pub told_by : Dsdt → Option ℕ
told_by (Terms head terms) = (taken (views terms)).0
told_by (Foreign head length) = None

-- the definition block of the DSDT at an address, which fills it behind its header
abbrev pub block_at : View → ℕ → List ℕ
block_at view address = bytes_from view (address + 36) (total_at view address - 36)

-- the address of the id that it tells
abbrev pub id_told : View → ℕ → Option ℕ
id_told view address = told_in (read_terms (block_at view address))

-- the 16 bytes of an id whose address is told are RAM
abbrev pub ram_tests : View → Option ℕ → List Test
ram_tests view None = []
ram_tests view (Some at) = (is_ram view at 16, OutsideRam at) ∷ []

abbrev pub id_tests : View → ℕ → List Test
id_tests view address = ram_tests view (id_told view address)

abbrev pub read_dsdt_tests : View → ℕ → List Test
read_dsdt_tests view address = dsdt_tests view address ++ id_tests view address
