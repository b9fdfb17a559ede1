-- What a walk leads to from the RSDP.
use Rattle.std.proofs.Common.{◌≡◌, ℕ, List, [], None, ap, sym, subst, ◌∙◌}
use Rattle.vt_bytes.specs.View.{View}
use Rattle.acpi_records.specs.declared.header.Head.{Head}
use Rattle.acpi_model.specs.declared.form.Form.{Form}
use Rattle.acpi_model.specs.declared.acpi.OtherTable.{OtherTable}
use Rattle.acpi_model.specs.Rsdp.{IsRsdpBy}
use Rattle.acpi_model.specs.Xsdt.{IsRoot}
use Rattle.acpi_model.specs.Acpi.{gathered, no_targets, AreToldBy}
use Rattle.acpi_model.proofs.FoundInTurn.{nothing_found}
use Rattle.acpi_decode.specs.declared.fault.AcpiFault.{AcpiFault}
use Rattle.acpi_decode.specs.declared.walked.Walked.{Walked}
use Rattle.acpi_decode.specs.Seen.{bytes_from}
use Rattle.acpi_decode.specs.Tests.{Pass}
use Rattle.acpi_decode.specs.TableTests.{root_tests}
use Rattle.acpi_decode.specs.Faults.{IsTableFault, FirstBy, IsWalkedBy}
use Rattle.acpi_decode.specs.Read.{head_in, named_at}
use Rattle.acpi_decode.specs.Taken.{AreTaken, AreRefused}
use Rattle.acpi_decode.proofs.Firsts.{behind_first}
use Rattle.acpi_decode.proofs.RootStands.{root_stands}

-- what is told before the first table, with a list of others that is empty
abbrev pub begun_with : List ℕ → Head → List OtherTable → Walked
begun_with oem_id head others = record {
  tables = record {
    oem_id = oem_id;
    xsdt = head;
    fadt = None;
    facs = None;
    dsdt = None;
    madt = None;
    srat = None;
    slit = None;
    mcfg = None;
    hpet = None;
    others = others;
  };
  generation = None;
}

-- with an empty one
abbrev pub begun_at : List ℕ → Head → Walked
begun_at oem_id head = record { tables = gathered oem_id head [] no_targets []; generation = None }

pub begun_is : (oem_id : List ℕ) (head : Head) (others : List OtherTable) → others ≡ [] → begun_with oem_id head others ≡ begun_at oem_id head
begun_is oem_id head others is = ap (begun_with oem_id head) is

-- tables of which only the maker's id and the root's header are told
pub begun_told : (form : Form) (view : View) (oem_id : List ℕ) (head : Head) (begun : Walked) → begun ≡ begun_at oem_id head
    → AreToldBy form view [] begun.tables begun.generation
begun_told form view oem_id head begun is =
    subst (λ (all : Walked). AreToldBy form view [] all.tables all.generation) (sym is) (nothing_found form view oem_id head)

pub walk_leads : (form : Form) (view : View) (rsdp : ℕ) (oem_id : List ℕ) (root : ℕ) (head : Head) (begun all : Walked) → IsRsdpBy form view rsdp oem_id root
    → Pass (root_tests form view root) → head ≡ head_in (bytes_from view root 36) → begun ≡ begun_at oem_id head
    → AreTaken form view root begun all → IsWalkedBy form view rsdp all
walk_leads form view rsdp oem_id root head begun all valid pass head_is is taken =
    let ids : all.tables.oem_id ≡ oem_id = taken.oem_id ∙ ap (λ (w : Walked). w.tables.oem_id) is in
    let headers : all.tables.xsdt ≡ head_in (bytes_from view root 36) = taken.header ∙ ap (λ (w : Walked). w.tables.xsdt) is ∙ head_is in
    record {
      xsdt = root;
      valid = subst (λ o. IsRsdpBy form view rsdp o root) (sym ids) valid;
      addresses = named_at form view root;
      listed = subst (λ h. IsRoot form view root h (named_at form view root)) (sym headers) (root_stands form view root pass);
      tables = taken.told (begun_told form view oem_id head begun is);
    }

pub walk_refused : (form : Form) (view : View) (rsdp : ℕ) (oem_id : List ℕ) (root : ℕ) (head : Head) (begun : Walked) (fault : AcpiFault)
    → IsRsdpBy form view rsdp oem_id root → Pass (root_tests form view root) → begun ≡ begun_at oem_id head → AreRefused form view root begun fault
    → FirstBy form view rsdp fault
walk_refused form view rsdp oem_id root head begun fault valid pass is refused = record {
  oem_id = oem_id;
  xsdt = root;
  valid = valid;
  is = behind_first (root_tests form view root) (IsTableFault form view root) fault pass (refused (begun_told form view oem_id head begun is));
}
