-- A DSDT stands where it passes its tests, as the terms that its definition block spells or as one that spells none, and nowhere else.
use Rattle.std.proofs.Common.{◌≡◌, ℕ, ◌+◌, ◌-◌, ◌≤◌, nat_le, List, [], codes, Some, Result, Ok, Err, arith, refl, ap, sym, subst, ◌∙◌}
use Rattle.std.proofs.lemmas.Bool.{le-leb, leb-true}
use Rattle.std.proofs.lemmas.Slice.Eq.{bytes_eq-Decides}
use Rattle.vt_outside.specs.Readings.{Agrees}
use Rattle.vt_bytes.specs.View.{View, bytes_in}
use Rattle.aml_terms.specs.declared.fault.AmlFault.{AmlFault}
use Rattle.aml_terms.specs.declared.fault.AmlFault.TheVariants.{Truncated, BadLength, BadName, OutsideGrammar, OutOfMemory}
use Rattle.aml_terms.specs.declared.term.Term.{Term}
use Rattle.aml_terms.specs.Trees.{Trees, views}
use Rattle.aml_terms.specs.Grammar.{Aml}
use Rattle.aml_terms.specs.Reading.{read_terms, reported}
use Rattle.aml_terms.proofs.ReadTerms.{read_is, read_again}
use Rattle.acpi_records.specs.declared.header.Head.{Head}
use Rattle.acpi_records.specs.Header.{IsTable}
use Rattle.acpi_model.specs.declared.dsdt.Dsdt.{Dsdt}
use Rattle.acpi_model.specs.declared.dsdt.Dsdt.TheVariants.{Terms, Foreign}
use Rattle.acpi_model.specs.Found.{IsBlock, IsDsdt}
use Rattle.acpi_decode.specs.Seen.{bytes_from, signature_at, total_at}
use Rattle.acpi_decode.specs.Tests.{Pass}
use Rattle.acpi_decode.specs.TableTests.{dsdt_tests}
use Rattle.acpi_decode.specs.Read.{head_in}
use Rattle.acpi_decode.proofs.InRam.{part_ram, ram_bytes}
use Rattle.acpi_decode.proofs.Headed.{IsTested, headed_stands, table_tested}
use Rattle.acpi_decode.proofs.TermsOfTrees.{terms_seen}

-- bytes that aren't read as terms spell none
spell_none : (bytes : List ℕ) (fault : AmlFault) → read_terms bytes ≡ Err fault → (terms : Trees) → Aml terms bytes → ⊥
spell_none bytes fault fails terms is = absurd (cc (read_again bytes terms is, fails))

-- nor do those whose terms a reader refused, where memory didn't run out
refused : (bytes : List ℕ) (fault : AmlFault) → (fault ≡ OutOfMemory → ⊥) → Agrees {Value = List Term} reported views (Err fault) (read_terms bytes)
    → read_terms bytes ≡ Err fault
refused bytes (Truncated place) is gives = gives
refused bytes (BadLength place) is gives = gives
refused bytes (BadName place) is gives = gives
refused bytes (OutsideGrammar place) is gives = gives
refused bytes OutOfMemory is gives = absurd (is refl)

pub refused_spell_none : (bytes : List ℕ) (fault : AmlFault) → (fault ≡ OutOfMemory → ⊥)
    → Agrees {Value = List Term} reported views (Err fault) (read_terms bytes) → (terms : Trees) → Aml terms bytes → ⊥
refused_spell_none bytes fault is gives = spell_none bytes fault (refused bytes fault is gives)

-- the definition block of a DSDT that passes its tests, behind its header
pub block_stands : (view : View) (address : ℕ) (head : Head) (total : ℕ) (block : List ℕ) → Pass (dsdt_tests view address)
    → head ≡ head_in (bytes_from view address 36) → total ≡ total_at view address → bytes_in view (address + 36) (total - 36) ≡ Some block
    → IsBlock view address head total block
block_stands view address head total block pass begins told there =
    let stands = headed_stands view address (codes "DSDT") ((bytes_eq-Decides (signature_at view address) (codes "DSDT")).0 pass.1.0)
    (leb-true 36 (total_at view address) pass.1.1.0) pass.1.1.1 in
    record {
      stands = subst (λ (h : Head). IsTable view address (codes "DSDT") h total []) (sym begins)
          (subst (λ n. IsTable view address (codes "DSDT") (head_in (bytes_from view address 36)) n []) (sym told) stands);
      there = there;
    }

-- what it is read as
dsdt_read : (view : View) (address : ℕ) (head : Head) (total : ℕ) (block : List ℕ) → IsBlock view address head total block
    → (read : Result Trees AmlFault) → read_terms block ≡ read → (dsdt : Dsdt) × IsDsdt view address dsdt
dsdt_read view address head total block stands (Ok trees) reads =
    let terms = terms_seen trees in (
      Terms head terms.0,
      record { total = total; block = block; stands = stands; spelled = read_is block (views terms.0) (reads ∙ ap Ok (sym terms.1)) },
    )
dsdt_read view address head total block stands (Err fault) reads =
    (Foreign head total, record { block = block; stands = stands; foreign = spell_none block fault reads })

pub dsdt_stands : (view : View) (address : ℕ) → Pass (dsdt_tests view address) → (dsdt : Dsdt) × IsDsdt view address dsdt
dsdt_stands view address pass =
    let total : ℕ = total_at view address in
    let within : 36 + (total - 36) ≤ total = omega (arith, leb-true 36 total pass.1.1.0) in
    let block = bytes_from view (address + 36) (total - 36) in
    let there = ram_bytes view (address + 36) (total - 36) (part_ram view address total 36 (total - 36) pass.1.1.1.0 within) in
    let head = head_in (bytes_from view address 36) in
    dsdt_read view address head total block (block_stands view address head total block pass refl refl there) (read_terms block) refl

tested_passes : (view : View) (address total : ℕ) → IsTested view address (codes "DSDT") total → Pass (dsdt_tests view address)
tested_passes view address total tested = (
  tested.header,
  (
    (bytes_eq-Decides (signature_at view address) (codes "DSDT")).1 tested.signed,
    (ap (nat_le 36) tested.told ∙ le-leb 36 total tested.long, tested.whole),
  ),
)

pub dsdt_passes : (view : View) (address : ℕ) (dsdt : Dsdt) → IsDsdt view address dsdt → Pass (dsdt_tests view address)
dsdt_passes view address (Terms head terms) is =
    tested_passes view address is.total (table_tested view address (codes "DSDT") head is.total _ is.stands.stands)
dsdt_passes view address (Foreign head length) is =
    tested_passes view address length (table_tested view address (codes "DSDT") head length _ is.stands.stands)
