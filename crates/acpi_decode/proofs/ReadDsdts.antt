-- A DSDT is kept, with the id to which it leads, where it passes the tests of one that is read, and nowhere else.
use Rattle.std.proofs.Common.{◌≡◌, ℕ, ◌+◌, ◌-◌, is_some, List, [], codes, Option, Some, None, Result, Ok, Err, refl, ap, sym, subst, ◌∙◌}
use Rattle.std.specs.Option.{unwrap_or}
use Rattle.vt_bytes.specs.View.{View}
use Rattle.aml_terms.specs.declared.fault.AmlFault.{AmlFault}
use Rattle.aml_terms.specs.Trees.{Trees, views}
use Rattle.aml_terms.specs.Grammar.{Aml}
use Rattle.aml_terms.specs.Reading.{read_terms}
use Rattle.aml_terms.proofs.ReadTerms.{read_is, read_again}
use Rattle.aml_generation.specs.Generation.{taken}
use Rattle.acpi_records.specs.declared.header.Head.{Head}
use Rattle.acpi_model.specs.declared.dsdt.Dsdt.{Dsdt}
use Rattle.acpi_model.specs.declared.dsdt.Dsdt.TheVariants.{Terms, Foreign}
use Rattle.acpi_model.specs.Found.{IsBlock, IsDsdt, IsIdAt, IsKept, IsKeptAt}
use Rattle.acpi_decode.specs.declared.fault.AcpiFault.{AcpiFault}
use Rattle.acpi_decode.specs.Seen.{bytes_from}
use Rattle.acpi_decode.specs.Tests.{FirstFails, NoFault, Pass}
use Rattle.acpi_decode.specs.TableTests.{dsdt_tests}
use Rattle.acpi_decode.specs.IdTests.{told_in, told_by, block_at, id_told, ram_tests, id_tests, read_dsdt_tests}
use Rattle.acpi_decode.proofs.InRam.{ram_bytes}
use Rattle.acpi_decode.proofs.Firsts.{first_back, pass_both, pass_front, pass_back}
use Rattle.acpi_decode.proofs.Headed.{table_tested}
use Rattle.acpi_decode.proofs.TermsOfTrees.{terms_seen}
use Rattle.acpi_decode.proofs.Dsdts.{dsdt_stands, dsdt_passes}

-- the definition block of a DSDT that stands
block_read : (view : View) (address : ℕ) (head : Head) (total : ℕ) (block : List ℕ) → IsBlock view address head total block
    → block ≡ block_at view address
block_read view address head total block is =
    let tested = table_tested view address (codes "DSDT") head total [] is.stands in
    ap (λ o. unwrap_or o []) (sym is.there) ∙ ap (λ n. bytes_from view (address + 36) (n - 36)) (sym tested.told)

-- one that spells no terms tells no address
foreign_tells : (block : List ℕ) (read : Result Trees AmlFault) → read_terms block ≡ read → ((terms : Trees) → Aml terms block → ⊥)
    → told_in read ≡ None
foreign_tells block (Ok trees) reads foreign = absurd (foreign trees (read_is block trees reads))
foreign_tells block (Err fault) reads foreign = refl

-- what it tells is told by the DSDT
pub block_tells : (view : View) (address : ℕ) (written : Dsdt) → IsDsdt view address written → id_told view address ≡ told_by written
block_tells view address (Terms head terms) is =
    ap (λ block. told_in (read_terms block)) (sym (block_read view address head is.total is.block is.stands))
    ∙ ap told_in (read_again is.block (views terms) is.spelled)
block_tells view address (Foreign head length) is =
    ap (λ block. told_in (read_terms block)) (sym (block_read view address head length is.block is.stands))
    ∙ foreign_tells is.block (read_terms is.block) refl is.foreign

-- an id is there where its bytes are RAM
id_there : (view : View) (told : Option ℕ) → Pass (ram_tests view told) → (id : Option (List ℕ)) × IsIdAt view told id
id_there view None pass = (None, refl)
id_there view (Some at) pass = (Some (bytes_from view at 16), (bytes_from view at 16, ram_bytes view at 16 pass.0, refl))

id_passes : (view : View) (told : Option ℕ) (id : Option (List ℕ)) → IsIdAt view told id → Pass (ram_tests view told)
id_passes view None id is = tt
id_passes view (Some at) id is = (ap is_some is.1, tt)

-- what is kept of a DSDT that stands
kept_of : (view : View) (written : Dsdt) → Pass (ram_tests view (told_by written)) → (dsdt : Dsdt) × (id : Option (List ℕ)) × IsKept view written dsdt id
kept_of view (Terms head terms) pass =
    let left = terms_seen (taken (views terms)).1 in
    let id = id_there view (taken (views terms)).0 pass in
    (Terms head left.0, id.0, (left.0, refl, left.1, id.1))
kept_of view (Foreign head length) pass = (Foreign head length, None, (refl, refl))

kept_passes : (view : View) (written dsdt : Dsdt) (id : Option (List ℕ)) → IsKept view written dsdt id → Pass (ram_tests view (told_by written))
kept_passes view (Terms head terms) dsdt id is = id_passes view (taken (views terms)).0 id is.3
kept_passes view (Foreign head length) dsdt id is = tt

pub kept_stands : (view : View) (address : ℕ) → Pass (read_dsdt_tests view address)
    → (dsdt : Dsdt) × (id : Option (List ℕ)) × IsKeptAt view address dsdt id
kept_stands view address pass =
    let written = dsdt_stands view address (pass_front (dsdt_tests view address) (id_tests view address) pass) in
    let passes = pass_back (dsdt_tests view address) (id_tests view address) pass in
    let kept = kept_of view written.0 (subst (λ told. Pass (ram_tests view told)) (block_tells view address written.0 written.1) passes) in
    (kept.0, kept.1, record { written = written.0; stands = written.1; kept = kept.2 })

-- the tests of the id pass behind those of the table
pub both_pass : (view : View) (address : ℕ) (written : Dsdt) → IsDsdt view address written → Pass (ram_tests view (told_by written))
    → Pass (read_dsdt_tests view address)
both_pass view address written stands pass =
    pass_both (dsdt_tests view address) (id_tests view address) (dsdt_passes view address written stands)
    (subst (λ told. Pass (ram_tests view told)) (sym (block_tells view address written stands)) pass)

pub kept_at_passes : (view : View) (address : ℕ) (dsdt : Dsdt) (id : Option (List ℕ)) → IsKeptAt view address dsdt id
    → Pass (read_dsdt_tests view address)
kept_at_passes view address dsdt id is = both_pass view address is.written is.stands (kept_passes view is.written dsdt id is.kept)

-- where it fails, it is the first that does
pub id_fails : (view : View) (address : ℕ) (written : Dsdt) (fault : AcpiFault) → IsDsdt view address written
    → FirstFails (ram_tests view (told_by written)) NoFault fault → FirstFails (read_dsdt_tests view address) NoFault fault
id_fails view address written fault stands fails =
    first_back (dsdt_tests view address) (id_tests view address) NoFault fault (dsdt_passes view address written stands)
    (subst (λ told. FirstFails (ram_tests view told) NoFault fault) (sym (block_tells view address written stands)) fails)
