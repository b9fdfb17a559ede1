-- What an FADT leads to in a view: a FACS (ACPI 6.5, 5.2.10), a DSDT (5.2.11.1), and what that leads to, the id of the machine's generation.
use Rattle.std.specs.Prelude.{◌≡◌, ℕ, ◌+◌, ◌-◌, ◌<◌, ◌⊎◌, List, [], codes, Option, Some, None}
use Rattle.std.specs.List.{AllByRecursion}
use Rattle.vt_bytes.specs.View.{View, bytes_in}
use Rattle.vt_layout.specs.declared.row.Row.{Row}
use Rattle.vt_layout.specs.declared.row.Row.TheVariants.{Sum}
use Rattle.vt_layout.specs.Rows.{IsPlain}
use Rattle.aml_terms.specs.declared.term.Term.{Term}
use Rattle.aml_terms.specs.Trees.{Trees, views}
use Rattle.aml_terms.specs.Grammar.{Aml}
use Rattle.aml_generation.specs.Generation.{taken}
use Rattle.acpi_records.specs.declared.header.Head.{Head}
use Rattle.acpi_records.specs.Header.{IsTable, table_rows}
use Rattle.acpi_records.specs.Facs.{IsFacs}
use Rattle.acpi_model.specs.declared.dsdt.Dsdt.{Dsdt}
use Rattle.acpi_model.specs.declared.dsdt.Dsdt.TheVariants.{Terms, Foreign}
use Rattle.acpi_model.specs.declared.link.FadtLinks.{FadtLinks}
use Rattle.acpi_model.specs.declared.acpi.FadtTargets.{FadtTargets}
use Rattle.acpi_model.specs.Links.{wide_or, IsFound}

-- A DSDT of so many bytes stands at the address, and this is its definition block, which fills it behind its header.
pub record IsBlock (view : View) (address : ℕ) (head : Head) (total : ℕ) (block : List ℕ) : Type 0 where
  pub stands : IsTable view address (codes "DSDT") head total []
  pub there : bytes_in view (address + 36) (total - 36) ≡ Some block

-- its definition block spells these terms
pub record SpellsTerms (view : View) (address : ℕ) (head : Head) (terms : List Term) : Type 0 where
  pub total : ℕ
  pub block : List ℕ
  pub stands : IsBlock view address head total block
  pub spelled : Aml (views terms) block

-- its definition block spells no terms
pub record SpellsNone (view : View) (address : ℕ) (head : Head) (total : ℕ) : Type 0 where
  pub block : List ℕ
  pub stands : IsBlock view address head total block
  pub foreign : (terms : Trees) → Aml terms block → ⊥

-- A DSDT stands at the address. It is told as the terms that its definition block spells, or where none do, by its length.
abbrev pub IsDsdt : View → ℕ → Dsdt → Type 0
IsDsdt view address (Terms head terms) = SpellsTerms view address head terms
IsDsdt view address (Foreign head length) = SpellsNone view address head length

-- a DSDT as it is written, with these rows as its definition block
abbrev pub dsdt_rows : Head → List Row → List Row
dsdt_rows head block = table_rows (codes "DSDT") head block

-- a row of a definition block, which has no checksum of its own
abbrev pub IsBlockRow : Row → Type 0
IsBlockRow (Sum covers) = ⊥
IsBlockRow row = Unit {0}

-- a view that shows bytes alone, as a memory does
abbrev pub ShowsBytes : View → Type 0
ShowsBytes view = (place byte : ℕ) → view place ≡ Some byte → byte < 256

-- What is held of rows says which bytes they are: they have no pointers, or the view shows bytes alone, since other numbers could tell a
-- place, too.
abbrev pub IsSpelledIn : View → List Row → Type 0
IsSpelledIn view block = AllByRecursion IsPlain block ⊎ ShowsBytes view

-- where the FACS and the DSDT are to which these pointers lead
abbrev pub facs_address : FadtLinks → ℕ
facs_address links = wide_or links.x_firmware_ctrl links.firmware_ctrl

abbrev pub dsdt_address : FadtLinks → ℕ
dsdt_address links = wide_or links.x_dsdt links.dsdt

-- The id of a machine's generation, whose address may be told: the 16 bytes there, which are RAM.
abbrev pub IsIdAt : View → Option ℕ → Option (List ℕ) → Type 0
IsIdAt view None id = id ≡ None
IsIdAt view (Some address) id = (bytes : List ℕ) × (bytes_in view address 16 ≡ Some bytes) × (id ≡ Some bytes)

-- What is kept of a DSDT, and the id to which it leads: terms that tell the address of an id are kept with zeros in its place, and others as
-- they are. One whose definition block spells none leads to none.
abbrev pub IsKept : View → Dsdt → Dsdt → Option (List ℕ) → Type 0
IsKept view (Terms head terms) dsdt id =
    (kept : List Term) × (dsdt ≡ Terms head kept) × (views kept ≡ (taken (views terms)).1) × IsIdAt view (taken (views terms)).0 id
IsKept view (Foreign head length) dsdt id = (dsdt ≡ Foreign head length) × (id ≡ None)

-- a DSDT stands at the address of which this is kept, and which leads to this id
pub record IsKeptAt (view : View) (address : ℕ) (dsdt : Dsdt) (id : Option (List ℕ)) : Type 0 where
  pub written : Dsdt
  pub stands : IsDsdt view address written
  pub kept : IsKept view written dsdt id

-- What an address leads to: nothing where it is 0, else a DSDT that stands there.
abbrev pub LeadsToDsdt : View → ℕ → Option Dsdt → Option (List ℕ) → Type 0
LeadsToDsdt view address None id = (address ≡ 0) × (id ≡ None)
LeadsToDsdt view address (Some dsdt) id = (address ≡ 0 → ⊥) × IsKeptAt view address dsdt id

-- The pointers of an FADT lead to these, and where there is no FADT nothing is led to.
abbrev pub LeadTo : View → Option FadtLinks → FadtTargets → Type 0
LeadTo view None targets = (targets.facs ≡ None) × (targets.dsdt ≡ None) × (targets.generation ≡ None)
LeadTo view (Some links) targets =
    IsFound (IsFacs view) (facs_address links) targets.facs × LeadsToDsdt view (dsdt_address links) targets.dsdt targets.generation
