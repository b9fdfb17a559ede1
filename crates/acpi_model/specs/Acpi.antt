-- The ACPI tables that a view shows, from its RSDP on (ACPI 6.5, chapter 5), and those of a machine.
use Rattle.std.specs.Prelude.{◌≡◌, ℕ, ◌+◌, ◌^◌, ◌<◌, ◌⊎◌, Bool, true, not, List, [], ◌∷◌, ◌++◌}
use Rattle.std.specs.Prelude.{Option, Some, None, is_some, IfSome, option_map, option_and_then, option_to_list}
use Rattle.std.specs.List.{find, flat_map, AllByRecursion}
use Rattle.std.specs.Option.{option_map_or}
use Rattle.std.specs.Str.{bytes_eq}
use Rattle.vt_bytes.specs.View.{View, bytes_in}
use Rattle.vt_layout.specs.declared.row.Row.{Row}
use Rattle.vt_layout.specs.Rows.{size, IsRow}
use Rattle.machine_desc.specs.declared.machine.Machine.{Machine}
use Rattle.machine_desc.specs.declared.machine.Acpi.{Acpi}
use Rattle.machine_desc.specs.Uuids.{uuid_bytes}
use Rattle.acpi_records.specs.declared.header.Head.{Head}
use Rattle.acpi_model.specs.declared.acpi.AcpiTables.{AcpiTables}
use Rattle.acpi_model.specs.declared.acpi.OtherTable.{OtherTable}
use Rattle.acpi_model.specs.declared.acpi.Table.{Table}
use Rattle.acpi_model.specs.declared.acpi.FadtTargets.{FadtTargets}
use Rattle.acpi_model.specs.declared.acpi.Table.TheVariants.{Fadt, Madt, Srat, Slit, Mcfg, Hpet}
use Rattle.acpi_model.specs.declared.dsdt.Dsdt.{Dsdt}
use Rattle.acpi_model.specs.declared.dsdt.Dsdt.TheVariants.{Terms}
use Rattle.acpi_model.specs.declared.link.FadtLinks.{FadtLinks}
use Rattle.dsdt_terms.specs.Dsdt.{terms_at, kept_terms}
use Rattle.acpi_records.specs.Header.{IsTable, IsFittingHead, head_of, padded}
use Rattle.acpi_model.specs.Kinds.{Kind, TableLayout, IsLayoutAt, IsLawful, table_of, rows_behind, layout_rows, linked_layout}
use Rattle.acpi_model.specs.declared.form.Form.{Form}
use Rattle.acpi_model.specs.Form.{xsdt_form}
use Rattle.acpi_model.specs.FadtKind.{fadt_kind, fadt_kind_by, fadt_layout, link_rows, as_fadt, links_of}
use Rattle.acpi_model.specs.Found.{LeadTo}
use Rattle.acpi_records.specs.Facs.{initial_facs}
use Rattle.acpi_model.specs.MachineFadt.{fadt_of, fadt_links}
use Rattle.acpi_model.specs.MachineMadt.{madt_of_machine}
use Rattle.acpi_records.specs.Hpet.{hpet_of}
use Rattle.acpi_model.specs.MadtKind.{madt_kind, madt_layout, as_madt}
use Rattle.acpi_model.specs.SratKind.{srat_kind, srat_layout, as_srat}
use Rattle.acpi_model.specs.SlitKind.{slit_kind, slit_layout, as_slit}
use Rattle.acpi_model.specs.MachineSrat.{srat_of_machine}
use Rattle.acpi_model.specs.MachineSlit.{slit_of_machine}
use Rattle.acpi_model.specs.McfgKind.{mcfg_kind, mcfg_layout, as_mcfg}
use Rattle.acpi_model.specs.MachineMcfg.{mapped, mcfg_of_bridge}
use Rattle.acpi_model.specs.HpetKind.{hpet_kind, hpet_layout, as_hpet}
use Rattle.acpi_model.specs.Xsdt.{IsRoot}
use Rattle.acpi_model.specs.Rsdp.{IsRsdpBy, HasRsdpBy}

-- the kinds of tables that are known in a form, each of another signature
abbrev pub kinds_by : Form → List Kind
kinds_by form = fadt_kind_by form ∷ madt_kind ∷ srat_kind ∷ slit_kind ∷ mcfg_kind ∷ hpet_kind ∷ []

abbrev pub kinds : List Kind
kinds = kinds_by xsdt_form

-- the kind of a signature, where it is known
abbrev pub kind_by : Form → List ℕ → Option Kind
kind_by form signature = find (λ (kind : Kind). bytes_eq signature kind.signature) (kinds_by form)

abbrev pub kind_of : List ℕ → Option Kind
kind_of signature = kind_by xsdt_form signature

abbrev pub layout_of : Table → TableLayout
layout_of (Fadt t links) = fadt_layout t links
layout_of (Madt t) = madt_layout t
layout_of (Srat t) = srat_layout t
layout_of (Slit t) = slit_layout t
layout_of (Mcfg t) = mcfg_layout t
layout_of (Hpet t) = hpet_layout t

-- the signature of a table
abbrev pub signature_of : Table → List ℕ
signature_of table = (layout_of table).kind.signature

-- the rows of a table as they are written
abbrev pub rows_of : Table → List Row
rows_of table = layout_rows (layout_of table)

-- a table that leads elsewhere by pointers, with its targets' places added, where each file stands at its place
abbrev pub linked_table : (List ℕ → ℕ) → Table → Table
linked_table place_of table = table_of (linked_layout place_of (layout_of table))

-- the rows of a table's pointers as they are written
abbrev pub pointer_rows : Table → List Row
pointer_rows table = option_map_or link_rows (links_of table) []

-- A table that can be written, beyond that the values of its records fit their rows: its layout is lawful, and what its pointers tell
-- fits their rows, also with any place of a file added.
pub record IsWritable (table : Table) : Type 0 where
  pub lawful : IsLawful (layout_of table)
  pub lead : AllByRecursion IsRow (pointer_rows table)

-- how many bytes tables have behind their headers
abbrev pub bytes_behind : List Table → ℕ
bytes_behind [] = 0
bytes_behind (table ∷ tables) = size (rows_behind (layout_of table)) + bytes_behind tables

-- a table that can be put into a file: its values fit their rows, too
pub record CanBePut (table : Table) : Type 0 where
  pub writable : IsWritable table
  pub head : IsFittingHead (layout_of table).head
  pub fit : AllByRecursion IsRow (rows_behind (layout_of table))

-- The table of a kind that is known in a form stands at an address: it is what a layout of its kind says that stands there.
pub record IsAtBy (form : Form) (view : View) (address : ℕ) (table : Table) : Type 0 where
  pub layout : TableLayout
  pub known : kind_by form layout.kind.signature ≡ Some layout.kind
  pub stands : IsLayoutAt view address layout
  pub says : table ≡ table_of layout

abbrev pub IsAt : View → ℕ → Table → Type 0
IsAt view address table = IsAtBy xsdt_form view address table

-- A table of another signature stands at an address.
pub record IsOther (view : View) (address : ℕ) (t : OtherTable) : Type 0 where
  pub unknown : kind_of t.signature ≡ None
  pub head : Head
  pub stands : IsTable view address t.signature head t.length []

-- The tables that stand at addresses, in order: those of known kinds, and the others.
abbrev pub WalksBy : Form → View → List ℕ → List Table → List OtherTable → Type 0
WalksBy form view [] tables others = (tables ≡ []) × (others ≡ [])
WalksBy form view (address ∷ addresses) tables others =
    ((t : Table) × (more : List Table) × IsAtBy form view address t × (tables ≡ t ∷ more) × WalksBy form view addresses more others)
    ⊎ ((t : OtherTable) × (more : List OtherTable) × IsOther view address t × (others ≡ t ∷ more) × WalksBy form view addresses tables more)

abbrev pub Walks : View → List ℕ → List Table → List OtherTable → Type 0
Walks view addresses tables others = WalksBy xsdt_form view addresses tables others

-- each table of a known kind stands at its address
abbrev pub AreAt : View → List ℕ → List Table → Type 0
AreAt view [] [] = Unit {0}
AreAt view (address ∷ addresses) (table ∷ tables) = IsAt view address table × AreAt view addresses tables
AreAt view addresses tables = ⊥

-- no two tables have one signature
abbrev pub AreDistinct : List Table → Type 0
AreDistinct [] = Unit {0}
AreDistinct (table ∷ tables) = AllByRecursion (λ other. signature_of other ≡ signature_of table → ⊥) tables × AreDistinct tables

-- the first of some tables with a signature
abbrev pub first_with : List ℕ → List Table → Option Table
first_with signature tables = find (λ table. bytes_eq (signature_of table) signature) tables

-- the first that is of a kind, as the record of that kind
abbrev pub first_of : {T : Type 0} → Kind → (Table → Option T) → List Table → Option T
first_of kind as_kind tables = option_and_then as_kind (first_with kind.signature tables)

-- the pointers of the first FADT of some tables
abbrev pub first_links : List Table → Option FadtLinks
first_links tables = first_of fadt_kind links_of tables

-- What an RSDP and an XSDT tell, with the tables that the XSDT names, of each kind the first of them, what the FADT leads to, and the
-- others.
abbrev pub gathered : List ℕ → Head → List Table → FadtTargets → List OtherTable → AcpiTables
gathered oem_id xsdt tables targets others = record {
  oem_id = oem_id;
  xsdt = xsdt;
  fadt = first_of fadt_kind as_fadt tables;
  facs = targets.facs;
  dsdt = targets.dsdt;
  madt = first_of madt_kind as_madt tables;
  srat = first_of srat_kind as_srat tables;
  slit = first_of slit_kind as_slit tables;
  mcfg = first_of mcfg_kind as_mcfg tables;
  hpet = first_of hpet_kind as_hpet tables;
  others = others;
}

-- Tables stand at addresses, one after the other: those of known kinds, no two of which are of one kind, what the FADT among them leads
-- to, and the others.
pub record AreFoundBy (form : Form) (view : View) (addresses : List ℕ) (tables : List Table) (targets : FadtTargets) (others : List OtherTable) : Type 0 where
  pub named : WalksBy form view addresses tables others
  pub distinct : AreDistinct tables
  pub lead : LeadTo view (first_links tables) targets

abbrev pub AreFound : View → List ℕ → List Table → FadtTargets → List OtherTable → Type 0
AreFound view addresses tables targets others = AreFoundBy xsdt_form view addresses tables targets others

-- The tables at addresses tell these, and the id of a generation: what they tell is gathered of them.
pub record AreToldBy (form : Form) (view : View) (addresses : List ℕ) (t : AcpiTables) (id : Option (List ℕ)) : Type 0 where
  pub tables : List Table
  pub targets : FadtTargets
  pub found : AreFoundBy form view addresses tables targets t.others
  pub told : t ≡ gathered t.oem_id t.xsdt tables targets t.others
  pub its_id : id ≡ targets.generation

abbrev pub AreTold : View → List ℕ → AcpiTables → Option (List ℕ) → Type 0
AreTold view addresses t id = AreToldBy xsdt_form view addresses t id

-- The RSDP at an address has the maker's id and leads to the root, whose entries name the tables, which lead to the id of a generation.
pub record LeadsToAcpiBy (form : Form) (view : View) (rsdp : ℕ) (t : AcpiTables) (id : Option (List ℕ)) : Type 0 where
  pub xsdt : ℕ
  pub valid : IsRsdpBy form view rsdp t.oem_id xsdt
  pub addresses : List ℕ
  pub listed : IsRoot form view xsdt t.xsdt addresses
  pub tables : AreToldBy form view addresses t id

abbrev pub LeadsToAcpi : View → ℕ → AcpiTables → Option (List ℕ) → Type 0
LeadsToAcpi view rsdp t id = LeadsToAcpiBy xsdt_form view rsdp t id

-- The view shows the tables and the id of a generation: the least valid RSDP of a form leads to them.
pub record ShowsAcpiBy (form : Form) (view : View) (t : AcpiTables) (id : Option (List ℕ)) : Type 0 where
  pub rsdp : ℕ
  pub least : (other : ℕ) → other < rsdp → HasRsdpBy form view other → ⊥
  pub leads : LeadsToAcpiBy form view rsdp t id

abbrev pub ShowsAcpi : View → AcpiTables → Option (List ℕ) → Type 0
ShowsAcpi view t id = ShowsAcpiBy xsdt_form view t id

-- what nothing leads to
abbrev pub no_targets : FadtTargets
no_targets = record { facs = None; dsdt = None; generation = None }

-- the test that a table with a signature is the first, behind others
abbrev pub is_first : List ℕ → List Table → Bool
is_first signature before = not (is_some (first_with signature before))

-- what a table of a known kind leads to by its pointers, and nothing where it has none
abbrev pub TableLeadsTo : View → Table → FadtTargets → Type 0
TableLeadsTo view t targets = LeadTo view (links_of t) targets

-- The table at an address is found behind others: it is of a known kind and the first of it, with what it leads to; or it is another.
abbrev pub IsFoundBehindBy : Form → View → ℕ → List Table → Type 0
IsFoundBehindBy form view address before =
    ((t : Table) × (targets : FadtTargets) × IsAtBy form view address t × (is_first (signature_of t) before ≡ true) × TableLeadsTo view t targets)
    ⊎ ((t : OtherTable) × IsOther view address t)

abbrev pub IsFoundBehind : View → ℕ → List Table → Type 0
IsFoundBehind view address before = IsFoundBehindBy xsdt_form view address before

-- a table of a known kind, with what it leads to, added to what was gathered before
abbrev pub with_table : Table → FadtTargets → AcpiTables → AcpiTables
with_table (Fadt t links) targets all = record all { fadt = Some t; facs = targets.facs; dsdt = targets.dsdt }
with_table (Madt t) targets all = record all { madt = Some t }
with_table (Srat t) targets all = record all { srat = Some t }
with_table (Slit t) targets all = record all { slit = Some t }
with_table (Mcfg t) targets all = record all { mcfg = Some t }
with_table (Hpet t) targets all = record all { hpet = Some t }

-- and the id to which it leads, where it is one that leads to any
abbrev pub id_with : Table → FadtTargets → Option (List ℕ) → Option (List ℕ)
id_with (Fadt t links) targets before = targets.generation
id_with table targets before = before

-- and another table
abbrev pub with_other : OtherTable → AcpiTables → AcpiTables
with_other t all = record all { others = all.others ++ t ∷ [] }

-- Where the FACS of a machine stands in the file of the tables: before all others. The file is placed at a multiple of 64, as the FACS
-- has to be (ACPI 6.5, 5.2.10).
abbrev pub facs_place : ℕ
facs_place = 0

-- where its DSDT stands: behind the FACS, which has 64 bytes
abbrev pub dsdt_place : ℕ
dsdt_place = 64

-- of each known kind a machine's table, where it has one
abbrev pub parts_of : Machine → Acpi → List (Option Table)
parts_of m acpi =
    option_map (λ power. Fadt (fadt_of acpi power) (fadt_links facs_place dsdt_place)) m.power
    ∷ option_map (λ apic. Madt (madt_of_machine m acpi apic)) m.apic
    ∷ option_map (λ numa. Srat (srat_of_machine m acpi)) m.numa
    ∷ option_map (λ numa. Slit (slit_of_machine acpi numa)) m.numa
    ∷ option_map (λ bridge. Mcfg (mcfg_of_bridge acpi bridge)) (mapped m.bridge)
    ∷ option_map (λ hpet. Hpet (hpet_of acpi hpet)) m.hpet ∷ []

-- the parts that are there
abbrev pub present : List (Option Table) → List Table
present parts = flat_map option_to_list parts

-- the tables that a machine's XSDT names, in order
abbrev pub tables_of : Machine → Acpi → List Table
tables_of m acpi = present (parts_of m acpi)

-- a machine's DSDT where the id of its generation is at an address, and what is kept of it
abbrev pub dsdt_at : ℕ → Machine → Acpi → Dsdt
dsdt_at address m acpi = Terms (head_of acpi 2) (terms_at address m)

abbrev pub dsdt_of : Machine → Acpi → Dsdt
dsdt_of m acpi = Terms (head_of acpi 2) (kept_terms m)

-- the id of its generation, as a guest finds it
abbrev pub id_of : Machine → Option (List ℕ)
id_of m = option_map uuid_bytes m.generation

-- what its FADT leads to
abbrev pub targets_of : Machine → Acpi → FadtTargets
targets_of m acpi = record {
  facs = option_map (λ power. initial_facs) m.power;
  dsdt = option_map (λ power. dsdt_of m acpi) m.power;
  generation = id_of m;
}

-- a view has a machine's id where its DSDT tells that it is, below 4 GiB
abbrev pub HasIdAt : View → ℕ → Machine → Type 0
HasIdAt view address m = IfSome m.generation (λ id. (address < 2 ^ 32) × (bytes_in view address 16 ≡ Some (uuid_bytes id)))

-- the tables of a machine that has some
abbrev pub acpi_of : Machine → Acpi → AcpiTables
acpi_of m acpi = gathered (padded 6 acpi.oem_id) (head_of acpi 1) (tables_of m acpi) (targets_of m acpi) []
