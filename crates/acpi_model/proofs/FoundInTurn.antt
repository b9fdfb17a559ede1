-- Tables that are found one after the other: one more is added to what was told before, and what is found before one is found.
use Rattle.std.proofs.Common.{◌≡◌, ℕ, true, not, List, [], ◌∷◌, ◌++◌, Option, Some, None, is_some, codes, inl, inr, refl, ap, sym, subst, ◌∙◌}
use Rattle.std.proofs.Common.{append_assoc}
use Rattle.std.specs.Option.{option_or}
use Rattle.vt_bytes.specs.View.{View}
use Rattle.acpi_records.specs.declared.header.Head.{Head}
use Rattle.acpi_model.specs.declared.acpi.AcpiTables.{AcpiTables}
use Rattle.acpi_model.specs.declared.acpi.OtherTable.{OtherTable}
use Rattle.acpi_model.specs.declared.acpi.FadtTargets.{FadtTargets}
use Rattle.acpi_model.specs.declared.acpi.Table.{Table}
use Rattle.acpi_model.specs.declared.acpi.Table.TheVariants.{Fadt, Madt, Srat, Slit, Mcfg, Hpet}
use Rattle.acpi_model.specs.declared.link.FadtLinks.{FadtLinks}
use Rattle.acpi_model.specs.Found.{LeadTo}
use Rattle.acpi_model.specs.FadtKind.{fadt_kind, as_fadt, links_of}
use Rattle.acpi_model.specs.MadtKind.{madt_kind, as_madt}
use Rattle.acpi_model.specs.SratKind.{srat_kind, as_srat}
use Rattle.acpi_model.specs.SlitKind.{slit_kind, as_slit}
use Rattle.acpi_model.specs.McfgKind.{mcfg_kind, as_mcfg}
use Rattle.acpi_model.specs.HpetKind.{hpet_kind, as_hpet}
use Rattle.acpi_model.specs.declared.form.Form.{Form}
use Rattle.acpi_model.specs.Acpi.{signature_of, IsAtBy, IsOther, WalksBy, AreDistinct, first_links, gathered, no_targets, AreFoundBy, AreToldBy}
use Rattle.acpi_model.specs.Acpi.{is_first, TableLeadsTo, IsFoundBehindBy, with_table, id_with, with_other}
use Rattle.acpi_model.proofs.SameTold.{told_with, told_same}
use Rattle.acpi_model.proofs.FirstOfKind.{fadt_tells, links_tell, madt_tells, srat_tells, slit_tells, mcfg_tells, hpet_tells, told_apart}
use Rattle.acpi_model.proofs.FirstOfKind.{first_of-append, first_of-more}
use Rattle.acpi_model.proofs.DistinctInTurn.{distinct_more, distinct_front, first_behind}

-- no tables stand at no addresses
pub nothing_found : (form : Form) (view : View) (oem_id : List ℕ) (head : Head) → AreToldBy form view [] (gathered oem_id head [] no_targets []) None
nothing_found form view oem_id head = record {
  tables = [];
  targets = no_targets;
  found = record { named = (refl, refl); distinct = tt; lead = (refl, refl, refl) };
  told = refl;
  its_id = refl;
}

-- a walk with one address more, where a table of a known kind stands, or another
walk_more : (form : Form) (view : View) (before : List ℕ) (address : ℕ) (tables : List Table) (others : List OtherTable) (t : Table)
    → WalksBy form view before tables others → IsAtBy form view address t → WalksBy form view (before ++ address ∷ []) (tables ++ t ∷ []) others
walk_more form view [] address tables others t walks at = inl (t, [], at, ap (λ those. those ++ t ∷ []) walks.0, (refl, walks.1))
walk_more form view (first ∷ before) address tables others t (inl (u, us, here, are, walks)) at =
    inl (u, us ++ t ∷ [], here, ap (λ those. those ++ t ∷ []) are, walk_more form view before address us others t walks at)
walk_more form view (first ∷ before) address tables others t (inr (u, us, here, are, walks)) at =
    inr (u, us, here, are, walk_more form view before address tables us t walks at)

walk_other : (form : Form) (view : View) (before : List ℕ) (address : ℕ) (tables : List Table) (others : List OtherTable) (t : OtherTable)
    → WalksBy form view before tables others → IsOther view address t → WalksBy form view (before ++ address ∷ []) tables (others ++ t ∷ [])
walk_other form view [] address tables others t walks at = inr (t, [], at, ap (λ those. those ++ t ∷ []) walks.1, (walks.0, refl))
walk_other form view (first ∷ before) address tables others t (inl (u, us, here, are, walks)) at =
    inl (u, us, here, are, walk_other form view before address us others t walks at)
walk_other form view (first ∷ before) address tables others t (inr (u, us, here, are, walks)) at =
    inr (u, us ++ t ∷ [], here, ap (λ those. those ++ t ∷ []) are, walk_other form view before address tables us t walks at)

-- what is led to, with one table more
led_with : Table → FadtTargets → FadtTargets → FadtTargets
led_with (Fadt t links) targets before = targets
led_with table targets before = before

leads_on : (view : View) (t : Table) (targets before : FadtTargets) (links : Option FadtLinks) → TableLeadsTo view t targets
    → LeadTo view links before → LeadTo view (option_or (links_of t) links) (led_with t targets before)
unfolding led_with
leads_on view (Fadt t its) targets before links lead was = lead
leads_on view (Madt t) targets before links lead was = was
leads_on view (Srat t) targets before links lead was = was
leads_on view (Slit t) targets before links lead was = was
leads_on view (Mcfg t) targets before links lead was = was
leads_on view (Hpet t) targets before links lead was = was

-- what is led to among all that is told
abbrev targets_told : AcpiTables → Option (List ℕ) → FadtTargets
targets_told all id = record { facs = all.facs; dsdt = all.dsdt; generation = id }

id_led : (t : Table) (targets before : FadtTargets) (id : Option (List ℕ)) → id ≡ before.generation
    → id_with t targets id ≡ (led_with t targets before).generation
unfolding led_with
id_led (Fadt t links) targets before id is = refl
id_led (Madt t) targets before id is = is
id_led (Srat t) targets before id is = is
id_led (Slit t) targets before id is = is
id_led (Mcfg t) targets before id is = is
id_led (Hpet t) targets before id is = is

-- all that is told, with one table more: of its own kind its record, and of each other the one before
with_parts : Table → FadtTargets → AcpiTables → Option (List ℕ) → AcpiTables
with_parts t targets all id =
    told_with (option_or (as_fadt t) all.fadt) (option_or (as_madt t) all.madt) (option_or (as_srat t) all.srat) (option_or (as_slit t) all.slit)
    (option_or (as_mcfg t) all.mcfg) (option_or (as_hpet t) all.hpet) all.oem_id all.xsdt (led_with t targets (targets_told all id)) all.others

are_parts : (t : Table) (targets : FadtTargets) (all : AcpiTables) (id : Option (List ℕ)) → with_parts t targets all id ≡ with_table t targets all
unfolding told_with with_parts led_with
are_parts (Fadt t links) targets all id = refl
are_parts (Madt t) targets all id = refl
are_parts (Srat t) targets all id = refl
are_parts (Slit t) targets all id = refl
are_parts (Mcfg t) targets all id = refl
are_parts (Hpet t) targets all id = refl

-- a table that is the first of its kind is added to what is told
module _ (form : Form) (view : View) (before : List ℕ) (all : AcpiTables) (id : Option (List ℕ)) (is : AreToldBy form view before all id) (address : ℕ) where
  -- the table is found last
  abbrev GrownBy : List Table → Option (List ℕ) → AcpiTables → Type 0
  GrownBy more its grown = (told : AreToldBy form view (before ++ address ∷ []) grown its) × (told.tables ≡ is.tables ++ more)

  parts_grow : (t : Table) (targets : FadtTargets) → IsAtBy form view address t → is_first (signature_of t) is.tables ≡ true
      → TableLeadsTo view t targets → GrownBy (t ∷ []) (id_with t targets id) (with_parts t targets all id)
  unfolding told_with with_parts
  parts_grow t targets at first lead = (
    record {
      tables = is.tables ++ t ∷ [];
      targets = led_with t targets is.targets;
      found = record {
        named = walk_more form view before address is.tables all.others t is.found.named at;
        distinct = distinct_more is.tables t is.found.distinct first;
        lead = subst (λ links. LeadTo view links (led_with t targets is.targets)) (sym (first_of-more fadt_kind links_of links_tell is.tables t first))
            (leads_on view t targets is.targets (first_links is.tables) lead is.found.lead);
      };
      told = ap (λ those. told_with (option_or (as_fadt t) all.fadt) (option_or (as_madt t) all.madt) (option_or (as_srat t) all.srat)
          (option_or (as_slit t) all.slit) (option_or (as_mcfg t) all.mcfg) (option_or (as_hpet t) all.hpet) all.oem_id all.xsdt
          (led_with t targets those) all.others)
          (ap (λ (a : AcpiTables). targets_told a id) is.told ∙ ap (λ its. record is.targets { generation = its }) is.its_id)
          ∙ told_same all.oem_id all.xsdt (led_with t targets is.targets) all.others
          (ap (λ (a : AcpiTables). option_or (as_fadt t) a.fadt) is.told ∙ sym (first_of-more fadt_kind as_fadt fadt_tells is.tables t first))
          (ap (λ (a : AcpiTables). option_or (as_madt t) a.madt) is.told ∙ sym (first_of-more madt_kind as_madt madt_tells is.tables t first))
          (ap (λ (a : AcpiTables). option_or (as_srat t) a.srat) is.told ∙ sym (first_of-more srat_kind as_srat srat_tells is.tables t first))
          (ap (λ (a : AcpiTables). option_or (as_slit t) a.slit) is.told ∙ sym (first_of-more slit_kind as_slit slit_tells is.tables t first))
          (ap (λ (a : AcpiTables). option_or (as_mcfg t) a.mcfg) is.told ∙ sym (first_of-more mcfg_kind as_mcfg mcfg_tells is.tables t first))
          (ap (λ (a : AcpiTables). option_or (as_hpet t) a.hpet) is.told ∙ sym (first_of-more hpet_kind as_hpet hpet_tells is.tables t first));
      its_id = id_led t targets is.targets id is.its_id;
    },
    refl,
  )

  pub table_grows : (t : Table) (targets : FadtTargets) → IsAtBy form view address t → is_first (signature_of t) is.tables ≡ true
      → TableLeadsTo view t targets
      → (told : AreToldBy form view (before ++ address ∷ []) (with_table t targets all) (id_with t targets id)) × (told.tables ≡ is.tables ++ t ∷ [])
  table_grows t targets at first lead =
      subst (GrownBy (t ∷ []) (id_with t targets id)) (are_parts t targets all id) (parts_grow t targets at first lead)

  -- so is another
  pub other_grows : (t : OtherTable) → IsOther view address t
      → (told : AreToldBy form view (before ++ address ∷ []) (with_other t all) id) × (told.tables ≡ is.tables)
  other_grows t at = (
    record {
      tables = is.tables;
      targets = is.targets;
      found = record {
        named = walk_other form view before address is.tables all.others t is.found.named at;
        distinct = is.found.distinct;
        lead = is.found.lead;
      };
      told = ap (λ (a : AcpiTables). record a { others = all.others ++ t ∷ [] }) is.told;
      its_id = is.its_id;
    },
    refl,
  )

-- what a walk over two lists of addresses finds
record IsSplit (form : Form) (view : View) (before after : List ℕ) (tables : List Table) (others : List OtherTable) : Type 0 where
  front : List Table
  back : List Table
  first : List OtherTable
  rest : List OtherTable
  are : tables ≡ front ++ back
  walks : WalksBy form view before front first
  walked : WalksBy form view after back rest

split : (form : Form) (view : View) (before after : List ℕ) (tables : List Table) (others : List OtherTable) → WalksBy form view (before ++ after) tables others
    → IsSplit form view before after tables others
split form view [] after tables others walks =
    record { front = []; back = tables; first = []; rest = others; are = refl; walks = (refl, refl); walked = walks }
split form view (address ∷ before) after tables others (inl (t, ts, at, are, walks)) =
    let more = split form view before after ts others walks in
    record {
      front = t ∷ more.front;
      back = more.back;
      first = more.first;
      rest = more.rest;
      are = are ∙ ap (λ those. t ∷ those) more.are;
      walks = inl (t, more.front, at, refl, more.walks);
      walked = more.walked;
    }
split form view (address ∷ before) after tables others (inr (t, ts, at, are, walks)) =
    let more = split form view before after tables ts walks in
    record {
      front = more.front;
      back = more.back;
      first = t ∷ more.first;
      rest = more.rest;
      are = more.are;
      walks = inr (t, more.first, at, refl, more.walks);
      walked = more.walked;
    }

-- what the first pointers lead to, where they are there
led_by : Option FadtLinks → FadtTargets → FadtTargets
led_by None targets = no_targets
led_by (Some links) targets = targets

first_leads : (view : View) (links later : Option FadtLinks) (targets : FadtTargets) → LeadTo view (option_or links later) targets
    → LeadTo view links (led_by links targets)
unfolding led_by
first_leads view None later targets lead = (refl, refl, refl)
first_leads view (Some links) later targets lead = lead

-- the first of three
or_assoc : {T : Type 0} (a b c : Option T) → option_or (option_or a b) c ≡ option_or a (option_or b c)
or_assoc None b c = refl
or_assoc (Some x) b c = refl

-- the pointers of a table in the midst, which is the first of its kind, come before all others
midst_links : (front back : List Table) (t : Table) → is_first (signature_of t) front ≡ true
    → first_links (front ++ t ∷ back) ≡ option_or (links_of t) (option_or (first_links front) (first_links back))
midst_links front back t first =
    ap first_links (sym (append_assoc front (t ∷ []) back)) ∙ first_of-append fadt_kind links_of links_tell (front ++ t ∷ []) back
    ∙ ap (λ links. option_or links (first_links back)) (first_of-more fadt_kind links_of links_tell front t first)
    ∙ or_assoc (links_of t) (first_links front) (first_links back)

-- behind the first tables of some, no two of which are of one kind, the next is found
next_found : (form : Form) (view : View) (address : ℕ) (after : List ℕ) (front back : List Table) (rest : List OtherTable) (targets : FadtTargets)
    → AreDistinct (front ++ back) → LeadTo view (first_links (front ++ back)) targets → WalksBy form view (address ∷ after) back rest
    → IsFoundBehindBy form view address front
next_found form view address after front back rest targets distinct lead (inl (t, more, at, are, walks)) =
    let first = first_behind front more t (subst (λ those. AreDistinct (front ++ those)) are distinct) in
    let its = subst (λ those. LeadTo view (first_links (front ++ those)) targets) are lead in
    inl (
      t,
      led_by (links_of t) targets,
      at,
      first,
      first_leads view (links_of t) (option_or (first_links front) (first_links more)) targets
          (subst (λ links. LeadTo view links targets) (midst_links front more t first) its),
    )
next_found form view address after front back rest targets distinct lead (inr (t, more, at, are, walks)) = inr (t, at)

pub found_in_turn : (form : Form) (view : View) (before : List ℕ) (address : ℕ) (after : List ℕ) (tables : List Table) (targets : FadtTargets)
    (others : List OtherTable)
    → AreFoundBy form view (before ++ address ∷ after) tables targets others
    → (t : List Table) × (g : FadtTargets) × (o : List OtherTable) × AreFoundBy form view before t g o × IsFoundBehindBy form view address t
found_in_turn form view before address after tables targets others is =
    let parts = split form view before (address ∷ after) tables others is.named in
    let distinct = subst AreDistinct parts.are is.distinct in
    let lead = subst (λ those. LeadTo view (first_links those) targets) parts.are is.lead in (
      parts.front,
      led_by (first_links parts.front) targets,
      parts.first,
      record {
        named = parts.walks;
        distinct = distinct_front parts.front parts.back distinct;
        lead = first_leads view (first_links parts.front) (first_links parts.back) targets
            (subst (λ links. LeadTo view links targets) (first_of-append fadt_kind links_of links_tell parts.front parts.back) lead);
      },
      next_found form view address after parts.front parts.back parts.rest targets distinct lead parts.walked,
    )

-- A table is the first of its kind where none of the kind is told.
module _ (form : Form) (view : View) (before : List ℕ) (all : AcpiTables) (id : Option (List ℕ)) (is : AreToldBy form view before all id) where
  pub fadt_apart : is_first (codes "FACP") is.tables ≡ not (is_some all.fadt)
  fadt_apart = told_apart fadt_kind as_fadt fadt_tells is.tables ∙ ap (λ (a : AcpiTables). not (is_some a.fadt)) (sym is.told)

  pub madt_apart : is_first (codes "APIC") is.tables ≡ not (is_some all.madt)
  madt_apart = told_apart madt_kind as_madt madt_tells is.tables ∙ ap (λ (a : AcpiTables). not (is_some a.madt)) (sym is.told)

  pub srat_apart : is_first (codes "SRAT") is.tables ≡ not (is_some all.srat)
  srat_apart = told_apart srat_kind as_srat srat_tells is.tables ∙ ap (λ (a : AcpiTables). not (is_some a.srat)) (sym is.told)

  pub slit_apart : is_first (codes "SLIT") is.tables ≡ not (is_some all.slit)
  slit_apart = told_apart slit_kind as_slit slit_tells is.tables ∙ ap (λ (a : AcpiTables). not (is_some a.slit)) (sym is.told)

  pub mcfg_apart : is_first (codes "MCFG") is.tables ≡ not (is_some all.mcfg)
  mcfg_apart = told_apart mcfg_kind as_mcfg mcfg_tells is.tables ∙ ap (λ (a : AcpiTables). not (is_some a.mcfg)) (sym is.told)

  pub hpet_apart : is_first (codes "HPET") is.tables ≡ not (is_some all.hpet)
  hpet_apart = told_apart hpet_kind as_hpet hpet_tells is.tables ∙ ap (λ (a : AcpiTables). not (is_some a.hpet)) (sym is.told)
