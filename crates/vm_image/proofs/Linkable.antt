-- The files of a machine can be placed and linked.
use Rattle.std.proofs.Common.{◌≡◌, ℕ, ◌^◌, ◌<◌, inl, inr, ⊎_elim, List, [], ◌∷◌, ◌++◌, length, replicate, true, Option, Some, None, IsSome, refl}
use Rattle.std.proofs.Common.{arith, sym, subst}
use Rattle.std.specs.Int.{is_power_of_two}
use Rattle.std.specs.List.{AllByRecursion}
use lib.Count.{ones}
use Rattle.vt_bytes.proofs.Each.{each_append, each_weaker}
use Rattle.machine_desc.specs.declared.machine.Machine.{Machine}
use Rattle.machine_desc.specs.declared.machine.Acpi.{Acpi}
use Rattle.machine_desc.specs.Rules.{IsAccepted}
use Rattle.acpi_model.specs.Acpi.{tables_of}
use Rattle.blob_holes.specs.declared.hole.PointerHole.{PointerHole}
use Rattle.dsdt_terms.specs.Dsdt.{generation_file}
use Rattle.image_files.specs.Files.{ImageFile}
use Rattle.image_files.specs.Linkable.{IsPlacedName, IsLinkableFile, LeadsAmong, AreLinkable}
use Rattle.vm_image.specs.Image.{acpi_files, acpi_placed, acpi_part, tables_begin, smbios_placed, structures_file, id_bytes, generation_part, image_files}
use Rattle.vm_image.specs.AcpiHeld.{AreAcpiKnown}
use Rattle.vm_image.proofs.StructuresSize.{structures_size}
use Rattle.vm_image.proofs.Small.{id_size}
use Rattle.vm_image.proofs.Whole.{whole_kept, whole_linkable}
use Rattle.vm_image.proofs.Anchor.{anchor_kept, anchor_linkable}
use Rattle.vm_image.proofs.DistinctNames.{image_distinct}
use Rattle.acpi_model.proofs.AcceptedAcpi.{accepted_fits}
use Rattle.acpi_model.proofs.MachineTables.{machine_writable}
use Rattle.vm_image.proofs.Targets.{HoleLeads, tables_lead, rsdp_leads}
use Rattle.vm_image.proofs.Begin.{may_begin}

-- 64 is a power of two
sixty_four : is_power_of_two 64 ≡ true
unfolding ones
sixty_four = refl

-- and so is 16
sixteen : is_power_of_two 16 ≡ true
unfolding ones
sixteen = refl

-- a placed name is one with more files behind
placed_front : (files others : List ImageFile) (name : List ℕ) → IsPlacedName files name → IsPlacedName (files ++ others) name
placed_front [] others name placed = absurd placed
placed_front (file ∷ files) others name placed =
    elim placed as (λ _. IsPlacedName (file ∷ files ++ others) name) [ inl here ↦ inl here | inr later ↦ inr (placed_front files others name later) ]

-- and with more files in front
placed_back : (others files : List ImageFile) (name : List ℕ) → IsPlacedName files name → IsPlacedName (others ++ files) name
placed_back [] files name placed = placed
placed_back (file ∷ others) files name placed = inr (placed_back others files name placed)

-- and so is 4,096
four_thousand : is_power_of_two 4096 ≡ true
unfolding ones
four_thousand = refl

-- the files of structures and of their anchor can be placed and linked
smbios_each : (structures : List ℕ) → 0 < length structures → length structures < 2 ^ 32 → AllByRecursion IsLinkableFile (smbios_placed structures)
smbios_each structures some short = (
  record { blob = whole_kept structures short; linkable = whole_linkable structures; placed = (some, sixteen) },
  (
    record { blob = anchor_kept (length structures); linkable = anchor_linkable (length structures); placed = (omega arith, sixteen) },
    tt,
  ),
)

-- so can those of ACPI tables, where there are some
acpi_each : (m : Machine) (maker : Option Acpi) → AreAcpiKnown m maker → AllByRecursion IsLinkableFile (acpi_part m maker)
acpi_each m None known = tt
acpi_each m (Some acpi) known = (
  record { blob = known.tables_blob; linkable = known.tables_file.linkable; placed = (known.tables_file.some, sixty_four) },
  (record { blob = known.rsdp_blob; linkable = known.rsdp_linkable; placed = (omega (arith, known.rsdp_size), sixteen) }, tt),
)

-- and those of the id of a generation, of which one isn't placed and has no holes
generation_each : (generation : Option ℕ) → AllByRecursion IsLinkableFile (generation_part generation)
generation_each None = tt
generation_each (Some id) = (
  record {
    blob = whole_kept (id_bytes id) (omega (arith, id_size id));
    linkable = whole_linkable (id_bytes id);
    placed = (omega (arith, id_size id), four_thousand);
  },
  (record { blob = whole_kept (replicate 8 0) (omega arith); linkable = whole_linkable (replicate 8 0); placed = (refl, refl) }, tt),
)

-- they lead nowhere
generation_lead : (files : List ImageFile) (generation : Option ℕ) → AllByRecursion (LeadsAmong files) (generation_part generation)
generation_lead files None = tt
generation_lead files (Some id) = (tt, (tt, tt))

-- where there is an id, its file is placed
id_placed : (generation : Option ℕ) → IsSome generation → IsPlacedName (generation_part generation) generation_file
id_placed None some = absurd (cc)
id_placed (Some id) some = inl (refl, refl)

-- the anchor leads to the structures
smbios_lead : (structures : List ℕ) → AllByRecursion (LeadsAmong (smbios_placed structures)) (smbios_placed structures)
smbios_lead structures = (tt, ((inl (refl, refl), tt), tt))

-- each of the files of an accepted machine's ACPI tables leads to that of the tables, or to that of the id, in front of which are others
acpi_lead : (m : Machine) (maker : Option Acpi) (others : List ImageFile) → m.acpi ≡ maker → IsAccepted m
    → AllByRecursion (LeadsAmong (acpi_part m maker ++ (others ++ generation_part m.generation))) (acpi_part m maker)
acpi_lead m None others is accepted = tt
acpi_lead m (Some acpi) others is accepted =
    let files = acpi_files acpi (tables_begin m acpi) (tables_of m acpi) in
    let all : List ImageFile = acpi_placed files ++ (others ++ generation_part m.generation) in
    let Leads = λ (hole : PointerHole). IsPlacedName all hole.target in
    let led : (hole : PointerHole) → HoleLeads m.generation hole → Leads hole = λ hole leads.
    ⊎_elim (λ tables. inl (sym tables, refl))
    (λ id. subst (IsPlacedName all) (sym id.0)
    (placed_back (acpi_placed files) (others ++ generation_part m.generation) generation_file
    (placed_back others (generation_part m.generation) generation_file (id_placed m.generation id.1)))) leads in (
      each_weaker (HoleLeads m.generation) Leads led files.tables.pointers
          (tables_lead m.generation acpi (tables_begin m acpi) (tables_of m acpi) (may_begin m acpi accepted (accepted_fits m acpi accepted is)).leads
          (machine_writable m acpi accepted)),
      (
        each_weaker (HoleLeads m.generation) Leads led files.rsdp.pointers (rsdp_leads m.generation acpi (tables_begin m acpi) (tables_of m acpi)),
        tt,
      ),
    )

-- what leads among files leads among them with more in front and behind
lead_within : (before files after : List ImageFile) → AllByRecursion (LeadsAmong files) files
    → AllByRecursion (LeadsAmong (before ++ (files ++ after))) files
lead_within before files after lead =
    each_weaker (LeadsAmong files) (LeadsAmong (before ++ (files ++ after)))
    (λ file leads. each_weaker (λ (hole : PointerHole). IsPlacedName files hole.target)
    (λ (hole : PointerHole). IsPlacedName (before ++ (files ++ after)) hole.target)
    (λ hole placed. placed_back before (files ++ after) hole.target (placed_front files after hole.target placed)) file.blob.pointers leads) files lead

-- the files of an accepted machine can be placed and linked
pub image_linkable : (m : Machine) → IsAccepted m → AreAcpiKnown m m.acpi → AreLinkable (image_files m)
image_linkable m accepted known =
    let size = structures_size m accepted in
    let acpi : List ImageFile = acpi_part m m.acpi in
    let smbios : List ImageFile = smbios_placed (structures_file m) in
    let generation : List ImageFile = generation_part m.generation in
    record {
      distinct = image_distinct m;
      each = each_append IsLinkableFile acpi (smbios ++ generation) (acpi_each m m.acpi known)
          (each_append IsLinkableFile smbios generation (smbios_each (structures_file m) size.0 (omega (arith, size.1))) (generation_each m.generation));
      leads = each_append (LeadsAmong (image_files m)) acpi (smbios ++ generation) (acpi_lead m m.acpi smbios refl accepted)
          (each_append (LeadsAmong (image_files m)) smbios generation (lead_within acpi smbios generation (smbios_lead (structures_file m)))
          (generation_lead (image_files m) m.generation));
    }
