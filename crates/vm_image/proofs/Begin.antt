-- What the file of a machine's tables begins with.
use Rattle.std.proofs.Common.{◌≡◌, ℕ, ◌+◌, ◌^◌, ◌<◌, ◌≤◌, List, [], ◌∷◌, length, codes, Option, Some, None, is_some, IsSome, inl, inr, arith, rules}
use Rattle.std.proofs.Common.{refl, ap, sym, ◌∙◌, subst, if◌then◌else◌}
use Rattle.std.specs.Int.{next_multiple_of}
use Rattle.std.specs.List.{AllByRecursion}
use Rattle.vt_bytes.specs.View.{View}
use Rattle.vt_layout.specs.declared.row.Row.{Row}
use Rattle.vt_layout.specs.declared.row.Row.TheVariants.{Bytes, Pointer}
use Rattle.vt_layout.specs.Rows.{size, IsRow}
use Rattle.vt_layout.proofs.Sizes.{length-spelled}
use Rattle.machine_desc.specs.declared.machine.Machine.{Machine}
use Rattle.machine_desc.specs.declared.machine.Acpi.{Acpi}
use Rattle.machine_desc.specs.declared.acpi_parts.Power.{Power}
use Rattle.machine_desc.specs.Rules.{IsAccepted}
use Rattle.machine_desc.specs.Fields.{HasFittingFields}
use Rattle.dsdt_terms.specs.Dsdt.{terms_at, generation_file, id_offset, id_address, dsdt_bytes, front_bytes, dsdt_body}
use Rattle.dsdt_terms.proofs.MachineTerms.{few_bytes}
use Rattle.dsdt_terms.proofs.WrittenId.{body_spelled, body_read}
use Rattle.acpi_records.specs.Header.{FitsHead, head_of}
use Rattle.acpi_records.specs.Facs.{facs_rows, initial_facs, IsFacs}
use Rattle.acpi_model.specs.Kinds.{tables_name}
use Rattle.acpi_model.specs.Found.{IsDsdt, IsBlockRow, ShowsBytes, dsdt_rows}
use Rattle.acpi_model.specs.Acpi.{facs_place, dsdt_place, dsdt_at}
use Rattle.acpi_model.proofs.Headers.{head_fits}
use Rattle.blob_holes.specs.Blob.{BlobState, IsBlob, aligned, next_place}
use Rattle.blob_holes.specs.Rows.{AreRows, IsUnsummed, pointer_holes}
use Rattle.blob_holes.specs.Grown.{Extends, IsLinkable}
use Rattle.blob_holes.specs.Held.{HoldsFilled}
use Rattle.blob_holes.proofs.RowsKept.{layout_kept}
use Rattle.acpi_append.specs.FacsPut.{with_facs, IsFacsPut}
use Rattle.acpi_append.specs.DsdtPut.{with_dsdt, IsDsdtPut}
use Rattle.acpi_append.proofs.FileTables.{table_fits, facs_appended, dsdt_appended}
use Rattle.image_files.specs.Files.{whole}
use Rattle.vm_image.specs.Image.{begin_of, tables_begin}
use Rattle.vm_image.proofs.Grown.{extends_twice}
use Rattle.vm_image.proofs.Whole.{whole_kept, whole_linkable}
use Rattle.vm_image.proofs.Targets.{HoleLeads}

-- the most bytes that a file begins with, in front of the tables that its XSDT names: 192 KiB
abbrev pub begin_limit : ℕ
begin_limit = 0x30000

-- A file may have tables behind it: it is a file with holes, can be linked, has few bytes, and its pointers lead to the tables' file, or to
-- that of the id of the machine's generation.
pub record MayBegin (generation : Option ℕ) (begin : BlobState) : Type 0 where
  pub blob : IsBlob begin
  pub linkable : IsLinkable begin
  pub few : length begin.bytes ≤ begin_limit
  pub leads : AllByRecursion (HoleLeads generation) begin.pointers

-- a FACS can be put into an empty file
facs_fits : AreRows (facs_rows initial_facs)
facs_fits = record { each = search rules; sums = search rules }

facs_begins : IsFacsPut (whole []) (with_facs (whole []) initial_facs) initial_facs
facs_begins = facs_appended (whole []) (whole_kept [] (omega arith)) initial_facs facs_fits (omega arith)

-- behind the FACS is room for the DSDT, which stands at once behind it
facs_file : BlobState
facs_file = with_facs (whole []) initial_facs

facs_kept : IsBlob facs_file
unfolding facs_file
facs_kept = layout_kept 16 (whole []) (facs_rows initial_facs) (whole_kept [] (omega arith)) facs_fits (omega arith)

behind_facs : next_place 16 facs_file ≡ dsdt_place
unfolding facs_file
behind_facs =
    let size : length facs_file.bytes ≡ 64 = facs_begins.appended.size_is in
    ap (λ n. next_multiple_of n 16) size

-- the rows of a machine's definition block can be put, and its pointer leads to the file of the id, where there is one
record CanBeBlock (generation : Option ℕ) (rows : List Row) : Type 0 where
  fit : AllByRecursion IsRow rows
  unsummed : AllByRecursion IsUnsummed rows
  block : AllByRecursion IsBlockRow rows
  lead : (at : ℕ) → AllByRecursion (HoleLeads generation) (pointer_holes at rows)

block_of : (generation : Option ℕ) (front whole_block : List ℕ)
    → CanBeBlock generation (if is_some generation
    then Bytes (length front) front ∷ Pointer 4 generation_file id_offset ∷ Bytes 1 (0 ∷ []) ∷ []
    else Bytes (length whole_block) whole_block ∷ [])
block_of None front whole_block = record { fit = (refl, tt); unsummed = (tt, tt); block = (tt, tt); lead = λ at. tt }
block_of (Some id) front whole_block = record {
  fit = (refl, ((inr (inr (inl refl)), omega arith), (refl, tt)));
  unsummed = (tt, (tt, (tt, tt)));
  block = (tt, (tt, (tt, tt)));
  lead = λ at. (inr (refl, refl), tt);
}

machine_block : (m : Machine) → CanBeBlock m.generation (dsdt_body m)
machine_block m = block_of m.generation (front_bytes m) (dsdt_bytes m)

-- it has as many bytes as the terms are written in
block_size : (m : Machine) → size (dsdt_body m) ≡ length (dsdt_bytes m)
block_size m = sym (length-spelled (dsdt_body m) (machine_block m).fit) ∙ ap length (body_spelled m)

-- the DSDT of an accepted machine can be put there
module _ (m : Machine) (acpi : Acpi) (accepted : IsAccepted m) (fits : FitsHead acpi) where
  dsdt_file : BlobState
  dsdt_file = with_dsdt facs_file (head_of acpi 2) (dsdt_body m)

  dsdt_fits : AreRows (dsdt_rows (head_of acpi 2) (dsdt_body m))
  dsdt_fits =
      table_fits (codes "DSDT") (head_of acpi 2) (dsdt_body m) refl (omega (arith, block_size m, few_bytes m accepted)) (head_fits acpi 2 fits (omega arith))
      (machine_block m).fit (machine_block m).unsummed

  dsdt_short : next_place 16 facs_file + size (dsdt_rows (head_of acpi 2) (dsdt_body m)) < 2 ^ 32
  dsdt_short = omega (arith, behind_facs, block_size m, few_bytes m accepted)

  dsdt_begins : IsDsdtPut facs_file dsdt_file (head_of acpi 2) (dsdt_body m)
  unfolding dsdt_file
  dsdt_begins = dsdt_appended facs_file facs_kept (head_of acpi 2) (dsdt_body m) dsdt_fits (machine_block m).block dsdt_short

  -- the FACS and the header have no pointers
  dsdt_lead : AllByRecursion (HoleLeads m.generation) dsdt_file.pointers
  unfolding facs_file dsdt_file
  dsdt_lead = (machine_block m).lead (length (aligned 16 facs_file).bytes + 36)

  begin_with : MayBegin m.generation dsdt_file
  unfolding facs_file dsdt_file
  begin_with = record {
    blob = layout_kept 16 facs_file (dsdt_rows (head_of acpi 2) (dsdt_body m)) facs_kept dsdt_fits dsdt_short;
    linkable = dsdt_begins.appended.linkable (facs_begins.appended.linkable (whole_linkable []));
    few = omega (arith, dsdt_begins.appended.size_is, behind_facs, block_size m, few_bytes m accepted);
    leads = dsdt_lead;
  }

  begin_may : (power : Option Power) → MayBegin m.generation (begin_of m acpi power)
  unfolding facs_file dsdt_file
  begin_may None = record { blob = whole_kept [] (omega arith); linkable = whole_linkable []; few = omega arith; leads = tt }
  begin_may (Some power) = begin_with

  -- a machine's tables may stand behind what their file begins with
  pub may_begin : MayBegin m.generation (tables_begin m acpi)
  may_begin = begin_may m.power

  -- where the machine has power management, its FACS stands where the file begins, and its DSDT behind it
  module _ (view : View) (place_of : List ℕ → ℕ) (file : BlobState) (held : HoldsFilled view (place_of tables_name) file place_of) where
    facs_stands_with : (power : Option Power) → Extends (begin_of m acpi power) file → IsSome power
        → IsFacs view (place_of tables_name + facs_place) initial_facs
    unfolding facs_file dsdt_file
    facs_stands_with None grown some = absurd (cc)
    facs_stands_with (Some power) grown some =
        facs_begins.shown file view (place_of tables_name) place_of (extends_twice facs_file dsdt_file file dsdt_begins.appended.grown grown) held

    dsdt_stands_with : (power : Option Power) → HasFittingFields m → ShowsBytes view → (IsSome m.generation → id_address place_of < 2 ^ 32)
        → Extends (begin_of m acpi power) file → IsSome power
        → IsDsdt view (place_of tables_name + dsdt_place) (dsdt_at (id_address place_of) m acpi)
    unfolding facs_file dsdt_file
    dsdt_stands_with None fit bytes small grown some = absurd (cc)
    dsdt_stands_with (Some power) fit bytes small grown some =
        subst (λ place. IsDsdt view (place_of tables_name + place) (dsdt_at (id_address place_of) m acpi)) behind_facs
        (dsdt_begins.shown file view (place_of tables_name) place_of grown held (terms_at (id_address place_of) m) (inr bytes)
        (body_read m place_of accepted fit small))

    pub facs_stands : Extends (tables_begin m acpi) file → IsSome m.power → IsFacs view (place_of tables_name + facs_place) initial_facs
    facs_stands = facs_stands_with m.power

    pub dsdt_stands : HasFittingFields m → ShowsBytes view → (IsSome m.generation → id_address place_of < 2 ^ 32)
        → Extends (tables_begin m acpi) file → IsSome m.power
        → IsDsdt view (place_of tables_name + dsdt_place) (dsdt_at (id_address place_of) m acpi)
    dsdt_stands = dsdt_stands_with m.power
