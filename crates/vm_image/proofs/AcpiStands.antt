-- The files of ACPI tables, where there are some, wherever they stand in memory.
use Rattle.std.proofs.Common.{◌≡◌, ℕ, ◌+◌, ◌<◌, ◌≤◌, List, [], length, map, Option, Some, None, option_map, refl, sym, arith}
use Rattle.std.specs.List.{AllByRecursion}
use Rattle.vt_bytes.specs.Memory.{Memory, seen}
use Rattle.vt_layout.specs.Shown.{LayoutHeld}
use Rattle.machine_desc.specs.declared.machine.Machine.{Machine}
use Rattle.machine_desc.specs.declared.machine.Acpi.{Acpi}
use Rattle.machine_desc.specs.Rules.{IsAccepted}
use Rattle.machine_desc.specs.Fields.{HasFittingFields}
use Rattle.machine_desc.proofs.Accepted.{generation_needs_power}
use Rattle.acpi_model.specs.Header.{head_of, padded}
use Rattle.acpi_model.specs.Form.{xsdt_form}
use Rattle.acpi_model.specs.Rsdp.{rsdp_rows, HasRsdp}
use Rattle.acpi_model.specs.Acpi.{linked_table, tables_of, targets_of, acpi_of, id_of}
use Rattle.acpi_model.proofs.AcceptedAcpi.{accepted_fits}
use Rattle.acpi_model.proofs.Headers.{length-padded}
use Rattle.acpi_model.proofs.OneAcpi.{walked}
use Rattle.acpi_model.proofs.SameTold.{gathered-linked}
use Rattle.acpi_model.proofs.MachineTables.{machine_distinct}
use Rattle.acpi_model.proofs.MachineTargets.{machine_leads}
use Rattle.acpi_model.specs.Kinds.{tables_name}
use Rattle.acpi_model.specs.Found.{ShowsBytes}
use Rattle.table_model.specs.declared.search.RootSearch.TheVariants.{One}
use Rattle.table_model.specs.Inventory.{ShowsTablesBy}
use Rattle.table_model.proofs.SearchOfOne.{tables_of_one, no_root_of_one}
use Rattle.acpi_append.specs.Tables.{table_pointer}
use Rattle.vm_image.specs.Image.{acpi_files, acpi_part, generation_part, tables_begin, rsdp_name, xsdt_place}
use Rattle.vm_image.specs.AcpiHeld.{HoldsTables, AreAcpiKnown}
use Rattle.vm_image.proofs.Begin.{facs_stands, dsdt_stands}
use Rattle.vm_image.proofs.IdStands.{no_id, id_below, id_held}
use Rattle.vm_image.proofs.RsdpShown.{rsdp_shown}
use Rattle.vm_image.proofs.Standing.{Stands}
use Rattle.vm_image.proofs.Marks.{IsClearFile}
use Rattle.vm_image.proofs.Clear.{rsdp_mark, anchor_mark, clear_behind, rsdp_clear}

module _ (m : Memory) (place_of : List ℕ → ℕ) (high : 0x4000000 ≤ m.top) (low : m.top ≤ 0xC0000000) where
  -- the files of ACPI tables, where there are some, have no mark of an anchor
  pub acpi_clear_of_anchors : (machine : Machine) (maker : Option Acpi) (limit : ℕ) → limit ≤ 0x100000 → AreAcpiKnown machine maker
      → AllByRecursion (Stands m place_of) (acpi_part machine maker)
      → AllByRecursion (IsClearFile m (anchor_mark limit) place_of) (acpi_part machine maker)
  acpi_clear_of_anchors machine None limit within known stand = tt
  acpi_clear_of_anchors machine (Some acpi) limit within known stand =
      let tables = stand.0 in
      let rsdp = stand.1.0 in
      let held : LayoutHeld (seen m) place_of (place_of rsdp_name) (rsdp_rows (padded 6 acpi.oem_id)
      (table_pointer (xsdt_place (tables_begin machine acpi) (tables_of machine acpi)))) =
      known.rsdp_held (seen m) (place_of rsdp_name) place_of rsdp.held in
      let clear = rsdp_clear m place_of limit (place_of rsdp_name) (padded 6 acpi.oem_id) (xsdt_place (tables_begin machine acpi) (tables_of machine acpi))
      (omega (arith, rsdp.aligned.1)) held in (
        clear_behind m (anchor_mark limit) (place_of tables_name) (length (acpi_files acpi (tables_begin machine acpi) (tables_of machine acpi)).tables.bytes)
            (omega (arith, tables.aligned.1)) (omega (arith, tables.from)),
        (record { aligned = clear.aligned; none = λ address from below. clear.none address from (omega (arith, known.rsdp_size)) }, tt),
      )

  -- an RSDP stands nowhere, or ACPI tables are shown whose files stand with no RSDP below their own
  pub acpi_shown : (machine : Machine) (maker : Option Acpi) → machine.acpi ≡ maker → IsAccepted machine → HasFittingFields machine → AreAcpiKnown machine maker
      → AllByRecursion (Stands m place_of) (acpi_part machine maker)
      → ((limit : ℕ) → limit ≤ 0x100000 → AllByRecursion (IsClearFile m (rsdp_mark limit) place_of) (acpi_part machine maker)
      → (other : ℕ) → other < limit → HasRsdp (seen m) other → ⊥)
      → ShowsBytes (seen m) → AllByRecursion (Stands m place_of) (generation_part machine.generation)
      → ShowsTablesBy (One xsdt_form) (seen m) (option_map (acpi_of machine) maker) (id_of machine)
  acpi_shown machine None is accepted fit known stand no_rsdp bytes ids = (
    no_root_of_one xsdt_form (seen m)
        (λ address has. let within = has.2.within in no_rsdp 0x100000 (omega arith) tt address (omega arith) has),
    no_id machine is accepted,
  )
  acpi_shown machine (Some acpi) is accepted fit known stand no_rsdp bytes ids =
      let fits = accepted_fits machine acpi accepted is in
      let tables = stand.0 in
      let rsdp = stand.1.0 in
      let size = known.rsdp_size in
      let rsdp_within = rsdp.within in
      let tables_from = tables.from in
      let file = (acpi_files acpi (tables_begin machine acpi) (tables_of machine acpi)).tables in
      let held : HoldsTables (seen m) place_of (xsdt_place (tables_begin machine acpi) (tables_of machine acpi) + place_of tables_name)
      (head_of acpi 1) (tables_of machine acpi) =
      known.tables_file.held (seen m) (place_of tables_name) place_of tables.held refl (omega arith) in
      tables_of_one xsdt_form (seen m) (acpi_of machine acpi) (id_of machine) (record {
        rsdp = place_of rsdp_name;
        least = no_rsdp (place_of rsdp_name) (omega arith) (
          clear_behind m (rsdp_mark (place_of rsdp_name)) (place_of tables_name)
              (length (acpi_files acpi (tables_begin machine acpi) (tables_of machine acpi)).tables.bytes)
              (omega (arith, tables.aligned.1)) (omega arith),
          (
            clear_behind m (rsdp_mark (place_of rsdp_name)) (place_of rsdp_name)
                (length (acpi_files acpi (tables_begin machine acpi) (tables_of machine acpi)).rsdp.bytes)
                (omega (arith, rsdp.aligned.1)) (omega arith),
            tt,
          ),
        );
        leads = record {
          xsdt = xsdt_place (tables_begin machine acpi) (tables_of machine acpi) + place_of tables_name;
          valid = rsdp_shown (seen m) place_of (place_of rsdp_name) (padded 6 acpi.oem_id) (xsdt_place (tables_begin machine acpi) (tables_of machine acpi))
              (length-padded 6 acpi.oem_id fits.oem_id) (omega (arith, known.tables_file.behind, known.tables_blob.short))
              (omega (arith, rsdp.from)) (omega (arith, rsdp.aligned.1)) (omega arith) (known.rsdp_held (seen m) (place_of rsdp_name) place_of rsdp.held);
          addresses = held.addresses;
          listed = held.listed;
          tables = record {
            tables = map (linked_table place_of) (tables_of machine acpi);
            targets = targets_of machine acpi;
            found = record {
              named = walked (seen m) held.addresses (map (linked_table place_of) (tables_of machine acpi)) held.stand;
              distinct = machine_distinct place_of machine acpi;
              lead = machine_leads (seen m) place_of machine acpi (omega arith)
                  (facs_stands machine acpi accepted fits (seen m) place_of file tables.held known.tables_file.grown)
                  (dsdt_stands machine acpi accepted fits (seen m) place_of file tables.held fit bytes (id_below m place_of low machine.generation ids)
                  known.tables_file.grown)
                  (generation_needs_power machine accepted) (id_held m place_of low machine.generation ids);
            };
            told = sym (gathered-linked place_of (padded 6 acpi.oem_id) (head_of acpi 1) (tables_of machine acpi) (targets_of machine acpi) []);
            its_id = refl;
          };
        };
      })
