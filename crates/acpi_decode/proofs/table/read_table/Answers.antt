use Rattle.std.proofs.Common.{◌≡◌, ◌≤◌, true, refl, sym, subst}
use Rattle.acpi_records.specs.MadtEntries.{madt_types}
use Rattle.acpi_records.specs.SratEntries.{srat_types}
use Rattle.acpi_model.specs.declared.acpi.Table.TheVariants.{Fadt as FadtVariant, Madt as MadtVariant, Srat as SratVariant}
use Rattle.acpi_model.specs.declared.acpi.Table.TheVariants.{Slit as SlitVariant, Mcfg as McfgVariant, Hpet as HpetVariant}
use Rattle.acpi_model.specs.FadtKind.{fadt_kind_by}
use Rattle.acpi_model.specs.MadtKind.{madt_kind}
use Rattle.acpi_model.specs.SratKind.{srat_kind}
use Rattle.acpi_model.specs.SlitKind.{slit_kind}
use Rattle.acpi_model.specs.McfgKind.{mcfg_kind}
use Rattle.acpi_model.specs.HpetKind.{hpet_kind}
use Rattle.acpi_decode.specs.declared.kind.KnownKind.TheVariants.{Hpet}
use Rattle.acpi_decode.specs.KnownKinds.{kind_of}
use Rattle.acpi_decode.specs.KindTests.{has_room}
use Rattle.acpi_decode.specs.Read.{IsRead}
use Rattle.acpi_decode.proofs.Linked.{long_fadt, fadt_found}
use Rattle.acpi_decode.proofs.ReadTables.{rows_ram, read_with_entries, read_alone}
use Rattle.acpi_decode.proofs.table.read_table.Goals as goal
use Rattle.acpi_decode.proofs.table.read_table.Goals.{in-Fadt+in_ok-found-in-Fadt, in-Madt+in_ok-read_madt-in-Madt}
use Rattle.acpi_decode.proofs.table.read_table.Goals.{in-Srat+in_ok-read_srat-in-Srat, in-Slit+in_ok-read_slit-in-Slit}
use Rattle.acpi_decode.proofs.table.read_table.Goals.{in-Mcfg+in_ok-read_mcfg-in-Mcfg, in-Hpet+in_ok-read_hpet-in-Hpet}

pub read_fadt-requires : goal.read_fadt-requires
read_fadt-requires g c =
    let seen = g.V.MemView.seen c.args.view.now in
    let room = subst (λ k. has_room (kind_of c.args.form k) seen c.args.address ≡ true) c.in-Fadt.is c.requires.room in
    record {
      long = subst (λ n. 36 ≤ n) (sym c.requires.told) (long_fadt c.args.form seen c.args.address room);
      ram = c.requires.ram;
    }

pub read_mcfg-requires-clause-room : goal.read_mcfg-requires-clause-room
read_mcfg-requires-clause-room g c =
    let seen = g.V.MemView.seen c.args.view.now in
    subst (λ k. has_room (kind_of c.args.form k) seen c.args.address ≡ true) c.in-Mcfg.is c.requires.room

pub read_hpet-requires : goal.read_hpet-requires
read_hpet-requires g c =
    let seen = g.V.MemView.seen c.args.view.now in
    rows_ram c.args.form Hpet seen c.args.address c.args.length c.requires.told c.requires.ram
    (subst (λ k. has_room (kind_of c.args.form k) seen c.args.address ≡ true) c.in-Hpet.is c.requires.room)

pub returns-clause-read : goal.returns-clause-read
returns-clause-read g c =
    let seen = g.V.MemView.seen c.args.view.now in
    let address = c.args.address in
    let told = c.requires.told in
    elim c.match-kind.branch [
      | in-Fadt+in_ok-found-in-Fadt w ↦
          let found = w.in_ok-found-in-Fadt.found in
          let t = FadtVariant found.fadt found.links in
          subst (IsRead (kind_of c.args.form c.args.kind) seen address) (sym w.result-is)
          (subst (λ k. IsRead (kind_of c.args.form k) seen address t) (sym w.in-Fadt.is)
          (read_alone (fadt_kind_by c.args.form) seen address t refl
          (fadt_found c.args.form seen address c.args.length t
          (subst (λ k. has_room (kind_of c.args.form k) seen address ≡ true) w.in-Fadt.is c.requires.room) told w.in_ok-found-in-Fadt.ensures)))
      | in-Madt+in_ok-read_madt-in-Madt w ↦
          let t = MadtVariant w.in_ok-read_madt-in-Madt.field-0 in
          subst (IsRead (kind_of c.args.form c.args.kind) seen address) (sym w.result-is)
          (subst (λ k. IsRead (kind_of c.args.form k) seen address t) (sym w.in-Madt.is)
          (read_with_entries madt_kind madt_types 44 seen address c.args.length t refl refl told w.in_ok-read_madt-in-Madt.ensures.read))
      | in-Srat+in_ok-read_srat-in-Srat w ↦
          let t = SratVariant w.in_ok-read_srat-in-Srat.field-0 in
          subst (IsRead (kind_of c.args.form c.args.kind) seen address) (sym w.result-is)
          (subst (λ k. IsRead (kind_of c.args.form k) seen address t) (sym w.in-Srat.is)
          (read_with_entries srat_kind srat_types 48 seen address c.args.length t refl refl told w.in_ok-read_srat-in-Srat.ensures.read))
      | in-Slit+in_ok-read_slit-in-Slit w ↦
          let t = SlitVariant w.in_ok-read_slit-in-Slit.field-0 in
          subst (IsRead (kind_of c.args.form c.args.kind) seen address) (sym w.result-is)
          (subst (λ k. IsRead (kind_of c.args.form k) seen address t) (sym w.in-Slit.is)
          (read_alone slit_kind seen address t refl w.in_ok-read_slit-in-Slit.ensures))
      | in-Mcfg+in_ok-read_mcfg-in-Mcfg w ↦
          let t = McfgVariant w.in_ok-read_mcfg-in-Mcfg.field-0 in
          subst (IsRead (kind_of c.args.form c.args.kind) seen address) (sym w.result-is)
          (subst (λ k. IsRead (kind_of c.args.form k) seen address t) (sym w.in-Mcfg.is)
          (read_alone mcfg_kind seen address t refl w.in_ok-read_mcfg-in-Mcfg.ensures))
      | in-Hpet+in_ok-read_hpet-in-Hpet w ↦
          let t = HpetVariant w.in_ok-read_hpet-in-Hpet.field-0 in
          subst (IsRead (kind_of c.args.form c.args.kind) seen address) (sym w.result-is)
          (subst (λ k. IsRead (kind_of c.args.form k) seen address t) (sym w.in-Hpet.is)
          (read_alone hpet_kind seen address t refl w.in_ok-read_hpet-in-Hpet.ensures))
    ]
