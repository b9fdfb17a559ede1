use Rattle.std.proofs.Common.{[], option_map, refl, ap, sym, ◌∙◌}
use Rattle.machine_desc.specs.declared.acpi_parts.Numa.{Numa}
use Rattle.acpi_records.specs.declared.header.Head.{Head}
use Rattle.acpi_records.specs.Header.{head_of, padded}
use Rattle.acpi_records.specs.Facs.{initial_facs}
use Rattle.acpi_records.specs.Hpet.{hpet_of}
use Rattle.acpi_model.specs.declared.acpi.Table.TheVariants.{Fadt, Madt, Srat, Slit, Mcfg, Hpet}
use Rattle.acpi_model.specs.FadtKind.{fadt_kind, as_fadt}
use Rattle.acpi_model.specs.MadtKind.{madt_kind, as_madt}
use Rattle.acpi_model.specs.SratKind.{srat_kind, as_srat}
use Rattle.acpi_model.specs.SlitKind.{slit_kind, as_slit}
use Rattle.acpi_model.specs.McfgKind.{mcfg_kind, as_mcfg}
use Rattle.acpi_model.specs.MachineMcfg.{mapped, mcfg_of_bridge}
use Rattle.acpi_model.specs.HpetKind.{hpet_kind, as_hpet}
use Rattle.acpi_model.specs.MachineFadt.{fadt_of, fadt_links}
use Rattle.acpi_model.specs.MachineMadt.{madt_of_machine}
use Rattle.acpi_model.specs.MachineSrat.{srat_of_machine}
use Rattle.acpi_model.specs.MachineSlit.{slit_of_machine}
use Rattle.acpi_model.specs.Acpi.{facs_place, dsdt_place, id_of, targets_of}
use Rattle.acpi_model.proofs.MachineTables.{of_part}
use Rattle.acpi_model.proofs.SameTold.{told_with, told_same}
use Rattle.acpi_model.proofs.acpi.acpi_of.Goals as goal

pub returns : goal.returns
unfolding told_with
returns c =
    let m = c.args.machine.now in
    let acpi = c.args.acpi.now in
    let fadt = c.fadt_part.result in
    let madt = c.in_ok-madt.madt in
    let srat = c.in_ok-srat.srat in
    let slit = c.in_ok-slit.slit in
    let mcfg = c.in_ok-mcfg.mcfg in
    let dsdt = c.in_ok-dsdt.dsdt in
    let hpet = c.hpet_part.result in
    let facs = c.facs_part.result in
    ap (λ (h : Head). told_with fadt madt srat slit mcfg hpet h.oem_id h (record { facs = facs; dsdt = dsdt; generation = id_of m }) c.new.result)
    c.head_of-xsdt.ensures
    ∙ ap (λ those. told_with fadt madt srat slit mcfg hpet (padded 6 acpi.oem_id) (head_of acpi 1)
    (record { facs = those; dsdt = dsdt; generation = id_of m }) c.new.result)
    c.facs_part.ensures
    ∙ ap (λ those. told_with fadt madt srat slit mcfg hpet (padded 6 acpi.oem_id) (head_of acpi 1)
    (record { facs = option_map (λ power. initial_facs) m.power; dsdt = those; generation = id_of m })
    c.new.result) c.in_ok-dsdt.ensures
    ∙ ap (told_with fadt madt srat slit mcfg hpet (padded 6 acpi.oem_id) (head_of acpi 1) (targets_of m acpi)) c.new.ensures
    ∙ told_same (padded 6 acpi.oem_id) (head_of acpi 1) (targets_of m acpi) []
    (c.fadt_part.ensures ∙ sym (of_part m acpi fadt_kind as_fadt (λ t. Fadt t (fadt_links facs_place dsdt_place)) (fadt_of acpi) (λ t. refl) m.power refl))
    (c.in_ok-madt.ensures ∙ sym (of_part m acpi madt_kind as_madt Madt (madt_of_machine m acpi) (λ t. refl) m.apic refl))
    (c.in_ok-srat.ensures ∙ sym (of_part m acpi srat_kind as_srat Srat (λ (numa : Numa). srat_of_machine m acpi) (λ t. refl) m.numa refl))
    (c.in_ok-slit.ensures ∙ sym (of_part m acpi slit_kind as_slit Slit (slit_of_machine acpi) (λ t. refl) m.numa refl))
    (c.in_ok-mcfg.ensures ∙ sym (of_part m acpi mcfg_kind as_mcfg Mcfg (mcfg_of_bridge acpi) (λ t. refl) (mapped m.bridge) refl))
    (c.hpet_part.ensures ∙ sym (of_part m acpi hpet_kind as_hpet Hpet (hpet_of acpi) (λ t. refl) m.hpet refl))
