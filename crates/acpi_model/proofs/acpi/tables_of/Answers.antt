use Rattle.std.proofs.Common.{List, [], ◌++◌, option_map, ap, sym, ◌∙◌, append_assoc, append-nil}
use Rattle.std.specs.Prelude.{option_to_list}
use Rattle.machine_desc.specs.declared.acpi_parts.Numa.{Numa}
use Rattle.acpi_records.specs.Hpet.{hpet_of}
use Rattle.acpi_model.specs.declared.acpi.Table.{Table}
use Rattle.acpi_model.specs.declared.acpi.Table.TheVariants.{Fadt, Madt, Srat, Slit, Mcfg, Hpet}
use Rattle.acpi_model.specs.MachineFadt.{fadt_of, fadt_links}
use Rattle.acpi_model.specs.MachineMadt.{madt_of_machine}
use Rattle.acpi_model.specs.MachineSrat.{srat_of_machine}
use Rattle.acpi_model.specs.MachineSlit.{slit_of_machine}
use Rattle.acpi_model.specs.MachineMcfg.{mapped, mcfg_of_bridge}
use Rattle.acpi_model.specs.Acpi.{facs_place, dsdt_place}
use Rattle.acpi_model.proofs.PartsInTurn.{part_pushed}
use Rattle.acpi_model.proofs.acpi.tables_of.Goals as goal

pub returns : goal.returns
returns c =
    let m = c.args.machine.now in
    let acpi = c.args.acpi.now in
    let fadt : List Table = option_to_list (option_map (λ power. Fadt (fadt_of acpi power) (fadt_links facs_place dsdt_place)) m.power) in
    let madt : List Table = option_to_list (option_map (λ apic. Madt (madt_of_machine m acpi apic)) m.apic) in
    let srat : List Table = option_to_list (option_map (λ (numa : Numa). Srat (srat_of_machine m acpi)) m.numa) in
    let slit : List Table = option_to_list (option_map (λ numa. Slit (slit_of_machine acpi numa)) m.numa) in
    let mcfg : List Table = option_to_list (option_map (λ bridge. Mcfg (mcfg_of_bridge acpi bridge)) (mapped m.bridge)) in
    let hpet : List Table = option_to_list (option_map (λ hpet. Hpet (hpet_of acpi hpet)) m.hpet) in
    let first = part_pushed (λ t. Fadt t (fadt_links facs_place dsdt_place)) (fadt_of acpi) c.new-tables.result c.push_fadt.new.tables [] m.power
    c.fadt_part.result c.new-tables.ensures c.fadt_part.ensures c.in_ok-push_fadt.ensures in
    let second = part_pushed Madt (madt_of_machine m acpi) c.push_fadt.new.tables c.push_madt.new.tables fadt m.apic c.in_ok-madt_part.field-0 first
    c.in_ok-madt_part.ensures c.in_ok-push_madt.ensures in
    let third = part_pushed Srat (λ (numa : Numa). srat_of_machine m acpi) c.push_madt.new.tables c.push_srat.new.tables (fadt ++ madt) m.numa
    c.in_ok-srat_part.field-0 second c.in_ok-srat_part.ensures c.in_ok-push_srat.ensures in
    let fourth = part_pushed Slit (slit_of_machine acpi) c.push_srat.new.tables c.push_slit.new.tables (fadt ++ madt ++ srat) m.numa
    c.in_ok-slit_part.field-0 third c.in_ok-slit_part.ensures c.in_ok-push_slit.ensures in
    let fifth = part_pushed Mcfg (mcfg_of_bridge acpi) c.push_slit.new.tables c.push_mcfg.new.tables (fadt ++ madt ++ srat ++ slit) (mapped m.bridge)
    c.in_ok-mcfg_part.field-0 fourth c.in_ok-mcfg_part.ensures c.in_ok-push_mcfg.ensures in
    part_pushed Hpet (hpet_of acpi) c.push_mcfg.new.tables c.push_hpet.new.tables (fadt ++ madt ++ srat ++ slit ++ mcfg) m.hpet c.hpet_part.result
    fifth c.hpet_part.ensures c.in_ok-push_hpet.ensures
    ∙ append_assoc (fadt ++ madt ++ srat ++ slit) mcfg hpet ∙ append_assoc (fadt ++ madt ++ srat) slit (mcfg ++ hpet)
    ∙ append_assoc (fadt ++ madt) srat (slit ++ (mcfg ++ hpet)) ∙ append_assoc fadt madt (srat ++ (slit ++ (mcfg ++ hpet)))
    ∙ ap (λ last. fadt ++ (madt ++ (srat ++ (slit ++ (mcfg ++ last))))) (sym (append-nil hpet))
