use Rattle.std.proofs.Common.{◌≡◌, Ok, None, ap, sym, subst, ◌∙◌}
use Rattle.std.proofs.lemmas.Result.{err_from_is_err_and}
use Rattle.vt_bytes.specs.Memory.{seen}
use Rattle.table_model.specs.declared.inventory.Inventory.{Inventory}
use Rattle.table_model.specs.Inventory.{ShowsBy}
use Rattle.anchor_scan.specs.Gathered.{inventory_of}
use Rattle.anchor_scan.proofs.OneSmbiosScan.{structures_part}
use Rattle.anchor_scan.proofs.OneScan.{smbios_told, inventory_shows, acpi_part}
use Rattle.anchor_scan.proofs.inventory.scan_both.Goals as goal

pub returns-in_err-smbios-clause-refused : goal.returns-in_err-smbios-clause-refused
returns-in_err-smbios-clause-refused c =
    let view = seen c.args.memory.now.memory in
    let p = err_from_is_err_and c.from_residual-in_err-smbios.result c.from_residual-in_err-smbios.ensures.1 in
    let part = acpi_part c.args.search.root view c.in_ok-acpi.acpi c.in_ok-acpi.ensures.shown in
    rw (p.1, p.2) (smbios_told c.args.search view c.in_err-smbios.field-0.0 part c.in_err-smbios.ensures.refused)

pub returns-clause-shown : goal.returns-clause-shown
returns-clause-shown c =
    let search = c.args.search in
    let view = seen c.args.memory.now.memory in
    let top = c.args.memory.now.memory.top in
    let none = λ (is : c.in_ok-smbios.smbios ≡ None). c.scan_structures.ensures.none.0 (c.in_ok-smbios.was ∙ ap Ok is) in
    let smbios = structures_part search.anchor view c.in_ok-smbios.smbios c.in_ok-smbios.ensures.shown none in
    subst (λ (inventory : Inventory). ShowsBy search top view inventory)
    (ap (λ n. inventory_of n c.in_ok-acpi.acpi c.in_ok-smbios.smbios) (sym c.top.ensures.value) ∙ sym c.inventory_of.ensures)
    (inventory_shows search top view c.in_ok-acpi.acpi c.in_ok-smbios.smbios c.in_ok-acpi.ensures.shown smbios)
