use Rattle.std.proofs.Common.{ap, subst, ◌∙◌}
use Rattle.acpi_append.specs.Tables.{with_xsdt, IsRsdpPut}
use Rattle.vm_image.specs.Image.{with_tables, places_in}
use Rattle.vm_image.specs.AcpiHeld.{IsTablesFile, IsAcpiImage}
use Rattle.vm_image.proofs.AcpiFiles.{file_from, image_with, files_are, image_known}
use Rattle.vm_image.proofs.acpi.files_of.Goals as goal

pub returns-clause-files : goal.returns-clause-files
returns-clause-files c =
    let acpi = c.args.acpi.now in
    let begin = c.args.begin in
    let tables = c.args.tables.now in
    let rsdp = file_from c.put_rsdp.new.blob c.finish.result.bytes c.finish.result.pointers c.finish.result.sums c.finish.ensures.bytes
    c.finish.ensures.pointers c.finish.ensures.sums in
    let file = file_from c.append_tables.new.file c.finish-2.result.bytes c.finish-2.result.pointers c.finish-2.result.sums c.finish-2.ensures.bytes
    c.finish-2.ensures.pointers c.finish-2.ensures.sums in
    let put = subst (λ h. IsRsdpPut c.new-rsdp.result c.put_rsdp.new.blob h.oem_id c.in_ok-xsdt.xsdt) c.head_of-head.ensures c.in_ok-put_rsdp.ensures in
    let file_is = c.in_ok-xsdt.ensures.file ∙ ap (λ h. with_xsdt (with_tables begin tables) h (places_in begin tables)) c.head_of-head.ensures in
    ap (λ r. image_with r (record { bytes = c.finish-2.result.bytes; pointers = c.finish-2.result.pointers; sums = c.finish-2.result.sums })) rsdp
    ∙ ap (image_with c.put_rsdp.new.blob) file
    ∙ files_are acpi begin tables c.new-rsdp.result c.put_rsdp.new.blob c.append_tables.new.file c.in_ok-xsdt.xsdt c.in_ok-xsdt.ensures.place
    c.new-rsdp.ensures put file_is

pub returns-clause-held : goal.returns-clause-held
returns-clause-held c =
    let acpi = c.args.acpi.now in
    let begin = c.args.begin in
    let tables = c.args.tables.now in
    let put = subst (λ h. IsRsdpPut c.new-rsdp.result c.put_rsdp.new.blob h.oem_id c.in_ok-xsdt.xsdt) c.head_of-head.ensures c.in_ok-put_rsdp.ensures in
    let file_is = c.in_ok-xsdt.ensures.file ∙ ap (λ h. with_xsdt (with_tables begin tables) h (places_in begin tables)) c.head_of-head.ensures in
    let known = subst (λ h. IsTablesFile begin h tables c.append_tables.new.file) c.head_of-head.ensures c.in_ok-xsdt.ensures.held in
    subst (IsAcpiImage acpi begin tables) (files_are acpi begin tables c.new-rsdp.result c.put_rsdp.new.blob c.append_tables.new.file c.in_ok-xsdt.xsdt
    c.in_ok-xsdt.ensures.place c.new-rsdp.ensures put file_is)
    (image_known acpi begin tables c.new-rsdp.result c.put_rsdp.new.blob c.append_tables.new.file c.in_ok-xsdt.xsdt c.in_ok-xsdt.ensures.place
    c.new-rsdp.ensures put
    c.finish.ensures.blob c.finish-2.ensures.blob known)
