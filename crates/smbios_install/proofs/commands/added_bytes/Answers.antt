use Rattle.std.proofs.Common.{◌≡◌, List, [], ◌∷◌, IfOk, ap, subst}
use Rattle.std.specs.List.{flat_map}
use Rattle.cfg_directory.specs.SmbiosNames.{anchor_name, structures_name}
use Rattle.loader_script.specs.declared.entry.Entry.{Entry}
use Rattle.loader_script.specs.declared.entry.Entry.TheVariants.{Allocate, AddPointer, AddChecksum}
use Rattle.loader_script.specs.Spelling.{entry_bytes}
use Rattle.smbios_model.specs.declared.anchor.AnchorForm.{AnchorForm}
use Rattle.smbios_model.specs.declared.anchor.AnchorForm.TheVariants.{Smbios3, Smbios2}
use Rattle.smbios_install.specs.Forms.{pointer_place, pointer_size}
use Rattle.smbios_install.specs.Commands.{added, sums}
use Rattle.smbios_install.proofs.commands.added_bytes.Goals as goal

-- the commands one by one
are_added : (form : AnchorForm) (structures anchor pointer : Entry) (rest : List Entry) → structures ≡ Allocate structures_name 16 1
    → anchor ≡ Allocate anchor_name 16 2 → pointer ≡ AddPointer anchor_name structures_name (pointer_place form) (pointer_size form) → rest ≡ sums form
    → structures ∷ anchor ∷ pointer ∷ rest ≡ added form
are_added form structures anchor pointer rest structures_is anchor_is pointer_is rest_is = cc

sums3 : (form : AnchorForm) (sum : Entry) → form ≡ Smbios3 → sum ≡ AddChecksum anchor_name 5 0 24 → sum ∷ [] ≡ sums form
sums3 form sum is sum_is =
    let all : sums form ≡ AddChecksum anchor_name 5 0 24 ∷ [] = ap sums is in
    cc

sums2 : (form : AnchorForm) (second sum : Entry) → form ≡ Smbios2 → second ≡ AddChecksum anchor_name 0x15 0x10 15 → sum ≡ AddChecksum anchor_name 4 0 31
    → second ∷ sum ∷ [] ≡ sums form
sums2 form second sum is second_is sum_is =
    let all : sums form ≡ AddChecksum anchor_name 0x15 0x10 15 ∷ AddChecksum anchor_name 4 0 31 ∷ [] = ap sums is in
    cc

pub returns-in-Smbios3 : goal.returns-in-Smbios3
returns-in-Smbios3 c =
    subst (λ (script : List Entry). IfOk c.encode_script.result (λ bytes. bytes ≡ flat_map entry_bytes script))
    (are_added c.args.form c.structures_allocate.result c.anchor_allocate.result c.anchor_pointer.result (c.anchor_sum.result ∷ [])
    c.structures_allocate.ensures c.anchor_allocate.ensures c.anchor_pointer.ensures
    (sums3 c.args.form c.anchor_sum.result c.in-Smbios3.is c.anchor_sum.ensures))
    c.encode_script.ensures.spelled

pub returns-in-Smbios2 : goal.returns-in-Smbios2
returns-in-Smbios2 c =
    subst (λ (script : List Entry). IfOk c.encode_script-in-Smbios2.result (λ bytes. bytes ≡ flat_map entry_bytes script))
    (are_added c.args.form c.structures_allocate-in-Smbios2.result c.anchor_allocate-in-Smbios2.result c.anchor_pointer-in-Smbios2.result
    (c.anchor_sum-in-Smbios2.result ∷ c.anchor_sum-in-Smbios2-2.result ∷ [])
    c.structures_allocate-in-Smbios2.ensures c.anchor_allocate-in-Smbios2.ensures c.anchor_pointer-in-Smbios2.ensures
    (sums2 c.args.form c.anchor_sum-in-Smbios2.result c.anchor_sum-in-Smbios2-2.result c.in-Smbios2.is c.anchor_sum-in-Smbios2.ensures
    c.anchor_sum-in-Smbios2-2.ensures))
    c.encode_script-in-Smbios2.ensures.spelled
