use Rattle.std.proofs.Common.{◌≡◌, ◌+◌, ◌≤◌, ℕ, List, length, take, replicate, Some, ap, ap₂, sym, subst, ◌∙◌}
use Rattle.std.specs.Prelude.{IsSomeAnd}
use Rattle.cfg_directory.specs.declared.item.Item.{Item}
use Rattle.cfg_directory.specs.Items.{named, selected}
use Rattle.cfg_directory.specs.SmbiosNames.{anchor_name}
use Rattle.smbios_install.specs.Forms.{pointer_size}
use Rattle.smbios_install.proofs.Blanked.{zeros_fit, zeros_are}
use Rattle.smbios_install.proofs.installing.blank_pointer.Goals as goal

pub write_at-requires : goal.write_at-requires
write_at-requires c =
    let there : named c.args.items.now anchor_name ≡ Some c.in-Some.anchor.now =
    ap (named c.args.items.now) (sym c.anchor_name.ensures) ∙ sym c.in-Some.ensures in
    let zeros : take c.pointer_size.result (replicate {A = ℕ} 8 0) ≡ replicate (pointer_size c.args.form) 0 =
    ap (λ n. take n (replicate {A = ℕ} 8 0)) c.pointer_size.ensures ∙ zeros_are c.args.form in
    subst (λ (written : ℕ × List ℕ). IsSomeAnd (selected c.args.items.now c.in-Some.anchor.now.select)
    (λ (item : Item). written.0 + length written.1 ≤ length item.bytes))
    (ap₂ (λ (n : ℕ) (bytes : List ℕ). (n, bytes)) (sym c.pointer_place.ensures) (sym zeros))
    (zeros_fit c.args.items.now c.args.form c.in-Some.anchor.now c.requires.lawful there c.requires.form)
