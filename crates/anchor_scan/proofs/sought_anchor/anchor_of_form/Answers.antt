use Rattle.std.proofs.Common.{ℕ}
use Rattle.vt_bytes.specs.Memory.{seen}
use Rattle.smbios_model.specs.declared.anchor.AnchorForm.{AnchorForm}
use Rattle.smbios_model.specs.Anchor.{HasAnchorBy}
use Rattle.anchor_scan.proofs.FirstOf.{first_of_one, none_of_one}
use Rattle.anchor_scan.proofs.sought_anchor.anchor_of_form.Goals as goal

pub returns-in-Some : goal.returns-in-Some
returns-in-Some c =
    first_of_one (λ (form : AnchorForm) (place : ℕ). HasAnchorBy form (seen c.args.memory.now.memory) place) c.args.form c.in-Some.address c.in-Some.ensures.some

pub returns-in-None : goal.returns-in-None
returns-in-None c =
    none_of_one (λ (form : AnchorForm) (place : ℕ). HasAnchorBy form (seen c.args.memory.now.memory) place) c.args.form (c.find_smbios_by.ensures.none.0 c.in-None.is)
