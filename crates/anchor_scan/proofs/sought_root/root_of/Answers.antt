use Rattle.std.proofs.Common.{ℕ}
use Rattle.vt_bytes.specs.Memory.{seen}
use Rattle.acpi_model.specs.declared.form.Form.{Form}
use Rattle.acpi_model.specs.Rsdp.{HasRsdpBy}
use Rattle.anchor_scan.proofs.FirstOf.{first_of_one, none_of_one}
use Rattle.anchor_scan.proofs.sought_root.root_of.Goals as goal

pub returns-in-Some : goal.returns-in-Some
returns-in-Some c =
    first_of_one (λ (form : Form) (place : ℕ). HasRsdpBy form (seen c.args.memory.now.memory) place) c.args.form c.in-Some.address c.in-Some.ensures.some

pub returns-in-None : goal.returns-in-None
returns-in-None c =
    none_of_one (λ (form : Form) (place : ℕ). HasRsdpBy form (seen c.args.memory.now.memory) place) c.args.form (c.find_rsdp_by.ensures.none.0 c.in-None.is)
