use Rattle.std.proofs.Common.{◌≡◌, ◌==◌, Bool, true, false, Option, Some, None, IsSome, cond, ap, ◌∙◌, refl, subst, sym}
use Rattle.std.proofs.lemmas.Result.{on_ok_weaker}
use Rattle.machine_desc.specs.declared.machine.Machine.{Machine}
use Rattle.machine_desc.specs.declared.device_parts.Bridge.{Bridge}
use Rattle.machine_desc.specs.Rules.{IsAccepted}
use Rattle.machine_desc.proofs.Accepted.{power_needs_acpi}
use Rattle.acpi_model.specs.declared.acpi.Table.TheVariants.{Mcfg}
use Rattle.acpi_model.specs.Acpi.{IsWritable}
use Rattle.acpi_model.specs.MachineMcfg.{if_mapped, mapped, mcfg_of_bridge}
use Rattle.acpi_model.proofs.AcceptedAcpi.{accepted_fits, not_none, no_bridge}
use Rattle.acpi_model.proofs.Mcfgs.{mcfg_written}
use Rattle.acpi_append.specs.Tables.{IsTablePut}
use Rattle.acpi_append.proofs.OfParts.{of_parts}
use Rattle.acpi_fixed.proofs.mcfg.append_mcfg.Goals as goal
use Rattle.acpi_fixed.proofs.mcfg.append_mcfg.Goals.{in_default-via-in-Some+in_default, in_default-via-in_default}

-- a bridge whose configuration space is in memory is there
itself : (b : Bridge) → IsSome (if_mapped b) → if_mapped b ≡ Some b
itself b = either (b.ecam == 0)
  where
    either : (none : Bool) → IsSome (cond none None (Some b)) → cond none None (Some b) ≡ Some b
    either true some = absurd (cc)
    either false some = refl

none_mapped : (m : Machine) → m.bridge ≡ None → IsSome (mapped m.bridge) → ⊥
none_mapped m none some = not_none (mapped m.bridge) (ap mapped none) some

-- and needs power management, which needs ACPI tables
there : {A : Type 0} (part : Option A) → (part ≡ None → ⊥) → IsSome part
there None some = absurd (some refl)
there (Some a) some = refl

needs_acpi : (m : Machine) → IsAccepted m → IsSome (mapped m.bridge) → IsSome m.acpi
needs_acpi m accepted some = power_needs_acpi m accepted (there m.power (λ none. none_mapped m (no_bridge m accepted none) some))

pub mcfg_of_bridge-requires : goal.mcfg_of_bridge-requires
mcfg_of_bridge-requires c = accepted_fits c.args.machine.now c.in-Some-Some.acpi c.requires.accepted c.in-Some-Some.is-0

pub put_table-requires-clause-writable : goal.put_table-requires-clause-writable
put_table-requires-clause-writable c =
    subst (λ t. IsWritable (Mcfg t)) (sym c.in_ok-mcfg.ensures) (mcfg_written c.in-Some-Some.acpi c.in-Some-Some.bridge)

pub returns-clause-put : goal.returns-clause-put
returns-clause-put c =
    let part = c.in-Some-Some in
    let bridge = c.args.machine.now.bridge in
    let is : mapped bridge ≡ Some part.bridge =
    ap mapped part.is-1 ∙ itself part.bridge (subst (λ b. IsSome (mapped b)) part.is-1 c.requires.wanted) in
    on_ok_weaker c.put_table.result (λ put.
    of_parts (λ acpi b. IsTablePut c.args.blob.now c.put_table.new.blob (Mcfg (mcfg_of_bridge acpi b))) c.args.machine.now.acpi (mapped bridge)
    part.acpi part.bridge part.is-0 is (subst (λ t. IsTablePut c.args.blob.now c.put_table.new.blob (Mcfg t)) c.in_ok-mcfg.ensures put))
    c.put_table.ensures.put

pub unreachable-requires : goal.unreachable-requires
unreachable-requires c =
    let machine = c.args.machine.now in
    elim c.in_default.branch [
      | in_default-via-in-Some+in_default w ↦ none_mapped machine w.in_default.is-1 c.requires.wanted
      | in_default-via-in_default w ↦ not_none machine.acpi w.in_default.is-0 (needs_acpi machine c.requires.accepted c.requires.wanted)
    ]
