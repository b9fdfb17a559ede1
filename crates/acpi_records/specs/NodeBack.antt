-- The node of an entry of a processor with a local APIC is got back from its bytes.
use Rattle.std.proofs.Common.{◌≡◌, ℕ, ◌+◌, ◌*◌, ◌/◌, ◌%◌, ap, ◌∙◌}
use Rattle.std.proofs.Math.Nat.{mod-add-div}
use Rattle.vt_layout.specs.Fields.{field_values}
use Rattle.acpi_records.specs.declared.srat_entry.ApicAffinity.{ApicAffinity}
use Rattle.acpi_records.specs.SratEntries.{apic_affinity_fields, apic_affinity_made, node_of}

node_back : (node : ℕ) → node_of (node % 0x100) (node / 0x100 % 0x100) (node / 0x100 / 0x100) ≡ node
node_back node = ap (λ rest. node % 0x100 + 0x100 * rest) (mod-add-div (node / 0x100) 0x100) ∙ mod-add-div node 0x100

pub apic_affinity_back : (e : ApicAffinity) → apic_affinity_made (field_values (apic_affinity_fields e)) ≡ e
apic_affinity_back e = ap (λ node. record e { node = node }) (node_back e.node)
