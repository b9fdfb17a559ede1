-- What the rules say of an accepted machine.
use Rattle.std.proofs.Common.{◌≡◌, ◌≤◌, Bool, true, false, ◌&&◌, None, nat_le, refl}
use Rattle.std.proofs.lemmas.Bool.{and_parts, leb-true}
use Rattle.machine_desc.specs.declared.machine.Machine.{Machine}
use Rattle.machine_desc.specs.Rules.{only_at, breaches, IsAccepted}
use Rattle.machine_desc.proofs.Kept.{each_is_kept}

-- an accepted machine's top is 64 MiB to 3 GiB
pub record Lawful (m : Machine) : Type 0 where
  pub at_least : 64 ≤ m.top_mib
  pub at_most : m.top_mib ≤ 3072

-- a rule that isn't broken holds
holds_where_kept : (holds : Bool) → only_at 0 holds ≡ None → holds ≡ true
holds_where_kept true kept = refl
holds_where_kept false kept = absurd (cc)

-- an accepted machine keeps the rule of its top
pub lawful : (m : Machine) → IsAccepted m → Lawful m
lawful m accepted =
    let top : only_at 0 (nat_le 64 m.top_mib && nat_le m.top_mib 3072) ≡ None = each_is_kept 1 (breaches m) accepted in
    let bounds = and_parts (nat_le 64 m.top_mib) (nat_le m.top_mib 3072) (holds_where_kept (nat_le 64 m.top_mib && nat_le m.top_mib 3072) top) in
    record { at_least = leb-true 64 m.top_mib bounds.0; at_most = leb-true m.top_mib 3072 bounds.1 }
