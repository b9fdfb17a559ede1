-- What is read is one machine, and an accepted one.
use Rattle.std.proofs.Common.{◌≡◌, ℕ, List, Option, Some, None, Ok, refl, subst}
use Rattle.vt_outside.specs.Readings.{◌into◌}
use Rattle.vt_outside.proofs.Readings.{part_read}
use Rattle.machine_desc.specs.declared.machine.Machine.{Machine}
use Rattle.machine_desc.specs.declared.machine.Broken.{Broken as BrokenRule}
use Rattle.machine_desc.specs.Rules.{broken_rule, IsAccepted}
use Rattle.desc_toml.specs.Reading.{text_in, machine_in, unless_broken, accepted, Reads}

pub one_read : (bytes : List ℕ) (a b : Machine) → Reads bytes a → Reads bytes b → a ≡ b
one_read bytes a b is also = cc

pub kept : (machine other : Machine) (broken : Option BrokenRule) → unless_broken machine broken ≡ Ok other → (machine ≡ other) × (broken ≡ None)
kept machine other None is = (cc, refl)
kept machine other (Some broken) is = absurd (cc)

pub read_accepted : (bytes : List ℕ) (machine : Machine) → Reads bytes machine → IsAccepted machine
read_accepted bytes machine is =
    let (text, _, described) = part_read (text_in bytes) (λ text. machine_in text into accepted) machine is in
    let (found, _, keeps) = part_read (machine_in text) accepted machine described in
    let (same, none) = kept found machine (broken_rule found) keeps in
    subst IsAccepted same none
