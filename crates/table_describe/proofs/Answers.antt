-- What the answer of a candidate says, by what was found of its items.
use Rattle.std.proofs.Common.{◌≡◌, ℕ, ◌⊎◌, Option, Some, None, Result, Ok, Err, IfOk, IfErr, MatchOption, inl, inr, refl, ap, ◌∙◌}
use Rattle.vt_outside.specs.declared.fault.OutOfMemory.{OutOfMemory}
use Rattle.machine_desc.specs.declared.machine.Machine.{Machine}
use Rattle.machine_desc.specs.Rules.{IsAccepted}
use Rattle.machine_desc.specs.Fields.{HasFittingFields}
use Rattle.table_model.specs.declared.inventory.Inventory.{Inventory}
use Rattle.table_model.specs.Inventory.{inventory_of}
use Rattle.table_describe.specs.declared.description.DescribeFault.TheVariants.{NotProfile, OutOfMemory as NoMemory}
use Rattle.table_describe.specs.Candidate.{candidate}
use Rattle.table_describe.specs.Failing.{IsFirstFailing}
use Rattle.table_describe.specs.Answered.{answered}
use Rattle.table_describe.proofs.Failing.{none_fails, its_candidate}

-- what was found of an inventory and its candidate
abbrev pub IsFound : Inventory → Machine → Result (Option ℕ) OutOfMemory → Type 0
IsFound i m found = IfOk found (λ item. MatchOption item (IsAccepted m × (i ≡ inventory_of m)) (IsFirstFailing i))

pub accepted_answer : (i : Inventory) (m : Machine) (found : Result (Option ℕ) OutOfMemory) → IsFound i m found → IfOk (answered m found) IsAccepted
accepted_answer i m (Ok None) told = told.0
accepted_answer i m (Ok (Some item)) told = tt
accepted_answer i m (Err fault) told = tt

pub found_answer : (i : Inventory) (m : Machine) (found : Result (Option ℕ) OutOfMemory) → m ≡ candidate i → IsFound i m found → (machine : Machine)
    → IsAccepted machine → HasFittingFields machine → inventory_of machine ≡ i
    → (answered m found ≡ Ok machine) ⊎ (answered m found ≡ Err NoMemory)
found_answer i m (Ok None) is told machine accepted fits its = inl (ap Ok (is ∙ its_candidate i machine accepted fits its))
found_answer i m (Ok (Some item)) is told machine accepted fits its = absurd (none_fails i machine item accepted fits its told)
found_answer i m (Err fault) is told machine accepted fits its = inr refl

pub refused_answer : (i : Inventory) (m : Machine) (found : Result (Option ℕ) OutOfMemory) → IsFound i m found
    → IfErr (answered m found) (λ fault. (fault ≡ NoMemory) ⊎ ((item : ℕ) × (fault ≡ NotProfile item) × IsFirstFailing i item))
refused_answer i m (Ok None) told = tt
refused_answer i m (Ok (Some item)) told = inr (item, refl, told)
refused_answer i m (Err fault) told = inl refl
