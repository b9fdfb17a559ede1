use Rattle.std.proofs.Common.{◌≡◌, ◌⊎◌, Ok, Err, IfOk, IfErr, subst, sym}
use Rattle.machine_desc.specs.Rules.{IsAccepted}
use Rattle.table_describe.specs.declared.description.DescribeFault.TheVariants.{NotProfile, OutOfMemory as NoMemory}
use Rattle.table_describe.specs.Failing.{IsFirstFailing}
use Rattle.table_describe.proofs.Answers.{accepted_answer, found_answer, refused_answer}
use Rattle.table_describe.proofs.description.describe.Goals as goal

pub returns-clause-accepted : goal.returns-clause-accepted
returns-clause-accepted c =
    subst (λ result. IfOk result IsAccepted) (sym c.answer.ensures)
    (accepted_answer c.args.inventory.now c.in_ok-machine.machine c.first_failing-found.result c.first_failing-found.ensures)

pub returns-clause-found : goal.returns-clause-found
returns-clause-found c machine accepted fits its =
    subst (λ result. (result ≡ Ok machine) ⊎ (result ≡ Err NoMemory)) (sym c.answer.ensures)
    (found_answer c.args.inventory.now c.in_ok-machine.machine c.first_failing-found.result c.in_ok-machine.ensures c.first_failing-found.ensures machine
    accepted fits its)

pub returns-clause-refused : goal.returns-clause-refused
returns-clause-refused c =
    subst (λ result. IfErr result (λ fault. (fault ≡ NoMemory) ⊎ ((item : _) × (fault ≡ NotProfile item) × IsFirstFailing c.args.inventory.now item)))
    (sym c.answer.ensures)
    (refused_answer c.args.inventory.now c.in_ok-machine.machine c.first_failing-found.result c.first_failing-found.ensures)
