use Rattle.std.proofs.Common.{◌≡◌, ◌≢◌, Bool, true, false, Result, Err, ap, sym, refl, ◌∙◌}
use Rattle.std.specs.Result.{result_eq}
use Rattle.cfg_directory.specs.declared.container.ImageFault.{ImageFault}
use Rattle.cfg_directory.specs.declared.container.ImageFault.TheVariants.{OutOfMemory}
use Rattle.vmtables.proofs.Judged.{took_more}
use Rattle.vmtables.proofs.taker.ImageReaderTaker.take.Goals as goal

apart : false ≡ true → ⊥
apart is = cc

-- an answer that compares unequal to want of memory
is_other : (units : Unit {0} → Unit {0} → Bool) (faults : ImageFault → ImageFault → Bool) (result : Result (Unit {0}) ImageFault) (equal : Bool)
    → equal ≡ result_eq units faults result (Err OutOfMemory) → equal ≡ false → faults OutOfMemory OutOfMemory ≡ true → result ≢ Err OutOfMemory
is_other units faults result equal is differs same =
    λ e. apart (sym differs ∙ (is ∙ (ap (λ r. result_eq units faults r (Err OutOfMemory)) e ∙ same)))

pub returns : goal.returns
returns c bytes is =
    took_more bytes _ _ _ _ is c.feed.ensures.fed c.feed.ensures.answer (is_other _ _ _ _ c.eq.ensures c.if-eq.false refl)
