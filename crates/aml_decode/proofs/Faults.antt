-- A fault of a part is a fault of the whole.
use Rattle.std.proofs.Common.{◌≡◌, refl, subst, Result, Ok, Err}
use Rattle.vt_outside.specs.Readings.{◌into◌, Agrees, IsFaultOf}
use Rattle.vt_outside.proofs.Readings.{fault_bound}
use Rattle.aml_terms.specs.Reading.{reported}
use Rattle.aml_terms.specs.declared.fault.AmlFault.{AmlFault}

pub fault_of_all : {X Y A B : Type 0} (seen : X → A) (shown : Y → B) (fault : AmlFault) (read : Result A AmlFault) (next : A → Result B AmlFault)
    (all : Result B AmlFault) → Agrees reported seen (Err fault) read → (read into next) ≡ all → Agrees reported shown (Err fault) all
fault_of_all seen shown fault read next all is e = subst (λ whole. IsFaultOf (reported fault) whole) e (fault_bound (reported fault) read next is)

-- three in a row
pub bind_twice : {A B C : Type 0} (read : Result A AmlFault) (next : A → Result B AmlFault) (last : B → Result C AmlFault)
    → ((read into next) into last) ≡ (read into λ x. next x into last)
bind_twice (Ok x) next last = refl
bind_twice (Err fault) next last = refl
