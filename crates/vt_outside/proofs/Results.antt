-- Of results and options of any type.
use Rattle.std.proofs.Common.{◌≡◌, false, Option, Some, None, Result, Ok, Err, OnErr, refl}
use Rattle.std.proofs.lemmas.Bool.{true≢false}
use Rattle.std.specs.Option.{is_some}

-- what holds anyway holds after a fault
pub on_err : {A E : Type 0} (result : Result A E) (P : Type 0) → P → OnErr result P
on_err (Ok value) P holds = tt
on_err (Err error) P holds = holds

-- an option that fails the test of being there is none
pub none_from : {A : Type 0} (found : Option A) → is_some found ≡ false → found ≡ None
none_from None fails = refl
none_from (Some x) fails = absurd (true≢false fails)
