-- The first test that fails: there is one at most, and none where each test passes.
use Rattle.std.proofs.Common.{◌≡◌, ◌⊎◌, inl, inr, true, false, List, [], ◌∷◌, ◌++◌, refl, sym, subst, ◌∙◌, Result, Err, IfErr}
use Rattle.std.proofs.lemmas.Bool.{cases_Bool}
use Rattle.vt_bytes.proofs.AtMostOne.{IsOne}
use Rattle.acpi_decode.specs.declared.fault.AcpiFault.{AcpiFault}
use Rattle.acpi_decode.specs.Tests.{Test, Faults, NoFault, FirstFails, Pass}

-- one fault at most is that of the first that fails
pub one_first : (tests : List Test) (Behind : Faults) → IsOne Behind → IsOne (FirstFails tests Behind)
one_first [] Behind one a b is also = one a b is also
one_first (test ∷ tests) Behind one a b (inl is) (inl also) = is.1 ∙ sym also.1
one_first (test ∷ tests) Behind one a b (inl is) (inr also) = absurd (cc (is.0, also.0))
one_first (test ∷ tests) Behind one a b (inr is) (inl also) = absurd (cc (is.0, also.0))
one_first (test ∷ tests) Behind one a b (inr is) (inr also) = one_first tests Behind one a b is.1 also.1

-- where each passes, the faults are those that come behind
pub first_behind : (tests : List Test) (Behind : Faults) (fault : AcpiFault) → Pass tests → FirstFails tests Behind fault → Behind fault
first_behind [] Behind fault pass is = is
first_behind (test ∷ tests) Behind fault pass (inl is) = absurd (cc (is.0, pass.0))
first_behind (test ∷ tests) Behind fault pass (inr is) = first_behind tests Behind fault pass.1 is.1

pub behind_first : (tests : List Test) (Behind : Faults) (fault : AcpiFault) → Pass tests → Behind fault → FirstFails tests Behind fault
behind_first [] Behind fault pass is = is
behind_first (test ∷ tests) Behind fault pass is = inr (pass.0, behind_first tests Behind fault pass.1 is)

-- a fault of the tests' own is told whatever comes behind them
pub first_own : (tests : List Test) (Behind : Faults) (fault : AcpiFault) → FirstFails tests NoFault fault → FirstFails tests Behind fault
first_own [] Behind fault is = absurd is
first_own (test ∷ tests) Behind fault (inl is) = inl is
first_own (test ∷ tests) Behind fault (inr is) = inr (is.0, first_own tests Behind fault is.1)

-- tests behind others
pub first_back : (tests more : List Test) (Behind : Faults) (fault : AcpiFault) → Pass tests → FirstFails more Behind fault
    → FirstFails (tests ++ more) Behind fault
first_back [] more Behind fault pass is = is
first_back (test ∷ tests) more Behind fault pass is = inr (pass.0, first_back tests more Behind fault pass.1 is)

pub pass_both : (tests more : List Test) → Pass tests → Pass more → Pass (tests ++ more)
pass_both [] more pass also = also
pass_both (test ∷ tests) more pass also = (pass.0, pass_both tests more pass.1 also)

pub pass_front : (tests more : List Test) → Pass (tests ++ more) → Pass tests
pass_front [] more pass = tt
pass_front (test ∷ tests) more pass = (pass.0, pass_front tests more pass.1)

pub pass_back : (tests more : List Test) → Pass (tests ++ more) → Pass more
pass_back [] more pass = pass
pass_back (test ∷ tests) more pass = pass_back tests more pass.1

-- each passes, or one is the first that fails, and never both
passes_more : (test : Test) (tests : List Test) → (test.0 ≡ true) ⊎ (test.0 ≡ false)
    → Pass tests ⊎ ((fault : AcpiFault) × FirstFails tests NoFault fault)
    → Pass (test ∷ tests) ⊎ ((fault : AcpiFault) × FirstFails (test ∷ tests) NoFault fault)
passes_more test tests (inr fails) rest = inr (test.1, inl (fails, refl))
passes_more test tests (inl passes) (inl rest) = inl (passes, rest)
passes_more test tests (inl passes) (inr (fault, is)) = inr (fault, inr (passes, is))

pub passes_or_fails : (tests : List Test) → Pass tests ⊎ ((fault : AcpiFault) × FirstFails tests NoFault fault)
passes_or_fails [] = inl tt
passes_or_fails (test ∷ tests) = passes_more test tests (cases_Bool test.0) (passes_or_fails tests)

-- the fault that an exit tells
pub fault_at : {T : Type 0} (P : AcpiFault → Type 0) (result : Result T AcpiFault) (told fault : AcpiFault) → result ≡ Err told → told ≡ fault → P fault
    → IfErr result P
fault_at P result told fault is same holds = subst (λ r. IfErr r P) (sym is) (subst P (sym same) holds)
