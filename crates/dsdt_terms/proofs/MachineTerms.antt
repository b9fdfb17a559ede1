-- The terms of an accepted machine's DSDT can be written, and are read again from what they are written as.
use Rattle.std.proofs.Common.{ℕ, ◌<◌, ◌≤◌, ◌^◌, length, arith, sym, subst}
use Rattle.aml_terms.specs.Trees.{views}
use Rattle.aml_terms.specs.Grammar.{SpellAll, Aml, levels}
use Rattle.aml_terms.specs.WellFormed.{IsGood, IsGoodValue, AreGood}
use Rattle.aml_terms.specs.Written.{AreShort, all_spelled}
use Rattle.aml_terms.specs.declared.term.Term.TheVariants.{Fixed}
use Rattle.aml_terms.proofs.WrittenSpelled.{terms_are}
use Rattle.machine_desc.specs.declared.machine.Machine.{Machine}
use Rattle.machine_desc.specs.Rules.{IsAccepted}
use Rattle.machine_desc.specs.Fields.{HasFittingFields}
use Rattle.dsdt_terms.specs.Dsdt.{id_offset, dsdt_terms, dsdt_bytes, terms_with, terms_at}
use Rattle.dsdt_terms.proofs.Limits.{machine_size}
use Rattle.dsdt_terms.proofs.Views.{view-fixed}
use Rattle.dsdt_terms.proofs.WrittenParts.{Premises, IsPart, AreParts, dword_part, all_good, all_fit, all_nest, all_short}
use Rattle.dsdt_terms.proofs.MachineParts.{machine_parts}
use Rattle.dsdt_terms.proofs.LowHalf.{plain-terms}

-- what is said of terms with a dword: that their numbers fit where those of the machine do
abbrev of_dwords : Machine → Premises
of_dwords m = record { fit = HasFittingFields m; plain = ⊥ }

parts_with : (n : ℕ) (m : Machine) → n < 2 ^ 32 → IsAccepted m → AreParts IsGood (of_dwords m) 16 machine_size (terms_with (Fixed n) m)
parts_with n m small accepted =
    machine_parts (of_dwords m) (Fixed n) m accepted (λ fit. fit)
    (subst (IsPart IsGoodValue (of_dwords m) 13 9) (sym (view-fixed n)) (dword_part (of_dwords m) 13 n (λ fit. small) (λ are. are)))

written_parts : (m : Machine) → IsAccepted m → AreParts IsGood (of_dwords m) 16 machine_size (dsdt_terms m)
written_parts m accepted = parts_with id_offset m (omega arith) accepted

pub terms_good : (m : Machine) → IsAccepted m → AreGood (views (dsdt_terms m))
terms_good m accepted = all_good (of_dwords m) 16 (dsdt_terms m) (written_parts m accepted).each

pub terms_short : (m : Machine) → IsAccepted m → AreShort (views (dsdt_terms m))
terms_short m accepted = all_short IsGood (of_dwords m) 16 (dsdt_terms m) (written_parts m accepted).each

pub few_bytes : (m : Machine) → IsAccepted m → length (dsdt_bytes m) ≤ 0x28000
few_bytes m accepted = omega (arith, (written_parts m accepted).size)

-- whatever number the dword has
pub terms_spelled : (n : ℕ) (m : Machine) → n < 2 ^ 32 → IsAccepted m → HasFittingFields m
    → Aml (views (terms_at n m)) (all_spelled (views (terms_with (Fixed n) m)))
unfolding levels
terms_spelled n m small accepted fit =
    let each = (parts_with n m small accepted).each in
    let terms = terms_with (Fixed n) m in
    subst (λ those. SpellAll levels those (all_spelled (views terms))) (plain-terms n m accepted)
    (terms_are (views terms) levels (all_good (of_dwords m) 16 terms each) (all_fit IsGood (of_dwords m) 16 terms each fit)
    (all_short IsGood (of_dwords m) 16 terms each) (all_nest IsGood (of_dwords m) 16 terms each))
