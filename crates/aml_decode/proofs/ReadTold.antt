-- What terms that are read tell of the bytes: these spell them, and they are well formed.
use Rattle.std.proofs.Common.{ℕ, suc, ◌<◌, List, [], ◌∷◌, slice_index, Result, Ok, Err, IfOk}
use Rattle.std.specs.List.{AllByRecursion}
use Rattle.vt_outside.specs.Readings.{Agrees}
use Rattle.aml_terms.specs.declared.fault.AmlFault.{AmlFault}
use Rattle.aml_terms.specs.declared.term.Term.{Term}
use Rattle.aml_terms.specs.Grammar.{Aml, levels}
use Rattle.aml_terms.specs.Reading.{read_terms, reported}
use Rattle.aml_terms.specs.Trees.{views}
use Rattle.aml_terms.specs.WellFormed.{AreGood}
use Rattle.aml_terms.proofs.ReadTerms.{read_is}
use Rattle.aml_terms.proofs.SpelledGood.{terms_good}

pub are_spelled : (bytes : List ℕ) (read : Result (List Term) AmlFault) → Agrees reported views read (read_terms bytes)
    → IfOk read (λ terms. Aml (views terms) bytes)
are_spelled bytes (Ok terms) gives = read_is bytes (views terms) gives
are_spelled bytes (Err fault) gives = tt

all_bytes : (bytes : List ℕ) → ((i : ℕ) → slice_index bytes i < 256) → AllByRecursion (λ byte. byte < 256) bytes
all_bytes [] each = tt
all_bytes (byte ∷ bytes) each = (each 0, all_bytes bytes (λ i. each (suc i)))

pub are_good : (bytes : List ℕ) (read : Result (List Term) AmlFault) → ((i : ℕ) → slice_index bytes i < 256)
    → Agrees reported views read (read_terms bytes) → IfOk read (λ terms. AreGood (views terms))
are_good bytes (Ok terms) each gives = terms_good (views terms) levels bytes (all_bytes bytes each) (read_is bytes (views terms) gives)
are_good bytes (Err fault) each gives = tt
