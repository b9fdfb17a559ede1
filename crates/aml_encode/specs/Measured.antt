-- What measuring gives: sizes, or a fault.
use Rattle.std.specs.Prelude.{◌≡◌, ℕ, ◌+◌, ◌<◌, ◌≤◌, ⊤, min, List, [], ◌∷◌, ◌++◌, length, Result, Ok, Err}
use Rattle.aml_terms.specs.Trees.{Tree, Trees}
use Rattle.aml_terms.specs.Written.{most_enclosed, package_length, spelled, all_spelled, IsShort, AreShort}
use Rattle.aml_encode.specs.declared.fault.TermFault.{TermFault}
use Rattle.aml_encode.specs.declared.fault.TermFault.TheVariants.{TermTooLong, OutOfMemory}
use Rattle.aml_encode.specs.Bodies.{bodies, all_bodies}

-- a size, or one more than the most that a package length encloses, where it is greater
abbrev pub capped : ℕ → ℕ
capped size = min size (most_enclosed + 1)

-- the size of a package: of its opcode, its length and what it encloses
abbrev pub package_size : ℕ → ℕ → ℕ
package_size opcode body = opcode + (length (package_length body) + body)

-- The size of what a package encloses was found; or it is too large.
abbrev pub Summed : ℕ → Result ℕ TermFault → Type 0
Summed size (Ok found) = (found ≡ size) × (size ≤ most_enclosed)
Summed size (Err TermTooLong) = most_enclosed < size
Summed size (Err OutOfMemory) = ⊥

-- a body of this size can be enclosed, and so can those of the terms in it
abbrev pub IsShortBody : ℕ → Trees → Type 0
IsShortBody body terms = (body ≤ most_enclosed) × AreShort terms

-- A fault tells that not all is short, or that memory ran out.
abbrev pub Refuses : Type 0 → TermFault → Type 0
Refuses Short TermTooLong = ¬ Short
Refuses Short OutOfMemory = ⊤

-- A size was found, those of bodies were put behind others, and all of them are short; or there is a fault.
abbrev pub Measured : ℕ → List ℕ → Type 0 → List ℕ → List ℕ → Result ℕ TermFault → Type 0
Measured size sizes Short old new (Ok found) = (found ≡ size) × (new ≡ old ++ sizes) × Short
Measured size sizes Short old new (Err fault) = Refuses Short fault

-- measured: a term
abbrev pub MeasuredTerm : Tree → List ℕ → List ℕ → Result ℕ TermFault → Type 0
MeasuredTerm t = Measured (capped (length (spelled t))) (bodies t) (IsShort t)

-- a buffer, from the size of its body
abbrev pub MeasuredBuffer : ℕ → List ℕ → List ℕ → Result ℕ TermFault → Type 0
MeasuredBuffer body = Measured (capped (package_size 1 body)) (body ∷ []) (body ≤ most_enclosed)

-- a package, from the sizes of its opcode and its body, and the terms in it
abbrev pub MeasuredPackage : ℕ → ℕ → Trees → List ℕ → List ℕ → Result ℕ TermFault → Type 0
MeasuredPackage opcode body terms = Measured (capped (package_size opcode body)) (body ∷ all_bodies terms) (IsShortBody body terms)

-- the body of a package
abbrev pub MeasuredBody : ℕ → Trees → List ℕ → List ℕ → Result ℕ TermFault → Type 0
MeasuredBody body terms = Measured body (all_bodies terms) (IsShortBody body terms)

-- the size of so many bytes and of terms behind them
abbrev pub size_with : ℕ → Trees → ℕ
size_with front terms = front + length (all_spelled terms)
