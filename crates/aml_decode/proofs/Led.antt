-- What is read behind a byte that says what it is.
use Rattle.std.proofs.Common.{◌≡◌, ℕ, ◌+◌, ◌-◌, List, length, take, drop, refl, sym, ap, ◌∙◌, Ok, Err}
use Rattle.std.proofs.lemmas.List.{take_rest}
use Rattle.vt_outside.specs.Readings.{◌into◌, Agrees}
use Rattle.aml_terms.specs.declared.fault.AmlFault.{AmlFault}
use Rattle.aml_terms.specs.declared.opcode.Opcode.{Opcode}
use Rattle.aml_terms.specs.declared.term.Term.{Term}
use Rattle.aml_terms.specs.Opcodes.{opcode_of}
use Rattle.aml_terms.specs.Trees.{Tree, view}
use Rattle.aml_terms.specs.Reading.{Reader, behind, byte_at, then_at, reported}
use Rattle.aml_decode.specs.declared.found.Found.{Found}
use Rattle.aml_decode.proofs.Faults.{fault_of_all}

module _ (next : ℕ → Opcode → Reader Tree) where
  abbrev pub led : Reader Tree
  led = then_at byte_at (λ byte. next byte (opcode_of byte))

  -- what is read behind the byte
  abbrev rest_of : ℕ → List ℕ → ℕ → Opcode → List ℕ → Type 0
  rest_of place text byte opcode rest = next byte opcode (place + 1) rest ≡ next byte (opcode_of byte) (place + 1) (drop 1 text)

  same_rest : (place byte : ℕ) (text : List ℕ) (opcode : Opcode) → opcode ≡ opcode_of byte
      → rest_of place text byte opcode (take (length text - 1) (drop 1 text))
  same_rest place byte text opcode e =
      ap (λ opcode. next byte opcode (place + 1) (take (length text - 1) (drop 1 text))) e ∙ ap (next byte (opcode_of byte) (place + 1)) (take_rest text 1)

  all_behind : (place byte : ℕ) (text : List ℕ) (opcode : Opcode) → opcode ≡ opcode_of byte → byte_at place text ≡ Ok (byte, 1)
      → led place text ≡ behind 1 (next byte opcode (place + 1) (take (length text - 1) (drop 1 text)))
  all_behind place byte text opcode e is =
      ap (λ r. r into (λ x. behind x.1 (next x.0 (opcode_of x.0) (place + x.1) (drop x.1 text)))) is ∙ ap (behind 1) (sym (same_rest place byte text opcode e))

  pub led_read : (place byte : ℕ) (text : List ℕ) (opcode : Opcode) (inner outer : Found Term) → opcode ≡ opcode_of byte → byte_at place text ≡ Ok (byte, 1)
      → next byte opcode (place + 1) (take (length text - 1) (drop 1 text)) ≡ Ok (view inner.value, inner.size)
      → outer.value ≡ inner.value → outer.size ≡ 1 + inner.size
      → led place text ≡ Ok (view outer.value, outer.size)
  led_read place byte text opcode inner outer e is read value size =
      all_behind place byte text opcode e is ∙ ap (behind 1) read
      ∙ ap (λ v. Ok (view v, 1 + inner.size)) (sym value) ∙ ap (λ n. Ok (view outer.value, n)) (sym size)

  pub led_bad : (fault : AmlFault) (place byte : ℕ) (text : List ℕ) (opcode : Opcode) → opcode ≡ opcode_of byte → byte_at place text ≡ Ok (byte, 1)
      → Agrees {Value = Found Term} reported (λ found. (view found.value, found.size)) (Err fault)
      (next byte opcode (place + 1) (take (length text - 1) (drop 1 text)))
      → Agrees {Value = Found Term} reported (λ found. (view found.value, found.size)) (Err fault) (led place text)
  led_bad fault place byte text opcode e is read =
      fault_of_all {X = Found Term} {Y = Found Term} (λ found. (view found.value, found.size)) (λ found. (view found.value, found.size)) fault
      (next byte opcode (place + 1) (take (length text - 1) (drop 1 text))) (λ x. Ok (x.0, 1 + x.1)) (led place text) read
      (sym (all_behind place byte text opcode e is))

  pub led_none : (fault : AmlFault) (place : ℕ) (text : List ℕ) → Agrees {Value = ℕ} reported (λ byte. (byte, 1)) (Err fault) (byte_at place text)
      → Agrees {Value = Found Term} reported (λ found. (view found.value, found.size)) (Err fault) (led place text)
  led_none fault place text none =
      fault_of_all {X = ℕ} {Y = Found Term} (λ byte. (byte, 1)) (λ found. (view found.value, found.size)) fault (byte_at place text)
      (λ x. behind x.1 (next x.0 (opcode_of x.0) (place + x.1) (drop x.1 text))) (led place text) none refl
