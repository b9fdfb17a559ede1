-- Bytes, numbers of so many bytes and integers are read exactly where they are spelled.
use Rattle.std.proofs.Common.{◌≡◌, ℕ, ◌+◌, ◌≤◌, List, [], ◌∷◌, ◌++◌, length, take, refl, sym, ap, ◌∙◌, subst, arith, length-append, length-take-le, Ok, Err}
use Rattle.std.specs.Prelude.{nat_lt}
use Rattle.std.proofs.lemmas.Bool.{ltb-false, le-ltb}
use Rattle.std.proofs.lemmas.List.{take_at}
use Rattle.vt_bytes.specs.Numbers.{le}
use Rattle.aml_terms.specs.declared.fault.AmlFault.{AmlFault}
use Rattle.aml_terms.specs.declared.fault.AmlFault.TheVariants.{Truncated}
use Rattle.aml_terms.specs.declared.opcode.Opcode.{Opcode}
use Rattle.aml_terms.specs.declared.opcode.Opcode.TheVariants.{Constant, Integer, Ones, Chars, Buffer, Package, Name, Scope, Extended, Other}
use Rattle.aml_terms.specs.Opcodes.{opcode_of}
use Rattle.aml_terms.specs.Grammar.{Spelling}
use Rattle.aml_terms.specs.Lengths.{IsInteger, constant, wide}
use Rattle.aml_terms.specs.Reading.{Reader, then_at, byte_at, number_at, integer_behind, integer_at, IsPlacedIn}
use Rattle.aml_terms.proofs.Choices.{held, failed, chosen, when_failed}
use Rattle.aml_terms.proofs.FirstBytes.{Told, is_constant, is_integer, is_ones, is_chars, is_buffer, is_package, is_name, is_scope, is_extended}
use Rattle.aml_terms.proofs.FirstBytes.{is_other, told, constant_told}
use Rattle.aml_terms.proofs.ReadSteps.{err_same, no_fault, value_same, count_same}
use Rattle.aml_terms.proofs.Readers.{Front, Laws, then_laws, alike, outside_laws, nothing_laws}

abbrev pub IsByte : ℕ → Spelling
IsByte byte bytes = bytes ≡ byte ∷ []

byte_found : (place : ℕ) (text : List ℕ) (b count : ℕ) → byte_at place text ≡ Ok (b, count) → Front IsByte text b count
byte_found place [] b count e = cc
byte_found place (c ∷ cs) b count e =
    let one : count ≡ 1 = sym (count_same c b 1 count e) in
    record { within = omega arith; is = ap (λ n. take n (c ∷ cs)) one ∙ ap (λ c. c ∷ []) (value_same c b 1 count e) }

byte_placed : (place : ℕ) (text : List ℕ) (fault : AmlFault) → byte_at place text ≡ Err fault → IsPlacedIn (place + length text) fault
byte_placed place [] fault e = subst (IsPlacedIn (place + 0)) (err_same (Truncated place) fault e) (omega arith)
byte_placed place (c ∷ cs) fault e = no_fault (c, 1) fault e

pub byte_laws : (place : ℕ) → Laws byte_at IsByte place
byte_laws place = record {
  found = byte_found place;
  again = λ text first rest b e h. ap (byte_at place) (e ∙ ap (λ first. first ++ rest) h) ∙ ap (λ first. Ok (b, length first)) (sym h);
  placed = byte_placed place;
}

-- a number of so many bytes
abbrev pub IsNumber : ℕ → ℕ → Spelling
IsNumber width number bytes = (length bytes ≡ width) × (number ≡ le bytes)

pub number_laws : (width place : ℕ) → Laws (number_at width) (IsNumber width) place
unfolding number_at
number_laws width place = record {
  found = λ text n count e.
      elim (chosen (nat_lt (length text) width) (Err (Truncated (place + length text))) (Ok (le (take width text), width)) (Ok (n, count)) e) [
        | held t h ↦ cc
        | failed t h ↦
            let enough : width ≤ length text = ltb-false (length text) width t in
            let all : width ≡ count = count_same (le (take width text)) n width count h in
            record {
              within = omega arith;
              is = (
                ap (λ k. length (take k text)) (sym all) ∙ length-take-le width text enough,
                sym (value_same (le (take width text)) n width count h) ∙ ap (λ k. le (take k text)) all,
              );
            }
      ];
  again = λ text first rest n e h.
      let enough : width ≤ length text = omega (arith, ap length e, length-append first rest, h.0) in
      let front : take width text ≡ first = ap (take width) e ∙ take_at first rest width h.0 in
      when_failed (nat_lt (length text) width) (Err (Truncated (place + length text))) (Ok (le (take width text), width)) (le-ltb (length text) width enough)
      ∙ ap (λ front. Ok (le front, width)) front ∙ ap (λ n. Ok (n, width)) (sym h.1) ∙ ap (λ k. Ok (n, k)) (sym h.0);
  placed = λ text fault e.
      elim (chosen (nat_lt (length text) width) (Err (Truncated (place + length text))) (Ok (le (take width text), width)) (Err fault) e) [
        | held t h ↦ subst (IsPlacedIn (place + length text)) (err_same (Truncated (place + length text)) fault h) (omega arith)
        | failed t h ↦ no_fault (le (take width text), width) fault h
      ];
}

-- an integer behind its opcode
abbrev pub IntegerBehind : ℕ → Opcode → ℕ → Spelling
IntegerBehind byte Constant n bytes = (n ≡ byte) × (bytes ≡ [])
IntegerBehind byte (Integer width) n bytes = IsNumber width n bytes
IntegerBehind byte Ones n bytes = ⊥
IntegerBehind byte Chars n bytes = ⊥
IntegerBehind byte Buffer n bytes = ⊥
IntegerBehind byte Package n bytes = ⊥
IntegerBehind byte Name n bytes = ⊥
IntegerBehind byte Scope n bytes = ⊥
IntegerBehind byte Extended n bytes = ⊥
IntegerBehind byte Other n bytes = ⊥

pub integer_behind_laws : (byte : ℕ) (opcode : Opcode) (place : ℕ) → Laws (integer_behind byte opcode) (IntegerBehind byte opcode) place
unfolding integer_behind
integer_behind_laws byte Constant place = nothing_laws byte place
integer_behind_laws byte (Integer width) place = number_laws width place
integer_behind_laws byte Ones place = outside_laws 1 place
integer_behind_laws byte Chars place = outside_laws 1 place
integer_behind_laws byte Buffer place = outside_laws 1 place
integer_behind_laws byte Package place = outside_laws 1 place
integer_behind_laws byte Name place = outside_laws 1 place
integer_behind_laws byte Scope place = outside_laws 1 place
integer_behind_laws byte Extended place = outside_laws 1 place
integer_behind_laws byte Other place = outside_laws 1 place

-- an opcode and what is behind it are an integer
pub integer_of : (opcode : Opcode) (byte n : ℕ) (rest : List ℕ) → Told byte opcode → opcode_of byte ≡ opcode → IntegerBehind byte opcode n rest
    → IsInteger n (byte ∷ rest)
integer_of opcode byte n rest (is_constant small) e h = constant (omega (arith, h.0)) (ap (λ rest. byte ∷ rest) h.1 ∙ ap (λ n. n ∷ []) (sym h.0))
integer_of opcode byte n rest (is_integer width) e h = wide byte rest (e ∙ ap Integer (sym h.0)) h.1 refl
integer_of opcode byte n rest (is_ones f) e h = absurd h
integer_of opcode byte n rest (is_chars f) e h = absurd h
integer_of opcode byte n rest (is_buffer f) e h = absurd h
integer_of opcode byte n rest (is_package f) e h = absurd h
integer_of opcode byte n rest (is_name f) e h = absurd h
integer_of opcode byte n rest (is_scope f) e h = absurd h
integer_of opcode byte n rest (is_extended f) e h = absurd h
integer_of opcode byte n rest is_other e h = absurd h

-- and an integer is an opcode and what is behind it
pub record Led (Is : ℕ → Spelling) (bytes : List ℕ) : Type 0 where
  pub byte : ℕ
  pub rest : List ℕ
  pub spelled : bytes ≡ byte ∷ rest
  pub is : Is byte rest

pub integer_led : (n : ℕ) (bytes : List ℕ) → IsInteger n bytes → Led (λ byte. IntegerBehind byte (opcode_of byte) n) bytes
integer_led n bytes (constant small e) =
    record { byte = n; rest = []; spelled = e; is = subst (λ opcode. IntegerBehind n opcode n []) (sym (constant_told n small)) (refl, refl) }
integer_led n bytes (wide opcode digits o v e) =
    record { byte = opcode; rest = digits; spelled = e; is = subst (λ opcode'. IntegerBehind opcode opcode' n digits) (sym o) (refl, v) }

-- a first byte, and what it leads
pub led_laws : {A : Type 0} (next : ℕ → Reader A) (Next : ℕ → A → Spelling) (place : ℕ) → ((byte count : ℕ) → Laws (next byte) (Next byte) (place + count))
    → Laws (then_at byte_at next) (λ x. Led (λ byte. Next byte x)) place
led_laws next Next place m = alike (then_laws byte_at next IsByte Next place (byte_laws place) m)
    (λ x bytes h. record { byte = h.0; rest = h.1.rest; spelled = h.1.spelled ∙ ap (λ first. first ++ h.1.rest) h.1.is_first; is = h.1.is_next })
    (λ x bytes h. (h.byte, record { first = h.byte ∷ []; rest = h.rest; spelled = h.spelled; is_first = refl; is_next = h.is }))

pub integer_laws : (place : ℕ) → Laws integer_at IsInteger place
integer_laws place = alike (led_laws (λ byte. integer_behind byte (opcode_of byte)) (λ byte. IntegerBehind byte (opcode_of byte)) place
    (λ byte count. integer_behind_laws byte (opcode_of byte) (place + count)))
    (λ n bytes h. subst (IsInteger n) (sym h.spelled) (integer_of (opcode_of h.byte) h.byte n h.rest (told h.byte) refl h.is))
    integer_led
