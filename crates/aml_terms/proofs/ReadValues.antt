-- Values are read exactly where they are spelled, to each depth.
use Rattle.std.proofs.Common.{◌≡◌, ℕ, zero, suc, ◌+◌, ◌-◌, cond, List, [], ◌∷◌, ◌++◌, length, refl, sym, ap, ◌∙◌, subst, inl, inr, arith, Result, Ok, Err}
use Rattle.std.specs.Prelude.{◌==◌}
use Rattle.std.proofs.lemmas.Bool.{eqb-true, eq-eqb}
use Rattle.aml_terms.specs.declared.fault.AmlFault.{AmlFault}
use Rattle.aml_terms.specs.declared.fault.AmlFault.TheVariants.{OutsideGrammar}
use Rattle.aml_terms.specs.declared.opcode.Opcode.{Opcode}
use Rattle.aml_terms.specs.declared.opcode.Opcode.TheVariants.{Constant, Integer, Ones, Chars, Buffer, Package, Name, Scope, Extended, Other}
use Rattle.aml_terms.specs.Opcodes.{opcode_of}
use Rattle.aml_terms.specs.Trees.{Tree, Trees, int, fixed, ones, chars, buffer, pack, named, scope, device, count_of}
use Rattle.aml_terms.specs.Grammar.{Spelling, Behind, Enclosed, Deeper, IsBuffer, SpellsValue, SpellValues}
use Rattle.aml_terms.specs.Reading.{Reader, byte_at, all_in, enclosed_at, outside, chars_at, buffer_in, counted_in, package_in, value_behind}
use Rattle.aml_terms.specs.Reading.{value_with, value_at, IsPlacedIn}
use Rattle.aml_terms.proofs.Choices.{held, failed, chosen, when_held}
use Rattle.aml_terms.proofs.FirstBytes.{Told, is_constant, is_integer, is_ones, is_chars, is_buffer, is_package, is_name, is_scope, is_extended, is_other, told}
use Rattle.aml_terms.proofs.ReadSteps.{Went, bind_ok, bind_err, bind_on, ok_same, err_same, no_fault}
use Rattle.aml_terms.proofs.Readers.{Laws, WholeLaws, then_whole_laws, Made, made_laws, alike, alike_whole, outside_laws, nothing_laws}
use Rattle.aml_terms.proofs.ReadNumbers.{IsByte, byte_laws, IntegerBehind, integer_behind_laws, integer_of, integer_led, Led, led_laws}
use Rattle.aml_terms.proofs.ReadContents.{IsText, chars_laws, buffer_laws}
use Rattle.aml_terms.proofs.ReadEnclosed.{made_enclosed_laws}
use Rattle.aml_terms.proofs.ReadAll.{OneByOne, all_laws}

-- the values of a package, whose number is told before them
module _ (read_value : Reader Tree) (Is : Tree → Spelling) (All : Trees → Spelling) (l : (place : ℕ) → Laws read_value Is place) (o : OneByOne Is All) where
  abbrev IsCounted : ℕ → Tree → Spelling
  IsCounted count t bytes = (values : Trees) × (t ≡ pack values) × (count ≡ count_of values) × All values bytes

  abbrev packed : ℕ → ℕ → Trees → Result Tree AmlFault
  packed count place values = cond (count == count_of values) (Ok (pack values)) (Err (OutsideGrammar (place - 1)))

  counted_laws : (count place : ℕ) → WholeLaws (counted_in read_value count) (IsCounted count) place
  unfolding counted_in
  counted_laws count place = let a : WholeLaws (all_in read_value) All place = all_laws read_value Is All l o place in record {
    found = λ text t e.
        let b : Went (all_in read_value place text) (packed count place) (Ok t) = bind_ok (all_in read_value place text) (packed count place) t e in
        elim (chosen (count == count_of b.x) (Ok (pack b.x)) (Err (OutsideGrammar (place - 1))) (Ok t) b.on) [
          | held u h ↦ (b.x, sym (ok_same (pack b.x) t h), eqb-true count (count_of b.x) u, a.found text b.x b.is)
          | failed u h ↦ cc
        ];
    again = λ text t h.
        bind_on (all_in read_value place text) (packed count place) h.0 (Ok t) (a.again text h.0 h.3)
        (when_held (count == count_of h.0) (Ok (pack h.0)) (Err (OutsideGrammar (place - 1))) (eq-eqb count (count_of h.0) h.2) ∙ ap Ok (sym h.1));
    placed = λ text fault e.
        elim (bind_err (all_in read_value place text) (packed count place) fault e) [
          | inl d ↦ a.placed text fault d
          | inr b ↦
              elim (chosen (count == count_of b.x) (Ok (pack b.x)) (Err (OutsideGrammar (place - 1))) (Err fault) b.on) [
                | held u h ↦ no_fault (pack b.x) fault h
                | failed u h ↦ subst (IsPlacedIn (place + length text)) (err_same (OutsideGrammar (place - 1)) fault h) (omega arith)
              ]
        ];
  }

  package_laws : (place : ℕ) → WholeLaws (package_in read_value) (Made pack (λ values. Behind (count_of values) (All values))) place
  unfolding package_in
  package_laws place = alike_whole
      (then_whole_laws byte_at (counted_in read_value) IsByte IsCounted place (byte_laws place) (λ count n. counted_laws count (place + n)))
      (λ t bytes h.
      let c : IsCounted h.0 t h.1.rest = h.1.is_next in
      (c.0, c.1, (h.1.rest, h.1.spelled ∙ ap (λ first. first ++ h.1.rest) h.1.is_first ∙ ap (λ n. n ∷ h.1.rest) c.2, c.3)))
      (λ t bytes h. (count_of h.0, record { first = count_of h.0 ∷ []; rest = h.2.0; spelled = h.2.1; is_first = refl; is_next = (h.0, h.1, refl, h.2.2) }))

-- a value behind its opcode
module _ (IsBuf IsPack : Tree → Spelling) where
  abbrev ValueBehind : ℕ → Opcode → Tree → Spelling
  ValueBehind byte Constant t bytes = Made int (IntegerBehind byte Constant) t bytes
  ValueBehind byte (Integer width) t bytes = Made int (IntegerBehind byte (Integer width)) t bytes
  ValueBehind byte Ones t bytes = (t ≡ ones) × (bytes ≡ [])
  ValueBehind byte Chars t bytes = Made chars IsText t bytes
  ValueBehind byte Buffer t bytes = IsBuf t bytes
  ValueBehind byte Package t bytes = IsPack t bytes
  ValueBehind byte Name t bytes = ⊥
  ValueBehind byte Scope t bytes = ⊥
  ValueBehind byte Extended t bytes = ⊥
  ValueBehind byte Other t bytes = ⊥

  abbrev LedValue : Tree → Spelling
  LedValue t = Led (λ byte. ValueBehind byte (opcode_of byte) t)

  module _ (read_buffer read_package : Reader Tree) (b : (place : ℕ) → Laws read_buffer IsBuf place) (p : (place : ℕ) → Laws read_package IsPack place) where
    behind_laws : (byte : ℕ) (opcode : Opcode) (place : ℕ) → Laws (value_behind read_buffer read_package byte opcode) (ValueBehind byte opcode) place
    unfolding value_behind
    behind_laws byte Constant place = made_laws int _ (IntegerBehind byte Constant) place (integer_behind_laws byte Constant place)
    behind_laws byte (Integer width) place = made_laws int _ (IntegerBehind byte (Integer width)) place (integer_behind_laws byte (Integer width) place)
    behind_laws byte Ones place = nothing_laws ones place
    behind_laws byte Chars place = made_laws chars chars_at IsText place (chars_laws place)
    behind_laws byte Buffer place = b place
    behind_laws byte Package place = p place
    behind_laws byte Name place = outside_laws 1 place
    behind_laws byte Scope place = outside_laws 1 place
    behind_laws byte Extended place = outside_laws 1 place
    behind_laws byte Other place = outside_laws 1 place

    with_laws : (place : ℕ) → Laws (value_with read_buffer read_package) LedValue place
    unfolding value_with
    with_laws place = led_laws (λ byte. value_behind read_buffer read_package byte (opcode_of byte)) (λ byte. ValueBehind byte (opcode_of byte)) place
        (λ byte n. behind_laws byte (opcode_of byte) (place + n))

-- a buffer and a package behind their opcode, with room for so many levels
abbrev BufferIn : ℕ → Tree → Spelling
BufferIn room = Made buffer (λ content. Deeper room (λ inner. Enclosed (IsBuffer content)))

abbrev PackageIn : ℕ → Tree → Spelling
PackageIn room = Made pack (λ values. Deeper room (λ inner. Enclosed (Behind (count_of values) (SpellValues inner values))))

-- an integer is a value
of_integer : (IsBuf IsPack : Tree → Spelling) (opcode : Opcode) (byte n : ℕ) (rest : List ℕ) → IntegerBehind byte opcode n rest
    → ValueBehind IsBuf IsPack byte opcode (int n) rest
of_integer IsBuf IsPack Constant byte n rest h = (n, refl, h)
of_integer IsBuf IsPack (Integer width) byte n rest h = (n, refl, h)
of_integer IsBuf IsPack Ones byte n rest h = absurd h
of_integer IsBuf IsPack Chars byte n rest h = absurd h
of_integer IsBuf IsPack Buffer byte n rest h = absurd h
of_integer IsBuf IsPack Package byte n rest h = absurd h
of_integer IsBuf IsPack Name byte n rest h = absurd h
of_integer IsBuf IsPack Scope byte n rest h = absurd h
of_integer IsBuf IsPack Extended byte n rest h = absurd h
of_integer IsBuf IsPack Other byte n rest h = absurd h

-- a value is an opcode and what is behind it
value_led : (room : ℕ) (t : Tree) (bytes : List ℕ) → SpellsValue room t bytes → LedValue (BufferIn room) (PackageIn room) t bytes
unfolding SpellsValue opcode_of
value_led room (int n) bytes h =
    let l : Led (λ byte. IntegerBehind byte (opcode_of byte) n) bytes = integer_led n bytes h in
    record { byte = l.byte; rest = l.rest; spelled = l.spelled; is = of_integer (BufferIn room) (PackageIn room) (opcode_of l.byte) l.byte n l.rest l.is }
value_led room (fixed n) bytes h = absurd h
value_led room ones bytes h = record { byte = 0xFF; rest = []; spelled = h; is = (refl, refl) }
value_led room (chars text) bytes h = record { byte = 0x0D; rest = text ++ 0 ∷ []; spelled = h.1; is = (text, refl, (h.0, refl)) }
value_led room (buffer content) bytes h = record { byte = 0x11; rest = h.0; spelled = h.1; is = (content, refl, h.2) }
value_led room (pack values) bytes h = record { byte = 0x12; rest = h.0; spelled = h.1; is = (values, refl, h.2) }
value_led room (named path value) bytes h = absurd h
value_led room (scope path terms) bytes h = absurd h
value_led room (device path terms) bytes h = absurd h

-- and an opcode and what is behind it are a value
value_of : (room : ℕ) (opcode : Opcode) (byte : ℕ) (t : Tree) (rest : List ℕ) → Told byte opcode → opcode_of byte ≡ opcode
    → ValueBehind (BufferIn room) (PackageIn room) byte opcode t rest → SpellsValue room t (byte ∷ rest)
unfolding SpellsValue
value_of room opcode byte t rest (is_constant small) e h =
    subst (λ t. SpellsValue room t (byte ∷ rest)) (sym h.1) (integer_of Constant byte h.0 rest (is_constant small) e h.2)
value_of room opcode byte t rest (is_integer width) e h =
    subst (λ t. SpellsValue room t (byte ∷ rest)) (sym h.1) (integer_of (Integer width) byte h.0 rest (is_integer width) e h.2)
value_of room opcode byte t rest (is_ones f) e h =
    subst (λ t. SpellsValue room t (byte ∷ rest)) (sym h.0) (ap (λ byte. byte ∷ rest) f ∙ ap (λ rest. 0xFF ∷ rest) h.1)
value_of room opcode byte t rest (is_chars f) e h =
    subst (λ t. SpellsValue room t (byte ∷ rest)) (sym h.1) (h.2.0, ap (λ byte. byte ∷ rest) f ∙ ap (λ rest. 0x0D ∷ rest) h.2.1)
value_of room opcode byte t rest (is_buffer f) e h =
    subst (λ t. SpellsValue room t (byte ∷ rest)) (sym h.1) (rest, ap (λ byte. byte ∷ rest) f, h.2)
value_of room opcode byte t rest (is_package f) e h =
    subst (λ t. SpellsValue room t (byte ∷ rest)) (sym h.1) (rest, ap (λ byte. byte ∷ rest) f, h.2)
value_of room opcode byte t rest (is_name f) e h = absurd h
value_of room opcode byte t rest (is_scope f) e h = absurd h
value_of room opcode byte t rest (is_extended f) e h = absurd h
value_of room opcode byte t rest is_other e h = absurd h

-- values are spelled one after the other
one_by_one : (room : ℕ) → OneByOne (SpellsValue room) (SpellValues room)
unfolding SpellValues
one_by_one room = record {
  some = λ t bytes h. let l : LedValue (BufferIn room) (PackageIn room) t bytes = value_led room t bytes h in omega (arith, ap length l.spelled);
  none = refl;
  is_none = λ bytes h. h;
  one = λ t ts bytes h. h;
  is_one = λ t ts bytes h. h;
}

-- the laws of a value, from those of a buffer and of a package behind their opcode
value_with_laws : (room : ℕ) (read_buffer read_package : Reader Tree) → ((place : ℕ) → Laws read_buffer (BufferIn room) place)
    → ((place : ℕ) → Laws read_package (PackageIn room) place) → (place : ℕ) → Laws (value_with read_buffer read_package) (SpellsValue room) place
value_with_laws room read_buffer read_package b p place =
    alike (with_laws (BufferIn room) (PackageIn room) read_buffer read_package b p place)
    (λ t bytes h. subst (SpellsValue room t) (sym h.spelled) (value_of room (opcode_of h.byte) h.byte t h.rest (told h.byte) refl h.is))
    (value_led room)

pub value_laws : (room place : ℕ) → Laws (value_at room) (SpellsValue room) place
unfolding value_at
value_laws zero = value_with_laws zero (outside 1) (outside 1) (λ place. alike (outside_laws 1 place) (λ t bytes h. absurd h) (λ t bytes h. h.2))
    (λ place. alike (outside_laws 1 place) (λ t bytes h. absurd h) (λ t bytes h. h.2))
value_laws (suc room) = value_with_laws (suc room) (enclosed_at buffer_in) (enclosed_at (package_in (value_at room)))
    (λ place. made_enclosed_laws buffer buffer_in IsBuffer place (λ n. buffer_laws (place + n)))
    (λ place. made_enclosed_laws pack (package_in (value_at room)) (λ values. Behind (count_of values) (SpellValues room values)) place
    (λ n. package_laws (value_at room) (SpellsValue room) (SpellValues room) (value_laws room) (one_by_one room) (place + n)))
