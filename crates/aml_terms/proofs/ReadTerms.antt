-- Terms are read exactly where they are spelled, to each depth.
use Rattle.std.proofs.Common.{◌≡◌, ℕ, zero, suc, ◌+◌, List, ◌∷◌, length, refl, sym, ap, ◌∙◌, subst, inl, inr, arith, Result, Ok, Err}
use Rattle.std.specs.Prelude.{◌==◌}
use Rattle.std.proofs.lemmas.Bool.{eqb-true, eq-eqb}
use Rattle.vt_outside.specs.Readings.{◌into◌}
use Rattle.aml_terms.specs.declared.fault.AmlFault.{AmlFault}
use Rattle.aml_terms.specs.declared.opcode.Opcode.{Opcode}
use Rattle.aml_terms.specs.declared.opcode.Opcode.TheVariants.{Constant, Integer, Ones, Chars, Buffer, Package, Name, Scope, Extended, Other}
use Rattle.aml_terms.specs.declared.term.Path.{Path}
use Rattle.aml_terms.specs.Opcodes.{opcode_of}
use Rattle.aml_terms.specs.Trees.{Tree, Trees, int, fixed, ones, chars, buffer, pack, named, scope, device}
use Rattle.aml_terms.specs.Paths.{IsPath}
use Rattle.aml_terms.specs.Grammar.{Spelling, Then, Enclosed, Deeper, SpellsValue, Spells, SpellAll, levels, Aml}
use Rattle.aml_terms.specs.Reading.{Reader, Whole, made_at, path_at, all_in, enclosed_at, outside, value_at, inside, named_at, extended_at}
use Rattle.aml_terms.specs.Reading.{term_behind, term_with, term_at, read_terms, IsPlacedIn}
use Rattle.aml_terms.proofs.Choices.{held, failed, chosen, when_held}
use Rattle.aml_terms.proofs.FirstBytes.{Told, is_constant, is_integer, is_ones, is_chars, is_buffer, is_package, is_name, is_scope, is_extended, is_other, told}
use Rattle.aml_terms.proofs.ReadSteps.{Went, bind_ok, bind_err, bind_on, ok_same, no_fault}
use Rattle.aml_terms.proofs.Readers.{farther, Front, Laws, WholeLaws, Both, then_laws, then_whole_laws, Made, made_laws, alike, alike_whole, outside_laws}
use Rattle.aml_terms.proofs.ReadNumbers.{Led, led_laws}
use Rattle.aml_terms.proofs.ReadEnclosed.{enclosed_laws}
use Rattle.aml_terms.proofs.ReadAll.{OneByOne, all_laws}
use Rattle.aml_terms.proofs.ReadPaths.{path_laws}
use Rattle.aml_terms.proofs.ReadValues.{value_laws}

-- a scope's or a device's path and terms
module _ (read : Reader Tree) (Is : Tree → Spelling) (All : Trees → Spelling) (l : (place : ℕ) → Laws read Is place) (o : OneByOne Is All) where
  abbrev InPath : Path → Path × Trees → Spelling
  InPath path x bytes = (x.0 ≡ path) × All x.1 bytes

  abbrev with_path : Path → Trees → Result (Path × Trees) AmlFault
  with_path path terms = Ok (path, terms)

  abbrev terms_in : Path → Whole (Path × Trees)
  terms_in path place text = all_in read place text into with_path path

  in_path_laws : (path : Path) (place : ℕ) → WholeLaws (terms_in path) (InPath path) place
  in_path_laws path place = let a : WholeLaws (all_in read) All place = all_laws read Is All l o place in record {
    found = λ text x e.
        let b : Went (all_in read place text) (with_path path) (Ok x) = bind_ok (all_in read place text) (with_path path) x e in
        let same : ◌≡◌ {A = Path × Trees} (path, b.x) x = ok_same (path, b.x) x b.on in
        (sym (ap (λ (x : Path × Trees). x.0) same), subst (λ ts. All ts text) (ap (λ (x : Path × Trees). x.1) same) (a.found text b.x b.is));
    again = λ text x h.
        bind_on (all_in read place text) (with_path path) x.1 (Ok x) (a.again text x.1 h.1) (ap (λ path. Ok (path, x.1)) (sym h.0));
    placed = λ text fault e.
        elim (bind_err (all_in read place text) (with_path path) fault e) [
          | inl d ↦ a.placed text fault d
          | inr b ↦ no_fault (path, b.x) fault b.on
        ];
  }

  abbrev IsInside : Path × Trees → Spelling
  IsInside x = Then (IsPath x.0) (All x.1)

  inside_laws : (place : ℕ) → WholeLaws (inside read) IsInside place
  unfolding inside
  inside_laws place = alike_whole (then_whole_laws path_at terms_in IsPath InPath place (path_laws place) (λ path n. in_path_laws path (place + n)))
      (λ x bytes h. record {
        first = h.1.first;
        rest = h.1.rest;
        spelled = h.1.spelled;
        is_first = subst (λ path. IsPath path h.1.first) (sym h.1.is_next.0) h.1.is_first;
        is_next = h.1.is_next.1;
      })
      (λ x bytes h. (x.0, record { first = h.first; rest = h.rest; spelled = h.spelled; is_first = h.is_first; is_next = (refl, h.is_next) }))

-- a term behind its opcode
module _ (IsValue : Tree → Spelling) (IsIn : Path × Trees → Spelling) where
  abbrev IsNamed : Tree → Spelling
  IsNamed = Both IsPath (λ path. Made (named path) IsValue)

  abbrev IsScope : Tree → Spelling
  IsScope = Made (λ x. scope x.0 x.1) IsIn

  abbrev IsDevice : Tree → Spelling
  IsDevice = Made (λ x. device x.0 x.1) IsIn

  abbrev ExtendedBy : ℕ → Tree → Spelling
  ExtendedBy second t bytes = (second ≡ 0x82) × IsDevice t bytes

  abbrev TermBehind : Opcode → Tree → Spelling
  TermBehind Name t bytes = IsNamed t bytes
  TermBehind Scope t bytes = IsScope t bytes
  TermBehind Extended t bytes = Led (λ second. ExtendedBy second t) bytes
  TermBehind Constant t bytes = ⊥
  TermBehind (Integer width) t bytes = ⊥
  TermBehind Ones t bytes = ⊥
  TermBehind Chars t bytes = ⊥
  TermBehind Buffer t bytes = ⊥
  TermBehind Package t bytes = ⊥
  TermBehind Other t bytes = ⊥

  abbrev LedTerm : Tree → Spelling
  LedTerm t = Led (λ byte. TermBehind (opcode_of byte) t)

  module _ (read_value : Reader Tree) (read_inside : ℕ → Reader (Path × Trees)) (v : (place : ℕ) → Laws read_value IsValue place)
      (i : (back place : ℕ) → Laws (read_inside back) IsIn place) where
    named_laws : (place : ℕ) → Laws (named_at read_value) IsNamed place
    unfolding named_at
    named_laws place = then_laws path_at (λ path. made_at (named path) read_value) IsPath (λ path. Made (named path) IsValue) place (path_laws place)
        (λ path n. made_laws (named path) read_value IsValue (place + n) (v (place + n)))

    scope_laws : (place : ℕ) → Laws (made_at (λ x. scope x.0 x.1) (read_inside 1)) IsScope place
    scope_laws place = made_laws (λ x. scope x.0 x.1) (read_inside 1) IsIn place (i 1 place)

    device_laws : (place : ℕ) → Laws (made_at (λ x. device x.0 x.1) (read_inside 2)) IsDevice place
    device_laws place = made_laws (λ x. device x.0 x.1) (read_inside 2) IsIn place (i 2 place)

    extended_laws : (second place : ℕ) → Laws (extended_at read_inside second) (ExtendedBy second) place
    unfolding extended_at
    extended_laws second place = record {
      found = λ text t n e.
          elim (chosen (second == 0x82) (made_at (λ x. device x.0 x.1) (read_inside 2) place text) (outside 2 place text) (Ok (t, n)) e) [
            | held u h ↦
                let f : Front IsDevice text t n = (device_laws place).found text t n h in
                record { within = f.within; is = (eqb-true second 0x82 u, f.is) }
            | failed u h ↦ cc
          ];
      again = λ text first rest t e h.
          when_held (second == 0x82) (made_at (λ x. device x.0 x.1) (read_inside 2) place text) (outside 2 place text) (eq-eqb second 0x82 h.0)
          ∙ (device_laws place).again text first rest t e h.1;
      placed = λ text fault e.
          elim (chosen (second == 0x82) (made_at (λ x. device x.0 x.1) (read_inside 2) place text) (outside 2 place text) (Err fault) e) [
            | held u h ↦ (device_laws place).placed text fault h
            | failed u h ↦ (outside_laws {A = Tree} 2 place).placed text fault h
          ];
    }

    behind_laws : (opcode : Opcode) (place : ℕ) → Laws (term_behind read_value read_inside opcode) (TermBehind opcode) place
    unfolding term_behind
    behind_laws Name place = named_laws place
    behind_laws Scope place = scope_laws place
    behind_laws Extended place = led_laws (extended_at read_inside) ExtendedBy place (λ second n. extended_laws second (place + n))
    behind_laws Constant place = outside_laws 1 place
    behind_laws (Integer width) place = outside_laws 1 place
    behind_laws Ones place = outside_laws 1 place
    behind_laws Chars place = outside_laws 1 place
    behind_laws Buffer place = outside_laws 1 place
    behind_laws Package place = outside_laws 1 place
    behind_laws Other place = outside_laws 1 place

    with_laws : (place : ℕ) → Laws (term_with read_value read_inside) LedTerm place
    unfolding term_with
    with_laws place = led_laws (λ byte. term_behind read_value read_inside (opcode_of byte)) (λ byte. TermBehind (opcode_of byte)) place
        (λ byte n. behind_laws (opcode_of byte) (place + n))

-- what is in a scope or a device, with room for so many levels
abbrev InsideIn : ℕ → Path × Trees → Spelling
InsideIn room x = Deeper room (λ inner. Enclosed (Then (IsPath x.0) (SpellAll inner x.1)))

abbrev LedIn : ℕ → Tree → Spelling
LedIn room = LedTerm (SpellsValue room) (InsideIn room)

-- a term is an opcode and what is behind it
term_led : (room : ℕ) (t : Tree) (bytes : List ℕ) → Spells room t bytes → LedIn room t bytes
unfolding Spells opcode_of
term_led room (named path value) bytes h = record {
  byte = 0x08;
  rest = h.0;
  spelled = h.1;
  is = (path, record { first = h.2.first; rest = h.2.rest; spelled = h.2.spelled; is_first = h.2.is_first; is_next = (value, refl, h.2.is_next) });
}
term_led room (scope path terms) bytes h = record { byte = 0x10; rest = h.0; spelled = h.1; is = ((path, terms), refl, h.2) }
term_led room (device path terms) bytes h = record {
  byte = 0x5B;
  rest = h.0;
  spelled = h.1;
  is = record { byte = 0x82; rest = h.2.0; spelled = h.2.1; is = (refl, ((path, terms), refl, h.2.2)) };
}
term_led room (int n) bytes h = absurd h
term_led room (fixed n) bytes h = absurd h
term_led room ones bytes h = absurd h
term_led room (chars text) bytes h = absurd h
term_led room (buffer content) bytes h = absurd h
term_led room (pack values) bytes h = absurd h

-- and an opcode and what is behind it are a term
term_of : (room : ℕ) (opcode : Opcode) (byte : ℕ) (t : Tree) (rest : List ℕ) → Told byte opcode → TermBehind (SpellsValue room) (InsideIn room) opcode t rest
    → Spells room t (byte ∷ rest)
unfolding Spells
term_of room opcode byte t rest (is_name f) h =
    let m : Made (named h.0) (SpellsValue room) t h.1.rest = h.1.is_next in
    subst (λ t. Spells room t (byte ∷ rest)) (sym m.1) (
      rest,
      ap (λ byte. byte ∷ rest) f,
      record {
        first = h.1.first;
        rest = h.1.rest;
        spelled = h.1.spelled;
        is_first = h.1.is_first;
        is_next = m.2;
      },
    )
term_of room opcode byte t rest (is_scope f) h =
    subst (λ t. Spells room t (byte ∷ rest)) (sym h.1) (rest, ap (λ byte. byte ∷ rest) f, h.2)
term_of room opcode byte t rest (is_extended f) h =
    subst (λ t. Spells room t (byte ∷ rest)) (sym h.is.1.1)
    (rest, ap (λ byte. byte ∷ rest) f, (h.rest, h.spelled ∙ ap (λ second. second ∷ h.rest) h.is.0, h.is.1.2))
term_of room opcode byte t rest (is_constant small) h = absurd h
term_of room opcode byte t rest (is_integer width) h = absurd h
term_of room opcode byte t rest (is_ones f) h = absurd h
term_of room opcode byte t rest (is_chars f) h = absurd h
term_of room opcode byte t rest (is_buffer f) h = absurd h
term_of room opcode byte t rest (is_package f) h = absurd h
term_of room opcode byte t rest is_other h = absurd h

-- terms are spelled one after the other
pub one_by_one : (room : ℕ) → OneByOne (Spells room) (SpellAll room)
unfolding SpellAll
one_by_one room = record {
  some = λ t bytes h. let l : LedIn room t bytes = term_led room t bytes h in omega (arith, ap length l.spelled);
  none = refl;
  is_none = λ bytes h. h;
  one = λ t ts bytes h. h;
  is_one = λ t ts bytes h. h;
}

-- the laws of a term, from those of what is in a scope or a device
term_with_laws : (room : ℕ) (read_inside : ℕ → Reader (Path × Trees)) → ((back place : ℕ) → Laws (read_inside back) (InsideIn room) place)
    → (place : ℕ) → Laws (term_with (value_at room) read_inside) (Spells room) place
term_with_laws room read_inside i place =
    alike (with_laws (SpellsValue room) (InsideIn room) (value_at room) read_inside (value_laws room) i place)
    (λ t bytes h. subst (Spells room t) (sym h.spelled) (term_of room (opcode_of h.byte) h.byte t h.rest (told h.byte) h.is))
    (term_led room)

pub term_laws : (room place : ℕ) → Laws (term_at room) (Spells room) place
unfolding term_at
term_laws zero = term_with_laws zero outside (λ back place. alike (outside_laws back place) (λ x bytes h. absurd h) (λ x bytes h. h))
term_laws (suc room) = term_with_laws (suc room) (λ back. enclosed_at (inside (term_at room)))
    (λ back place. enclosed_laws (inside (term_at room)) (IsInside (term_at room) (Spells room) (SpellAll room) (term_laws room) (one_by_one room)) place
    (λ n. inside_laws (term_at room) (Spells room) (SpellAll room) (term_laws room) (one_by_one room) (place + n)))

pub terms_laws : (room place : ℕ) → WholeLaws (all_in (term_at room)) (SpellAll room) place
terms_laws room = all_laws (term_at room) (Spells room) (SpellAll room) (term_laws room) (one_by_one room)

-- what is read of bytes
pub read_is : (bytes : List ℕ) (terms : Trees) → read_terms bytes ≡ Ok terms → Aml terms bytes
read_is bytes terms e = (terms_laws levels 0).found bytes terms e

pub read_again : (bytes : List ℕ) (terms : Trees) → Aml terms bytes → read_terms bytes ≡ Ok terms
read_again bytes terms h = (terms_laws levels 0).again bytes terms h

pub fault_is_placed : (bytes : List ℕ) (fault : AmlFault) → read_terms bytes ≡ Err fault → IsPlacedIn (length bytes) fault
fault_is_placed bytes fault e = farther fault (0 + length bytes) (length bytes) (omega arith) ((terms_laws levels 0).placed bytes fault e)
