-- What is read with room for so many levels, and that each value and term has a byte at least.
use Rattle.std.proofs.Common.{◌≡◌, ℕ, zero, suc, ◌+◌, ◌≤◌, List, [], ◌∷◌, drop, refl, sym, ap, subst, arith, Result, Ok, Err}
use Rattle.aml_terms.specs.declared.fault.AmlFault.{AmlFault}
use Rattle.aml_terms.specs.Trees.{Tree}
use Rattle.aml_terms.specs.Opcodes.{opcode_of}
use Rattle.aml_terms.specs.Reading.{Reader, behind, then_at, byte_at, value_behind, value_with, value_at, term_behind, term_with, term_at}
use Rattle.aml_decode.proofs.Led.{led}
use Rattle.aml_decode.specs.Rooms.{buffer_at, package_at, inside_at}

value_is : (room : ℕ) → value_at room ≡ value_with (buffer_at room) (package_at room)
unfolding value_at buffer_at package_at
value_is zero = refl
value_is (suc room) = refl

pub value_led : (room place : ℕ) (text : List ℕ) → value_at room place text ≡ led (λ byte. value_behind (buffer_at room) (package_at room) byte) place text
unfolding value_with
value_led room place text = ap (λ (read : Reader Tree). read place text) (value_is room)

term_is : (room : ℕ) → term_at room ≡ term_with (value_at room) (inside_at room)
unfolding term_at inside_at
term_is zero = refl
term_is (suc room) = refl

pub term_led : (room place : ℕ) (text : List ℕ) → term_at room place text ≡ led (λ byte. term_behind (value_at room) (inside_at room)) place text
unfolding term_with
term_led room place text = ap (λ (read : Reader Tree). read place text) (term_is room)

-- a reader takes a byte at least
abbrev pub Moves : Reader Tree → Type 0
Moves read = (place : ℕ) (text : List ℕ) (x : Tree × ℕ) → read place text ≡ Ok x → 1 ≤ x.1

moved : (read : Result (Tree × ℕ) AmlFault) (x : Tree × ℕ) → behind 1 read ≡ Ok x → 1 ≤ x.1
moved (Ok y) x e =
    let same : (y.0, 1 + y.1) ≡ x = cc in
    let size : 1 + y.1 ≡ x.1 = ap (λ (x : Tree × ℕ). x.1) same in omega arith
moved (Err fault) x e = cc

byte_moves : (next : ℕ → Reader Tree) → Moves (then_at byte_at next)
byte_moves next place [] x e = cc
byte_moves next place (b ∷ bs) x e = moved (next b (place + 1) (drop 1 (b ∷ bs))) x e

pub value_moves : (room : ℕ) → Moves (value_at room)
unfolding value_with
value_moves room = subst Moves (sym (value_is room)) (byte_moves (λ byte. value_behind (buffer_at room) (package_at room) byte (opcode_of byte)))

pub term_moves : (room : ℕ) → Moves (term_at room)
unfolding term_with
term_moves room = subst Moves (sym (term_is room)) (byte_moves (λ byte. term_behind (value_at room) (inside_at room) (opcode_of byte)))
