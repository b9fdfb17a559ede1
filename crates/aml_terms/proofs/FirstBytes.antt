-- Which bytes a term or a value begins with, told by what they say.
use Rattle.std.proofs.Common.{◌≡◌, ℕ, ◌≤◌}
use Rattle.std.specs.Prelude.{◌==◌, nat_le}
use Rattle.std.proofs.lemmas.Bool.{leb-true, eqb-true, le-leb}
use Rattle.aml_terms.specs.declared.opcode.Opcode.{Opcode}
use Rattle.aml_terms.specs.declared.opcode.Opcode.TheVariants.{Constant, Integer, Ones, Chars, Buffer, Package, Name, Scope, Extended, Other}
use Rattle.aml_terms.specs.Opcodes.{opcode_of}
use Rattle.aml_terms.proofs.Choices.{either_way, when_held}

-- an opcode, and what it tells of its byte
pub data Told (byte : ℕ) : Opcode → Type 0 where
  is_constant : byte ≤ 1 → Told byte Constant
  is_integer : (width : ℕ) → Told byte (Integer width)
  is_ones : byte ≡ 0xFF → Told byte Ones
  is_chars : byte ≡ 0x0D → Told byte Chars
  is_buffer : byte ≡ 0x11 → Told byte Buffer
  is_package : byte ≡ 0x12 → Told byte Package
  is_name : byte ≡ 0x08 → Told byte Name
  is_scope : byte ≡ 0x10 → Told byte Scope
  is_extended : byte ≡ 0x5B → Told byte Extended
  is_other : Told byte Other

pub told : (byte : ℕ) → Told byte (opcode_of byte)
unfolding opcode_of
told byte =
    either_way (Told byte) (nat_le byte 0x01) _ _ (λ t. is_constant (leb-true byte 1 t)) λ _.
    either_way (Told byte) (byte == 0x0A) _ _ (λ t. is_integer 1) λ _.
    either_way (Told byte) (byte == 0x0B) _ _ (λ t. is_integer 2) λ _.
    either_way (Told byte) (byte == 0x0C) _ _ (λ t. is_integer 4) λ _.
    either_way (Told byte) (byte == 0x0E) _ _ (λ t. is_integer 8) λ _.
    either_way (Told byte) (byte == 0xFF) _ _ (λ t. is_ones (eqb-true byte 0xFF t)) λ _.
    either_way (Told byte) (byte == 0x0D) _ _ (λ t. is_chars (eqb-true byte 0x0D t)) λ _.
    either_way (Told byte) (byte == 0x11) _ _ (λ t. is_buffer (eqb-true byte 0x11 t)) λ _.
    either_way (Told byte) (byte == 0x12) _ _ (λ t. is_package (eqb-true byte 0x12 t)) λ _.
    either_way (Told byte) (byte == 0x08) _ _ (λ t. is_name (eqb-true byte 0x08 t)) λ _.
    either_way (Told byte) (byte == 0x10) _ _ (λ t. is_scope (eqb-true byte 0x10 t)) λ _.
    either_way (Told byte) (byte == 0x5B) _ _ (λ t. is_extended (eqb-true byte 0x5B t)) λ _. is_other

pub constant_told : (byte : ℕ) → byte ≤ 1 → opcode_of byte ≡ Constant
unfolding opcode_of
constant_told byte h = when_held _ _ _ (le-leb byte 1 h)
