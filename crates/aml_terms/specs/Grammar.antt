-- The grammar of terms: which bytes spell them, by recursion on the term (ACPI 6.5, 20.2.3 to 20.2.5). A `Fixed` is spelled by nothing,
-- since the dword that it is written as spells an `Int`. Scopes, devices, packages and buffers nest in as many levels as there is room for.
use Rattle.std.specs.Prelude.{◌≡◌, ℕ, zero, suc, ◌+◌, ◌<◌, ◌≤◌, List, [], ◌∷◌, ◌++◌, length}
use Rattle.std.specs.List.{AllByRecursion}
use Rattle.aml_terms.specs.Trees.{Tree, Trees, int, fixed, ones, chars, buffer, pack, named, scope, device, no_trees, tree, count_of}
use Rattle.aml_terms.specs.Lengths.{IsLength, IsInteger}
use Rattle.aml_terms.specs.Paths.{IsPath}

-- bytes have a property
abbrev pub Spelling : Type 1
Spelling = List ℕ → Type 0

-- a byte, and a spelling behind it
abbrev pub Behind : ℕ → Spelling → Spelling
Behind byte Is bytes = (rest : List ℕ) × (bytes ≡ byte ∷ rest) × Is rest

-- one spelling, and another behind it
pub record Then (Is Next : Spelling) (bytes : List ℕ) : Type 0 where
  pub first : List ℕ
  pub rest : List ℕ
  pub spelled : bytes ≡ first ++ rest
  pub is_first : Is first
  pub is_next : Next rest

-- a package length, which counts its own bytes, and a spelling that it encloses
pub record Enclosed (Is : Spelling) (bytes : List ℕ) : Type 0 where
  pub size : List ℕ
  pub body : List ℕ
  pub spelled : bytes ≡ size ++ body
  pub told : IsLength (length size + length body) size
  pub is : Is body

-- a spelling one level deeper, for which there must be room
abbrev pub Deeper : ℕ → (ℕ → Spelling) → Spelling
Deeper zero Is bytes = ⊥
Deeper (suc room) Is bytes = Is room bytes

-- a character of a text
abbrev pub IsChar : ℕ → Type 0
IsChar c = (1 ≤ c) × (c < 0x80)

-- a buffer's size and its bytes
abbrev pub IsBuffer : List ℕ → Spelling
IsBuffer content = Then (IsInteger (length content)) (λ bytes. bytes ≡ content)

unfoldable mutual
  -- a value
  pub SpellsValue : ℕ → Tree → Spelling
  SpellsValue room (int n) bytes = IsInteger n bytes
  SpellsValue room (fixed n) bytes = ⊥
  SpellsValue room ones bytes = bytes ≡ 0xFF ∷ []
  SpellsValue room (chars text) bytes = AllByRecursion IsChar text × (bytes ≡ 0x0D ∷ (text ++ 0 ∷ []))
  SpellsValue room (buffer content) bytes = Behind 0x11 (Deeper room (λ inner. Enclosed (IsBuffer content))) bytes
  SpellsValue room (pack values) bytes = Behind 0x12 (Deeper room (λ inner. Enclosed (Behind (count_of values) (SpellValues inner values)))) bytes
  SpellsValue room (named path value) bytes = ⊥
  SpellsValue room (scope path terms) bytes = ⊥
  SpellsValue room (device path terms) bytes = ⊥

  -- values, one after the other
  pub SpellValues : ℕ → Trees → Spelling
  SpellValues room no_trees bytes = bytes ≡ []
  SpellValues room (tree value values) bytes = Then (SpellsValue room value) (SpellValues room values) bytes

unfoldable mutual
  -- a term that stands at the top, in a scope or in a device
  pub Spells : ℕ → Tree → Spelling
  Spells room (named path value) bytes = Behind 0x08 (Then (IsPath path) (SpellsValue room value)) bytes
  Spells room (scope path terms) bytes = Behind 0x10 (Deeper room (λ inner. Enclosed (Then (IsPath path) (SpellAll inner terms)))) bytes
  Spells room (device path terms) bytes =
      Behind 0x5B (Behind 0x82 (Deeper room (λ inner. Enclosed (Then (IsPath path) (SpellAll inner terms))))) bytes
  Spells room (int n) bytes = ⊥
  Spells room (fixed n) bytes = ⊥
  Spells room ones bytes = ⊥
  Spells room (chars text) bytes = ⊥
  Spells room (buffer content) bytes = ⊥
  Spells room (pack values) bytes = ⊥

  -- terms, one after the other
  pub SpellAll : ℕ → Trees → Spelling
  SpellAll room no_trees bytes = bytes ≡ []
  SpellAll room (tree term terms) bytes = Then (Spells room term) (SpellAll room terms) bytes

-- so many levels may nest
unfoldable pub levels : ℕ
levels = 16

-- bytes spell terms
abbrev pub Aml : Trees → Spelling
Aml terms bytes = SpellAll levels terms bytes
