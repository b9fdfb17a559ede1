-- Paths, in each of their spellings (ACPI 6.5, 20.2.2).
use Rattle.std.specs.Prelude.{◌≡◌, ℕ, ◌<◌, ◌≤◌, Bool, true, ◌==◌, ◌&&◌, ◌||◌, nat_le, List, [], ◌∷◌, ◌++◌, length, replicate, ⊤, if◌then◌else◌}
use Rattle.std.specs.List.{AllByRecursion}
use Rattle.aml_terms.specs.declared.term.Path.{Path}

-- the first character of a segment, A to Z or `_`, and one that follows it, which may be 0 to 9 too
abbrev pub is_lead_char : ℕ → Bool
is_lead_char c = (nat_le 0x41 c && nat_le c 0x5A) || c == 0x5F

abbrev pub is_name_char : ℕ → Bool
is_name_char c = is_lead_char c || (nat_le 0x30 c && nat_le c 0x39)

-- the characters of a segment, in order
abbrev pub segment_shape : List (ℕ → Bool)
segment_shape = is_lead_char ∷ is_name_char ∷ is_name_char ∷ is_name_char ∷ []

-- bytes are of a shape, one by one
abbrev pub HasShape : List (ℕ → Bool) → List ℕ → Type 0
HasShape [] [] = ⊤
HasShape [] (c ∷ cs) = ⊥
HasShape (is ∷ shape) [] = ⊥
HasShape (is ∷ shape) (c ∷ cs) = (is c ≡ true) × HasShape shape cs

abbrev pub IsSegment : List ℕ → Type 0
IsSegment = HasShape segment_shape

-- segments one after the other
abbrev pub joined : List (List ℕ) → List ℕ
joined [] = []
joined (s ∷ ss) = s ++ joined ss

-- where a path begins: at the root, or so many levels up
abbrev pub beginning : Path → List ℕ
beginning path = if path.root then 0x5C ∷ [] else replicate path.parents 0x5E

-- A path's parts can be spelled: it begins at the root or at most 255 levels up, and has segments.
pub record IsPlaced (path : Path) : Type 0 where
  pub alone : path.root ≡ true → path.parents ≡ 0
  pub near : path.parents < 256
  pub segments : AllByRecursion IsSegment path.segments
  pub some : 1 ≤ length path.segments

-- a path that can be written: its number of segments fits a byte
abbrev pub IsGoodPath : Path → Type 0
IsGoodPath path = IsPlaced path × (length path.segments < 256)

-- segments: one alone, two behind 2E, any number of them behind 2F and their number
pub data AreSegments (segments : List (List ℕ)) (bytes : List ℕ) : Type 0 where
  one : (s : List ℕ) → segments ≡ s ∷ [] → bytes ≡ s → AreSegments segments bytes
  two : (s t : List ℕ) → segments ≡ s ∷ t ∷ [] → bytes ≡ 0x2E ∷ (s ++ t) → AreSegments segments bytes
  many : bytes ≡ 0x2F ∷ length segments ∷ joined segments → AreSegments segments bytes

-- a path's beginning and its segments
pub record IsPath (path : Path) (bytes : List ℕ) : Type 0 where
  pub placed : IsPlaced path
  pub names : List ℕ
  pub spelled : bytes ≡ beginning path ++ names
  pub are : AreSegments path.segments names
