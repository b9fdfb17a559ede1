-- The spelling that is written: of all the shortest, but for `Fixed`, which is a dword (ACPI 6.5, 20.2).
use Rattle.std.specs.Prelude.{ℕ, zero, suc, ◌+◌, ◌*◌, ◌/◌, ◌%◌, ◌≤◌, ⊤, nat_lt, nat_le, List, [], ◌∷◌, ◌++◌, length, if◌then◌else◌}
use Rattle.vt_bytes.specs.Numbers.{le_bytes}
use Rattle.aml_terms.specs.declared.term.Path.{Path}
use Rattle.aml_terms.specs.Trees.{Tree, Trees, int, fixed, ones, chars, buffer, pack, named, scope, device, no_trees, tree, count_of}
use Rattle.aml_terms.specs.Paths.{beginning, joined}

-- the most bytes that a package length encloses: with the four of the length they are one less than 2^28
abbrev pub most_enclosed : ℕ
most_enclosed = 268435451

-- how many bytes follow the lead byte of the shortest length of so many enclosed bytes
unfoldable pub more_for : ℕ → ℕ
more_for body = if nat_lt body 0x3F then 0 else if nat_lt body 0xFFE then 1 else if nat_lt body 0xFFFFD then 2 else 3

-- a length with so many bytes behind its lead byte
abbrev pub length_with : ℕ → ℕ → List ℕ
length_with zero total = total ∷ []
length_with (suc more) total = (64 * suc more + total % 16) ∷ le_bytes (suc more) (total / 16)

-- the shortest length of so many enclosed bytes, which counts its own bytes too
unfoldable pub package_length : ℕ → List ℕ
package_length body = length_with (more_for body) (body + (more_for body + 1))

-- an integer behind an opcode
abbrev pub wide : ℕ → ℕ → ℕ → List ℕ
wide opcode width number = opcode ∷ le_bytes width number

-- the shortest integer
unfoldable pub integer : ℕ → List ℕ
integer n =
    if nat_le n 1 then n ∷ []
    else if nat_lt n 0x100 then wide 0x0A 1 n
    else if nat_lt n 0x10000 then wide 0x0B 2 n
    else if nat_lt n 0x100000000 then wide 0x0C 4 n
    else wide 0x0E 8 n

-- segments: one alone, two behind 2E, and more behind 2F and their number
abbrev pub segment_bytes : List (List ℕ) → List ℕ
segment_bytes (s ∷ []) = s
segment_bytes (s ∷ t ∷ []) = 0x2E ∷ joined (s ∷ t ∷ [])
segment_bytes segments = 0x2F ∷ length segments ∷ joined segments

abbrev pub path_bytes : Path → List ℕ
path_bytes path = beginning path ++ segment_bytes path.segments

-- what is written comes in parts, so that what an integer is can be told later: bytes, and the dword of each `Fixed`
pub data Part : Type 0 where
  plain_part : List ℕ → Part
  dword : ℕ → Part

abbrev pub part_bytes : Part → List ℕ
part_bytes (plain_part bytes) = bytes
part_bytes (dword number) = le_bytes 4 number

-- the bytes of parts, one after the other
abbrev pub bytes_of : List Part → List ℕ
bytes_of [] = []
bytes_of (part ∷ parts) = part_bytes part ++ bytes_of parts

-- an opcode, and what it encloses
abbrev pub packaged : List ℕ → List Part → List Part
packaged opcode body = plain_part (opcode ++ package_length (length (bytes_of body))) ∷ body

unfoldable mutual
  pub written : Tree → List Part
  written (int n) = plain_part (integer n) ∷ []
  written (fixed n) = plain_part (0x0C ∷ []) ∷ dword n ∷ []
  written ones = plain_part (0xFF ∷ []) ∷ []
  written (chars text) = plain_part (0x0D ∷ (text ++ 0 ∷ [])) ∷ []
  written (buffer content) = packaged (0x11 ∷ []) (plain_part (integer (length content) ++ content) ∷ [])
  written (pack values) = packaged (0x12 ∷ []) (plain_part (count_of values ∷ []) ∷ all_written values)
  written (named path value) = plain_part (0x08 ∷ path_bytes path) ∷ written value
  written (scope path terms) = packaged (0x10 ∷ []) (plain_part (path_bytes path) ∷ all_written terms)
  written (device path terms) = packaged (0x5B ∷ 0x82 ∷ []) (plain_part (path_bytes path) ∷ all_written terms)

  pub all_written : Trees → List Part
  all_written no_trees = []
  all_written (tree t ts) = written t ++ all_written ts

-- the bytes of a term, and of terms one after the other
abbrev pub spelled : Tree → List ℕ
spelled t = bytes_of (written t)

abbrev pub all_spelled : Trees → List ℕ
all_spelled ts = bytes_of (all_written ts)

-- a body that a package length can enclose
abbrev pub IsEnclosable : List Part → Type 0
IsEnclosable body = length (bytes_of body) ≤ most_enclosed

-- each package in a term is one whose length is below 2^28
unfoldable mutual
  pub IsShort : Tree → Type 0
  IsShort (int n) = ⊤
  IsShort (fixed n) = ⊤
  IsShort ones = ⊤
  IsShort (chars text) = ⊤
  IsShort (buffer content) = IsEnclosable (plain_part (integer (length content) ++ content) ∷ [])
  IsShort (pack values) = IsEnclosable (plain_part (count_of values ∷ []) ∷ all_written values) × AreShort values
  IsShort (named path value) = IsShort value
  IsShort (scope path terms) = IsEnclosable (plain_part (path_bytes path) ∷ all_written terms) × AreShort terms
  IsShort (device path terms) = IsEnclosable (plain_part (path_bytes path) ∷ all_written terms) × AreShort terms

  pub AreShort : Trees → Type 0
  AreShort no_trees = ⊤
  AreShort (tree t ts) = IsShort t × AreShort ts
