-- What is read: for any bytes their terms, or the first fault. A reader is given the text up to the end of what encloses it, and the text's
-- place; it gives a value and how many bytes it took. There is one for each part of the grammar, in its order (ACPI 6.5, 20.2).
use Rattle.std.specs.Prelude.{ℕ, zero, suc, ◌+◌, ◌-◌, ◌*◌, ◌/◌, ◌%◌, ◌≤◌, Bool, true, false, ◌==◌, ◌||◌, nat_lt, nat_le, min, List, [], ◌∷◌}
use Rattle.std.specs.Prelude.{length, take, drop, Result, Ok, Err, if◌then◌else◌}
use Rattle.std.specs.List.{prefix_len}
use Rattle.vt_outside.specs.Readings.{◌into◌}
use Rattle.std.specs.Prelude.{Option, Some, None}
use Rattle.vt_bytes.specs.Numbers.{le}
use Rattle.aml_terms.specs.declared.term.Path.{Path}
use Rattle.aml_terms.specs.declared.fault.AmlFault.{AmlFault}
use Rattle.aml_terms.specs.declared.fault.AmlFault.TheVariants.{Truncated, BadLength, BadName, OutsideGrammar, OutOfMemory}
use Rattle.aml_terms.specs.declared.opcode.Opcode.{Opcode}
use Rattle.aml_terms.specs.declared.opcode.Opcode.TheVariants.{Constant, Integer, Ones, Chars, Buffer, Package, Name, Scope, Extended, Other}
use Rattle.aml_terms.specs.Trees.{Tree, Trees, int, ones, chars, buffer, pack, named, scope, device, no_trees, tree, count_of}
use Rattle.aml_terms.specs.Opcodes.{opcode_of}
use Rattle.aml_terms.specs.Paths.{segment_shape}
use Rattle.aml_terms.specs.Grammar.{levels}

-- a value at the front of a text, and how many bytes it took
abbrev pub Reader : Type 0 → Type 0
Reader A = ℕ → List ℕ → Result (A × ℕ) AmlFault

-- a value that is the whole text
abbrev pub Whole : Type 0 → Type 0
Whole A = ℕ → List ℕ → Result A AmlFault

-- a value behind so many bytes more
abbrev pub behind : {A : Type 0} → ℕ → Result (A × ℕ) AmlFault → Result (A × ℕ) AmlFault
behind count read = read into λ x. Ok (x.0, count + x.1)

-- one value, and the one behind it
abbrev pub then_at : {A B : Type 0} → Reader A → (A → Reader B) → Reader B
then_at read next place text = read place text into λ x. behind x.1 (next x.0 (place + x.1) (drop x.1 text))

-- one value, and what is left as another
abbrev pub then_whole : {A B : Type 0} → Reader A → (A → Whole B) → Whole B
then_whole read next place text = read place text into λ x. next x.0 (place + x.1) (drop x.1 text)

-- a value made of the one that is read
abbrev pub made_at : {A B : Type 0} → (A → B) → Reader A → Reader B
made_at make read place text = read place text into λ x. Ok (make x.0, x.1)

abbrev pub byte_at : Reader ℕ
byte_at place [] = Err (Truncated place)
byte_at place (b ∷ bs) = Ok (b, 1)

-- a number of so many bytes, low byte first
unfoldable pub number_at : ℕ → Reader ℕ
number_at width place text = if nat_lt (length text) width then Err (Truncated (place + length text)) else Ok (le (take width text), width)

-- nothing is read, since what began so many bytes before the text is outside the grammar
abbrev pub outside : {A : Type 0} → ℕ → Reader A
outside back place text = Err (OutsideGrammar (place - back))

-- a package length: the first byte's bits, then what is cut
unfoldable pub total_behind : ℕ → Reader ℕ
total_behind lead place rest =
    if nat_lt lead 0x40 then Ok (lead, 0)
    else if nat_le 16 (lead % 64) then Err (BadLength (place - 1))
    else made_at (λ more. lead % 16 + 16 * more) (number_at (lead / 64)) place rest

abbrev pub total_at : Reader ℕ
total_at = then_at byte_at total_behind

-- then its value, as how many bytes it encloses behind its own
unfoldable pub enclosing_at : Reader ℕ
enclosing_at place text =
    total_at place text
    into λ total. (if nat_lt total.0 total.1 || nat_lt (length text) total.0 then Err (BadLength place) else Ok (total.0 - total.1, total.1))

-- what a package length encloses, read as a whole
unfoldable pub enclosed_at : {A : Type 0} → Whole A → Reader A
enclosed_at inner place text =
    enclosing_at place text into λ size. inner (place + size.1) (take size.0 (drop size.1 text)) into λ x. Ok (x, size.1 + size.0)

abbrev pub with_tree : Tree → Result Trees AmlFault → Result Trees AmlFault
with_tree t read = read into λ ts. Ok (tree t ts)

-- one after the other, in at most so many steps
unfoldable pub all_from : Reader Tree → ℕ → Whole Trees
all_from read zero place text = Ok no_trees
all_from read (suc steps) place [] = Ok no_trees
all_from read (suc steps) place (b ∷ bs) = read place (b ∷ bs) into λ t. with_tree t.0 (all_from read steps (place + t.1) (drop t.1 (b ∷ bs)))

-- one after the other, to the end of the text
unfoldable pub all_in : Reader Tree → Whole Trees
all_in read place text = all_from read (length text) place text

-- characters of a shape
abbrev pub shape_at : List (ℕ → Bool) → Reader (List ℕ)
shape_at [] place text = Ok ([], 0)
shape_at (is ∷ shape) place [] = Err (Truncated place)
shape_at (is ∷ shape) place (c ∷ cs) =
    if is c then (shape_at shape (place + 1) cs into λ s. Ok (c ∷ s.0, suc s.1)) else Err (BadName place)

unfoldable pub segment_at : Reader (List ℕ)
segment_at = shape_at segment_shape

-- so many segments
unfoldable pub segments_at : ℕ → Reader (List (List ℕ))
segments_at zero place text = Ok ([], 0)
segments_at (suc count) place text = then_at segment_at (λ s. made_at (λ ss. s ∷ ss) (segments_at count)) place text

-- the segments behind their number
unfoldable pub counted_at : ℕ → Reader (List (List ℕ))
counted_at count place text = if count == 0 then Err (BadName (place - 1)) else segments_at count place text

-- one segment, or two behind 2E, or any number of them behind 2F and their number
unfoldable pub names_at : Reader (List (List ℕ))
names_at place [] = Err (Truncated place)
names_at place (c ∷ cs) =
    if c == 0x2E then behind 1 (segments_at 2 (place + 1) cs)
    else if c == 0x2F then behind 1 (then_at byte_at counted_at (place + 1) cs)
    else segments_at 1 place (c ∷ cs)

-- whether a path begins at the root
abbrev pub is_rooted : List ℕ → Bool
is_rooted [] = false
is_rooted (c ∷ cs) = c == 0x5C

-- and else how many levels up, of which there are at most 255
abbrev pub levels_up : List ℕ → ℕ
levels_up text = min (prefix_len (λ c. c == 0x5E) text) 255

abbrev pub path_from : Bool → ℕ → List (List ℕ) → Path
path_from root parents segments = record { root = root; parents = parents; segments = segments }

unfoldable pub path_at : Reader Path
path_at place text =
    if is_rooted text then behind 1 (made_at (path_from true 0) names_at (place + 1) (drop 1 text))
    else behind (levels_up text) (made_at (path_from false (levels_up text)) names_at (place + levels_up text) (drop (levels_up text) text))

-- an integer behind its opcode
unfoldable pub integer_behind : ℕ → Opcode → Reader ℕ
integer_behind byte Constant place text = Ok (byte, 0)
integer_behind byte (Integer width) place text = number_at width place text
integer_behind byte Ones place text = outside 1 place text
integer_behind byte Chars place text = outside 1 place text
integer_behind byte Buffer place text = outside 1 place text
integer_behind byte Package place text = outside 1 place text
integer_behind byte Name place text = outside 1 place text
integer_behind byte Scope place text = outside 1 place text
integer_behind byte Extended place text = outside 1 place text
integer_behind byte Other place text = outside 1 place text

abbrev pub integer_at : Reader ℕ
integer_at = then_at byte_at (λ byte. integer_behind byte (opcode_of byte))

-- the characters of a text, up to its NUL
unfoldable pub chars_at : Reader (List ℕ)
chars_at place [] = Err (Truncated place)
chars_at place (c ∷ cs) =
    if c == 0 then Ok ([], 1)
    else if nat_lt c 0x80 then (chars_at (place + 1) cs into λ text. Ok (c ∷ text.0, suc text.1))
    else Err (OutsideGrammar place)

-- a buffer's size, which stands at a place, and the bytes behind it, whose number it tells
unfoldable pub sized_in : ℕ → ℕ → Whole Tree
sized_in start size place text = if size == length text then Ok (buffer text) else Err (OutsideGrammar start)

unfoldable pub buffer_in : Whole Tree
buffer_in place text = then_whole integer_at (sized_in place) place text

-- the values behind a package's count, which tells how many they are
unfoldable pub counted_in : Reader Tree → ℕ → Whole Tree
counted_in read_value count place text =
    all_in read_value place text into λ values. (if count == count_of values then Ok (pack values) else Err (OutsideGrammar (place - 1)))

unfoldable pub package_in : Reader Tree → Whole Tree
package_in read_value = then_whole byte_at (counted_in read_value)

-- a value behind its opcode, with the readers of what is behind that of a buffer and of a package
unfoldable pub value_behind : Reader Tree → Reader Tree → ℕ → Opcode → Reader Tree
value_behind read_buffer read_package byte Constant place text = made_at int (integer_behind byte Constant) place text
value_behind read_buffer read_package byte (Integer width) place text = made_at int (integer_behind byte (Integer width)) place text
value_behind read_buffer read_package byte Ones place text = Ok (ones, 0)
value_behind read_buffer read_package byte Chars place text = made_at chars chars_at place text
value_behind read_buffer read_package byte Buffer place text = read_buffer place text
value_behind read_buffer read_package byte Package place text = read_package place text
value_behind read_buffer read_package byte Name place text = outside 1 place text
value_behind read_buffer read_package byte Scope place text = outside 1 place text
value_behind read_buffer read_package byte Extended place text = outside 1 place text
value_behind read_buffer read_package byte Other place text = outside 1 place text

unfoldable pub value_with : Reader Tree → Reader Tree → Reader Tree
value_with read_buffer read_package = then_at byte_at (λ byte. value_behind read_buffer read_package byte (opcode_of byte))

-- a value, with room for so many levels
unfoldable pub value_at : ℕ → Reader Tree
value_at zero = value_with (outside 1) (outside 1)
value_at (suc room) = value_with (enclosed_at buffer_in) (enclosed_at (package_in (value_at room)))

-- a scope's or a device's path and terms
unfoldable pub inside : Reader Tree → Whole (Path × Trees)
inside read_term = then_whole path_at (λ path place text. all_in read_term place text into λ terms. Ok (path, terms))

-- a name's path and value
unfoldable pub named_at : Reader Tree → Reader Tree
named_at read_value = then_at path_at (λ path. made_at (named path) read_value)

-- a device behind the two bytes of its opcode
unfoldable pub extended_at : (ℕ → Reader (Path × Trees)) → ℕ → Reader Tree
extended_at read_inside second place text = if second == 0x82 then made_at (λ x. device x.0 x.1) (read_inside 2) place text else outside 2 place text

-- A term behind its opcode, with the readers of a value and of what is behind the opcode of a scope or a device, which has so many bytes.
unfoldable pub term_behind : Reader Tree → (ℕ → Reader (Path × Trees)) → Opcode → Reader Tree
term_behind read_value read_inside Name place text = named_at read_value place text
term_behind read_value read_inside Scope place text = made_at (λ x. scope x.0 x.1) (read_inside 1) place text
term_behind read_value read_inside Extended place text = then_at byte_at (extended_at read_inside) place text
term_behind read_value read_inside Constant place text = outside 1 place text
term_behind read_value read_inside (Integer width) place text = outside 1 place text
term_behind read_value read_inside Ones place text = outside 1 place text
term_behind read_value read_inside Chars place text = outside 1 place text
term_behind read_value read_inside Buffer place text = outside 1 place text
term_behind read_value read_inside Package place text = outside 1 place text
term_behind read_value read_inside Other place text = outside 1 place text

unfoldable pub term_with : Reader Tree → (ℕ → Reader (Path × Trees)) → Reader Tree
term_with read_value read_inside = then_at byte_at (λ byte. term_behind read_value read_inside (opcode_of byte))

-- a term, with room for so many levels
unfoldable pub term_at : ℕ → Reader Tree
term_at zero = term_with (value_at zero) outside
term_at (suc room) = term_with (value_at (suc room)) (λ back. enclosed_at (inside (term_at room)))

-- the terms that bytes are, or the first fault
abbrev pub read_terms : List ℕ → Result Trees AmlFault
read_terms bytes = all_in (term_at levels) 0 bytes

-- the fault that an error reports, or none where memory ran out
abbrev pub reported : AmlFault → Option AmlFault
reported OutOfMemory = None
reported fault = Some fault

-- a fault whose place is among so many bytes or at their end
abbrev pub IsPlacedIn : ℕ → AmlFault → Type 0
IsPlacedIn count (Truncated place) = place ≤ count
IsPlacedIn count (BadLength place) = place ≤ count
IsPlacedIn count (BadName place) = place ≤ count
IsPlacedIn count (OutsideGrammar place) = place ≤ count
IsPlacedIn count OutOfMemory = ⊥
