-- Numbers of strings that aren't there.
use Rattle.std.proofs.Common.{◌≡◌, ◌≢◌, ℕ, List, [], ◌∷◌, ◌++◌, length, Some, None, arith, refl, ap, sym, ◌∙◌, subst}
use Rattle.std.specs.List.{AllByRecursion}
use Rattle.vt_bytes.specs.View.{view_of}
use Rattle.vt_layout.specs.declared.row.Row.{Row}
use Rattle.vt_layout.specs.declared.row.Row.TheVariants.{Number, BigEndian, Bytes, Named, StringNumber, Pointer}
use Rattle.vt_layout.specs.Rows.{size, shape_of, shape}
use Rattle.vt_layout.specs.Reading.{rows_in}
use Rattle.vt_layout.proofs.AsRows.{bytes_shown, bytes_shaped}
use Rattle.vt_layout.proofs.Same.{same_rows}
use Rattle.smbios_model.specs.declared.smbios.Body.{Body}
use Rattle.vt_layout.specs.Strings.{AreNamed, string_of, IsFirstMissing}
use Rattle.smbios_model.specs.StructureKinds.{StructureKind}
use Rattle.smbios_model.specs.Structures.{kind_for, IsTyped, IsBodyOf, IsBody}
use Rattle.vt_layout.proofs.NumberedRows.{size-shape}
use Rattle.smbios_model.proofs.KnownKinds.{known_readable}

-- numbers of which some is missing name no texts
all_named : (strings : List (List ℕ)) (before after : List ℕ) (number : ℕ) (texts : List (List ℕ)) → string_of strings number ≡ None
    → AreNamed strings (before ++ number ∷ after) texts → ⊥
all_named strings [] after number [] missing named = absurd named
all_named strings [] after number (text ∷ texts) missing named =
    let there = named.0 in
    cc
all_named strings (n ∷ before) after number [] missing named = absurd named
all_named strings (n ∷ before) after number (text ∷ texts) missing named = all_named strings before after number texts missing named.1

-- the first one of numbers that is missing
one_split : (strings : List (List ℕ)) (a b c d : List ℕ) (m n : ℕ) → a ++ m ∷ b ≡ c ++ n ∷ d → AllByRecursion (λ k. string_of strings k ≢ None) a
    → AllByRecursion (λ k. string_of strings k ≢ None) c → string_of strings m ≡ None → string_of strings n ≡ None → m ≡ n
one_split strings [] b [] d m n same a_there c_there m_missing n_missing = cc
one_split strings [] b (x ∷ c) d m n same a_there c_there m_missing n_missing =
    let first : m ≡ x = cc in
    absurd (c_there.0 (ap (string_of strings) (sym first) ∙ m_missing))
one_split strings (x ∷ a) b [] d m n same a_there c_there m_missing n_missing =
    let first : n ≡ x = cc in
    absurd (a_there.0 (ap (string_of strings) (sym first) ∙ n_missing))
one_split strings (x ∷ a) b (y ∷ c) d m n same a_there c_there m_missing n_missing =
    one_split strings a b c d m n (cc) a_there.1 c_there.1 m_missing n_missing

pub one_missing : (strings : List (List ℕ)) (numbers : List ℕ) (m n : ℕ) → IsFirstMissing strings numbers m → IsFirstMissing strings numbers n
    → m ≡ n
one_missing strings numbers m n is also =
    one_split strings is.before is.after also.before also.after m n (sym is.asked ∙ also.asked) is.there also.there is.missing also.missing

-- a shape has its own shape
shape_of-shape_of : (row : Row) → shape_of (shape_of row) ≡ shape_of row
shape_of-shape_of (Number width value) = refl
shape_of-shape_of (BigEndian width value) = refl
shape_of-shape_of (Bytes width bytes) = refl
shape_of-shape_of (Named name) = refl
shape_of-shape_of (StringNumber number) = refl
shape_of-shape_of (Pointer width target offset) = refl
shape_of-shape_of row = refl

shape-shape : (rows : List Row) → shape (shape rows) ≡ shape rows
shape-shape [] = refl
shape-shape (row ∷ rows) =
    let first = shape_of-shape_of row in
    let others = shape-shape rows in
    cc

-- the rows of an area of a known kind are those that its bytes are read as
rows_read : (number : ℕ) (kind : StructureKind) (area : List ℕ) (strings : List (List ℕ)) (body : Body) → kind_for number (length area) ≡ Some kind
    → (is : IsTyped kind area strings body) → is.rows ≡ rows_in kind.shape area
rows_read number kind area strings body known is =
    let again : shape is.rows ≡ shape kind.shape = sym (shape-shape is.rows) ∙ ap shape is.shaped in
    same_rows (view_of area) 0 0 is.rows (rows_in kind.shape area) is.stands.shown
    (bytes_shown kind.shape area (known_readable number (length area) kind known) (omega (arith, is.stands.filled, ap size is.shaped, size-shape is.rows)))
    (again ∙ sym (bytes_shaped kind.shape area))

-- a body of a known kind has each string that is named
pub none_missing : (number : ℕ) (kind : StructureKind) (area : List ℕ) (strings : List (List ℕ)) (body : Body) (missing : ℕ)
    → kind_for number (length area) ≡ Some kind → IsBody number area strings body
    → IsFirstMissing strings (kind.named (rows_in kind.shape area)) missing → ⊥
none_missing number kind area strings body missing known is first =
    let typed : IsTyped kind area strings body = subst (λ k. IsBodyOf k number area strings body) known is in
    let rows = rows_read number kind area strings body known typed in
    let named : AreNamed strings (first.before ++ missing ∷ first.after) typed.texts =
    subst (λ numbers. AreNamed strings numbers typed.texts) (ap kind.named rows ∙ first.asked) typed.stands.named in
    all_named strings first.before first.after missing typed.texts first.missing named
