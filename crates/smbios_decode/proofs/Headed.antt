-- What stands behind the header that bytes begin with.
use Rattle.std.proofs.Common.{◌≡◌, ℕ, ◌+◌, ◌-◌, ◌^◌, ◌<◌, ◌≤◌, Bool, List, ◌∷◌, ◌++◌, length, take, drop, ◌==◌, Some, arith, refl, ap, sym, ◌∙◌}
use Rattle.std.proofs.Common.{append_assoc, length-append, length-drop}
use Rattle.std.proofs.lemmas.List.{take_all, take-append-drop, drop-drop, drop_at, length-take-le}
use Rattle.vt_bytes.specs.Numbers.{le_bytes}
use Rattle.smbios_model.specs.declared.smbios.Body.{Body}
use Rattle.smbios_model.specs.StructureKinds.{StructureKind}
use Rattle.vt_layout.specs.Strings.{AreStrings, string_set, IsFirstMissing}
use Rattle.smbios_model.specs.Structures.{kind_for, IsBody}
use Rattle.smbios_model.specs.Smbios.{formatted}
use Rattle.smbios_decode.specs.declared.fault.SmbiosFault.TheVariants.{Truncated}
use Rattle.smbios_decode.specs.Faults.{IsWhole, BeginsWhole, IsShort, NamesNoString, IsFault}
use Rattle.smbios_decode.specs.Found.{IsFound}
use Rattle.smbios_decode.specs.Kinds.{named_in}

-- Bytes begin with a header of this type, length and handle, and have so many bytes.
pub record IsHeaded (bytes : List ℕ) (number told handle : ℕ) : Type 0 where
  pub begins : take 4 bytes ≡ number ∷ told ∷ le_bytes 2 handle
  pub long_enough : 4 ≤ told
  pub within : told ≤ length bytes

pub headed_of : (bytes : List ℕ) (number told handle count : ℕ)
    → (4 ≤ length bytes) × (4 ≤ told) × (take 4 bytes ≡ number ∷ told ∷ le_bytes 2 handle) → count ≡ told → count ≤ length bytes
    → IsHeaded bytes number count handle
headed_of bytes number told handle count begins same within = record {
  begins = begins.2 ∙ ap (λ n. number ∷ n ∷ le_bytes 2 handle) (sym same);
  long_enough = omega (arith, begins.1, same);
  within = within;
}

-- the area behind it, and what follows the area
abbrev pub area_in : List ℕ → ℕ → List ℕ
area_in bytes told = take (told - 4) (drop 4 bytes)

abbrev pub behind : List ℕ → ℕ → List ℕ
behind bytes told = take (length bytes - told) (drop told bytes)

pub behind_is : (bytes : List ℕ) (told : ℕ) → behind bytes told ≡ drop told bytes
behind_is bytes told = take_all (length bytes - told) (drop told bytes) (omega (arith, length-drop told bytes))

length-area_in : (bytes : List ℕ) (number told handle : ℕ) → IsHeaded bytes number told handle → 4 + length (area_in bytes told) ≡ told
length-area_in bytes number told handle is =
    let left : told - 4 ≤ length (drop 4 bytes) = omega (arith, is.long_enough, is.within, length-drop 4 bytes) in
    omega (arith, is.long_enough, length-take-le (told - 4) (drop 4 bytes) left)

-- the header, the area, and what follows it
in_parts : (bytes : List ℕ) (number told handle : ℕ) → IsHeaded bytes number told handle
    → bytes ≡ formatted number handle (area_in bytes told) ++ behind bytes told
in_parts bytes number told handle is =
    let area : List ℕ = area_in bytes told in
    let place : 4 + (told - 4) ≡ told = omega (arith, is.long_enough) in
    let left : drop (told - 4) (drop 4 bytes) ≡ behind bytes told =
    drop-drop (told - 4) 4 bytes ∙ ap (λ n. drop n bytes) place ∙ sym (behind_is bytes told) in
    let after_header : drop 4 bytes ≡ area ++ behind bytes told =
    sym (take-append-drop (told - 4) (drop 4 bytes)) ∙ ap (λ bs. area ++ bs) left in
    let header : take 4 bytes ≡ number ∷ (4 + length area) ∷ le_bytes 2 handle =
    is.begins ∙ ap (λ n. number ∷ n ∷ le_bytes 2 handle) (sym (length-area_in bytes number told handle is)) in
    sym (take-append-drop 4 bytes) ∙ ap (λ bs. bs ++ drop 4 bytes) header
    ∙ ap (λ bs. number ∷ (4 + length area) ∷ le_bytes 2 handle ++ bs) after_header

-- with strings behind the area, bytes begin with a whole structure
spelled_of : (bytes : List ℕ) (number told handle : ℕ) (strings : List (List ℕ)) (rest : List ℕ) → IsHeaded bytes number told handle
    → behind bytes told ≡ string_set strings ++ rest → bytes ≡ (formatted number handle (area_in bytes told) ++ string_set strings) ++ rest
spelled_of bytes number told handle strings rest is split =
    let front : List ℕ = formatted number handle (area_in bytes told) in
    in_parts bytes number told handle is ∙ ap (λ bs. front ++ bs) split ∙ sym (append_assoc front (string_set strings) rest)

-- each whole structure at the front has the length of the header
told_whole : (bytes : List ℕ) (number told handle n g : ℕ) (area : List ℕ) (strings : List (List ℕ)) → IsHeaded bytes number told handle
    → IsWhole bytes n g area strings → told ≡ 4 + length area
told_whole bytes number told handle n g area strings is whole =
    let same = ap (take 4) whole.spelled in
    let begins = is.begins in
    cc

-- and where no strings stand behind the area, there is none
no_whole : (bytes : List ℕ) (number told handle n g : ℕ) (area : List ℕ) (strings : List (List ℕ)) → IsHeaded bytes number told handle
    → ((some : List (List ℕ)) (rest : List ℕ) → AreStrings some → behind bytes told ≡ string_set some ++ rest → ⊥)
    → IsWhole bytes n g area strings → ⊥
no_whole bytes number told handle n g area strings is none whole =
    let front : List ℕ = formatted n g area in
    let long : length front ≡ told = omega (arith, told_whole bytes number told handle n g area strings is whole) in
    let split : bytes ≡ front ++ (string_set strings ++ whole.rest) = whole.spelled ∙ append_assoc front (string_set strings) whole.rest in
    none strings whole.rest whole.are_strings
    (behind_is bytes told ∙ ap (drop told) split ∙ drop_at front (string_set strings ++ whole.rest) told long)

-- nor does it tell too short a length
no_short : (bytes : List ℕ) (number told handle : ℕ) → IsHeaded bytes number told handle → IsShort bytes → ⊥
no_short bytes number told handle is short =
    let same = ap (take 4) short.begins in
    let begins = is.begins in
    let lengths : told ≡ short.told = cc in
    omega (arith, short.too_short, is.long_enough)

pub truncated : (place : ℕ) (bytes : List ℕ) (number told handle : ℕ) → IsHeaded bytes number told handle
    → ((some : List (List ℕ)) (rest : List ℕ) → AreStrings some → behind bytes told ≡ string_set some ++ rest → ⊥)
    → IsFault place bytes (Truncated place)
truncated place bytes number told handle is none = (
  refl,
  λ empty. omega (arith, ap length empty, is.long_enough, is.within),
  no_short bytes number told handle is,
  λ n g area strings. no_whole bytes number told handle n g area strings is none,
)

-- the structure at the front
pub found_of : (bytes : List ℕ) (number told handle size : ℕ) (body : Body) (last : Bool) (strings : List (List ℕ)) (rest : List ℕ)
    → IsHeaded bytes number told handle → handle < 2 ^ 16 → AreStrings strings → length (string_set strings) ≡ size
    → behind bytes told ≡ string_set strings ++ rest → IsBody number (area_in bytes told) strings body → last ≡ (number == 127)
    → IsFound bytes (record { structure = record { handle = handle; body = body }; size = told + size; is_last = last })
found_of bytes number told handle size body last strings rest is fits are sized split says ends =
    let front : List ℕ = formatted number handle (area_in bytes told) in
    record {
      first = front ++ string_set strings;
      rest = rest;
      number = number;
      split = spelled_of bytes number told handle strings rest is split;
      sized = omega (arith, length-append front (string_set strings), length-area_in bytes number told handle is, sized);
      stands = record {
        area = area_in bytes told;
        strings = strings;
        spelled = refl;
        handle_fits = fits;
        are_strings = are;
        body = says;
      };
      last = ends;
    }

-- a string that it names isn't there
pub names_no_string : (bytes : List ℕ) (number told handle : ℕ) (strings : List (List ℕ)) (rest : List ℕ) (missing : ℕ)
    → IsHeaded bytes number told handle → AreStrings strings → behind bytes told ≡ string_set strings ++ rest
    → (kind : StructureKind) × (kind_for number (length (area_in bytes told)) ≡ Some kind)
    × IsFirstMissing strings (named_in kind (area_in bytes told)) missing
    → NamesNoString bytes missing
names_no_string bytes number told handle strings rest missing is are split (kind, known, first) = record {
  type_of = number;
  handle = handle;
  area = area_in bytes told;
  strings = strings;
  whole = record { are_strings = are; rest = rest; spelled = spelled_of bytes number told handle strings rest is split };
  kind = kind;
  known = known;
  missing = first;
}

-- with strings behind the area, a whole structure stands at the front
pub whole_of : (bytes : List ℕ) (number told handle : ℕ) (strings : List (List ℕ)) (rest : List ℕ) → IsHeaded bytes number told handle
    → AreStrings strings → behind bytes told ≡ string_set strings ++ rest → BeginsWhole bytes
whole_of bytes number told handle strings rest is are split = (
  number,
  handle,
  area_in bytes told,
  strings,
  record { are_strings = are; rest = rest; spelled = spelled_of bytes number told handle strings rest is split },
)
