-- What bytes are read as: structures up to their end, or the first fault (DMTF DSP0134, version 3.0.0, 6.1.2, 6.1.3).
use Rattle.std.specs.Prelude.{◌≡◌, ◌≢◌, ℕ, ◌+◌, ◌<◌, ◌⊎◌, List, [], ◌∷◌, ◌++◌, length, Some, Result, Ok, Err}
use Rattle.vt_layout.specs.Reading.{rows_in}
use Rattle.smbios_model.specs.declared.smbios.Structure.{Structure}
use Rattle.vt_layout.specs.Strings.{AreStrings, string_set, IsFirstMissing}
use Rattle.smbios_model.specs.StructureKinds.{StructureKind}
use Rattle.smbios_model.specs.Structures.{kind_for}
use Rattle.smbios_model.specs.Smbios.{formatted, IsStructure, AreStructures}
use Rattle.smbios_decode.specs.declared.fault.SmbiosFault.{SmbiosFault}
use Rattle.smbios_decode.specs.declared.fault.SmbiosFault.TheVariants.{Truncated, ShortStructure, NoEnd, NoSuchString, OutOfMemory}

-- The bytes begin with a whole structure, whatever it says: its type, its handle, its area, and its strings.
pub record IsWhole (bytes : List ℕ) (number handle : ℕ) (area : List ℕ) (strings : List (List ℕ)) : Type 0 where
  pub are_strings : AreStrings strings
  pub rest : List ℕ
  pub spelled : bytes ≡ (formatted number handle area ++ string_set strings) ++ rest

-- Strings stand at the front of bytes.
abbrev pub BeginsStrings : List ℕ → Type 0
BeginsStrings bytes = (strings : List (List ℕ)) × (rest : List ℕ) × AreStrings strings × (bytes ≡ string_set strings ++ rest)

-- The bytes begin with some whole structure: what is known before memory is needed.
abbrev pub BeginsWhole : List ℕ → Type 0
BeginsWhole bytes = (number : ℕ) × (handle : ℕ) × (area : List ℕ) × (strings : List (List ℕ)) × IsWhole bytes number handle area strings

-- The bytes begin with a structure that tells a length below that of its header.
pub record IsShort (bytes : List ℕ) : Type 0 where
  pub number : ℕ
  pub told : ℕ
  pub low : ℕ
  pub high : ℕ
  pub rest : List ℕ
  pub begins : bytes ≡ number ∷ told ∷ low ∷ high ∷ rest
  pub too_short : told < 4

-- The bytes begin with a structure of a known kind that names a string that it doesn't have. This is the number of the first, in
-- the order of the structure's rows.
pub record NamesNoString (bytes : List ℕ) (number : ℕ) : Type 0 where
  pub type_of : ℕ
  pub handle : ℕ
  pub area : List ℕ
  pub strings : List (List ℕ)
  pub whole : IsWhole bytes type_of handle area strings
  pub kind : StructureKind
  pub known : kind_for type_of (length area) ≡ Some kind
  pub missing : IsFirstMissing strings (kind.named (rows_in kind.shape area)) number

-- The fault of the structure at a place, with which these bytes begin. They end within it; or its length is too short; or it names a
-- string that it doesn't have; or there is none, since the bytes end before it.
abbrev pub IsFault : ℕ → List ℕ → SmbiosFault → Type 0
IsFault place bytes (Truncated at) =
    (at ≡ place) × (bytes ≢ []) × (IsShort bytes → ⊥)
    × ((number handle : ℕ) (area : List ℕ) (strings : List (List ℕ)) → IsWhole bytes number handle area strings → ⊥)
IsFault place bytes (ShortStructure at) = (at ≡ place) × IsShort bytes
IsFault place bytes (NoSuchString at number) = (at ≡ place) × NamesNoString bytes number
IsFault place bytes NoEnd = bytes ≡ []
IsFault place bytes OutOfMemory = ⊥

-- From a place on these structures stand, none of which is of type 127, and the one after them is at fault.
abbrev pub AreRefused : ℕ → List ℕ → List Structure → SmbiosFault → Type 0
AreRefused place bytes [] fault = IsFault place bytes fault
AreRefused place bytes (s ∷ before) fault =
    (first : List ℕ) × (rest : List ℕ) × (kind : ℕ) × (bytes ≡ first ++ rest) × (kind ≢ 127) × IsStructure first kind s
    × AreRefused (place + length first) rest before fault

-- The bytes begin with these structures, of which the last is the first of type 127.
pub record IsRead (bytes : List ℕ) (structures : List Structure) : Type 0 where
  pub used : List ℕ
  pub unused : List ℕ
  pub split : bytes ≡ used ++ unused
  pub listed : AreStructures used structures

-- the fault is that of the first structure at fault
abbrev pub IsRefused : List ℕ → SmbiosFault → Type 0
IsRefused bytes fault = (before : List Structure) × AreRefused 0 bytes before fault

-- what bytes are read as
abbrev pub Means : List ℕ → Result (List Structure) SmbiosFault → Type 0
Means bytes (Ok structures) = IsRead bytes structures
Means bytes (Err fault) = IsRefused bytes fault

-- a result is what was meant, unless memory ran out
abbrev pub OrNoMemory : Result (List Structure) SmbiosFault → Result (List Structure) SmbiosFault → Type 0
OrNoMemory result meant = (result ≡ meant) ⊎ (result ≡ Err OutOfMemory)
