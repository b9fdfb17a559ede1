-- Bytes begin with at most one fault, and with none where a structure stands.
use Rattle.std.proofs.Common.{◌≡◌, ℕ, List, [], ◌++◌, length, Some, refl, ap, sym, ◌∙◌, subst}
use Rattle.vt_layout.specs.Reading.{rows_in}
use Rattle.vt_layout.specs.Strings.{IsFirstMissing}
use Rattle.smbios_model.specs.declared.smbios.Structure.{Structure}
use Rattle.smbios_model.specs.StructureKinds.{StructureKind}
use Rattle.smbios_model.specs.Structures.{kind_for, IsBody}
use Rattle.smbios_model.specs.Smbios.{IsStructure}
use Rattle.smbios_decode.specs.declared.fault.SmbiosFault.{SmbiosFault}
use Rattle.smbios_decode.specs.declared.fault.SmbiosFault.TheVariants.{Truncated, ShortStructure, NoEnd, NoSuchString, OutOfMemory}
use Rattle.smbios_decode.specs.Faults.{IsWhole, IsShort, NamesNoString, IsFault}
use Rattle.smbios_decode.proofs.Wholes.{same_whole, no_short_whole, structure_whole}
use Rattle.smbios_decode.proofs.Missing.{one_missing, none_missing}

-- a structure has some bytes
no_bytes_whole : (bytes : List ℕ) (k h : ℕ) (a : List ℕ) (u : List (List ℕ)) → bytes ≡ [] → IsWhole bytes k h a u → ⊥
no_bytes_whole bytes k h a u none is =
    let spelled = is.spelled in
    cc

no_bytes_short : (bytes : List ℕ) → bytes ≡ [] → IsShort bytes → ⊥
no_bytes_short bytes none short =
    let begins = short.begins in
    cc

-- one kind is known of a type and a length
one_kind : (k l : ℕ) (a b : List ℕ) (kind other : StructureKind) → k ≡ l → a ≡ b → kind_for k (length a) ≡ Some kind
    → kind_for l (length b) ≡ Some other → kind ≡ other
one_kind k l a b kind other types areas is also =
    let same : kind_for k (length a) ≡ kind_for l (length b) = cc in
    cc

-- one string is missing first
one_name : (bytes : List ℕ) (m n : ℕ) → NamesNoString bytes m → NamesNoString bytes n → m ≡ n
one_name bytes m n is also =
    let parts =
    same_whole bytes is.type_of also.type_of is.handle also.handle is.area also.area is.strings also.strings is.whole also.whole in
    let kinds = one_kind is.type_of also.type_of is.area also.area is.kind also.kind parts.kinds parts.areas is.known also.known in
    let numbers : is.kind.named (rows_in is.kind.shape is.area) ≡ also.kind.named (rows_in also.kind.shape also.area) =
    ap (λ (kind : StructureKind). kind.named (rows_in kind.shape is.area)) kinds
    ∙ ap (λ area. also.kind.named (rows_in also.kind.shape area)) parts.areas in
    let moved =
    subst (λ strings. IsFirstMissing strings (also.kind.named (rows_in also.kind.shape also.area)) m) parts.strings
    (subst (λ asked. IsFirstMissing is.strings asked m) numbers is.missing) in
    one_missing also.strings (also.kind.named (rows_in also.kind.shape also.area)) m n moved also.missing

pub one_fault : (place : ℕ) (bytes : List ℕ) (f g : SmbiosFault) → IsFault place bytes f → IsFault place bytes g → f ≡ g
one_fault place bytes (Truncated at) (Truncated other) is also = ap Truncated (is.0 ∙ sym also.0)
one_fault place bytes (Truncated at) (ShortStructure other) is also = absurd (is.2 also.1)
one_fault place bytes (Truncated at) (NoSuchString other n) is also =
    let w = also.1 in
    absurd (is.3 w.type_of w.handle w.area w.strings w.whole)
one_fault place bytes (Truncated at) NoEnd is also = absurd (is.1 also)
one_fault place bytes (ShortStructure at) (Truncated other) is also = absurd (also.2 is.1)
one_fault place bytes (ShortStructure at) (ShortStructure other) is also = ap ShortStructure (is.0 ∙ sym also.0)
one_fault place bytes (ShortStructure at) (NoSuchString other n) is also =
    let w = also.1 in
    absurd (no_short_whole bytes w.type_of w.handle w.area w.strings is.1 w.whole)
one_fault place bytes (ShortStructure at) NoEnd is also = absurd (no_bytes_short bytes also is.1)
one_fault place bytes (NoSuchString at m) (Truncated other) is also =
    let w = is.1 in
    absurd (also.3 w.type_of w.handle w.area w.strings w.whole)
one_fault place bytes (NoSuchString at m) (ShortStructure other) is also =
    let w = is.1 in
    absurd (no_short_whole bytes w.type_of w.handle w.area w.strings also.1 w.whole)
one_fault place bytes (NoSuchString at m) (NoSuchString other n) is also =
    ap (λ p. NoSuchString p m) (is.0 ∙ sym also.0) ∙ ap (NoSuchString other) (one_name bytes m n is.1 also.1)
one_fault place bytes (NoSuchString at m) NoEnd is also =
    let w = is.1 in
    absurd (no_bytes_whole bytes w.type_of w.handle w.area w.strings also w.whole)
one_fault place bytes NoEnd (Truncated other) is also = absurd (also.1 is)
one_fault place bytes NoEnd (ShortStructure other) is also = absurd (no_bytes_short bytes is also.1)
one_fault place bytes NoEnd (NoSuchString other n) is also =
    let w = also.1 in
    absurd (no_bytes_whole bytes w.type_of w.handle w.area w.strings is w.whole)
one_fault place bytes NoEnd NoEnd is also = refl
one_fault place bytes OutOfMemory g is also = absurd is
one_fault place bytes f OutOfMemory is also = absurd also

-- a structure names no string that it doesn't have
no_name : (bytes first rest : List ℕ) (kind : ℕ) (s : Structure) (n : ℕ) → bytes ≡ first ++ rest → IsStructure first kind s
    → NamesNoString bytes n → ⊥
no_name bytes first rest kind s n split is missing =
    let whole = structure_whole bytes first rest kind s split is in
    let parts = same_whole bytes kind missing.type_of s.handle missing.handle is.area missing.area is.strings missing.strings whole missing.whole in
    let body : IsBody missing.type_of missing.area missing.strings s.body =
    subst (λ strings. IsBody missing.type_of missing.area strings s.body) parts.strings
    (subst (λ area. IsBody missing.type_of area is.strings s.body) parts.areas (subst (λ k. IsBody k is.area is.strings s.body) parts.kinds is.body)) in
    none_missing missing.type_of missing.kind missing.area missing.strings s.body n missing.known body missing.missing

pub no_fault : (place : ℕ) (bytes first rest : List ℕ) (kind : ℕ) (s : Structure) (fault : SmbiosFault) → bytes ≡ first ++ rest
    → IsStructure first kind s → IsFault place bytes fault → ⊥
no_fault place bytes first rest kind s (Truncated at) split is fault =
    fault.3 kind s.handle is.area is.strings (structure_whole bytes first rest kind s split is)
no_fault place bytes first rest kind s (ShortStructure at) split is fault =
    no_short_whole bytes kind s.handle is.area is.strings fault.1 (structure_whole bytes first rest kind s split is)
no_fault place bytes first rest kind s (NoSuchString at n) split is fault = no_name bytes first rest kind s n split is fault.1
no_fault place bytes first rest kind s NoEnd split is fault =
    no_bytes_whole bytes kind s.handle is.area is.strings fault (structure_whole bytes first rest kind s split is)
no_fault place bytes first rest kind s OutOfMemory split is fault = absurd fault
