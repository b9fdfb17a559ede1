-- Bytes begin with one list of structures, or have one first fault, and not both.
use Rattle.std.proofs.Common.{◌≡◌, ℕ, ◌+◌, List, [], ◌∷◌, ◌++◌, length, Result, Ok, Err, IfOk, IfErr, ◌⊎◌, inl, inr, ⊎_elim, length-append, arith, ap}
use Rattle.std.proofs.Common.{sym, ◌∙◌, subst, append_assoc}
use Rattle.smbios_model.specs.declared.smbios.Structure.{Structure}
use Rattle.smbios_model.specs.Smbios.{AreStructures}
use Rattle.smbios_model.proofs.OneStructure.{one_structure}
use Rattle.smbios_model.proofs.OneStructures.{one_list_of_structures}
use Rattle.smbios_decode.specs.declared.fault.SmbiosFault.{SmbiosFault}
use Rattle.smbios_decode.specs.declared.fault.SmbiosFault.TheVariants.{OutOfMemory}
use Rattle.smbios_decode.specs.Faults.{AreRefused, IsRead, IsRefused, Means, OrNoMemory}
use Rattle.smbios_decode.proofs.OneFault.{one_fault, no_fault}

-- one fault is the first
one_refusal : (place : ℕ) (bytes : List ℕ) (ss ts : List Structure) (f g : SmbiosFault) → AreRefused place bytes ss f → AreRefused place bytes ts g
    → f ≡ g
one_refusal place bytes [] [] f g is also = one_fault place bytes f g is also
one_refusal place bytes [] (t ∷ ts) f g is (front, left, sort, parted, another, told, more) =
    absurd (no_fault place bytes front left sort t f parted told is)
one_refusal place bytes (s ∷ ss) [] f g (first, rest, kind, split, other, one, others) also =
    absurd (no_fault place bytes first rest kind s g split one also)
one_refusal place bytes (s ∷ ss) (t ∷ ts) f g (first, rest, kind, split, other, one, others) (front, left, sort, parted, another, told, more) =
    let same : first ++ rest ≡ front ++ left = sym split ∙ parted in
    let heads = one_structure kind sort s t first front rest left one told same in
    let long : length front ≡ length first =
    omega (arith, ap length same, ap length heads.rests, length-append first rest, length-append front left) in
    let there : AreRefused (place + length first) rest ts g =
    subst (λ n. AreRefused (place + n) rest ts g) long (subst (λ bs. AreRefused (place + length front) bs ts g) (sym heads.rests) more) in
    one_refusal (place + length first) rest ss ts f g others there

-- where structures stand up to the end of the table, there is no fault
none_refused : (ss ts : List Structure) (place : ℕ) (used unused bytes : List ℕ) (f : SmbiosFault) → bytes ≡ used ++ unused → AreStructures used ss
    → AreRefused place bytes ts f → ⊥
none_refused [] ts place used unused bytes f split is refused = absurd is
none_refused (s ∷ []) [] place used unused bytes f split is refused = no_fault place bytes used unused 127 s f split is refused
none_refused (s ∷ []) (t ∷ ts) place used unused bytes f split is (front, left, sort, parted, another, told, more) =
    another (sym (one_structure 127 sort s t used front unused left is told (sym split ∙ parted)).kinds)
none_refused (s ∷ next ∷ ss) [] place used unused bytes f split (first, rest, kind, divided, other, one, others) refused =
    no_fault place bytes first (rest ++ unused) kind s f (split ∙ ap (λ b. b ++ unused) divided ∙ append_assoc first rest unused) one refused
none_refused (s ∷ next ∷ ss) (t ∷ ts) place used unused bytes f split (first, rest, kind, divided, other, one, others)
    (front, left, sort, parted, another, told, more) =
    let whole : bytes ≡ first ++ (rest ++ unused) = split ∙ ap (λ b. b ++ unused) divided ∙ append_assoc first rest unused in
    let heads = one_structure kind sort s t first front (rest ++ unused) left one told (sym whole ∙ parted) in
    none_refused (next ∷ ss) ts (place + length front) rest unused left f (sym heads.rests) others more

pub one_meaning : (bytes : List ℕ) (a b : Result (List Structure) SmbiosFault) → Means bytes a → Means bytes b → a ≡ b
one_meaning bytes (Ok ss) (Ok ts) is also =
    ap Ok (one_list_of_structures ss ts is.used also.used is.unused also.unused is.listed also.listed (sym is.split ∙ also.split))
one_meaning bytes (Ok ss) (Err g) is also = absurd (none_refused ss also.0 0 is.used is.unused bytes g is.split is.listed also.1)
one_meaning bytes (Err f) (Ok ts) is also = absurd (none_refused ts is.0 0 also.used also.unused bytes f also.split also.listed is.1)
one_meaning bytes (Err f) (Err g) is also = ap Err (one_refusal 0 bytes is.0 also.0 f g is.1 also.1)

-- what bytes are read as is what they mean, unless memory runs out
pub as_meant : (bytes : List ℕ) (result meant : Result (List Structure) SmbiosFault) → IfOk result (λ structures. IsRead bytes structures)
    → IfErr result (λ fault. (fault ≡ OutOfMemory) ⊎ IsRefused bytes fault) → Means bytes meant → OrNoMemory result meant
as_meant bytes (Ok ss) meant read refused means = inl (one_meaning bytes (Ok ss) meant read means)
as_meant bytes (Err fault) meant read refused means =
    ⊎_elim (λ memory. inr (ap Err memory)) (λ is. inl (one_meaning bytes (Err fault) meant is means)) refused
