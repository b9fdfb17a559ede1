-- A file some of whose holes are filled, while the commands for the others are still to come.
use Rattle.std.proofs.Common.{◌≡◌, ℕ, ◌+◌, ◌^◌, ◌<◌, ◌≤◌, ◌⊎◌, ◌≢◌, inl, inr, List, [], ◌∷◌, length, map, slice_index, arith, refl}
use Rattle.std.proofs.Common.{ap, ap₂, sym, subst, ◌∙◌, length-set, get_or-set_other}
use Rattle.std.specs.List.{AllByRecursion}
use Rattle.vt_bytes.specs.Numbers.{le, byte_sum}
use Rattle.vt_bytes.specs.Parts.{part}
use Rattle.vt_bytes.proofs.Each.{each_weaker, each_from}
use Rattle.vt_layout.specs.Rows.{IsPointerSize}
use Rattle.vt_outside.specs.Placement.{Apart}
use Rattle.blob_holes.specs.declared.hole.PointerHole.{PointerHole}
use Rattle.blob_holes.specs.declared.hole.SumHole.{SumHole}
use Rattle.blob_holes.specs.Blob.{BlobState, IsBlob, IsOutsideField, ArePointers, AreSums}
use Rattle.blob_holes.specs.Filled.{IsSolid, IsFilled}
use Rattle.blob_holes.proofs.Put.{part_same}
use Rattle.blob_holes.proofs.Pointers.{put_number, number_in, length-put_number, index-put_number, number-put_number}
use Rattle.blob_holes.proofs.Sums.{IsOther, one_summed, summed}
use Rattle.loader_script.specs.declared.entry.Entry.{Entry}
use Rattle.image_files.specs.Script.{add_pointer, add_checksum}
use Rattle.image_files.specs.Orders.{IsAmong, bytes_from, Leaves, MayPrecede}
use Rattle.image_files.proofs.Among.{IsOneOf, of_one, of_among, each_before_map}

-- the state of a pointer hole: its number is the blob's and its command is still to come, or it is filled and left as it is
abbrev pub IsPointerBut : List Entry → List ℕ → List ℕ → (List ℕ → ℕ) → List ℕ → PointerHole → Type 0
IsPointerBut rest name was place_of bytes hole =
    (IsAmong rest (add_pointer name hole) × (number_in bytes hole ≡ number_in was hole))
    ⊎ ((number_in bytes hole ≡ number_in was hole + place_of hole.target) × AllByRecursion (Leaves name (bytes_from hole.at hole.size)) rest)

-- the state of a sum hole: its command is still to come, or its range sums to zero and is left as it is
abbrev pub IsSumBut : List Entry → List ℕ → List ℕ → SumHole → Type 0
IsSumBut rest name bytes hole =
    IsAmong rest (add_checksum name hole)
    ⊎ ((byte_sum (part bytes hole.start hole.length) ≡ 0) × AllByRecursion (Leaves name (bytes_from hole.start hole.length)) rest)

-- The bytes are the blob of a file of this name with its holes filled, but for those whose commands are still to come.
pub record IsFilledBut (rest : List Entry) (name : List ℕ) (blob : BlobState) (place_of : List ℕ → ℕ) (bytes : List ℕ) : Type 0 where
  pub size : length bytes ≡ length blob.bytes
  pub solid : (place : ℕ) → IsSolid blob place → slice_index bytes place ≡ slice_index blob.bytes place
  pub pointers : AllByRecursion (IsPointerBut rest name blob.bytes place_of bytes) blob.pointers
  pub sums : AllByRecursion (IsSumBut rest name bytes) blob.sums

-- at first no hole is filled
pub filled-start : (commands : List Entry) (name : List ℕ) (blob : BlobState) (place_of : List ℕ → ℕ)
    → AllByRecursion (IsAmong commands) (map (add_pointer name) blob.pointers) → AllByRecursion (IsAmong commands) (map (add_checksum name) blob.sums)
    → IsFilledBut commands name blob place_of blob.bytes
filled-start commands name blob place_of pointers sums = record {
  size = refl;
  solid = λ place solid. refl;
  pointers = each_weaker (λ (hole : PointerHole). IsAmong commands (add_pointer name hole)) (IsPointerBut commands name blob.bytes place_of blob.bytes)
      (λ hole among. inl (among, refl)) blob.pointers (each_before_map (IsAmong commands) (add_pointer name) blob.pointers pointers);
  sums = each_weaker (λ (hole : SumHole). IsAmong commands (add_checksum name hole)) (IsSumBut commands name blob.bytes)
      (λ hole among. inl among) blob.sums (each_before_map (IsAmong commands) (add_checksum name) blob.sums sums);
}

-- at last each is
pub filled-end : (name : List ℕ) (blob : BlobState) (place_of : List ℕ → ℕ) (bytes : List ℕ) → IsFilledBut [] name blob place_of bytes
    → IsFilled blob place_of bytes
filled-end name blob place_of bytes filled = record {
  size = filled.size;
  solid = filled.solid;
  pointers = each_weaker (IsPointerBut [] name blob.bytes place_of bytes)
      (λ (hole : PointerHole). number_in bytes hole ≡ number_in blob.bytes hole + place_of hole.target)
      (λ hole state. elim state [ inl still ↦ absurd still.0 | inr done ↦ done.0 ]) blob.pointers filled.pointers;
  sums = each_weaker (IsSumBut [] name bytes) (λ (hole : SumHole). byte_sum (part bytes hole.start hole.length) ≡ 0)
      (λ hole state. elim state [ inl still ↦ absurd still | inr done ↦ done.0 ]) blob.sums filled.sums;
}

-- a command for two pointer holes is for one hole
same_pointer : (name other : List ℕ) (a b : PointerHole) → add_pointer name a ≡ add_pointer other b → a ≡ b
same_pointer name other a b same =
    let at : a.at ≡ b.at = cc in
    let size : a.size ≡ b.size = cc in
    let target : a.target ≡ b.target = cc in
    ap₂ (λ at size. record { at = at; size = size; target = a.target }) at size ∙ ap (λ target. record { at = b.at; size = b.size; target = target }) target

-- and one for two sum holes
same_sum : (name other : List ℕ) (a b : SumHole) → add_checksum name a ≡ add_checksum other b → a ≡ b
same_sum name other a b same =
    let at : a.at ≡ b.at = cc in
    let start : a.start ≡ b.start = cc in
    let count : a.length ≡ b.length = cc in
    ap₂ (λ at start. record { at = at; start = start; length = a.length }) at start
    ∙ ap (λ count. record { at = b.at; start = b.start; length = count }) count

-- no command is for holes of both kinds
pub not_both : (name other : List ℕ) (hole : PointerHole) (sum : SumHole) → add_pointer name hole ≡ add_checksum other sum → ⊥
not_both name other hole sum same = cc

-- a command for a pointer hole names its file
pub pointer_name : (name other : List ℕ) (a b : PointerHole) → add_pointer name a ≡ add_pointer other b → name ≡ other
pointer_name name other a b same = cc

-- and so does one for a sum hole
pub sum_name : (name other : List ℕ) (a b : SumHole) → add_checksum name a ≡ add_checksum other b → name ≡ other
sum_name name other a b same = cc

-- a command that is for no hole of a file leaves the file as it is
pub filled-other : (command : Entry) (rest : List Entry) (name : List ℕ) (blob : BlobState) (place_of : List ℕ → ℕ) (bytes : List ℕ)
    → ((hole : PointerHole) → command ≡ add_pointer name hole → ⊥) → ((hole : SumHole) → command ≡ add_checksum name hole → ⊥)
    → IsFilledBut (command ∷ rest) name blob place_of bytes → IsFilledBut rest name blob place_of bytes
filled-other command rest name blob place_of bytes no_pointer no_sum filled = record {
  size = filled.size;
  solid = filled.solid;
  pointers = each_weaker (IsPointerBut (command ∷ rest) name blob.bytes place_of bytes) (IsPointerBut rest name blob.bytes place_of bytes)
      (λ hole state. elim state as (λ _. IsPointerBut rest name blob.bytes place_of bytes hole) [
        | inl still ↦ elim still.0 as (λ _. IsPointerBut rest name blob.bytes place_of bytes hole) [
          | inl is ↦ absurd (no_pointer hole is)
          | inr later ↦ inl (later, still.1)
        ]
        | inr done ↦ inr (done.0, done.1.1)
      ]) blob.pointers filled.pointers;
  sums = each_weaker (IsSumBut (command ∷ rest) name bytes) (IsSumBut rest name bytes)
      (λ hole state. elim state as (λ _. IsSumBut rest name bytes hole) [
        | inl still ↦ elim still as (λ _. IsSumBut rest name bytes hole) [ inl is ↦ absurd (no_sum hole is) | inr later ↦ inl later ]
        | inr done ↦ inr (done.0, done.1.1)
      ]) blob.sums filled.sums;
}

-- a part that is apart from the field stays
part-number : (bytes : List ℕ) (hole : PointerHole) (number start count : ℕ) → hole.at + hole.size ≤ length bytes
    → Apart (bytes_from start count) (bytes_from hole.at hole.size) → part (put_number bytes hole number) start count ≡ part bytes start count
part-number bytes hole number start count within apart =
    part_same (put_number bytes hole number) bytes start count (length-put_number bytes hole number within) (λ place from below.
    let outside : IsOutsideField place hole = elim apart [ inl a ↦ inl (omega arith) | inr a ↦ inr (omega arith) ] in
    index-put_number bytes hole number place within outside)

-- a part that is apart from a sum's byte stays when the sum is subtracted
part-summed : (bytes : List ℕ) (hole : SumHole) (start count : ℕ) → Apart (bytes_from start count) (bytes_from hole.at 1)
    → part (one_summed bytes hole) start count ≡ part bytes start count
part-summed bytes hole start count apart =
    part_same (one_summed bytes hole) bytes start count (length-set bytes hole.at _) (λ place from below.
    let other : place ≢ hole.at = elim apart [ inl a ↦ omega arith | inr a ↦ omega arith ] in
    get_or-set_other bytes hole.at place _ 0 other)

-- what is known of a pointer hole of a file: it has a pointer's size, and its field is in the file
pub pointer_within : (bytes : List ℕ) (holes : List PointerHole) (hole : PointerHole) → IsOneOf holes hole → ArePointers bytes holes
    → IsPointerSize hole.size × (hole.at + hole.size ≤ length bytes)
pointer_within bytes [] hole one are = absurd one
pointer_within bytes (first ∷ holes) hole one are =
    elim one as (λ _. IsPointerSize hole.size × (hole.at + hole.size ≤ length bytes)) [
      | inl is ↦ subst (λ (h : PointerHole). IsPointerSize h.size × (h.at + h.size ≤ length bytes)) is (are.0, are.1)
      | inr later ↦ pointer_within bytes holes hole later are.3
    ]

-- what is known of a sum hole of a file: its range is in the file, and its byte in its range
pub sum_within : (bytes : List ℕ) (holes : List SumHole) (hole : SumHole) → IsOneOf holes hole → AreSums bytes holes
    → (hole.start + hole.length ≤ length bytes) × (hole.start ≤ hole.at) × (hole.at < hole.start + hole.length)
sum_within bytes [] hole one are = absurd one
sum_within bytes (first ∷ holes) hole one are =
    elim one as (λ _. (hole.start + hole.length ≤ length bytes) × (hole.start ≤ hole.at) × (hole.at < hole.start + hole.length)) [
      | inl is ↦ subst (λ (h : SumHole). (h.start + h.length ≤ length bytes) × (h.start ≤ h.at) × (h.at < h.start + h.length)) is (are.0, are.1, are.2)
      | inr later ↦ sum_within bytes holes hole later are.4
    ]

-- A pointer of a file that is to be added: its hole is one of the file's, and no later command writes into its field.
module _ (rest : List Entry) (name : List ℕ) (blob : BlobState) (place_of : List ℕ → ℕ) (bytes : List ℕ) (hole : PointerHole) (kept : IsBlob blob)
    (one : IsOneOf blob.pointers hole) (first : AllByRecursion (MayPrecede (add_pointer name hole)) rest)
    (filled : IsFilledBut (add_pointer name hole ∷ rest) name blob place_of bytes) where
  -- its field is in the bytes
  pub pointer_in_bytes : hole.at + hole.size ≤ length bytes
  pointer_in_bytes =
      let within = (pointer_within blob.bytes blob.pointers hole one kept.pointers).1 in
      omega (arith, filled.size)

  -- its number still is the blob's
  pub pointer_still : number_in bytes hole ≡ number_in blob.bytes hole
  pointer_still =
      let sized = (pointer_within blob.bytes blob.pointers hole one kept.pointers).0 in
      elim (of_one (IsPointerBut (add_pointer name hole ∷ rest) name blob.bytes place_of bytes) blob.pointers hole one filled.pointers) [
        | inl still ↦ still.1
        | inr done ↦
            let apart : Apart (bytes_from hole.at hole.size) (bytes_from hole.at hole.size) = done.1.0 refl in
            let some : 0 < hole.size = omega (arith, sized) in
            absurd (elim apart as (λ _. ⊥) [ inl a ↦ omega arith | inr a ↦ omega arith ])
      ]

  -- each pointer hole is as far as is said once it is added
  pointer_moves : number_in blob.bytes hole + place_of hole.target < 256 ^ hole.size → (other : PointerHole)
      → IsPointerBut (add_pointer name hole ∷ rest) name blob.bytes place_of bytes other
      → IsPointerBut rest name blob.bytes place_of (put_number bytes hole (number_in bytes hole + place_of hole.target)) other
  pointer_moves fits other state =
      let number : ℕ = number_in bytes hole + place_of hole.target in
      let after : List ℕ = put_number bytes hole (number_in bytes hole + place_of hole.target) in
      elim state as (λ _. IsPointerBut rest name blob.bytes place_of after other) [
        | inl still ↦ elim still.0 as (λ _. IsPointerBut rest name blob.bytes place_of after other) [
          | inl is ↦
              let fits_now : number < 256 ^ hole.size =
              subst (λ n. n + place_of hole.target < 256 ^ hole.size) (sym pointer_still) fits in
              let done : number_in after hole ≡ number_in blob.bytes hole + place_of hole.target =
              number-put_number bytes hole number pointer_in_bytes fits_now ∙ ap (λ n. n + place_of hole.target) pointer_still in
              let state : IsPointerBut rest name blob.bytes place_of after hole = inr (done, first) in
              subst (IsPointerBut rest name blob.bytes place_of after) (same_pointer name name hole other is) state
          | inr later ↦
              let apart : Apart (bytes_from hole.at hole.size) (bytes_from other.at other.size) =
              of_among (MayPrecede (add_pointer name hole)) rest (add_pointer name other) later first refl in
              let turned : Apart (bytes_from other.at other.size) (bytes_from hole.at hole.size) = elim apart [ inl a ↦ inr a | inr a ↦ inl a ] in
              inl (later, ap le (part-number bytes hole number other.at other.size pointer_in_bytes turned) ∙ still.1)
        ]
        | inr done ↦ inr (ap le (part-number bytes hole number other.at other.size pointer_in_bytes (done.1.0 refl)) ∙ done.0, done.1.1)
      ]

  -- and so is each sum hole
  pointer_sums : (number : ℕ) (other : SumHole) → IsSumBut (add_pointer name hole ∷ rest) name bytes other
      → IsSumBut rest name (put_number bytes hole number) other
  pointer_sums number other state =
      elim state as (λ _. IsSumBut rest name (put_number bytes hole number) other) [
        | inl still ↦ elim still as (λ _. IsSumBut rest name (put_number bytes hole number) other) [
          | inl is ↦ absurd (not_both name name hole other is)
          | inr later ↦ inl later
        ]
        | inr done ↦ inr (ap byte_sum (part-number bytes hole number other.start other.length pointer_in_bytes (done.1.0 refl)) ∙ done.0, done.1.1)
      ]

  -- the file with this pointer added
  pub pointer_filled : number_in blob.bytes hole + place_of hole.target < 256 ^ hole.size
      → IsFilledBut rest name blob place_of (put_number bytes hole (number_in bytes hole + place_of hole.target))
  pointer_filled fits = record {
    size = length-put_number bytes hole _ pointer_in_bytes ∙ filled.size;
    solid = λ place solid. index-put_number bytes hole _ place pointer_in_bytes (of_one (IsOutsideField place) blob.pointers hole one solid.fields)
        ∙ filled.solid place solid;
    pointers = each_weaker (IsPointerBut (add_pointer name hole ∷ rest) name blob.bytes place_of bytes)
        (IsPointerBut rest name blob.bytes place_of (put_number bytes hole (number_in bytes hole + place_of hole.target)))
        (pointer_moves fits) blob.pointers filled.pointers;
    sums = each_weaker (IsSumBut (add_pointer name hole ∷ rest) name bytes)
        (IsSumBut rest name (put_number bytes hole (number_in bytes hole + place_of hole.target)))
        (pointer_sums (number_in bytes hole + place_of hole.target)) blob.sums filled.sums;
  }

-- A sum of a file that is to be subtracted: its hole is one of the file's, and no later command writes into its range.
module _ (rest : List Entry) (name : List ℕ) (blob : BlobState) (place_of : List ℕ → ℕ) (bytes : List ℕ) (hole : SumHole) (kept : IsBlob blob)
    (one : IsOneOf blob.sums hole) (first : AllByRecursion (MayPrecede (add_checksum name hole)) rest)
    (filled : IsFilledBut (add_checksum name hole ∷ rest) name blob place_of bytes) where
  -- its range and its byte are in the bytes
  pub sum_in_bytes : (hole.start + hole.length ≤ length bytes) × (hole.start ≤ hole.at) × (hole.at < hole.start + hole.length)
  sum_in_bytes =
      let within = sum_within blob.bytes blob.sums hole one kept.sums in
      (omega (arith, filled.size), within.1, within.2)

  -- its range then sums to zero
  sum_zero : byte_sum (part (one_summed bytes hole) hole.start hole.length) ≡ 0
  sum_zero = (summed bytes (hole ∷ []) (sum_in_bytes.0, sum_in_bytes.1, sum_in_bytes.2, tt, tt) (tt, tt)).0

  -- each sum hole is as far as is said once it is subtracted
  sum_moves : (other : SumHole) → IsSumBut (add_checksum name hole ∷ rest) name bytes other → IsSumBut rest name (one_summed bytes hole) other
  sum_moves other state =
      elim state as (λ _. IsSumBut rest name (one_summed bytes hole) other) [
        | inl still ↦ elim still as (λ _. IsSumBut rest name (one_summed bytes hole) other) [
          | inl is ↦
              let done : IsSumBut rest name (one_summed bytes hole) hole = inr (sum_zero, first) in
              subst (IsSumBut rest name (one_summed bytes hole)) (same_sum name name hole other is) done
          | inr later ↦ inl later
        ]
        | inr done ↦ inr (ap byte_sum (part-summed bytes hole other.start other.length (done.1.0 refl)) ∙ done.0, done.1.1)
      ]

  -- and so is each pointer hole
  sum_pointers : (other : PointerHole) → IsOutsideField hole.at other
      → IsPointerBut (add_checksum name hole ∷ rest) name blob.bytes place_of bytes other
      → IsPointerBut rest name blob.bytes place_of (one_summed bytes hole) other
  sum_pointers other outside state =
      let apart : Apart (bytes_from other.at other.size) (bytes_from hole.at 1) = elim outside [ inl a ↦ inr (omega arith) | inr a ↦ inl (omega arith) ] in
      let same : number_in (one_summed bytes hole) other ≡ number_in bytes other = ap le (part-summed bytes hole other.at other.size apart) in
      elim state as (λ _. IsPointerBut rest name blob.bytes place_of (one_summed bytes hole) other) [
        | inl still ↦ elim still.0 as (λ _. IsPointerBut rest name blob.bytes place_of (one_summed bytes hole) other) [
          | inl is ↦ absurd (not_both name name other hole (sym is))
          | inr later ↦ inl (later, same ∙ still.1)
        ]
        | inr done ↦ inr (same ∙ done.0, done.1.1)
      ]

  -- the file with this sum subtracted
  pub sum_filled : IsFilledBut rest name blob place_of (one_summed bytes hole)
  sum_filled = record {
    size = length-set bytes hole.at _ ∙ filled.size;
    solid = λ place solid.
        let apart = of_one (IsOther place) blob.sums hole one solid.sum_bytes in
        let other : place ≢ hole.at = omega arith in
        get_or-set_other bytes hole.at place _ 0 other ∙ filled.solid place solid;
    pointers = each_from (IsOutsideField hole.at) (IsPointerBut (add_checksum name hole ∷ rest) name blob.bytes place_of bytes)
        (IsPointerBut rest name blob.bytes place_of (one_summed bytes hole)) sum_pointers blob.pointers
        (of_one (λ (sum : SumHole). AllByRecursion (IsOutsideField sum.at) blob.pointers) blob.sums hole one kept.apart) filled.pointers;
    sums = each_weaker (IsSumBut (add_checksum name hole ∷ rest) name bytes) (IsSumBut rest name (one_summed bytes hole)) sum_moves blob.sums filled.sums;
  }
