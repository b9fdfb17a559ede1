-- Where a mark of two different bytes can stand in the part of memory that a guest searches: in a file of the F segment alone.
use Rattle.std.proofs.Common.{◌≡◌, ℕ, ◌+◌, ◌%◌, ◌<◌, ◌≤◌, ◌⊎◌, inl, inr, List, length, Some, None, arith, sym, ◌∙◌}
use Rattle.std.specs.Prelude.{IfSome}
use Rattle.std.specs.List.{AllByRecursion}
use Rattle.std.proofs.lemmas.Bool.{cases_lt}
use Rattle.vt_bytes.specs.Memory.{Memory, at}
use Rattle.vt_bytes.proofs.Each.{each_weaker}
use Rattle.loader_script.specs.Run.{Placed}
use Rattle.image_files.specs.declared.file.Placing.{Placing}
use Rattle.image_files.specs.Files.{ImageFile}
use Rattle.image_files.specs.Linked.{AreLinked}
use Rattle.vm_image.specs.Promised.{HoldsFiles}
use Rattle.vm_image.proofs.Named.{places_by}
use Rattle.vm_image.proofs.Standing.{IsBeside, outside}

-- Two bytes with which something begins that a guest looks for, at multiples of 16 from 0xE0000 below a limit.
pub record Mark : Type 0 where
  pub first : ℕ
  pub second : ℕ
  pub limit : ℕ

-- the mark stands at an address where a guest looks for it
pub record HasMark (m : Memory) (mark : Mark) (address : ℕ) : Type 0 where
  pub aligned : address % 16 ≡ 0
  pub below : address < mark.limit
  pub first : at m address ≡ mark.first
  pub second : at m (address + 1) ≡ mark.second

-- a file of so many bytes stands at a multiple of 16, and in it there is no mark
pub record IsClear (m : Memory) (mark : Mark) (place size : ℕ) : Type 0 where
  pub aligned : place % 16 ≡ 0
  pub none : (address : ℕ) → place ≤ address → address < place + size → HasMark m mark address → ⊥

-- the same of a file that is placed
abbrev pub IsClearFile : Memory → Mark → (List ℕ → ℕ) → ImageFile → Type 0
IsClearFile m mark place_of file = IfSome file.placing (λ (placing : Placing). IsClear m mark (place_of file.name) (length file.blob.bytes))

-- an address is in front of a range of so many bytes or behind it
abbrev IsBesideRange : ℕ → ℕ → ℕ → Type 0
IsBesideRange place size address = (address < place) ⊎ (place + size ≤ address)

-- a mark's two bytes are beside a range in which there is none: ranges begin at multiples of 16, as the mark does
beside_range : (m : Memory) (mark : Mark) (place size address : ℕ) → IsClear m mark place size → HasMark m mark address
    → IsBesideRange place size address × IsBesideRange place size (address + 1)
beside_range m mark place size address clear has =
    elim (cases_lt address place) as (λ _. IsBesideRange place size address × IsBesideRange place size (address + 1)) [
      | inl before ↦ (inl before, inl (omega (arith, clear.aligned, has.aligned)))
      | inr from ↦
          elim (cases_lt address (place + size)) as (λ _. IsBesideRange place size address × IsBesideRange place size (address + 1)) [
            | inl below ↦ absurd (clear.none address from below has)
            | inr behind ↦ (inr behind, inr (omega arith))
          ]
    ]

-- so they are beside a file
beside_file : (m : Memory) (mark : Mark) (place_of : List ℕ → ℕ) (file : ImageFile) (address : ℕ) → IsClearFile m mark place_of file
    → HasMark m mark address → IsBeside place_of address file × IsBeside place_of (address + 1) file
beside_file m mark place_of file address clear has =
    elim file.placing as (λ placing. IfSome placing (λ (p : Placing). IsClear m mark (place_of file.name) (length file.blob.bytes))
    → IfSome placing (λ (p : Placing). IsBesideRange (place_of file.name) (length file.blob.bytes) address)
    × IfSome placing (λ (p : Placing). IsBesideRange (place_of file.name) (length file.blob.bytes) (address + 1))) [
      | None ↦ λ clear. (tt, tt)
      | Some p ↦ λ clear. beside_range m mark (place_of file.name) (length file.blob.bytes) address clear has
    ] clear

-- No mark of two different bytes stands where each file is clear: beside the files both bytes are the fill byte, as is all else of
-- the BIOS area, and thus equal, whatever byte that is.
pub no_mark : (m : Memory) (mark : Mark) (place_of : List ℕ → ℕ) (files : List ImageFile) (places : List ℕ) (placed : List Placed)
    → AreLinked place_of files places placed → places ≡ places_by place_of files → HoldsFiles m placed
    → (mark.first ≡ mark.second → ⊥) → mark.limit ≤ 0x100000 → AllByRecursion (IsClearFile m mark place_of) files
    → (address : ℕ) → 0xE0000 ≤ address → HasMark m mark address → ⊥
no_mark m mark place_of files places placed linked named held differ within clear address from has =
    let below : address < mark.limit = has.below in
    let aligned : address % 16 ≡ 0 = has.aligned in
    let beside = each_weaker (IsClearFile m mark place_of) (IsBeside place_of address)
    (λ file is. (beside_file m mark place_of file address is has).0) files clear in
    let also_beside = each_weaker (IsClearFile m mark place_of) (IsBeside place_of (address + 1))
    (λ file is. (beside_file m mark place_of file address is has).1) files clear in
    let first : at m address ≡ m.fill = held.bios address from (omega arith)
    (outside place_of files places placed address linked named beside) in
    let second : at m (address + 1) ≡ m.fill = held.bios (address + 1) (omega arith) (omega arith)
    (outside place_of files places placed (address + 1) linked named also_beside) in
    differ (sym has.first ∙ first ∙ sym second ∙ has.second)
