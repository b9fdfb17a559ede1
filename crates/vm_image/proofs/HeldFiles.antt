-- Memories that hold placed files: one that a load has left, and one that agrees on the files with one that holds them.
use Rattle.std.proofs.Common.{◌≡◌, ℕ, ◌+◌, ◌<◌, ◌≤◌, ◌⊎◌, inl, inr, List, [], ◌∷◌, length, arith, refl, ap, sym, ◌∙◌}
use Rattle.std.proofs.lemmas.Bool.{cases_lt}
use Rattle.vt_bytes.specs.declared.memory.AddressRange.{AddressRange}
use Rattle.vt_bytes.specs.Memory.{Memory, IsInOne, IsRam, ram_ranges, byte_in, at, seen}
use Rattle.vt_bytes.proofs.Bytes.{bytes_at-same}
use Rattle.vt_bytes.proofs.Ranges.{IsBeside, byte_later}
use Rattle.loader_script.specs.Run.{Placed}
use Rattle.loader_script.specs.Left.{Holds}
use Rattle.vm_image.specs.Promised.{IsInside, HoldsFiles, AgreeOnFiles}

-- the BIOS area is RAM
bios_ram : (top address : ℕ) → 0xE0000 ≤ address → address < 0x100000 → IsRam top address
bios_ram top address from below = inr (inl (from, below))

-- each byte at the address is 0, whatever parts the ranges have
abbrev IsZeroAt : List AddressRange → ℕ → Type 0
IsZeroAt ranges address = (parts : List (List ℕ)) → byte_in ranges parts address ≡ 0

-- one more range that the address is beside
zero_later : (range : AddressRange) (ranges : List AddressRange) (address : ℕ) → IsBeside range address → IsZeroAt ranges address
    → (parts : List (List ℕ)) → byte_in (range ∷ ranges) parts address ≡ 0
unfolding byte_in
zero_later range ranges address beside zero [] = refl
zero_later range ranges address beside zero (part ∷ parts) = byte_later range ranges part parts address beside ∙ zero parts

-- an address is in one of the ranges, or has the byte 0
in_one_or_zero : (ranges : List AddressRange) (address : ℕ) → IsInOne ranges address ⊎ IsZeroAt ranges address
unfolding byte_in
in_one_or_zero [] address = inr (λ parts. refl)
in_one_or_zero (range ∷ ranges) address = elim (in_one_or_zero ranges address) as (λ _. IsInOne (range ∷ ranges) address
    ⊎ IsZeroAt (range ∷ ranges) address) [
      | inl later ↦ inl (inr later)
      | inr zero ↦ elim (cases_lt address range.start) as (λ _. IsInOne (range ∷ ranges) address ⊎ IsZeroAt (range ∷ ranges) address) [
        | inl before ↦ inr (zero_later range ranges address (inl before) zero)
        | inr from ↦ elim (cases_lt address range.end) as (λ _. IsInOne (range ∷ ranges) address ⊎ IsZeroAt (range ∷ ranges) address) [
          | inl below ↦ inl (inl (from, below))
          | inr past ↦ inr (zero_later range ranges address (inr past) zero)
        ]
      ]
    ]

-- memories of one top that agree on a RAM address agree there in any case
agree_anyhow : (memory other : Memory) (address : ℕ) → other.top ≡ memory.top
    → (IsRam memory.top address → at other address ≡ at memory address) → at other address ≡ at memory address
agree_anyhow memory other address top same = elim (in_one_or_zero (ram_ranges memory.top) address) as (λ _. at other address ≡ at memory address) [
  | inl ram ↦ same ram
  | inr zero ↦
      ap (λ t. byte_in (ram_ranges t) other.parts address) top ∙ zero other.parts ∙ sym (zero memory.parts)
]

-- files that stand in one memory stand in another one that has the same bytes in them
files_alike : (memory other : Memory) (placed : List Placed)
    → ((address : ℕ) → IsInside placed address → at other address ≡ at memory address) → Holds memory placed → Holds other placed
files_alike memory other [] same held = tt
files_alike memory other (p ∷ placed) same held = (
  bytes_at-same other memory p.place (length p.bytes) (λ i below. same (p.place + i) (inl (omega arith, omega arith))) ∙ held.0,
  files_alike memory other placed (λ address inside. same address (inr inside)) held.1,
)

-- so a memory that agrees on the files with one that holds them holds them too, as one of the same fill byte
pub held_alike : (memory other : Memory) (placed : List Placed) → HoldsFiles memory placed → AgreeOnFiles memory other placed
    → HoldsFiles (record other { fill = memory.fill }) placed
unfolding seen
held_alike memory other placed held agree = record {
  files = files_alike memory (record other { fill = memory.fill }) placed
      (λ address inside. agree_anyhow memory other address agree.top (λ ram. agree.bytes address ram (inr inside))) held.files;
  bios = λ address from below outside.
      agree.bytes address (bios_ram memory.top address from below) (inl (from, below)) ∙ held.bios address from below outside;
  alone = agree.alone;
}
