-- A memory with bytes put in it, and when two memories are equal.
use Rattle.std.proofs.Common.{◌≡◌, ℕ, ◌+◌, ◌-◌, ◌<◌, ◌≤◌, ◌⊎◌, inl, inr, List, [], ◌∷◌, ◌++◌, length, slice_index, arith, refl, ap}
use Rattle.std.proofs.Common.{sym, subst, ◌∙◌, length-append}
use Rattle.std.proofs.lemmas.Bool.{cases_lt}
use Rattle.std.proofs.lemmas.List.{get_or_append_left, get_or-append_right}
use Rattle.vt_bytes.specs.Memory.{Memory, IsTop, IsRam, IsRamRange, IsMemory, Fit, ram_ranges, byte_in, at, bytes_at, with_bytes, Puts, ShowTheSame}
use Rattle.vt_bytes.specs.Numbers.{le_bytes}
use Rattle.vt_bytes.proofs.Numbers.{length-le_bytes}
use Rattle.vt_bytes.proofs.Bytes.{bytes_at-each}
use Rattle.vt_bytes.proofs.Ranges.{Ascend, put_fits, same_parts, byte_put, byte_kept, put_in-none}

-- the RAM map stands in order, with gaps
pub map_ascends : (top : ℕ) → IsTop top → Ascend 0 (ram_ranges top)
map_ascends top lawful = (omega arith, omega arith, (omega arith, omega arith, (omega arith, omega arith, tt)))

-- memories that show the same are equal
pub same_memory : (m other : Memory) → IsMemory m → IsMemory other → ShowTheSame m other → m ≡ other
same_memory m other lawful others_lawful same =
    let fits : Fit (ram_ranges m.top) other.parts = subst (λ top. Fit (ram_ranges top) other.parts) same.top others_lawful.parts in
    let parts : m.parts ≡ other.parts = same_parts 0 (ram_ranges m.top) m.parts other.parts (map_ascends m.top lawful.top) lawful.parts fits
    (λ a ram. sym (same.bytes a ram) ∙ ap (λ top. byte_in (ram_ranges top) other.parts a) same.top) in
    let with_parts : List (List ℕ) → Memory = λ all. record { top = m.top; fill = m.fill; parts = all } in
    let with_top : ℕ → Memory = λ top. record { top = top; fill = m.fill; parts = other.parts } in
    let with_fill : ℕ → Memory = λ fill. record { top = other.top; fill = fill; parts = other.parts } in
    ap with_parts parts ∙ ap with_top (sym same.top) ∙ ap with_fill (sym same.fill)

-- a memory with bytes in it is lawful
pub lawful_with : (m : Memory) (address : ℕ) (bytes : List ℕ) → IsMemory m → IsMemory (with_bytes m address bytes)
lawful_with m address bytes lawful = record {
  top = lawful.top;
  parts = put_fits (ram_ranges m.top) m.parts address bytes lawful.parts;
}

-- one of the bytes that were put, all of them, and the others
pub byte_with : (m : Memory) (address : ℕ) (bytes : List ℕ) (i : ℕ) → IsMemory m → IsRamRange m.top address (length bytes) → i < length bytes
    → at (with_bytes m address bytes) (address + i) ≡ slice_index bytes i
byte_with m address bytes i lawful ram below =
    byte_put 0 (ram_ranges m.top) m.parts address bytes i (map_ascends m.top lawful.top) lawful.parts ram below

pub bytes_with : (m : Memory) (address : ℕ) (bytes : List ℕ) → IsMemory m → IsRamRange m.top address (length bytes)
    → bytes_at (with_bytes m address bytes) address (length bytes) ≡ bytes
bytes_with m address bytes lawful ram =
    bytes_at-each (with_bytes m address bytes) address bytes (λ i below. byte_with m address bytes i lawful ram below)

pub others_with : (m : Memory) (address : ℕ) (bytes : List ℕ) (a : ℕ) → IsMemory m → (a < address) ⊎ (address + length bytes ≤ a)
    → at (with_bytes m address bytes) a ≡ at m a
others_with m address bytes a lawful other = byte_kept (ram_ranges m.top) m.parts address bytes a lawful.parts other

-- all of it in one record
pub puts_with : (old new : Memory) (address : ℕ) (bytes : List ℕ) → IsMemory old → IsRamRange old.top address (length bytes)
    → new ≡ with_bytes old address bytes → Puts old new address bytes
puts_with old new address bytes lawful ram is = subst (λ m. Puts old m address bytes) (sym is) (record {
  top = refl;
  fill = refl;
  there = bytes_with old address bytes lawful ram;
  elsewhere = λ a _ other. others_with old address bytes a lawful other;
})

-- the same of one byte, and of a number
pub puts_byte_with : (old new : Memory) (address byte : ℕ) → IsMemory old → IsRam old.top address → new ≡ with_bytes old address (byte ∷ [])
    → Puts old new address (byte ∷ [])
puts_byte_with old new address byte lawful ram is =
    puts_with old new address (byte ∷ []) lawful
    (λ i below. let place : address ≡ address + i = omega arith in subst (IsRam old.top) place ram) is

pub puts_number_with : (old new : Memory) (address size number : ℕ) → IsMemory old → IsRamRange old.top address size
    → new ≡ with_bytes old address (le_bytes size number) → Puts old new address (le_bytes size number)
puts_number_with old new address size number lawful ram is =
    puts_with old new address (le_bytes size number) lawful (λ i below. ram i (omega (arith, length-le_bytes size number))) is

-- no bytes change nothing
pub with_none : (m : Memory) (address : ℕ) → with_bytes m address [] ≡ m
with_none m address = ap (λ (all : List (List ℕ)). record m { parts = all }) (put_in-none (ram_ranges m.top) m.parts address)

-- two runs of bytes, one after the other, at an address past their beginning
runs_agree : (m : Memory) (address : ℕ) (front back : List ℕ) (i : ℕ) → IsMemory m → IsRamRange m.top address (length (front ++ back))
    → at (with_bytes (with_bytes m address front) (address + length front) back) (address + i) ≡ at (with_bytes m address (front ++ back)) (address + i)
runs_agree m address front back i lawful ram =
    let size : length (front ++ back) ≡ length front + length back = length-append front back in
    let first = with_bytes m address front in
    let first_lawful = lawful_with m address front lawful in
    elim (cases_lt i (length front))
    as (λ _. at (with_bytes first (address + length front) back) (address + i) ≡ at (with_bytes m address (front ++ back)) (address + i)) [
      | inl in_front ↦ others_with first (address + length front) back (address + i) first_lawful (inl (omega arith))
          ∙ byte_with m address front i lawful (λ j below. ram j (omega arith)) in_front
          ∙ sym (byte_with m address (front ++ back) i lawful ram (omega arith) ∙ get_or_append_left front back 0 i in_front)
      | inr past_front ↦ elim (cases_lt i (length (front ++ back)))
          as (λ _. at (with_bytes first (address + length front) back) (address + i) ≡ at (with_bytes m address (front ++ back)) (address + i)) [
            | inl in_back ↦
                let place : address + i ≡ address + length front + (i - length front) = omega arith in
                let back_ram : IsRamRange m.top (address + length front) (length back) = λ j below.
                let there : address + (length front + j) ≡ address + length front + j = omega arith in
                subst (IsRam m.top) there (ram (length front + j) (omega arith)) in
                ap (at (with_bytes first (address + length front) back)) place
                ∙ byte_with first (address + length front) back (i - length front) first_lawful back_ram (omega arith)
                ∙ sym (byte_with m address (front ++ back) i lawful ram in_back ∙ get_or-append_right front back (length front) i 0 refl past_front)
            | inr past ↦ others_with first (address + length front) back (address + i) first_lawful (inr (omega arith))
                ∙ others_with m address front (address + i) lawful (inr (omega arith))
                ∙ sym (others_with m address (front ++ back) (address + i) lawful (inr (omega arith)))
          ]
    ]

-- runs of bytes put one after the other are one run
pub with_both : (m : Memory) (address : ℕ) (front back : List ℕ) → IsMemory m → IsRamRange m.top address (length (front ++ back))
    → with_bytes (with_bytes m address front) (address + length front) back ≡ with_bytes m address (front ++ back)
with_both m address front back lawful ram =
    let first = with_bytes m address front in
    let first_lawful = lawful_with m address front lawful in
    sym (same_memory (with_bytes m address (front ++ back)) (with_bytes first (address + length front) back)
    (lawful_with m address (front ++ back) lawful) (lawful_with first (address + length front) back first_lawful) (record {
      top = refl;
      fill = refl;
      bytes = λ a _. elim (cases_lt a address)
          as (λ _. at (with_bytes first (address + length front) back) a ≡ at (with_bytes m address (front ++ back)) a) [
            | inl before ↦ others_with first (address + length front) back a first_lawful (inl (omega arith))
                ∙ others_with m address front a lawful (inl before) ∙ sym (others_with m address (front ++ back) a lawful (inl before))
            | inr from ↦
                let place : a ≡ address + (a - address) = omega arith in
                ap (at (with_bytes first (address + length front) back)) place ∙ runs_agree m address front back (a - address) lawful ram
                ∙ ap (at (with_bytes m address (front ++ back))) (sym place)
          ];
    }))
