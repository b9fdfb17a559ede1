-- The bytes that are copied from an address on.
use Rattle.std.proofs.Common.{◌≡◌, ℕ, ◌+◌, ◌⊎◌, inl, inr, List, ◌++◌, length, take, drop, min, Some, None, arith, ap, sym, ◌∙◌}
use Rattle.std.proofs.lemmas.Bool.{cases_lt}
use Rattle.std.proofs.Math.Seq.{take-append_seam}
use Rattle.vt_bytes.specs.View.{bytes_in}
use Rattle.vt_bytes.specs.Memory.{Memory, IsRam, IsRamRange, bytes_at, seen}
use Rattle.vt_bytes.proofs.Seen.{bytes_in-seen, seen-none}
use Rattle.smbios_model.specs.Anchor.{IsRange}

-- bytes that are written over all of a list are what it then has
pub written_whole : (bytes items : List ℕ) (len : ℕ) → len ≡ length bytes → take len (bytes ++ drop (length bytes) items) ≡ bytes
written_whole bytes items len size =
    ap (λ n. take n (bytes ++ drop (length bytes) items)) size ∙ take-append_seam bytes (drop (length bytes) items)

-- as many bytes as are RAM without a gap, or as a maximum says
pub range_copied : (m : Memory) (address maximum ram count : ℕ) (bytes : List ℕ) → IsRamRange m.top address ram → (IsRam m.top (address + ram) → ⊥)
    → count ≡ min ram maximum → length bytes ≡ count → bytes ≡ bytes_at m address count → IsRange (seen m) address maximum bytes
range_copied m address maximum ram count bytes are gap least size is = record {
  at_most = omega arith;
  there = ap (bytes_in (seen m) address) size ∙ bytes_in-seen m address count (λ i below. are i (omega arith)) ∙ ap Some (sym is);
  whole = elim (cases_lt ram maximum) as (λ _. (length bytes ≡ maximum) ⊎ (seen m (address + length bytes) ≡ None)) [
    | inl fewer ↦
        let ends : address + length bytes ≡ address + ram = omega arith in
        inr (ap (seen m) ends ∙ seen-none m (address + ram) gap)
    | inr enough ↦ inl (omega arith)
  ];
}
