-- What is read behind an anchor that is installed.
use Rattle.std.proofs.Common.{◌≡◌, ℕ, inl, inr, List, length, slice_index, Some, Result, sym, subst, ◌∙◌, arith}
use Rattle.std.proofs.lemmas.Bool.{cases_lt}
use Rattle.std.proofs.lemmas.Option.{same_Some, none-some}
use Rattle.vt_bytes.specs.View.{View, bytes_in}
use Rattle.vt_bytes.proofs.Views.{ram-shown}
use Rattle.smbios_model.specs.declared.smbios.Structure.{Structure}
use Rattle.smbios_model.specs.Anchor.{IsRange}
use Rattle.smbios_decode.specs.declared.fault.SmbiosFault.{SmbiosFault}
use Rattle.smbios_decode.specs.Faults.{Means}
use Rattle.smbios_install.specs.Standing.{IsInstalled, ReadsBehind}

-- as many bytes as are told are there, so no other range is
one_range : (view : View) (address : ℕ) (bytes other : List ℕ) → bytes_in view address (length bytes) ≡ Some bytes
    → IsRange view address (length bytes) other → other ≡ bytes
one_range view address bytes other there range =
    elim range.whole as (λ _. other ≡ bytes) [
      | inl whole ↦
          same_Some other bytes (sym (subst (λ n. bytes_in view address n ≡ Some other) whole range.there) ∙ there)
      | inr ends ↦
          elim (cases_lt (length other) (length bytes)) as (λ _. other ≡ bytes) [
            | inl within ↦
                absurd (none-some (slice_index bytes (length other))
                (sym ends ∙ ram-shown view address (length bytes) bytes (length other) there within))
            | inr past ↦
                let whole : length other ≡ length bytes = omega (arith, past, range.at_most) in
                same_Some other bytes (sym (subst (λ n. bytes_in view address n ≡ Some other) whole range.there) ∙ there)
          ]
    ]

pub read_so : (view : View) (place : ℕ) (bytes : List ℕ) (result : Result (List Structure) SmbiosFault) (is : IsInstalled view place bytes)
    → is.anchor.maximum_size ≡ length bytes → ReadsBehind view is.anchor is.structures result → Means bytes result
read_so view place bytes result is told reads =
    let range = subst (λ n. IsRange view is.structures n reads.0) told reads.1 in
    subst (λ bs. Means bs result) (one_range view is.structures bytes reads.0 is.there range) reads.2

pub reads_so : (view : View) (place : ℕ) (bytes : List ℕ) (result : Result (List Structure) SmbiosFault) (is : IsInstalled view place bytes)
    → is.anchor.maximum_size ≡ length bytes → Means bytes result → ReadsBehind view is.anchor is.structures result
reads_so view place bytes result is told means =
    (bytes, record { at_most = omega (arith, told); there = is.there; whole = inl (sym told) }, means)
