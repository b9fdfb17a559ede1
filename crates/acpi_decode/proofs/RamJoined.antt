-- RAM behind RAM is RAM as a whole.
use Rattle.std.proofs.Common.{◌≡◌, ℕ, ◌+◌, ◌-◌, true, false, is_some, List, Option, Some, None, inl, inr, arith, refl, ap, sym, ◌∙◌}
use Rattle.std.specs.Option.{option_map, unwrap_or}
use Rattle.std.proofs.lemmas.Bool.{cases_lt, cases_Bool}
use Rattle.vt_bytes.specs.Numbers.{le}
use Rattle.vt_bytes.specs.View.{View, bytes_in}
use Rattle.acpi_decode.specs.Seen.{is_ram, number_at}
use Rattle.acpi_decode.proofs.InRam.{byte_there, each_ram}

ram_joined : (view : View) (address front back : ℕ) → is_ram view address front ≡ true → is_ram view (address + front) back ≡ true
    → is_ram view address (front + back) ≡ true
ram_joined view address front back first second =
    each_ram view address (front + back) (λ i below.
    elim (cases_lt i front) as (λ _. is_some (view (address + i)) ≡ true) [
      | inl within ↦ ap is_some (byte_there view address front i first within)
      | inr behind ↦
          let place : address + front + (i - front) ≡ address + i = omega (arith, behind) in
          ap (λ a. is_some (view a)) (sym place) ∙ ap is_some (byte_there view (address + front) back (i - front) second (omega (arith, below, behind)))
    ])

-- a number that isn't all RAM is 0
none_counted : (bytes : Option (List ℕ)) → is_some bytes ≡ false → unwrap_or (option_map le bytes) 0 ≡ 0
none_counted None is = refl
none_counted (Some bytes) is = absurd (cc is)

pub number_outside : (view : View) (address front width : ℕ) → is_ram view address front ≡ true → is_ram view address (front + width) ≡ false
    → number_at view (address + front) width ≡ 0
number_outside view address front width first outside =
    none_counted (bytes_in view (address + front) width)
    (elim (cases_Bool (is_ram view (address + front) width)) as (λ _. is_ram view (address + front) width ≡ false) [
      | inl ram ↦ absurd (cc (ram_joined view address front width first ram, outside))
      | inr none ↦ none
    ])
