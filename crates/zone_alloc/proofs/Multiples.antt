-- The least multiple of a number that is at or above another.
use Rattle.std.proofs.Common.{◌≡◌, ℕ, ◌+◌, ◌-◌, ◌*◌, ◌/◌, ◌%◌, ◌<◌, ◌≤◌, inl, inr, arith, ap, ◌∙◌}
use Rattle.std.proofs.lemmas.Bool.{cases_lt}
use Rattle.std.proofs.lemmas.Nat.{div-add-mod', mul-le}
use Rattle.std.proofs.Math.Nat.{mod_self, mod-lt, mod-eq_of_lt, mul-mod_left}
use Rattle.std.specs.Int.{next_multiple_of}

-- a number that leaves nothing is so many times the other
pub multiple_of : (n align : ℕ) → n % align ≡ 0 → n ≡ n / align * align
multiple_of n align none_left = omega (arith, div-add-mod' n align)

-- a multiple that is less than one step above a number is at or below each other multiple above that number
pub next_is_least : (n align next factor : ℕ) → next % align ≡ 0 → next < n + align → n ≤ factor * align → next ≤ factor * align
next_is_least n align next factor none_left near above =
    let whole : next ≡ next / align * align = multiple_of next align none_left in
    elim (cases_lt factor (next / align)) as (λ _. next ≤ factor * align) [
      | inl l ↦
          let one_more : (factor + 1) * align ≤ next / align * align = mul-le (factor + 1) align (next / align) align (omega arith) (omega arith) in
          absurd (omega (arith, one_more))
      | inr l ↦
          let no_more : next / align * align ≤ factor * align = mul-le (next / align) align factor align l (omega arith) in
          omega (arith, no_more)
    ]

-- a multiple that is less than one step below the last place before an end is at or above each other multiple that leaves room there
pub last_is_greatest : (end size align last factor : ℕ) → last % align ≡ 0 → end < last + size + align → factor * align + size ≤ end
    → factor * align ≤ last
last_is_greatest end size align last factor none_left near within =
    let whole : last ≡ last / align * align = multiple_of last align none_left in
    elim (cases_lt (last / align) factor) as (λ _. factor * align ≤ last) [
      | inl l ↦
          let one_more : (last / align + 1) * align ≤ factor * align = mul-le (last / align + 1) align factor align (omega arith) (omega arith) in
          absurd (omega (arith, one_more))
      | inr l ↦
          let no_more : factor * align ≤ last / align * align = mul-le factor align (last / align) align l (omega arith) in
          omega (arith, no_more)
    ]

-- a least multiple is one that is less than one step above
pub record IsNext (n align next : ℕ) : Type 0 where
  pub multiple : next % align ≡ 0
  pub above : n ≤ next
  pub near : next < n + align

-- the least multiple is one
pub next_is : (n align : ℕ) → 0 < align → IsNext n align (next_multiple_of n align)
next_is n align some =
    elim (cases_lt 0 (n % align)) as (λ _. IsNext n align (next_multiple_of n align)) [
      | inr nothing ↦
          let none_left : n % align ≡ 0 = omega arith in
          let added : (align - n % align) % align ≡ 0 = ap (λ (k : ℕ). k % align) (omega (arith, none_left)) ∙ mod_self align in
          record {
            multiple = ap (λ (k : ℕ). (n + k) % align) added ∙ ap (λ (k : ℕ). k % align) (omega arith) ∙ none_left;
            above = omega arith;
            near = omega (arith, added);
          }
      | inl left ↦
          let below : n % align < align = mod-lt n some in
          let added : (align - n % align) % align ≡ align - n % align = mod-eq_of_lt (omega arith) in
          let times : n + (align - n % align) ≡ (n / align + 1) * align = omega (arith, div-add-mod' n align) in
          record {
            multiple = ap (λ (k : ℕ). (n + k) % align) added ∙ ap (λ (k : ℕ). k % align) times ∙ mul-mod_left (n / align + 1) align;
            above = omega arith;
            near = omega (arith, added);
          }
    ]
