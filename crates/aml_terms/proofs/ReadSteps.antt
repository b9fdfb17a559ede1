-- What a reading in steps gave, step by step.
use Rattle.std.proofs.Common.{◌≡◌, ℕ, ◌+◌, ◌⊎◌, refl, sym, ap, ◌∙◌, inl, inr, Result, Ok, Err}
use Rattle.vt_outside.specs.Readings.{◌into◌}
use Rattle.aml_terms.specs.declared.fault.AmlFault.{AmlFault}
use Rattle.aml_terms.specs.Reading.{behind}

-- a step that was made, and how it went on
pub record Went {A B : Type 0} (read : Result A AmlFault) (f : A → Result B AmlFault) (y : Result B AmlFault) : Type 0 where
  pub x : A
  pub is : read ≡ Ok x
  pub on : f x ≡ y

pub bind_ok : {A B : Type 0} (read : Result A AmlFault) (f : A → Result B AmlFault) (y : B) → (read into f) ≡ Ok y → Went read f (Ok y)
bind_ok (Ok x) f y e = record { x = x; is = refl; on = e }
bind_ok (Err d) f y e = cc

-- a step that failed, or was made before the one that failed
pub bind_err : {A B : Type 0} (read : Result A AmlFault) (f : A → Result B AmlFault) (d : AmlFault) → (read into f) ≡ Err d
    → (read ≡ Err d) ⊎ Went read f (Err d)
bind_err (Ok x) f d e = inr (record { x = x; is = refl; on = e })
bind_err (Err c) f d e = let same : Err c ≡ Err d = e in inl (cc)

pub bind_on : {A B : Type 0} (read : Result A AmlFault) (f : A → Result B AmlFault) (x : A) (y : Result B AmlFault) → read ≡ Ok x → f x ≡ y
    → (read into f) ≡ y
bind_on read f x y e h = ap (λ r. r into f) e ∙ h

pub ok_same : {A : Type 0} (a b : A) → ◌≡◌ {A = Result A AmlFault} (Ok a) (Ok b) → a ≡ b
ok_same a b e = cc

pub err_same : {A : Type 0} (a b : AmlFault) → ◌≡◌ {A = Result A AmlFault} (Err a) (Err b) → a ≡ b
err_same a b e = cc

pub no_fault : {A B : Type 0} (a : A) (d : AmlFault) → ◌≡◌ {A = Result A AmlFault} (Ok a) (Err d) → B
no_fault a d e = cc

-- what was read, and how many bytes it took
pub value_same : {A : Type 0} (a b : A) (m n : ℕ) → ◌≡◌ {A = Result (A × ℕ) AmlFault} (Ok (a, m)) (Ok (b, n)) → a ≡ b
value_same {A} a b m n e = ap (λ (p : A × ℕ). p.0) (ok_same (a, m) (b, n) e)

pub count_same : {A : Type 0} (a b : A) (m n : ℕ) → ◌≡◌ {A = Result (A × ℕ) AmlFault} (Ok (a, m)) (Ok (b, n)) → m ≡ n
count_same {A} a b m n e = ap (λ (p : A × ℕ). p.1) (ok_same (a, m) (b, n) e)

-- a value that was read so many bytes on
pub record ReadBehind {A : Type 0} (count : ℕ) (read : Result (A × ℕ) AmlFault) (x : A) (total : ℕ) : Type 0 where
  pub more : ℕ
  pub is : read ≡ Ok (x, more)
  pub sum : total ≡ count + more

pub behind_ok : {A : Type 0} (count : ℕ) (read : Result (A × ℕ) AmlFault) (x : A) (total : ℕ) → behind count read ≡ Ok (x, total)
    → ReadBehind count read x total
behind_ok count (Ok y) x total e =
    record { more = y.1; is = ap (λ x. Ok (x, y.1)) (value_same y.0 x (count + y.1) total e); sum = sym (count_same y.0 x (count + y.1) total e) }
behind_ok count (Err d) x total e = cc

pub behind_err : {A : Type 0} (count : ℕ) (read : Result (A × ℕ) AmlFault) (d : AmlFault) → behind count read ≡ Err d → read ≡ Err d
behind_err {A} count (Ok y) d e = no_fault (y.0, count + y.1) d e
behind_err count (Err c) d e = let same : Err c ≡ Err d = e in ap Err (err_same c d same)

pub behind_on : {A : Type 0} (count : ℕ) (read : Result (A × ℕ) AmlFault) (x : A) (more : ℕ) → read ≡ Ok (x, more)
    → behind count read ≡ Ok (x, count + more)
behind_on count read x more e = ap (behind count) e
