-- Which way a test went.
use Rattle.std.proofs.Common.{◌≡◌, Bool, true, false, cond, refl, ap}
use Rattle.std.specs.Prelude.{◌||◌}

pub data Chosen {A : Type 0} (b : Bool) (x y z : A) : Type 0 where
  held : b ≡ true → x ≡ z → Chosen b x y z
  failed : b ≡ false → y ≡ z → Chosen b x y z

pub chosen : {A : Type 0} (b : Bool) (x y z : A) → cond b x y ≡ z → Chosen b x y z
chosen true x y z e = held refl e
chosen false x y z e = failed refl e

-- what holds either way
pub either_way : {A : Type 0} (P : A → Type 0) (b : Bool) (x y : A) → (b ≡ true → P x) → (b ≡ false → P y) → P (cond b x y)
either_way P true x y h k = h refl
either_way P false x y h k = k refl

pub when_held : {A : Type 0} (b : Bool) (x y : A) → b ≡ true → cond b x y ≡ x
when_held b x y e = ap (λ b. cond b x y) e

pub when_failed : {A : Type 0} (b : Bool) (x y : A) → b ≡ false → cond b x y ≡ y
when_failed b x y e = ap (λ b. cond b x y) e

pub neither : (a b : Bool) → (a || b) ≡ false → (a ≡ false) × (b ≡ false)
neither true b e = cc
neither false true e = cc
neither false false e = (refl, refl)
