-- A step that walks need and the logic lacks: reading a constant that is too large to be written out.
use seplogic.Ra.Ura.{Ura}
use mathlib.Core.List.{List}
use Prim.Native.Nat.{ℕ}
use mir.Syntax.{Width, int_big}
use mir.Val.{Fits, vint}
use base.Logic.{via, guard_i}
use prog.Wp.{Env}
use types.Logic.{Logic}
use types.Kit.{Item}
use types.Run.{Opd}

module _ {M : Type 1} {𝓤 : Ura M} {𝓛 : Logic 𝓤} {K : Type 0} {Γ : List (Item 𝓤)} {E : Env 𝓤 𝓛.H} where
  pub big_lit : K → {w : Width} {n : ℕ} → Fits w n → Opd K 𝓛 Γ E (int_big w n) (vint w n)
  big_lit t {w} {n} fits = record { go = λ P h. via 𝓤 (P (vint w n)) h (guard_i 𝓤 (Fits w n) (P (vint w n)) fits) }
