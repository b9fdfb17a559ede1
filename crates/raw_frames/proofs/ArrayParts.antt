-- A part of an array of bytes in memory is taken out, and put back with as many bytes.
--     part_out, part_in      the array is the part and `Others`; the part with other bytes of its length, and `Others`, are the array that `put_at` says
use mathlib.Core.Path.{◌≡◌, refl, sym, ap, ◌∙◌}
use Prim.Native.Nat.{ℕ, ◌+◌, ◌-◌, ◌≤◌}
use native.Mathlib.Omega.{arith}
use mathlib.Core.List.{List, [], ◌∷◌, ◌++◌}
use lib.ListN.{length, take, drop as drop_list, length-append, length-drop}
use seplogic.Ra.Ura.{Ura}
use base.Logic.{ent, sep, guard}
use base.Fraction.{full_share}
use base.Fml.{Fml, fsep, feq}
use types.Logic.{Logic, sem}
use types.Kit.{‵, ◌⊛◌, ◌$◌, ◌∵◌, !, qed, by, move, fsplit, fjoin, use1, use2, done, rewrite, feq_l, feq_i, split, given, learn, check}
use types.SemTy.{cells}
use denote.Memory.{mem, part_at}
use denote.ArrayMemory.{Array-apart, Array-whole}
use denote.Index.{row, whole_in, whole_out}
use denote.Array.{Array}
use denote.Builtin.{u8}
use borrow.Table.Elements.{at, at_byte, cut_app, join_app, length-take-le}
use Rattle.std.specs.List.{refill}
use Rattle.vt_bytes.specs.Parts.{part, put_at}
use Rattle.raw_frames.proofs.Spliced.{in_three, refilled}

module _ {M : Type 1} {𝓤 : Ura M} (𝓛 : Logic 𝓤) (N b : ℕ) where
  array_out : (ws : List ℕ) (o : ℕ) → ent 𝓤 (sem 𝓛 (part_at (Array u8 N) full_share ws b o)) (guard 𝓤 (length ws ≡ N) (sem 𝓛 (cells (mem u8) ws b o)))
  array_out ws o = qed 𝓛 (‵ (part_at (Array u8 N) full_share ws b o) ∷ []) ∵
      use1 𝓛 (‵ (fsep (feq ℕ (length ws) N) (row u8 full_share ws b o))) (Array-apart 𝓛 u8 full_share tt N ws b o) $ fsplit ! $ feq_l ! (λ e.
      use1 𝓛 (‵ (cells (mem u8) ws b o)) (whole_in 𝓛 u8 ws b o) $ check ! e $ done !)

  array_in : (ws : List ℕ) (o : ℕ) → length ws ≡ N → ent 𝓤 (sem 𝓛 (cells (mem u8) ws b o)) (sem 𝓛 (part_at (Array u8 N) full_share ws b o))
  array_in ws o e = qed 𝓛 (‵ (cells (mem u8) ws b o) ∷ []) ∵ use1 𝓛 (‵ (row u8 full_share ws b o)) (whole_out 𝓛 u8 ws b o) $
      feq_i ! ℕ (length ws) N e $ fjoin ! $ by ! (Array-whole 𝓛 u8 full_share N ws b o)

-- of the N bytes xs at (b, o), the n from the m-th on
module _ {M : Type 1} {𝓤 : Ura M} (𝓛 : Logic 𝓤) (N b o : ℕ) (xs : List ℕ) (m n : ℕ) where
  abbrev front : List ℕ
  front = take m xs

  abbrev mid : List ℕ
  mid = part xs m n

  abbrev back : List ℕ
  back = drop_list n (drop_list m xs)

  -- the bytes before and after them
  abbrev pub Others : Fml
  Others = fsep (cells (mem u8) front b o) (cells (mem u8) back b (at (m + o) 1 (length mid)))

  long : m + n ≤ N → length xs ≡ N → length mid ≡ n
  long le whole = let rest : length (drop_list m xs) ≡ length xs - m = length-drop m xs in length-take-le n (drop_list m xs) (omega arith)

  on : m + n ≤ N → length xs ≡ N → at o 1 (length front) ≡ m + o
  on le whole = at_byte o (length front) ∙ ap (λ (k : ℕ). k + o) (length-take-le m xs (omega arith))

  pub part_out : m + n ≤ N → ent 𝓤 (sem 𝓛 (part_at (Array u8 N) full_share xs b o))
      (guard 𝓤 ((length xs ≡ N) × (length mid ≡ n)) (sep 𝓤 (sem 𝓛 (cells (mem u8) mid b (m + o))) (sem 𝓛 Others)))
  part_out le = qed 𝓛 (‵ (part_at (Array u8 N) full_share xs b o) ∷ []) ∵ use1 𝓛 (given (length xs ≡ N) (‵ (cells (mem u8) xs b o)))
      (array_out 𝓛 N b xs o) $ learn ! (λ whole.
      rewrite ! 0 (λ (l : List ℕ). ‵ (cells (mem u8) l b o)) (in_three xs m n) refl $
      use1 𝓛 (‵ (cells (mem u8) front b o) ⊛ ‵ (cells (mem u8) (mid ++ back) b (at o 1 (length front)))) (cut_app 𝓛 (mem u8) front (mid ++ back) b o)
      $ split ! $ move ! (1 ∷ []) $
      rewrite ! 0 (λ (k : ℕ). ‵ (cells (mem u8) (mid ++ back) b k)) (on le whole) refl $
      use1 𝓛 (‵ (cells (mem u8) mid b (m + o)) ⊛ ‵ (cells (mem u8) back b (at (m + o) 1 (length mid)))) (cut_app 𝓛 (mem u8) mid back b (m + o)) $ split ! $
      move ! (2 ∷ 1 ∷ []) $ fjoin ! $ move ! (1 ∷ []) $ check ! (whole, long le whole) $ done !)

  pub part_in : m + n ≤ N → length xs ≡ N → (ws : List ℕ) → length ws ≡ length mid
      → ent 𝓤 (sep 𝓤 (sem 𝓛 (cells (mem u8) ws b (m + o))) (sem 𝓛 Others)) (sem 𝓛 (part_at (Array u8 N) full_share (put_at xs m (refill n mid ws)) b o))
  part_in le whole ws e =
      let left : List ℕ = put_at xs m (refill n mid ws) in
      let same : left ≡ front ++ (ws ++ back) = refilled xs m n ws (e ∙ long le whole) in
      let cut : length xs ≡ length front + length (mid ++ back) = ap length (in_three xs m n) ∙ length-append front (mid ++ back) in
      let inner : length (mid ++ back) ≡ length mid + length back = length-append mid back in
      let now_whole : length (front ++ (ws ++ back)) ≡ length front + length (ws ++ back) = length-append front (ws ++ back) in
      let now_inner : length (ws ++ back) ≡ length ws + length back = length-append ws back in
      qed 𝓛 (‵ (cells (mem u8) ws b (m + o)) ∷ ‵ Others ∷ []) ∵ move ! (1 ∷ []) $ fsplit ! $ move ! (2 ∷ 0 ∷ 1 ∷ []) $
      rewrite ! 2 (λ (k : ℕ). ‵ (cells (mem u8) back b (at (m + o) 1 k))) (sym e) refl $ move ! (0 ∷ 2 ∷ []) $
      use2 𝓛 (‵ (cells (mem u8) (ws ++ back) b (m + o))) (join_app 𝓛 (mem u8) ws back b (m + o)) $
      rewrite ! 0 (λ (k : ℕ). ‵ (cells (mem u8) (ws ++ back) b k)) (sym (on le whole)) refl $ move ! (1 ∷ 0 ∷ []) $
      use2 𝓛 (‵ (cells (mem u8) (front ++ (ws ++ back)) b o)) (join_app 𝓛 (mem u8) front (ws ++ back) b o) $
      rewrite ! 0 (λ (l : List ℕ). ‵ (cells (mem u8) l b o)) (sym same) refl $ by ! (array_in 𝓛 N b left o (ap length same ∙ omega arith))
