-- `put` follows the pointer to an empty place and writes a frame there: the room becomes the bytes, and the row has them at the index.
use mathlib.Core.Path.{◌≡◌, refl, sym, subst, ◌∙◌}
use Prim.Native.Nat.{ℕ, ◌+◌, ◌*◌, ◌<◌, ◌^◌}
use native.Mathlib.Omega.{arith}
use mathlib.Core.List.{List, [], ◌∷◌}
use lib.Dec.{lit<}
use lib.ListN.{length, set, get_or, length-set}
use base.Fraction.{full_share}
use base.Logic.{never, id⊢}
use base.Fml.{ftrue, fat, flft}
use mir.Syntax.{named, w64}
use mir.Val.{Val, vunit}
use prog.Wp.{Env}
use contract.Monad.{fact}
use contract.Running.{tables}
use types.Kit.{‵, raw, ◌⊛◌, at_ret, ◌$◌, ◌∵◌, !, qed, move, keep, use1, use2, split, join, group, frame, rewrite, fsplit, fsplit3, fjoin, feq_i}
use types.Kit.{flt_l, flt_i, suffices, done}
use types.Part.{whole, sub}
use types.Run.{init, stop, fld, bin, unit_lit, of_opd, assigns_last, first, blocks, exec, returns, enter}
use types.ByLocal.{alloc_all, pass_all, free_all, look_at, get, get_in, through, sets, env, take_at, give_at}
use denote.Exit.{yes}
use denote.RattleType.{owns}
use denote.Param.{layout}
use denote.RawPtr.{Ptr, in_a_block}
use denote.Ref.{MutRef, mut_vals, mut_Tells}
use denote.Builtin.{u8, usize, ArrayOf}
use denote.Plain.{uint_vals, uint_Tells}
use denote.Signature.{plain}
use denote.Steps.{nothing, heard, opens, closes}
use denote.Triple.Walked.{says, Stays, stay_dropped, stay_ref, walk_of, ends_at, Goes-dropped, Goes-ref}
use borrow.Table.OneValue.{part_in}
use Rattle.std.proofs.raw_atomic.Walks.{proved}
use Rattle.std.proofs.RawLayout.{as_written}
use Rattle.std.proofs.VecSteps.Shapes.{after}
use Rattle.std.proofs.RcSteps.{word, word-Good}
use Rattle.std.specs.Prelude.{Option, Some, None}
use Rattle.raw_frames.specs.Ownership.{Frame, place_owns, row_owns, block_owns}
use Rattle.raw_frames.specs.WindowLends.{with_slots}
use Rattle.raw_frames.proofs.Bytes.{frame_laws}
use Rattle.raw_frames.proofs.Rows.{frame_ty, Besides, slot_out, slot_in}
use Rattle.raw_frames.proofs.Steps.{big_lit}
use Rattle.raw_frames.proofs.Values.{start_vals, start_tells, frame_val, frame_tells}
use Rattle.raw_frames.specs.contracts.places.Places.{the_row as Row}
use Rattle.raw_frames.specs.contracts.places.Start.{the_row as Start}
use Rattle.raw_frames.specs.contracts.places.Places.put as f
use Rattle.raw_frames.proofs.places.Places.put.Statement.{statement}
use Rattle.raw_frames.proofs.places.Places.put.Code as code

abbrev stayed : Stays f.ended.signature.params f.ended.kept
stayed = (
  stay_ref (0 ∷ []) tt (plain (λ _. Row)),
  (
    stay_dropped (plain (λ _. Start)) yes,
    (stay_dropped (plain (λ _. usize)) yes, (stay_dropped (ArrayOf (plain (λ _. u8)) (λ _. tt) 4096) yes, tt)),
  ),
)

pub put_spec : {M : Type 1} → statement M
put_spec 𝓤 𝓛 𝓜 𝓡 wired =
    let c = f.clauses 𝓛 𝓜.mem 𝓡.returns in let W = walk_of 𝓛 f.ended stayed c in let 𝓣 = tables 𝓤 𝓛.H 𝓜 𝓡 𝓡.env in
    proved 𝓛 f.ended stayed c 𝓜 𝓡 (
      Goes-ref 𝓛 1 0 tt (plain (λ _. Row)),
      (
        Goes-dropped 𝓛 1 (plain (λ _. Start)) yes (λ κs x w. refl),
        (Goes-dropped 𝓛 1 (plain (λ _. usize)) yes (λ κs x w. refl), (Goes-dropped 𝓛 1 (ArrayOf (plain (λ _. u8)) (λ _. tt) 4096) yes (λ κs x w. refl), tt)),
      ),
    )
    f.Key.name code.function (code.unfolded 𝓤 𝓛.H 𝓜 𝓡 wired)
    (λ κs. (mut_vals, (start_vals, (uint_vals w64, ((λ bytes. frame_val bytes ∷ []), tt)))))
    (λ κs. (mut_Tells (named 0) κs.0 Row, (start_tells, (uint_Tells w64, (frame_tells, tt)))))
    (λ κs qs bounds a none are.
    let κ = κs.0 in let q = qs.0 in let rb = a.0.ref_ptr.0 in let ro = a.0.ref_ptr.1 in let d = a.0.now in
    let start = a.1.0 in let index = a.1.1.0 in let bytes = a.1.1.1.0 in let v : Val = frame_val bytes in
    let y : W.Ghost = ((κs, qs, bounds, a, (mut_vals a.0, (start_vals start, (uint_vals w64 index, (v ∷ [], tt))))), none) in let vss = y.0.4 in
    let new = with_slots d (set d.slots index (Some bytes)) in
    let typed = ((frame_laws.lawful 𝓛).typed bytes (v ∷ []) are.1.1.1.0).0 in
    let fits : index < 2 ^ 64 = are.1.1.0.1 in
    qed 𝓛 (((‵ (flft κ q) ⊛ ‵ ftrue) ⊛ ‵ (owns (MutRef (named 0) κ Row ∷ Start ∷ usize ∷ Frame ∷ []) a vss)) ∷
    raw (fact 𝓤 ((start.first ≡ d.at) × (index < length d.slots) × (get_or d.slots index None ≡ None))) ∷ []) ∵
    move ! (1 ∷ []) $ heard ! _ (λ asked. split ! $ split ! $ move ! (2 ∷ []) $
    fsplit ! $ fsplit3 ! $ move ! (3 ∷ []) $ fsplit ! $ move ! (1 ∷ []) $ fsplit ! $ move ! (1 ∷ []) $ fsplit ! $
    -- [the bytes; nothing; the index; the pointer; three entries of self; the token; nothing]
    keep ! (5 ∷ 6 ∷ 7 ∷ 0 ∷ 4 ∷ []) $
    enter ! _ _ _ _ _ $ alloc_all ! (λ l. pass_all ! refl ((tt, tt), (word-Good [] start.first, ((tt, record { fits = fits }), (typed, tt)))) $
    let En : Env 𝓤 𝓛.H = env (code.function).locals l in
    opens ! tt Row {h = d} rb ro (λ vs. move ! (1 ∷ []) $ fsplit ! $ move ! (1 ∷ []) $
    in_a_block ! d.at (λ p. block_owns p d.slots) (id⊢ 𝓤 (never 𝓤)) (λ b o e. fsplit ! $ flt_l ! (λ short.
    let far : index * 4096 < 2 ^ 64 = omega (arith, short, asked.1) in
    let at = index * 4096 + o in
    take_at ! 2 $ rewrite ! 0 (λ (p : Ptr). ‵ (fat full_share (layout Start) (l 2) 0 (word p))) (asked.0 ∙ e) refl $ give_at ! 2 $ first ! $ blocks ! $
    sets ! (bin ! (get ! refl) (big_lit ! (record { fits = lit< tt })) (record { fits = far })) refl (tt, record { fits = far }) $
    sets ! (bin ! (get_in ! (fld ! refl (stop !)) (sub ! 0 refl (whole !))) (get ! refl) tt) refl (tt, tt) $
    use1 𝓛 (‵ (place_owns b at (get_or d.slots index None)) ⊛ ‵ (Besides 𝓛 b o d.slots index)) (slot_out 𝓛 b o d.slots index asked.1) $ split ! $
    rewrite ! 0 (λ (slot : Option (List ℕ)). ‵ (place_owns b at slot)) asked.2 refl $ as_written ! frame_ty b at $
    -- [room for the frame; the other places; what has no bytes; its cell; the open borrow, in three entries; the bytes; the last of self]
    assigns_last ! (of_opd ! (get ! refl)) (through ! refl (stop !)) (init ! 0 refl typed) $
    exec ! 𝓣.C 𝓣.Λ En (after 1 (code.function).body) (at_ret En (W.post y)) $ sets ! (of_opd ! (unit_lit !)) refl (tt, tt) $
    move ! (0 ∷ 7 ∷ []) $ use2 𝓛 (‵ (place_owns b at (Some bytes))) (part_in 𝓛 Frame refl full_share bytes b at v) $
    use2 𝓛 (‵ (row_owns b o new.slots)) (slot_in 𝓛 b o d.slots index asked.1 (Some bytes)) $
    flt_i ! (length new.slots * 4096) (2 ^ 63) (subst (λ (k : ℕ). k * 4096 < 2 ^ 63) (sym (length-set d.slots index (Some bytes))) short) $ fjoin ! $
    rewrite ! 0 (λ (p : Ptr). ‵ (block_owns p new.slots)) (sym e) refl $ move ! (1 ∷ 0 ∷ []) $ fjoin ! $ move ! (1 ∷ 0 ∷ []) $ closes ! tt Row new vs rb ro $
    returns ! (look_at ! 0 refl) $ free_all ! refl $ move ! (3 ∷ []) $
    suffices ! _ (ends_at 𝓛 f.ended stayed c y vunit tt (new, (tt, (tt, (tt, tt)))) (tt, (tt, (tt, (tt, tt))))) $ says ! (refl, refl) $
    group ! 3 $ nothing ! $ nothing ! $ fjoin ! $ nothing ! $ fjoin ! $ nothing ! $ fjoin ! $ move ! (1 ∷ 0 ∷ []) $ join ! $
    nothing ! $ move ! (2 ∷ 0 ∷ []) $ join ! $ frame ! $ frame ! $ feq_i ! _ (vunit ∷ []) _ refl $ done !))))))
