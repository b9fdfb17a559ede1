-- `take` asks the allocator for the block. What it answers is room for all frames and a token: the room becomes a row of empty places, and
-- the token is kept by the claim. Nothing is written to the block. Where there is no memory, the error is passed on.
use mathlib.Core.Path.{◌≡◌, refl, sym, ap, subst, ◌∙◌}
use mathlib.Core.Bool.{true, false}
use Prim.Native.Nat.{ℕ, ◌*◌, ◌<◌, ◌^◌}
use native.Mathlib.Omega.{arith}
use mathlib.Core.List.{List, [], ◌∷◌}
use lib.Dec.{lit<}
use lib.ListN.{length, replicate, length-replicate}
use seplogic.Ra.Ura.{Ura}
use base.Logic.{ent, sep}
use base.Fml.{Incl-trans, ftrue, flft}
use mir.Syntax.{Fn, Args, Body, Ty, named, w64, a_type, ty_array, dcons, dnil}
use mir.MapTy.{inst_fn}
use mir.Raw.{raw as bare}
use mir.Val.{Val, vstruct, vcons, vnil}
use prog.Capped.{capped_is}
use prog.Memory.{size, align, capped}
use prog.RawLaws.{size-raw, align-raw}
use prog.Wp.{Env, Wp, after_seq, at_return}
use types.Logic.{Logic, sem}
use contract.BorrowLft.{◌⊑◌}
use contract.Monad.{fact}
use contract.Running.{tables}
use types.Kit.{Post as After, Sq, ‵, raw, ◌⊛◌, later, await, prop, any_q, at_ret, ◌$◌, ◌∵◌, !, qed, move, keep, use0, use1, use2, use3, split, join}
use types.Kit.{frame, fsplit, fjoin, fpack, feq_i, flt_i, suffices, done}
use types.Match.{live, vrt, in_variant}
use types.Part.{whole, agg}
use types.Run.{stop, fld, lit, bin, of_opd, and_then, no_more, first, switches_on, exec, returns, enter}
use types.ByLocal.{alloc_all, pass_all, free_all, look_at, get, get_tag, get_in, sets, sets_last, lands_as, env}
use denote.Exit.{yes}
use denote.Laws.{Is}
use denote.Param.{param, bounded, layout}
use denote.Plain.{uint_vals, uint_Tells}
use denote.RattleType.{RattleType, Valss, owns}
use denote.RawPtr.{Ptr, block_ptr}
use denote.Ref.{ShrRef, shr_vals, shr_Tells}
use denote.Builtin.{usize, RefOf}
use denote.Signature.{plain}
use denote.Steps.{nothing, heard, owned}
use denote.Struct.Struct.{Struct, Struct-Makes, within}
use denote.Struct.Tuple.{Tuple, tuple_type}
use denote.Struct.Declared as Declared
use denote.Triple.Call.{calls_at}
use denote.Triple.Clauses.{Ended}
use denote.Triple.Table.{framed}
use denote.Triple.Walked.{says, Stays, stay_dropped, walk_of, ends_at, Goes-dropped}
use Rattle.std.proofs.alloc.Calls.{Al, Answer-typed, Takes, at_takes, Answered, Takes-goes, Takes-gives, answers}
use Rattle.std.proofs.raw_atomic.Walks.{proved}
use Rattle.std.proofs.RawLayout.{as_written}
use Rattle.std.proofs.RcSteps.{Good, first_Good, word, word-Good}
use Rattle.std.proofs.ResultValues.{ok_of, err_of}
use Rattle.std.proofs.VecSteps.Shapes.{after, head, arm_body}
use Rattle.std.specs.Prelude.{None, IfOk, Ok, Err}
use Rattle.std.specs.contracts.alloc.AllocError as AE
use Rattle.std.specs.contracts.result.Result as RS
use Rattle.raw_frames.specs.Ownership.{row_owns}
use Rattle.raw_frames.proofs.Rows.{frame_ty, empty_row}
use Rattle.raw_frames.proofs.Steps.{big_lit}
use Rattle.raw_frames.proofs.Values.{places_val, claim_val, PlacesFields, ClaimFields, start_made, places_made, claim_made}
use Rattle.raw_frames.specs.contracts.places.Places.{the_row as Row}
use Rattle.raw_frames.specs.contracts.places.Start.{the_row as Start}
use Rattle.raw_frames.specs.contracts.places.Claim as C-type
use Rattle.raw_frames.specs.contracts.places.take as f
use Rattle.raw_frames.proofs.places.take.Statement.{statement}
use Rattle.raw_frames.proofs.places.take.Code as code

-- three values as one
three_made : {M : Type 1} {𝓤 : Ura M} (𝓛 : Logic 𝓤) (R S T : RattleType) (x : R.Denot) (y : S.Denot) (z : T.Denot) (u v w : Val)
    → ent 𝓤 (sep 𝓤 (sem 𝓛 (R.own_val x (u ∷ []))) (sep 𝓤 (sem 𝓛 (S.own_val y (v ∷ []))) (sem 𝓛 (T.own_val z (w ∷ [])))))
    (sem 𝓛 ((Tuple (R ∷ S ∷ T ∷ [])).own_val (x, y, z) (vstruct (vcons u (vcons v (vcons w vnil))) ∷ [])))
three_made 𝓛 R S T x y z u v w =
    let whole : Val = vstruct (vcons u (vcons v (vcons w vnil))) in
    qed 𝓛 (‵ (R.own_val x (u ∷ [])) ∷ ‵ (S.own_val y (v ∷ [])) ∷ ‵ (T.own_val z (w ∷ [])) ∷ []) ∵
    nothing ! $ move ! (3 ∷ 0 ∷ []) $ fjoin ! $ move ! (2 ∷ 0 ∷ []) $ fjoin ! $ move ! (1 ∷ 0 ∷ []) $ fjoin ! $
    feq_i ! (List Val) (whole ∷ []) (whole ∷ []) refl $ fjoin ! $
    fpack ! (Valss (R ∷ S ∷ T ∷ [])) (within (Declared.shape (tuple_type (R ∷ S ∷ T ∷ []))) (x, (y, (z, tt))) (whole ∷ []))
    (u ∷ [], (v ∷ [], (w ∷ [], tt))) $ done !

pub take_spec : {M : Type 1} → statement M
take_spec 𝓤 𝓛 𝓜 𝓡 wired W laws g d drops met lets_go =
    let Z : Al = record { row = W; laws = laws; g = g; d = d; drops = drops } in
    let P : RattleType = param 0 W in let Claim : RattleType = C-type.the_row P g in
    let Three : RattleType = Tuple (Start ∷ Row ∷ Claim ∷ []) in let Out : RattleType = RS.the_row Three AE.the_row in
    let args : Args = bounded (a_type ∷ []) (W, tt) (dcons d (dcons drops dnil)) in
    let function : Fn = inst_fn args code.function in
    let ended : Ended = f.ended W g d drops in
    let stayed : Stays ended.signature.params ended.kept = (
      stay_dropped (RefOf (0 ∷ []) tt (plain (λ _. P)) (λ _. tt)) yes,
      (stay_dropped (plain (λ _. usize)) yes, tt),
    ) in
    let c = f.clauses W g d drops 𝓛 𝓜.mem 𝓡.returns in let walk = walk_of 𝓛 ended stayed c in let 𝓣 = tables 𝓤 𝓛.H 𝓜 𝓡 𝓡.env in
    proved 𝓛 ended stayed c 𝓜 𝓡
    (Goes-dropped 𝓛 2 (RefOf (0 ∷ []) tt (plain (λ _. P)) (λ _. tt)) yes (λ κs x w. refl), (Goes-dropped 𝓛 2 (plain (λ _. usize)) yes (λ κs x w. refl), tt))
    (f.Key.name args) function (code.unfolded 𝓤 𝓛.H 𝓜 𝓡 wired (W, tt) d drops)
    (λ κs. (shr_vals, (uint_vals w64, tt)))
    (λ κs. (shr_Tells (named 0) κs.0 P, (uint_Tells w64, tt)))
    (λ κs qs bounds a none are.
    let κ = κs.0 in let q = qs.0 in let rb = a.0.ref_ptr.0 in let ro = a.0.ref_ptr.1 in let alloc = a.0.now in let count = a.1.0 in
    let y : walk.Ghost = ((κs, qs, bounds, a, (shr_vals a.0, (uint_vals w64 count, tt))), none) in let vss = y.0.4 in
    let fits : count < 2 ^ 64 = are.1.0.1 in
    let τ : Ty = bare (ty_array frame_ty count) in
    qed 𝓛 (((‵ (flft κ q) ⊛ ‵ (flft κs.1.0 qs.1.0) ⊛ ‵ ftrue) ⊛ ‵ (owns (ShrRef (named 0) κ P ∷ usize ∷ []) a vss)) ∷
    (raw (fact 𝓤 (κs.1.0 ⊑ W.lives)) ⊛ raw (fact 𝓤 (count * 4096 < 2 ^ 63))) ∷ []) ∵
    move ! (1 ∷ []) $ split ! $ heard ! _ (λ outlives. heard ! _ (λ short. split ! $ split ! $ move ! (2 ∷ []) $ fsplit ! $ fsplit ! $ keep ! (1 ∷ 3 ∷ 4 ∷ []) $
    -- [what the `&` reaches; its token; the other tokens]
    let small : count * 4096 < 2 ^ 64 = omega (arith, short) in
    let size_is : capped (size τ) ≡ count * 4096 = ap capped (size-raw (ty_array frame_ty count)) ∙ capped_is (count * 4096) small in
    let align_is : capped (align τ) ≡ 1 = ap capped (align-raw (ty_array frame_ty count)) ∙ capped_is 1 (lit< tt) in
    let call = at_takes Z 𝓛 𝓜.mem 𝓡.returns κ q (rb, ro) alloc (count * 4096) 1 τ in
    let out : (r : Out.Denot) (v : Val) → IfOk r (λ t. (t.1.at ≡ t.0.first) × (t.1.slots ≡ replicate count None) × (t.2.at ≡ t.0.first) ×
    (t.2.count ≡ count) × (t.2.alloc ≡ alloc))
    → Sq 𝓛 (‵ (Out.own_val r (v ∷ [])) ∷ ‵ (flft κ q) ∷ (‵ (flft κs.1.0 qs.1.0) ⊛ ‵ ftrue) ∷ []) (prop (walk.post y v)) = λ r v told.
    suffices ! _ (ends_at 𝓛 ended stayed c y v r (tt, (tt, tt)) (tt, (tt, tt))) $ says ! told $ move ! (1 ∷ 2 ∷ []) $ join ! $ frame ! $ nothing ! $
    nothing ! $ fjoin ! $ nothing ! $ fjoin ! $ join ! $ done ! in
    enter ! _ _ _ _ _ $ alloc_all ! (λ l. pass_all ! refl ((tt, tt), ((tt, record { fits = fits }), tt)) $
    let En : Env 𝓤 𝓛.H = env function.locals l in
    let arms : Body = head (after 2 function.body) in
    let Then : After 𝓤 𝓛.H = any_q (after_seq 𝓤 𝓛.H (Wp 𝓤 𝓛.H 𝓣.C 𝓣.Λ En (after 3 function.body) (at_return 𝓤 𝓛.H En (walk.post y)))
    (at_return 𝓤 𝓛.H En (walk.post y))) in
    sets ! (bin ! (get ! refl) (big_lit ! (record { fits = lit< tt })) (record { fits = small })) refl (tt, record { fits = small }) $
    use2 𝓛 (raw ((Takes Z 𝓛 𝓜.mem 𝓡.returns).pre call)) (Takes-goes Z 𝓛 𝓜.mem 𝓡.returns κ q (rb, ro) alloc (Incl-trans bounds.0 outlives)
    (count * 4096) 1 τ size_is align_is small (lit< tt)) $
    calls_at ! (framed 𝓤 𝓛.H 𝓜 𝓣) (Takes Z 𝓛 𝓜.mem 𝓡.returns) (met.allocate drops) call
    (and_then ! (get ! refl) (and_then ! (get ! refl) (and_then ! (lit ! tt) (no_more !)))) (λ v.
    use1 𝓛 (later (raw (Answered Z 𝓛 𝓜.mem 𝓡.returns alloc τ v) ⊛ ‵ (flft κ q)))
    (Takes-gives Z 𝓛 𝓜.mem 𝓡.returns κ q (rb, ro) alloc (count * 4096) 1 τ v) $ await ! tt $ split ! $
    answers Z ! 𝓜.mem 𝓡.returns alloc τ v
    (λ b o e.
    let p : Ptr = block_ptr b o in
    let start : Start.Denot = record { first = p } in
    let places : Row.Denot = record { at = p; slots = replicate count None } in
    let claim : Claim.Denot = record { by = record {}; at = p; count = count; alloc = alloc } in
    let made : Val = vstruct (vcons (word p) (vcons places_val (vcons claim_val vnil))) in
    let typed : Good (layout Three) made = (tt, ((tt, tt), (tt, ((tt, tt), tt)))) in
    let ok = first_Good (layout Three) made typed in
    -- [room for the frames; the allocator's token; the tokens]
    lands_as ! e refl (Answer-typed true b o) $ first ! $ switches_on ! (get_tag ! (vrt ! refl (fld ! refl (stop !))) (whole !)) $
    exec ! 𝓣.C 𝓣.Λ En (arm_body 0 arms) Then $
    sets ! (of_opd ! (get_in ! (vrt ! refl (fld ! refl (stop !))) (in_variant ! 0 0 refl refl (whole !)))) refl (tt, tt) $
    sets ! (of_opd ! (get ! refl)) refl (tt, tt) $
    sets ! (agg ! (and_then ! (get ! refl) (no_more !))) refl (word-Good [] p) $ sets ! (agg ! (no_more !)) refl (tt, tt) $
    sets ! (agg ! (no_more !)) refl (tt, tt) $
    sets ! (agg ! (and_then ! (get ! refl) (no_more !))) refl (tt, (tt, tt)) $
    sets ! (agg ! (and_then ! (get ! refl) (and_then ! (get ! refl) (and_then ! (get ! refl) (no_more !))))) refl typed $
    sets_last ! (agg ! (and_then ! (lit ! tt) (and_then ! (get ! refl) (no_more !)))) refl ok $
    exec ! 𝓣.C 𝓣.Λ En (after 3 function.body) (at_ret En (walk.post y)) $ sets ! (of_opd ! (get ! refl)) refl ok $
    move ! (1 ∷ []) $ use0 𝓛 (‵ ((ClaimFields P g).own_val (tt, tt) (claim_val ∷ []))) (claim_made 𝓛 P g) $ fjoin ! $ move ! (1 ∷ []) $
    as_written ! (ty_array frame_ty count) b o $ use1 𝓛 (‵ (row_owns b o (replicate count None))) (empty_row 𝓛 b count o) $
    flt_i ! (length places.slots * 4096) (2 ^ 63) (subst (λ (k : ℕ). k * 4096 < 2 ^ 63) (sym (length-replicate count None)) short) $ fjoin ! $
    use0 𝓛 (‵ (PlacesFields.own_val tt (places_val ∷ []))) (places_made 𝓛) $ fjoin ! $
    use0 𝓛 (‵ (Start.own_val start (word p ∷ []))) (start_made 𝓛 p) $
    use3 𝓛 (‵ (Three.own_val (start, places, claim) (made ∷ []))) (three_made 𝓛 Start Row Claim start places claim (word p) places_val claim_val) $
    use1 𝓛 (‵ (Out.own_val (Ok (start, places, claim)) (live 0 (vcons made vnil) ∷ []))) (ok_of 𝓛 Three AE.the_row (start, places, claim) made) $
    returns ! (look_at ! 0 refl) $ free_all ! refl $ out (Ok (start, places, claim)) (live 0 (vcons made vnil)) (refl, refl, refl, refl, refl))
    (λ e.
    let Error : RattleType = Struct (Declared.shape AE.the_type) in
    let refused : Val = live 1 (vcons (vstruct vnil) vnil) in
    lands_as ! e refl (Answer-typed false 0 0) $ first ! $ switches_on ! (get_tag ! (vrt ! refl (fld ! refl (stop !))) (whole !)) $
    exec ! 𝓣.C 𝓣.Λ En (arm_body 1 arms) Then $
    sets ! (of_opd ! (get_in ! (vrt ! refl (fld ! refl (stop !))) (in_variant ! 1 0 refl refl (whole !)))) refl (tt, tt) $
    sets_last ! (agg ! (and_then ! (lit ! tt) (and_then ! (get ! refl) (no_more !)))) refl (tt, (record { fits = lit< tt }, (tt, tt))) $
    exec ! 𝓣.C 𝓣.Λ En (after 3 function.body) (at_ret En (walk.post y)) $ sets ! (of_opd ! (get ! refl)) refl (tt, (record { fits = lit< tt }, (tt, tt))) $
    owned ! Error (Is Error) (Struct-Makes 𝓛 (Declared.shape AE.the_type) tt) tt (vstruct vnil ∷ []) (tt, (refl, tt)) $
    use1 𝓛 (‵ (Out.own_val (Err (record {})) (refused ∷ []))) (err_of 𝓛 Three AE.the_row (record {}) (vstruct vnil)) $
    returns ! (look_at ! 0 refl) $ free_all ! refl $ out (Err (record {})) refused tt))))))
