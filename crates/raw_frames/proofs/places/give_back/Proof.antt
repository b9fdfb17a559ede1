-- `give_back` makes one piece of room of the places, whatever lies in them, and hands it to the allocator with the token of the claim. Bytes of
-- filled places are let go: they hold nothing that has to be dropped.
use mathlib.Core.Path.{◌≡◌, refl, sym, ap, subst, ◌∙◌}
use Prim.Native.Nat.{ℕ, ◌*◌, ◌<◌, ◌^◌}
use native.Mathlib.Omega.{arith}
use mathlib.Core.List.{List, [], ◌∷◌}
use lib.Dec.{T, lit<}
use lib.ListN.{length}
use base.Logic.{never, id⊢}
use base.Fml.{Incl-trans, ftrue, froom, flft}
use mir.Syntax.{Fn, Args, Ty, named, w64, a_type, ty_array, ty_unit, dcons, dnil}
use mir.MapTy.{inst_fn}
use mir.Raw.{raw as bare}
use mir.Val.{Val, WT, has_ty, vunit}
use prog.Capped.{capped_is}
use prog.Memory.{size, align, capped}
use prog.RawLaws.{size-raw, align-raw}
use prog.Wp.{Env}
use contract.BorrowLft.{◌⊑◌}
use contract.Monad.{fact}
use contract.Running.{tables}
use types.Kit.{‵, raw, ◌⊛◌, given, later, learn, group, rewrite, flt_l, await, at_ret, ◌$◌, ◌∵◌, !, qed, move, keep, use1, split, join, fsplit, fjoin}
use types.Kit.{feq_i, suffices, done}
use types.Part.{whole, sub}
use types.Run.{stop, fld, lit, unit_lit, bin, of_opd, and_then, no_more, first, blocks, exec, returns, enter}
use types.ByLocal.{alloc_all, pass_all, free_all, look_at, get, get_in, sets, is, lands_last, env}
use denote.Exit.{yes, no}
use denote.Param.{param, bounded}
use denote.Plain.{uint_vals, uint_Tells}
use denote.RattleType.{RattleType, owns}
use denote.RawPtr.{Ptr, ptr_val, in_a_block}
use denote.Ref.{ShrRef, shr_vals, shr_Tells}
use denote.Builtin.{usize, RefOf}
use denote.Signature.{plain}
use denote.Steps.{nothing, heard}
use denote.Triple.Call.{calls_at_last}
use denote.Triple.Clauses.{Ended}
use denote.Triple.Table.{framed}
use denote.Triple.Walked.{Stays, stay_dropped, walk_of, ends_at, Goes-dropped}
use Rattle.std.proofs.alloc.Calls.{Al, Gives, at_gives, Gives-goes, Gives-Gives, Goes-blank, token}
use Rattle.std.proofs.raw_atomic.Walks.{proved}
use Rattle.std.proofs.RawLayout.{as_raw}
use Rattle.std.proofs.RcSteps.{word-Good}
use Rattle.std.proofs.VecSteps.Shapes.{after}
use Rattle.raw_frames.specs.Ownership.{block_owns, claim_owns}
use Rattle.raw_frames.proofs.Rows.{frame_ty, row_room}
use Rattle.raw_frames.proofs.Steps.{big_lit}
use Rattle.raw_frames.proofs.Values.{start_vals, places_val, claim_val, start_tells, places_tells, claim_tells}
use Rattle.raw_frames.specs.contracts.places.Places.{the_row as Row}
use Rattle.raw_frames.specs.contracts.places.Start.{the_row as Start}
use Rattle.raw_frames.specs.contracts.places.Claim as C-type
use Rattle.raw_frames.specs.contracts.places.give_back as f
use Rattle.raw_frames.proofs.places.give_back.Statement.{statement}
use Rattle.raw_frames.proofs.places.give_back.Code as code

pub give_back_spec : {M : Type 1} → statement M
give_back_spec 𝓤 𝓛 𝓜 𝓡 wired W laws g d drops met lets_go =
    let Z : Al = record { row = W; laws = laws; g = g; d = d; drops = drops } in
    let P : RattleType = param 0 W in let Claim : RattleType = C-type.the_row P g in
    let args : Args = bounded (a_type ∷ []) (W, tt) (dcons d (dcons drops dnil)) in
    let function : Fn = inst_fn args code.function in
    let ended : Ended = f.ended W g d drops in
    let stayed : Stays ended.signature.params ended.kept = (
      stay_dropped (RefOf (0 ∷ []) tt (plain (λ _. P)) (λ _. tt)) yes,
      (
        stay_dropped (plain (λ _. Start)) yes,
        (stay_dropped (plain (λ _. usize)) yes, (stay_dropped (plain (λ _. Row)) yes, (stay_dropped (plain (λ _. Claim)) no, tt))),
      ),
    ) in
    let c = f.clauses W g d drops 𝓛 𝓜.mem 𝓡.returns in let walk = walk_of 𝓛 ended stayed c in let 𝓣 = tables 𝓤 𝓛.H 𝓜 𝓡 𝓡.env in
    proved 𝓛 ended stayed c 𝓜 𝓡 (
      Goes-dropped 𝓛 2 (RefOf (0 ∷ []) tt (plain (λ _. P)) (λ _. tt)) yes (λ κs x w. refl),
      (
        Goes-dropped 𝓛 2 (plain (λ _. Start)) yes (λ κs x w. refl),
        (
          Goes-dropped 𝓛 2 (plain (λ _. usize)) yes (λ κs x w. refl),
          (Goes-dropped 𝓛 2 (plain (λ _. Row)) yes (λ κs x w. refl), (Goes-blank 𝓛 2 (plain (λ _. Claim)) no (λ κs x w. tt), tt)),
        ),
      ),
    )
    (f.Key.name args) function (code.unfolded 𝓤 𝓛.H 𝓜 𝓡 wired (W, tt) d drops)
    (λ κs. (shr_vals, (start_vals, (uint_vals w64, ((λ places. places_val ∷ []), ((λ claim. claim_val ∷ []), tt))))))
    (λ κs. (shr_Tells (named 0) κs.0 P, (start_tells, (uint_Tells w64, (places_tells, (claim_tells P g, tt))))))
    (λ κs qs bounds a none are.
    let κ = κs.0 in let q = qs.0 in let rb = a.0.ref_ptr.0 in let ro = a.0.ref_ptr.1 in let alloc = a.0.now in
    let start = a.1.0 in let count = a.1.1.0 in let places = a.1.1.1.0 in let claim = a.1.1.1.1.0 in
    let y : walk.Ghost = (
      (κs, qs, bounds, a, (shr_vals a.0, (start_vals start, (uint_vals w64 count, (places_val ∷ [], (claim_val ∷ [], tt)))))),
      none,
    ) in let vss = y.0.4 in
    let fits : count < 2 ^ 64 = are.1.1.0.1 in
    let whole_ty : Ty = ty_array frame_ty count in let τ : Ty = bare whole_ty in
    qed 𝓛 (((‵ (flft κ q) ⊛ ‵ (flft κs.1.0 qs.1.0) ⊛ ‵ ftrue) ⊛ ‵ (owns (ShrRef (named 0) κ P ∷ Start ∷ usize ∷ Row ∷ Claim ∷ []) a vss)) ∷
    (raw (fact 𝓤 (κs.1.0 ⊑ W.lives)) ⊛
    raw (fact 𝓤 ((places.at ≡ start.first) × (length places.slots ≡ count) × (claim.at ≡ start.first) × (claim.count ≡ count) × (claim.alloc ≡ alloc)))) ∷ []) ∵
    move ! (1 ∷ []) $ split ! $ heard ! _ (λ outlives. heard ! _ (λ asked. split ! $ split ! $ move ! (2 ∷ []) $ fsplit ! $ fsplit ! $
    move ! (2 ∷ []) $ fsplit ! $ move ! (1 ∷ []) $ fsplit ! $ move ! (1 ∷ []) $ fsplit ! $ fsplit ! $
    move ! (2 ∷ []) $ fsplit ! $ fsplit ! $
    -- [the fields of the claim; what it owns; nothing; the fields of the places; the block; the count; the pointer; an equation; what the `&` reaches;
    -- its token; the other tokens]
    keep ! (4 ∷ 1 ∷ 8 ∷ 9 ∷ 10 ∷ []) $ enter ! _ _ _ _ _ $
    alloc_all ! (λ l. pass_all ! refl ((tt, tt), (word-Good [] start.first, ((tt, record { fits = fits }), ((tt, tt), ((tt, (tt, tt)), tt))))) $
    let En : Env 𝓤 𝓛.H = env function.locals l in
    rewrite ! 0 (λ (p : Ptr). ‵ (block_owns p places.slots)) asked.0 refl $
    in_a_block ! start.first (λ p. block_owns p places.slots) (id⊢ 𝓤 (never 𝓤)) (λ b o e. fsplit ! $ flt_l ! (λ fit.
    let small : count * 4096 < 2 ^ 64 = let short : count * 4096 < 2 ^ 63 = subst (λ (k : ℕ). k * 4096 < 2 ^ 63) asked.1 fit in omega (arith, short) in
    let size_is : capped (size τ) ≡ count * 4096 = ap capped (size-raw whole_ty) ∙ capped_is (count * 4096) small in
    let align_is : capped (align τ) ≡ 1 = ap capped (align-raw whole_ty) ∙ capped_is 1 (lit< tt) in
    let call = at_gives Z 𝓛 𝓜.mem 𝓡.returns κ q (rb, ro) alloc b o (count * 4096) 1 τ in
    use1 𝓛 (‵ (froom (ty_array frame_ty (length places.slots)) b o)) (row_room 𝓛 b places.slots o) $
    rewrite ! 0 (λ (k : ℕ). ‵ (froom (ty_array frame_ty k) b o)) asked.1 refl $ as_raw ! whole_ty b o $
    rewrite ! 1 (λ (all : W.Denot × Ptr × ℕ). ‵ (claim_owns (token Z all.0) all.1 all.2)) (λ i. (asked.4 i, (asked.2 ∙ e) i, asked.3 i)) refl $
    -- [room for the frames; the allocator's token; what the `&` reaches; its token; the other tokens]
    first ! $ blocks ! $
    sets ! (is ! (of_opd ! (get_in ! (fld ! refl (stop !)) (sub ! 0 refl (whole !)))) (ap ptr_val e)) refl (tt, tt) $
    sets ! (bin ! (get ! refl) (big_lit ! (record { fits = lit< tt })) (record { fits = small })) refl (tt, record { fits = small }) $
    group ! 4 $ use1 𝓛 (raw ((Gives Z 𝓛 𝓜.mem 𝓡.returns).pre call)) (Gives-goes Z 𝓛 𝓜.mem 𝓡.returns κ q (rb, ro) alloc (Incl-trans bounds.0 outlives)
    b o (count * 4096) 1 τ size_is align_is small (lit< tt)) $
    calls_at_last ! (framed 𝓤 𝓛.H 𝓜 𝓣) (Gives Z 𝓛 𝓜.mem 𝓡.returns) (met.deallocate drops) call
    (and_then ! (get ! refl) (and_then ! (get ! refl) (and_then ! (get ! refl) (and_then ! (lit ! tt) (no_more !))))) (λ v.
    use1 𝓛 (later (given (v ≡ vunit) (‵ (flft κ q)))) (Gives-Gives Z 𝓛 𝓜.mem 𝓡.returns κ q (rb, ro) alloc b o (count * 4096) 1 τ v) $ await ! tt $
    learn ! (λ is_unit.
    lands_last ! refl (subst (λ (u : Val). T (has_ty ty_unit u) × WT u) (sym is_unit) (tt, tt)) $
    exec ! 𝓣.C 𝓣.Λ En (after 1 function.body) (at_ret En (walk.post y)) $
    sets ! (of_opd ! (unit_lit !)) refl (tt, tt) $ returns ! (look_at ! 0 refl) $ free_all ! refl $
    suffices ! _ (ends_at 𝓛 ended stayed c y vunit tt (tt, (tt, (tt, (tt, (tt, tt))))) (tt, (tt, (tt, (tt, (tt, tt)))))) $
    join ! $ feq_i ! (List Val) (vunit ∷ []) (vunit ∷ []) refl $ nothing ! $ nothing ! $ fjoin ! $ nothing ! $ fjoin ! $ nothing ! $ fjoin ! $
    nothing ! $ fjoin ! $ nothing ! $ fjoin ! $ join ! $
    move ! (1 ∷ 0 ∷ []) $ join ! $ nothing ! $ move ! (1 ∷ 0 ∷ []) $ done !))))))))
