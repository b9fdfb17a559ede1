-- `see` follows the pointer to a filled place: what the row lends of that place is a `&` to its bytes.
use mathlib.Core.Path.{◌≡◌, refl, ◌∙◌}
use Prim.Native.Nat.{ℕ, ◌+◌, ◌*◌, ◌<◌, ◌^◌}
use native.Mathlib.Omega.{arith}
use mathlib.Core.List.{List, [], ◌∷◌}
use lib.Dec.{lit<}
use lib.ListN.{get_or}
use base.Fraction.{full_share}
use base.Logic.{never, id⊢}
use base.Fml.{ftrue, fat, flft}
use mir.Syntax.{named, w64}
use mir.Val.{Val, vptr}
use prog.Wp.{Env}
use contract.Monad.{fact}
use contract.Running.{tables}
use types.Kit.{‵, raw, ◌⊛◌, at_ret, ◌$◌, ◌∵◌, !, qed, move, keep, drop, use1, split, join, frame, rewrite, fsplit, fjoin, feq_i, flt_l, suffices, done}
use types.Part.{whole, sub}
use types.Run.{stop, fld, bin, of_opd, addr, first, blocks, exec, returns, enter}
use types.ByLocal.{alloc_all, pass_all, free_all, look_at, get, get_in, through, sets, sets_last, env, take_at, give_at}
use denote.Exit.{yes}
use denote.RattleType.{owns}
use denote.Param.{layout}
use denote.RawPtr.{Ptr, in_a_block}
use denote.Ref.{ShrRef, shr_vals, shr_Tells}
use denote.Builtin.{usize, RefOf}
use denote.Plain.{uint_vals, uint_Tells}
use denote.Signature.{plain}
use denote.Opens.{hide, unhide}
use denote.Steps.{nothing, heard}
use denote.Triple.Walked.{says, Stays, stay_dropped, walk_of, ends_at, Goes-dropped}
use Rattle.std.proofs.raw_atomic.Walks.{proved}
use Rattle.std.proofs.VecSteps.Shapes.{after}
use Rattle.std.proofs.RcSteps.{word, word-Good}
use Rattle.std.specs.Prelude.{Option, Some, None}
use Rattle.raw_frames.specs.Ownership.{place_lends, block_lends}
use Rattle.raw_frames.specs.Places.{IsFilled}
use Rattle.raw_frames.proofs.Rows.{filled_within, slot_seen}
use Rattle.raw_frames.proofs.Steps.{big_lit}
use Rattle.raw_frames.proofs.Values.{start_vals, start_tells}
use Rattle.raw_frames.specs.contracts.places.Places.{the_row as Row}
use Rattle.raw_frames.specs.contracts.places.Start.{the_row as Start}
use Rattle.raw_frames.specs.contracts.places.Places.see as f
use Rattle.raw_frames.proofs.places.Places.see.Statement.{statement}
use Rattle.raw_frames.proofs.places.Places.see.Code as code

abbrev stayed : Stays f.ended.signature.params f.ended.kept
stayed = (
  stay_dropped (RefOf (0 ∷ []) tt (plain (λ _. Row)) (λ _. tt)) yes,
  (stay_dropped (plain (λ _. Start)) yes, (stay_dropped (plain (λ _. usize)) yes, tt)),
)

pub see_spec : {M : Type 1} → statement M
see_spec 𝓤 𝓛 𝓜 𝓡 wired =
    let c = f.clauses 𝓛 𝓜.mem 𝓡.returns in let W = walk_of 𝓛 f.ended stayed c in let 𝓣 = tables 𝓤 𝓛.H 𝓜 𝓡 𝓡.env in
    proved 𝓛 f.ended stayed c 𝓜 𝓡 (
      Goes-dropped 𝓛 1 (RefOf (0 ∷ []) tt (plain (λ _. Row)) (λ _. tt)) yes (λ κs x w. refl),
      (Goes-dropped 𝓛 1 (plain (λ _. Start)) yes (λ κs x w. refl), (Goes-dropped 𝓛 1 (plain (λ _. usize)) yes (λ κs x w. refl), tt)),
    )
    f.Key.name code.function (code.unfolded 𝓤 𝓛.H 𝓜 𝓡 wired)
    (λ κs. (shr_vals, (start_vals, (uint_vals w64, tt))))
    (λ κs. (shr_Tells (named 0) κs.0 Row, (start_tells, (uint_Tells w64, tt))))
    (λ κs qs bounds a none are.
    let κ = κs.0 in let q = qs.0 in let rb = a.0.ref_ptr.0 in let ro = a.0.ref_ptr.1 in let d = a.0.now in
    let start = a.1.0 in let index = a.1.1.0 in
    let y : W.Ghost = ((κs, qs, bounds, a, (shr_vals a.0, (start_vals start, (uint_vals w64 index, tt)))), none) in let vss = y.0.4 in
    let fits : index < 2 ^ 64 = are.1.1.0.1 in
    qed 𝓛 (((‵ (flft κ q) ⊛ ‵ ftrue) ⊛ ‵ (owns (ShrRef (named 0) κ Row ∷ Start ∷ usize ∷ []) a vss)) ∷
    raw (fact 𝓤 ((start.first ≡ d.at) × IsFilled d.slots index)) ∷ []) ∵
    move ! (1 ∷ []) $ heard ! _ (λ asked. split ! $ split ! $ move ! (2 ∷ []) $ fsplit ! $ fsplit ! $
    -- [an equation; what the `&` reaches; the other parameters; the token; nothing]
    keep ! (1 ∷ 3 ∷ []) $
    let bytes = asked.1.0 in let filled : get_or d.slots index None ≡ Some bytes = asked.1.1 in let within = filled_within d.slots index bytes filled in
    enter ! _ _ _ _ _ $ alloc_all ! (λ l. pass_all ! refl ((tt, tt), (word-Good [] start.first, ((tt, record { fits = fits }), tt))) $
    let En : Env 𝓤 𝓛.H = env (code.function).locals l in
    unhide ! $ fsplit ! $ drop ! $ in_a_block ! d.at (λ p. block_lends p d.slots κ) (id⊢ 𝓤 (never 𝓤)) (λ b o e. fsplit ! $ flt_l ! (λ short.
    let far : index * 4096 < 2 ^ 64 = omega (arith, short, within) in
    let at = index * 4096 + o in
    take_at ! 2 $ rewrite ! 0 (λ (p : Ptr). ‵ (fat full_share (layout Start) (l 2) 0 (word p))) (asked.0 ∙ e) refl $ give_at ! 2 $ first ! $ blocks ! $
    sets ! (bin ! (get ! refl) (big_lit ! (record { fits = lit< tt })) (record { fits = far })) refl (tt, record { fits = far }) $
    sets ! (bin ! (get_in ! (fld ! refl (stop !)) (sub ! 0 refl (whole !))) (get ! refl) tt) refl (tt, tt) $
    use1 𝓛 (‵ (place_lends b at (get_or d.slots index None) κ)) (slot_seen 𝓛 b κ o d.slots index within) $
    rewrite ! 0 (λ (slot : Option (List ℕ)). ‵ (place_lends b at slot κ)) filled refl $ hide ! $
    sets_last ! (addr ! (through ! refl (stop !))) refl (tt, tt) $
    exec ! 𝓣.C 𝓣.Λ En (after 1 (code.function).body) (at_ret En (W.post y)) $ sets ! (of_opd ! (get ! refl)) refl (tt, tt) $
    feq_i ! (List Val) (vptr b at ∷ []) (vptr b at ∷ []) refl $ fjoin ! $ returns ! (look_at ! 0 refl) $ free_all ! refl $
    -- [the result; the token]
    suffices ! _ (ends_at 𝓛 f.ended stayed c y (vptr b at) (record { ref_ptr = (b, at); now = bytes }) (tt, (tt, (tt, tt))) (tt, (tt, (tt, tt)))) $
    says ! filled $
    nothing ! $ move ! (2 ∷ 0 ∷ []) $ join ! $ frame ! $ nothing ! $ nothing ! $ fjoin ! $ nothing ! $ fjoin ! $ nothing ! $ fjoin ! $ join ! $ done !)))))
