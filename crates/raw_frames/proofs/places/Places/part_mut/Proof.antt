-- `part_mut` follows the pointer to a filled place and lends a part of the bytes there. What is left of the block waits in the loan: the
-- bytes before and behind the part, and the other places. When the loan ends, as many bytes come back, and `put_back` makes the block of
-- them. A list of another length changes nothing, as `refill` says.
use mathlib.Core.Path.{◌≡◌, refl, sym, ap, subst, ◌∙◌}
use Prim.Native.Nat.{ℕ, ◌+◌, ◌*◌, ◌<◌, ◌≤◌, ◌^◌}
use native.Mathlib.Omega.{arith}
use mathlib.Core.List.{List, [], ◌∷◌}
use lib.Dec.{lit<}
use lib.ListN.{length, get_or, length-set}
use seplogic.Ra.Ura.{Ura}
use base.Fraction.{full_share}
use base.Logic.{ent, sep, never, id⊢}
use base.Fml.{GName, Fml, ftrue, fsep, fat, flft}
use mir.Syntax.{named, w64}
use mir.Val.{Val}
use prog.Wp.{Env}
use types.Logic.{Logic, sem}
use contract.Monad.{fact}
use contract.Running.{tables}
use types.Kit.{‵, raw, ◌⊛◌, some, given, later, await, pick, learn, at_ret, ◌$◌, ◌∵◌, !, qed, by, move, keep, use1, use2, split, join, group, frame}
use types.Kit.{rewrite, fsplit, fsplit3, fjoin, fjoin3, fpack, flt_l, flt_i, suffices, done}
use types.Part.{whole, sub, agg}
use types.Run.{stop, fld, bin, of_opd, and_then, no_more, first, blocks, exec, returns, enter}
use types.SemTy.{cells}
use types.ByLocal.{alloc_all, pass_all, free_all, look_at, get, get_in, sets, sets_last, env, take_at, give_at}
use denote.Exit.{yes, no}
use denote.RattleType.{RattleType, owns}
use denote.Memory.{mem, cell_at, part_at, part_of}
use denote.Param.{layout}
use denote.RawPtr.{Ptr, block_ptr, in_a_block}
use denote.Ref.{MutBor, MutRef, mut_vals, mut_Tells}
use denote.Array.{Array}
use denote.Builtin.{u8, usize}
use denote.Slice.{MutSlice, Room, slice_val}
use denote.Follow.{follows}
use denote.FollowSlice.{Elements, lends_Elements}
use denote.Plain.{uint_vals, uint_Tells}
use denote.Signature.{plain, mut_ref_to}
use denote.Steps.{nothing, heard, opens}
use denote.Struct.Struct.{Struct}
use denote.Struct.Owning.{shape}
use denote.Triple.Walked.{says, Stays, stay_dropped, walk_of, ends_at, Goes-dropped, Goes-spent_ref}
use Rattle.std.proofs.raw_atomic.Walks.{proved}
use Rattle.std.proofs.VecSteps.Shapes.{after}
use Rattle.std.proofs.RcSteps.{word, word-Good}
use Rattle.std.specs.Prelude.{Option, Some, None}
use Rattle.std.specs.List.{refill}
use Rattle.vt_bytes.specs.Parts.{part, put_at}
use Rattle.raw_frames.specs.Ownership.{Frame, place_owns, row_owns, block_owns}
use Rattle.raw_frames.specs.Places.{IsFilled}
use Rattle.raw_frames.specs.Windows.{bytes_in, frame_at, with_window}
use Rattle.raw_frames.specs.WindowLends.{with_slots}
use Rattle.raw_frames.proofs.ArrayParts.{Others, part_out, part_in}
use Rattle.raw_frames.proofs.Rows.{filled_within, Besides, slot_out, slot_in}
use Rattle.raw_frames.proofs.Steps.{big_lit}
use Rattle.raw_frames.proofs.Values.{start_vals, start_tells}
use Rattle.raw_frames.specs.contracts.places.Places.{the_type, the_row as Row}
use Rattle.raw_frames.specs.contracts.places.Start.{the_row as Start}
use Rattle.raw_frames.specs.contracts.places.Places.part_mut as f
use Rattle.raw_frames.proofs.places.Places.part_mut.Statement.{statement}
use Rattle.raw_frames.proofs.places.Places.part_mut.Code as code

abbrev stayed : Stays f.ended.signature.params f.ended.kept
stayed = (
  stay_dropped (mut_ref_to (0 ∷ []) tt (plain (λ _. Row))) no,
  (
    stay_dropped (plain (λ _. Start)) yes,
    (stay_dropped (plain (λ _. usize)) yes, (stay_dropped (plain (λ _. usize)) yes, (stay_dropped (plain (λ _. usize)) yes, tt))),
  ),
)

-- what owns no byte of the places
abbrev Blank : RattleType
Blank = Struct (shape the_type)

module _ {M : Type 1} {𝓤 : Ura M} (𝓛 : Logic 𝓤) (rb ro : ℕ) (d : Row.Denot) (index place len : ℕ) (b o : ℕ) (vs : List Val) where
  -- the frame, the part that is lent, and what the places end as
  abbrev frame_bytes : List ℕ
  frame_bytes = frame_at d.slots index

  abbrev lent : List ℕ
  lent = part frame_bytes place len

  abbrev ends_as : List ℕ → Row.Denot
  ends_as ws = with_slots d (with_window d.slots index place len ws)

  -- all of the block but the part
  abbrev Waits : Fml
  Waits = fsep (Others 𝓛 4096 b (index * 4096 + o) frame_bytes place len)
      (fsep (Besides 𝓛 b o d.slots index) (fsep (Blank.own_val tt vs) (cell_at full_share Row.mir vs rb ro)))

  put_back : d.at ≡ block_ptr b o → index < length d.slots → length d.slots * 4096 < 2 ^ 63 → place + len ≤ 4096 → length frame_bytes ≡ 4096
      → (ws : List ℕ) → length ws ≡ length lent
      → ent 𝓤 (sep 𝓤 (sem 𝓛 (cells (mem u8) ws b (place + (index * 4096 + o)))) (sem 𝓛 Waits)) (sem 𝓛 ((mem Row).own_at (ends_as ws) rb ro))
  unfolding part_of
  put_back e inside short le whole ws same =
      let left : List ℕ = put_at frame_bytes place (refill len lent ws) in
      qed 𝓛 (‵ (cells (mem u8) ws b (place + (index * 4096 + o))) ∷ ‵ Waits ∷ []) ∵ move ! (1 ∷ []) $ fsplit ! $ move ! (2 ∷ 0 ∷ []) $
      use2 𝓛 (‵ (part_at Frame full_share left b (index * 4096 + o))) (part_in 𝓛 4096 b (index * 4096 + o) frame_bytes place len le whole ws same) $
      move ! (1 ∷ []) $ fsplit3 ! $ move ! (3 ∷ 0 ∷ []) $
      use2 𝓛 (‵ (row_owns b o (with_window d.slots index place len ws))) (slot_in 𝓛 b o d.slots index inside (Some left)) $
      flt_i ! (length (ends_as ws).slots * 4096) (2 ^ 63) (subst (λ (k : ℕ). k * 4096 < 2 ^ 63) (sym (length-set d.slots index (Some left))) short) $ fjoin ! $
      rewrite ! 0 (λ (p : Ptr). ‵ (block_owns p (ends_as ws).slots)) (sym e) refl $ move ! (1 ∷ 0 ∷ []) $ fjoin ! $ move ! (1 ∷ 0 ∷ []) $ fjoin ! $
      fpack ! (List Val) (λ us. fsep (cell_at full_share Row.mir us rb ro) (Row.own_val (ends_as ws) us)) vs $ done !

pub part_mut_spec : {M : Type 1} → statement M
part_mut_spec 𝓤 𝓛 𝓜 𝓡 wired =
    let c = f.clauses 𝓛 𝓜.mem 𝓡.returns in let W = walk_of 𝓛 f.ended stayed c in let 𝓣 = tables 𝓤 𝓛.H 𝓜 𝓡 𝓡.env in
    proved 𝓛 f.ended stayed c 𝓜 𝓡 (
      Goes-spent_ref 𝓛 1 (0 ∷ []) tt (plain (λ _. Row)),
      (
        Goes-dropped 𝓛 1 (plain (λ _. Start)) yes (λ κs x w. refl),
        (
          Goes-dropped 𝓛 1 (plain (λ _. usize)) yes (λ κs x w. refl),
          (
            Goes-dropped 𝓛 1 (plain (λ _. usize)) yes (λ κs x w. refl),
            (Goes-dropped 𝓛 1 (plain (λ _. usize)) yes (λ κs x w. refl), tt),
          ),
        ),
      ),
    )
    f.Key.name code.function (code.unfolded 𝓤 𝓛.H 𝓜 𝓡 wired)
    (λ κs. (mut_vals, (start_vals, (uint_vals w64, (uint_vals w64, (uint_vals w64, tt))))))
    (λ κs. (mut_Tells (named 0) κs.0 Row, (start_tells, (uint_Tells w64, (uint_Tells w64, (uint_Tells w64, tt))))))
    (λ κs qs bounds a none are.
    let κ = κs.0 in let q = qs.0 in let rb = a.0.ref_ptr.0 in let ro = a.0.ref_ptr.1 in let γ = a.0.ghost_name in let d = a.0.now in
    let start = a.1.0 in let index = a.1.1.0 in let place = a.1.1.1.0 in let len = a.1.1.1.1.0 in
    let y : W.Ghost = (
      (κs, qs, bounds, a, (mut_vals a.0, (start_vals start, (uint_vals w64 index, (uint_vals w64 place, (uint_vals w64 len, tt)))))),
      none,
    ) in let vss = y.0.4 in
    let fits : index < 2 ^ 64 = are.1.1.0.1 in let fits_place : place < 2 ^ 64 = are.1.1.1.0.1 in let fits_len : len < 2 ^ 64 = are.1.1.1.1.0.1 in
    let bytes : List ℕ = frame_at d.slots index in let wanted : List ℕ = part bytes place len in
    qed 𝓛 (((‵ (flft κ q) ⊛ ‵ ftrue) ⊛ ‵ (owns (MutRef (named 0) κ Row ∷ Start ∷ usize ∷ usize ∷ usize ∷ []) a vss)) ∷
    raw (fact 𝓤 ((start.first ≡ d.at) × IsFilled d.slots index × (place + len ≤ 4096))) ∷ []) ∵
    move ! (1 ∷ []) $ heard ! _ (λ asked. split ! $ split ! $ move ! (2 ∷ []) $ fsplit ! $ fsplit3 ! $
    -- [three entries of self; the other parameters; the token; nothing]
    keep ! (1 ∷ 2 ∷ 4 ∷ []) $
    let le : place + len ≤ 4096 = asked.2 in
    let inside : index < length d.slots = filled_within d.slots index asked.1.0 asked.1.1 in
    let filled : get_or d.slots index None ≡ Some bytes = asked.1.1 ∙ ap Some (sym (ap bytes_in asked.1.1)) in
    let coded = Row.coded.code d in
    enter ! _ _ _ _ _ $ alloc_all ! (λ l. pass_all ! refl (
      (tt, tt),
      (
        word-Good [] start.first,
        (
          (tt, record { fits = fits }),
          (
            (
              tt,
              record {
                fits
                    = fits_place;
              },
            ),
            ((tt, record { fits = fits_len }), tt),
          ),
        ),
      ),
    ) $
    let En : Env 𝓤 𝓛.H = env (code.function).locals l in
    opens ! tt Row {h = d} rb ro (λ vs. move ! (1 ∷ []) $ fsplit ! $ move ! (1 ∷ []) $
    in_a_block ! d.at (λ p. block_owns p d.slots) (id⊢ 𝓤 (never 𝓤)) (λ b o e. fsplit ! $ flt_l ! (λ short.
    let far : index * 4096 < 2 ^ 64 = omega (arith, short, inside) in let at = index * 4096 + o in
    take_at ! 2 $ rewrite ! 0 (λ (p : Ptr). ‵ (fat full_share (layout Start) (l 2) 0 (word p))) (asked.0 ∙ e) refl $ give_at ! 2 $ first ! $ blocks ! $
    sets ! (bin ! (get ! refl) (big_lit ! (record { fits = lit< tt })) (record { fits = far })) refl (tt, record { fits = far }) $
    sets ! (bin ! (get_in ! (fld ! refl (stop !)) (sub ! 0 refl (whole !))) (get ! refl) tt) refl (tt, tt) $
    sets ! (of_opd ! (get ! refl)) refl (tt, tt) $
    sets ! (bin ! (get ! refl) (get ! refl) tt) refl (tt, tt) $
    sets_last ! (agg ! (and_then ! (get ! refl) (and_then ! (get ! refl) (no_more !)))) refl (tt, (tt, (record { fits = fits_len }, tt))) $
    exec ! 𝓣.C 𝓣.Λ En (after 1 (code.function).body) (at_ret En (W.post y)) $ sets ! (of_opd ! (get ! refl)) refl (tt, (tt, (record { fits = fits_len }, tt))) $
    -- [the places; what has no bytes; its cell; the open borrow, in three entries]
    use1 𝓛 (‵ (place_owns b at (get_or d.slots index None)) ⊛ ‵ (Besides 𝓛 b o d.slots index)) (slot_out 𝓛 b o d.slots index inside) $ split ! $
    rewrite ! 0 (λ (slot : Option (List ℕ)). ‵ (place_owns b at slot)) filled refl $
    use1 𝓛 (given ((length bytes ≡ 4096) × (length wanted ≡ len)) (‵ (cells (mem u8) wanted b (place + at)) ⊛ ‵ (Others 𝓛 4096 b at bytes place len)))
    (part_out 𝓛 4096 b at bytes place len le) $ learn ! (λ sizes. split ! $
    let room : Room u8 (length wanted) = (omega (arith, sizes.1, le), omega (arith, sizes.1, le)) in
    let way = put_back 𝓛 rb ro d index place len b o vs e inside short le sizes.0 in
    let Ends = ends_as 𝓛 rb ro d index place len b o vs in
    let Kept = sem 𝓛 (Waits 𝓛 rb ro d index place len b o vs) in
    -- [the part; the other bytes; the other places; what has no bytes; its cell; the open borrow, in two entries; the token]
    move ! (2 ∷ 3 ∷ 4 ∷ []) $ fjoin3 ! $ move ! (2 ∷ 0 ∷ []) $ fjoin ! $ move ! (2 ∷ 3 ∷ 4 ∷ 1 ∷ 0 ∷ []) $ group ! 5 $
    use1 𝓛 (later (some (λ (δ : GName). raw (Elements 𝓛 Row u8 Ends (named 0) κ q rb ro b (place + at) γ wanted room Kept way δ))))
    (lends_Elements 𝓛 Row u8 Ends (named 0) κ q rb ro b (place + at) γ wanted room Kept way coded coded) $ await ! tt $ pick ! (λ δ.
    let r : MutBor (List ℕ) = record { ref_ptr = (b, place + at); ghost_name = δ; now = wanted } in
    returns ! (look_at ! 0 refl) $ free_all ! refl $ keep ! (0 ∷ []) $
    by ! (subst (λ (k : ℕ). ent 𝓤 (Elements 𝓛 Row u8 Ends (named 0) κ q rb ro b (place + at) γ wanted room Kept way δ)
    (W.post y (slice_val (b, place + at) k))) sizes.1
    (qed 𝓛 (‵ ((MutSlice (named 0) κ u8).own_val r (slice_val (b, place + at) (length wanted) ∷ [])) ∷ ‵ (flft κ q) ∷
    ‵ (follows Row (Array u8 0) γ δ Ends) ∷ []) ∵
    suffices ! _ (ends_at 𝓛 f.ended stayed c y (slice_val (b, place + at) (length wanted)) r (tt, (tt, (tt, (tt, (tt, tt)))))
    (tt, (tt, (tt, (tt, (tt, tt)))))) $
    nothing ! $ nothing ! $ fjoin ! $ nothing ! $ fjoin ! $ nothing ! $ fjoin ! $ nothing ! $ fjoin ! $ nothing ! $ fjoin ! $ join ! $ nothing ! $
    move ! (2 ∷ 0 ∷ []) $ join ! $ join ! $ frame ! $
    says ! (refl, sizes.1) $ done !))))))))))
