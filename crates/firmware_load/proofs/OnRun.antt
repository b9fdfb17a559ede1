-- A load that is on its run, and what its allocator was asked on the way.
use Rattle.std.proofs.Common.{◌≡◌, ℕ, ◌⊎◌, inl, inr, true, false, List, [], ◌∷◌, ◌++◌, Some, append_assoc, refl, sym, ap, subst, ◌∙◌}
use Rattle.std.proofs.lemmas.Bool.{true≢false}
use Rattle.std.proofs.lemmas.Option.{none-some}
use Rattle.vt_outside.specs.Stream.{next_count}
use Rattle.zone_alloc.specs.Allocators.{AllocState}
use Rattle.cfg_directory.specs.declared.item.Item.{Item}
use Rattle.command_acts.specs.Allocators.{AreLawful}
use Rattle.command_acts.specs.declared.fault.LoadFault.TheVariants.{NoRoom}
use Rattle.command_acts.specs.Script.{IsAsked}
use Rattle.command_acts.specs.Runs.{Answers}
use Rattle.load_states.specs.declared.event.Event.{Event}
use Rattle.load_states.specs.declared.stage.Stage.{Stage}
use Rattle.load_states.specs.declared.stage.Stage.TheVariants.{Asks, Awaits, AtCommand, AwaitsSkip, AsksWrite, AwaitsWrite, Done, Refused}
use Rattle.load_states.specs.LoadState.{LoadState, Opening, memory_of, opening_of}
use Rattle.load_states.specs.Runs.{AnyLawful, RunsTo, StepsTo, has_ended}
use Rattle.load_states.proofs.MoreAnswers.{lawful_more, steps_more}
use Rattle.load_states.proofs.NoRoomAsked.{no_room_asks}
use Rattle.load_states.proofs.Readings.{no_room_of}
use Rattle.load_states.proofs.StepKeeps.{step_keeps, step_keeps_now}
use Rattle.firmware_load.specs.World.{IsWithoutRoom, IsSound}
use Rattle.firmware_load.specs.declared.loading.Loading.{Loading}
use Rattle.firmware_load.specs.Inside.{load_of, IsInside, IsOnRun, AsksOnTheWay}

-- one more event of a run
runs_more : (May : Answers) (events : List Event) (event : Event) (begun w next : LoadState) → RunsTo May events begun w → has_ended w.stage ≡ false
    → StepsTo May event w next → RunsTo May (events ++ event ∷ []) begun next
runs_more May [] event begun w next runs running steps =
    subst (λ (v : LoadState). RunsTo May (event ∷ []) v next) runs (running, (next, steps, refl))
runs_more May (first ∷ events) event begun w next runs running steps =
    (runs.0, (runs.1.0, runs.1.1, runs_more May events event runs.1.0 w next runs.1.2 running steps))

pub run_more : (May : Answers) (begun : LoadState) (events : List Event) (event : Event) (w next : LoadState) → AreLawful May (memory_of begun).top
    → IsOnRun May begun events w → has_ended w.stage ≡ false → StepsTo May event w next → IsOnRun May begun (events ++ event ∷ []) next
run_more May begun events event w next lawful on running steps = record {
  ran = runs_more May events event begun w next on.ran running steps;
  kept = step_keeps May (opening_of begun) events event w next lawful on.kept steps;
}

-- What a load follows: from wherever it is on its run, the events that a schedule has given.
abbrev pub Follows : Answers → LoadState → LoadState → List Event → List Event → Type 0
Follows May first w left_first left =
    (begun : LoadState) (before : List Event) → IsOnRun May begun before first
    → (taken : List Event) × (left_first ≡ taken ++ left) × IsOnRun May begun (before ++ taken) w

-- and it follows one more
pub follows_more : (May : Answers) (first w next : LoadState) (event : Event) (left_first left left_now : List Event) → AreLawful May (memory_of first).top
    → Follows May first w left_first left → left ≡ event ∷ left_now → has_ended w.stage ≡ false → StepsTo May event w next
    → Follows May first next left_first left_now
follows_more May first w next event left_first left left_now lawful follows is running steps = λ begun before on.
    let so = follows begun before on in (
      so.0 ++ event ∷ [],
      so.1 ∙ ap (λ es. so.0 ++ es) is ∙ sym (append_assoc so.0 (event ∷ []) left_now),
      subst (λ (es : List Event). IsOnRun May begun es next) (append_assoc before so.0 (event ∷ []))
          (run_more May begun (before ++ so.0) event w next (subst (AreLawful May) on.kept.now.top lawful) so.2 running steps),
    )

-- the schedule has no more
pub follows_all : (May : Answers) (first w : LoadState) (left_first left left_now : List Event) → Follows May first w left_first left → left ≡ []
    → left_now ≡ [] → Follows May first w left_first left_now
follows_all May first w left_first left left_now follows none none_now =
    subst (Follows May first w left_first) (none ∙ sym none_now) follows

-- a load that ends without room has ended
no_room_ended : (s : Stage) (index : ℕ) → no_room_of s ≡ Some index → has_ended s ≡ true
no_room_ended (Asks reading) index is = absurd (none-some index is)
no_room_ended (Awaits reading) index is = absurd (none-some index is)
no_room_ended (AtCommand at) index is = absurd (none-some index is)
no_room_ended (AwaitsSkip at) index is = absurd (none-some index is)
no_room_ended (AsksWrite at) index is = absurd (none-some index is)
no_room_ended (AwaitsWrite at) index is = absurd (none-some index is)
no_room_ended Done index is = absurd (none-some index is)
no_room_ended (Refused why) index is = refl

-- nothing was asked yet
pub asks_nothing : (items : List Item) (l : Loading) (alloc : AllocState) → AsksOnTheWay items l l alloc alloc
asks_nothing items l alloc = record { no_room = λ index is. inl is; sound = λ same. refl; ended = λ over. (refl, refl); top = refl }

-- What a step of a load asks that hasn't ended, as its code says it.
pub step_asks : (May : Answers) (its : Opening) (event : Event) (before after : Loading) (alloc_before alloc_after : AllocState)
    → AreLawful May before.guest.memory.memory.top → IsInside its before → has_ended before.stage ≡ false
    → StepsTo May event (load_of before) (load_of after)
    → IsWithoutRoom event (load_of before) (load_of after) alloc_before alloc_after
    → IsSound (load_of before) (load_of after) alloc_before alloc_after → AsksOnTheWay its.items before after alloc_before alloc_after
step_asks May its event before after alloc_before alloc_after lawful inside running steps without sound =
    let own = subst (AreLawful May) inside.kept.top lawful in
    let kept = step_keeps_now (AnyLawful its.top) its event (load_of before) (load_of after) (λ handed request place free. free)
    inside.kept (steps_more May (AnyLawful its.top) (lawful_more May its.top own) event (load_of before) (load_of after) steps) in
    record {
      no_room = λ index is.
          elim (without index is) as (λ _. (before.stage ≡ Refused (NoRoom index))
          ⊎ ((alloc_after.refusals ≡ next_count alloc_before.refusals) × IsAsked its.items index alloc_after.refused)) [
            | inl there ↦ inl there
            | inr refuses ↦ inr (
              refuses.0,
              elim (no_room_asks May (AnyLawful its.top) its event (load_of before) (load_of after) index inside.kept steps is)
                  as (λ _. IsAsked its.items index alloc_after.refused) [
                    | inl there ↦ absurd (true≢false (sym (no_room_ended before.stage index there) ∙ running))
                    | inr asked ↦ subst (IsAsked its.items index) (sym refuses.1) asked
                  ],
            )
          ];
      sound = sound;
      ended = λ over. absurd (true≢false (sym over ∙ running));
      top = kept.top ∙ sym inside.kept.top;
    }

-- a running load isn't where it has ended
not_there : (s : Stage) (index : ℕ) → has_ended s ≡ false → s ≡ Refused (NoRoom index) → ⊥
not_there s index running is = true≢false (sym (ap has_ended is) ∙ running)

-- What was asked on the way to a load that hasn't ended, and from there on.
pub asks_through : (items : List Item) (first between last : Loading) (alloc_first alloc_between alloc_last : AllocState)
    → has_ended between.stage ≡ false → AsksOnTheWay items first between alloc_first alloc_between
    → AsksOnTheWay items between last alloc_between alloc_last
    → AsksOnTheWay items first last alloc_first alloc_last
asks_through items first between last alloc_first alloc_between alloc_last running before after =
    let same : alloc_between.refusals ≡ alloc_first.refusals = before.sound (λ index is. absurd (not_there between.stage index running is)) in
    record {
      no_room = λ index is.
          inr (elim (after.no_room index is)
          as (λ _. (alloc_last.refusals ≡ next_count alloc_first.refusals) × IsAsked items index alloc_last.refused) [
            | inl there ↦ absurd (not_there between.stage index running there)
            | inr refuses ↦ (
              refuses.0 ∙ ap next_count same,
              refuses.1,
            )
          ]);
      sound = λ there. after.sound (λ index is. (before.ended (ap has_ended (there index is))).0 ∙ there index is) ∙ same;
      ended = λ over. absurd (true≢false (sym (ap has_ended (before.ended over).0 ∙ over) ∙ running));
      top = after.top ∙ before.top;
    }

-- a load that has ended asks nothing more
pub asks_no_more : (items : List Item) (first between last : Loading) (alloc_first alloc_between alloc_last : AllocState)
    → has_ended between.stage ≡ true → AsksOnTheWay items first between alloc_first alloc_between
    → AsksOnTheWay items between last alloc_between alloc_last
    → AsksOnTheWay items first last alloc_first alloc_last
asks_no_more items first between last alloc_first alloc_between alloc_last over before after =
    let still = after.ended over in
    record {
      no_room = λ index is.
          elim (before.no_room index (sym still.0 ∙ is)) as (λ _. (first.stage ≡ Refused (NoRoom index))
          ⊎ ((alloc_last.refusals ≡ next_count alloc_first.refusals) × IsAsked items index alloc_last.refused)) [
            | inl there ↦ inl there
            | inr refuses ↦ inr (
              ap (λ (s : AllocState). s.refusals) still.1 ∙ refuses.0,
              subst (λ (s : AllocState). IsAsked items index s.refused) (sym still.1) refuses.1,
            )
          ];
      sound = λ there. ap (λ (s : AllocState). s.refusals) still.1 ∙ before.sound (λ index is. there index (still.0 ∙ is));
      ended = λ was. let so = before.ended was in (still.0 ∙ so.0, still.1 ∙ so.1);
      top = after.top ∙ before.top;
    }
