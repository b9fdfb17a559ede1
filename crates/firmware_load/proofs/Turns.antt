-- Turns of a step of the firmware and a piece as long as any transfer end a load.
use Rattle.std.proofs.Common.{◌≡◌, ℕ, zero, suc, ◌+◌, ◌*◌, ◌<◌, ◌≤◌, ◌⊎◌, inl, inr, true, false, List, [], ◌∷◌, ◌++◌, length, if◌then◌else◌, Option}
use Rattle.std.proofs.Common.{Some, None, append_assoc}
use Rattle.std.proofs.Common.{arith, refl, sym, ap, subst, ◌∙◌}
use Rattle.std.proofs.lemmas.Bool.{cond-true, cond-false, true≢false}
use Rattle.std.proofs.lemmas.List.{append-nil}
use Rattle.std.specs.Option.{option_map, option_map_or}
use Rattle.cfg_directory.specs.declared.item.Item.{Item}
use Rattle.cfg_directory.specs.declared.listed.Listed.{Listed}
use Rattle.cfg_directory.specs.Items.{named}
use Rattle.cfg_directory.specs.Listing.{listed_of}
use Rattle.cfg_directory.specs.Shapes.{HaveOneShape}
use Rattle.cfg_directory.proofs.Shapes.{same_listed, same_length}
use Rattle.loader_script.specs.LoaderName.{loader_name}
use Rattle.cfg_dma.specs.declared.transfer.Flight.{Flight}
use Rattle.command_acts.specs.Allocators.{AreLawful}
use Rattle.command_acts.specs.Runs.{Answers}
use Rattle.load_states.specs.declared.event.Event.{Event}
use Rattle.load_states.specs.declared.event.Event.TheVariants.{Firmware}
use Rattle.load_states.specs.declared.reading.Reading.TheVariants as read
use Rattle.load_states.specs.declared.stage.Stage.{Stage}
use Rattle.load_states.specs.declared.stage.Stage.TheVariants.{Asks, Awaits, AtCommand, AwaitsSkip, AsksWrite, AwaitsWrite, Done, Refused}
use Rattle.load_states.specs.Moves.{script_size}
use Rattle.load_states.specs.Kept.{KeepsNow}
use Rattle.load_states.specs.Loads.{most_steps, most_closing}
use Rattle.load_states.specs.LoadState.{LoadState, Opening, memory_of, opening_of, items_now, listed_named}
use Rattle.load_states.specs.Runs.{AnyLawful, StepsTo, closing_events, has_ended, whole_piece}
use Rattle.load_states.proofs.MoreAnswers.{lawful_more, steps_more}
use Rattle.load_states.proofs.Ending.{step_goes, step_not_back, whole_piece_idle, steps_left_most}
use Rattle.load_states.proofs.NamedItems.{listing, listed_as_named}
use Rattle.load_states.proofs.Readings.{steps_left}
use Rattle.load_states.proofs.StepKeeps.{step_keeps_now}
use Rattle.firmware_load.specs.declared.loading.Loading.{Loading}
use Rattle.firmware_load.specs.Inside.{load_of, KeepsInside, IsOnRun, IsTurn}
use Rattle.firmware_load.proofs.OnRun.{run_more}

-- 1 while a transfer is in flight, whose look may still be in vain
abbrev pub in_flight : Option Flight → ℕ
in_flight None = 0
in_flight (Some flight) = 1

-- What gets less with each turn of a load that hasn't ended: twice the steps that are left, and one more while a transfer is in flight.
abbrev pub turns_left : LoadState → ℕ
turns_left w =
    if has_ended w.stage then 0 else 1 + 2 * steps_left w.attached.device.items w.stage + in_flight w.attached.device.flight

-- the script of items of one shape has as many bytes
script_listed : (o : Option Item)
    → option_map_or (λ (item : Item). length item.bytes) o 0 ≡ option_map_or (λ (l : Listed). l.size) (option_map listing o) 0
script_listed None = refl
script_listed (Some item) = refl

script_same : (before after : List Item) → HaveOneShape before after → script_size after ≡ script_size before
script_same before after same =
    let listed : List Listed → ℕ = λ ls. option_map_or (λ (l : Listed). l.size) (listed_named ls loader_name) 0 in
    let size : (items : List Item) → script_size items ≡ listed (listed_of items) = λ items.
    script_listed (named items loader_name)
    ∙ ap (λ (o : Option Listed). option_map_or (λ (l : Listed). l.size) o 0) (sym (listed_as_named items loader_name)) in
    size after ∙ ap listed (same_listed before after same) ∙ sym (size before)

-- so as many steps are left of it
steps_same : (before after : List Item) (s : Stage) → HaveOneShape before after → steps_left after s ≡ steps_left before s
steps_same before after (Asks read.Count) same = omega (arith, script_same before after same, same_length before after same)
steps_same before after (Asks (read.Entries size taken)) same = omega (arith, script_same before after same, same_length before after same)
steps_same before after (Asks (read.Commands select size taken)) same = omega (arith, script_same before after same)
steps_same before after (Asks (read.File index)) same = omega (arith, script_same before after same)
steps_same before after (Awaits read.Count) same = omega (arith, script_same before after same, same_length before after same)
steps_same before after (Awaits (read.Entries size taken)) same = omega (arith, script_same before after same, same_length before after same)
steps_same before after (Awaits (read.Commands select size taken)) same = omega (arith, script_same before after same)
steps_same before after (Awaits (read.File index)) same = omega (arith, script_same before after same)
steps_same before after (AtCommand index) same = omega (arith, script_same before after same)
steps_same before after (AwaitsSkip index) same = omega (arith, script_same before after same)
steps_same before after (AsksWrite index) same = omega (arith, script_same before after same)
steps_same before after (AwaitsWrite index) same = omega (arith, script_same before after same)
steps_same before after Done same = refl
steps_same before after (Refused why) same = refl

-- What a turn does to the steps that are left: the load has ended, or they are fewer by one or at least no more, and no transfer is in flight.
record IsTaken (items : List Item) (w next : LoadState) : Type 0 where
  fewer : in_flight w.attached.device.flight ≡ 0 → steps_left items next.stage + 1 ≤ steps_left items w.stage
  no_more : steps_left items next.stage ≤ steps_left items w.stage

idle_flight : (flight : Option Flight) → in_flight flight ≡ 0 → flight ≡ None
idle_flight None is = refl
idle_flight (Some flight) is = absurd (omega (arith, is))

-- by a step of the firmware
step_taken : (May : Answers) (its : Opening) (w next : LoadState) → KeepsNow May its w → StepsTo May Firmware w next → has_ended w.stage ≡ false
    → IsTaken its.items w next
step_taken May its w next kept steps running = record {
  fewer = λ idle. step_goes May its w next kept steps (idle_flight w.attached.device.flight idle) running;
  no_more = step_not_back May its w next kept steps;
}

-- a step and a piece
piece_taken : (May : Answers) (its : Opening) (w middle next : LoadState) → KeepsNow May its middle → StepsTo May whole_piece middle next
    → IsTaken its.items w middle → IsTaken its.items w next × (next.attached.device.flight ≡ None) × (next.stage ≡ middle.stage)
piece_taken May its w middle next kept steps taken =
    let idle = whole_piece_idle May its middle next kept steps in (
      record {
        fewer = λ was. subst (λ (s : Stage). steps_left its.items s + 1 ≤ steps_left its.items w.stage) (sym idle.1) (taken.fewer was);
        no_more = subst (λ (s : Stage). steps_left its.items s ≤ steps_left its.items w.stage) (sym idle.1) taken.no_more;
      },
      idle.0,
      idle.1,
    )

-- 0 or 1
flight_few : (flight : Option Flight) → (in_flight flight ≡ 0) ⊎ (in_flight flight ≡ 1)
flight_few None = inl refl
flight_few (Some flight) = inr refl

-- what is left behind an ended load, and behind one that runs
left_ended : (w : LoadState) → has_ended w.stage ≡ true → turns_left w ≡ 0
left_ended w is = cond-true (has_ended w.stage) _ _ is

left_running : (w : LoadState) → has_ended w.stage ≡ false
    → turns_left w ≡ 1 + 2 * steps_left w.attached.device.items w.stage + in_flight w.attached.device.flight
left_running w is = cond-false (has_ended w.stage) _ _ is

-- Each turn leaves less.
pub turn_less : (May : Answers) (its : Opening) (w next : LoadState) → AreLawful May its.top → KeepsNow May its w → has_ended w.stage ≡ false
    → IsTurn May w next → turns_left next < turns_left w
turn_less May its w next lawful kept running turn =
    let was = left_running w running in
    elim turn.second as (λ _. turns_left next < turns_left w) [
      | inl over ↦
          let now = left_ended next (ap (λ (m : LoadState). has_ended m.stage) over.1 ∙ over.0) in
          omega (arith, was, now)
      | inr more ↦
          let middle_kept = step_keeps_now May its Firmware w turn.middle lawful kept turn.first in
          let taken = step_taken May its w turn.middle kept turn.first running in
          let so = piece_taken May its w turn.middle next middle_kept more.1 taken in
          let kept_next = step_keeps_now May its whole_piece turn.middle next lawful middle_kept more.1 in
          let now = left_running next (ap has_ended so.2 ∙ more.0) in
          let flight : in_flight next.attached.device.flight ≡ 0 = ap in_flight so.1 in
          let here : steps_left w.attached.device.items w.stage ≡ steps_left its.items w.stage = steps_same its.items (items_now w) w.stage kept.shape in
          let there : steps_left next.attached.device.items next.stage ≡ steps_left its.items next.stage =
          steps_same its.items (items_now next) next.stage kept_next.shape in
          let no_more = so.0.no_more in
          elim (flight_few w.attached.device.flight) as (λ _. turns_left next < turns_left w) [
            | inl idle ↦ let fewer = so.0.fewer idle in omega (arith, was, now, flight, here, there, idle, fewer)
            | inr busy ↦ omega (arith, was, now, flight, here, there, busy, no_more)
          ]
    ]

-- and each turn of a load that keeps what it keeps inside
pub turn_less_inside : (May : Answers) (l next : Loading) → AreLawful May l.guest.memory.memory.top → KeepsInside l → has_ended l.stage ≡ false
    → IsTurn May (load_of l) (load_of next) → turns_left (load_of next) < turns_left (load_of l)
turn_less_inside May l next lawful inside running turn =
    let top = inside.0.top in
    turn_less (AnyLawful top) inside.0 (load_of l) (load_of next) (λ handed request place free. free) inside.1.kept running (record {
      middle = turn.middle;
      first = steps_more May (AnyLawful top) (lawful_more May top (subst (AreLawful May) inside.1.kept.top lawful)) Firmware (load_of l) turn.middle
          turn.first;
      second = turn.second;
    })

-- How many closing events were taken: they are few, and between two turns they are twice as many as the turns, which the steps that are left
-- bound. Where the load had ended before, there are none.
pub record IsCount (items : List Item) (first : Stage) (closing : ℕ) (w : LoadState) : Type 0 where
  pub few : closing ≤ most_closing items
  pub turns : has_ended w.stage ≡ false
      → (k : ℕ) × (closing ≡ 2 * k) × (k + steps_left items w.stage + in_flight w.attached.device.flight ≤ most_steps items + 1)
  pub ended : has_ended first ≡ true → closing ≡ 0

-- none was taken yet
pub counts_none : (items : List Item) (w : LoadState) → IsCount items w.stage 0 w
counts_none items w = record {
  few = omega arith;
  turns = λ running. (
    0,
    refl,
    (let most = steps_left_most items w.stage in
        elim (flight_few w.attached.device.flight) as (λ _. 0 + steps_left items w.stage + in_flight w.attached.device.flight ≤ most_steps items + 1) [
          | inl idle ↦ omega (arith, most, idle)
          | inr busy ↦ omega (arith, most, busy)
        ]),
  );
  ended = λ over. refl;
}

-- one more closing event, and two more
one_closing : (k : ℕ) → closing_events (2 * k) ++ Firmware ∷ [] ≡ closing_events (2 * k + 1)
one_closing zero = refl
one_closing (suc k) =
    let twice : 2 * suc k ≡ suc (suc (2 * k)) = omega arith in
    let once : 2 * suc k + 1 ≡ suc (suc (2 * k + 1)) = omega arith in
    ap (λ n. closing_events n ++ Firmware ∷ []) twice ∙ ap (λ (es : List Event). Firmware ∷ whole_piece ∷ es) (one_closing k) ∙ ap closing_events (sym once)

two_closing : (k : ℕ) → closing_events (2 * k) ++ Firmware ∷ whole_piece ∷ [] ≡ closing_events (2 * (k + 1))
two_closing zero = refl
two_closing (suc k) =
    let twice : 2 * suc k ≡ suc (suc (2 * k)) = omega arith in
    let again : 2 * (suc k + 1) ≡ suc (suc (2 * (k + 1))) = omega arith in
    ap (λ n. closing_events n ++ Firmware ∷ whole_piece ∷ []) twice ∙ ap (λ (es : List Event). Firmware ∷ whole_piece ∷ es) (two_closing k)
    ∙ ap closing_events (sym again)

-- What closing events lead to, from wherever the load is on its run.
abbrev pub Closes : Answers → LoadState → LoadState → Type 0
Closes May first w =
    (begun : LoadState) (before : List Event) → IsOnRun May begun before first
    → (closing : ℕ) × IsCount (opening_of begun).items first.stage closing w × IsOnRun May begun (before ++ closing_events closing) w

pub closes_none : (May : Answers) (first : LoadState) → Closes May first first
closes_none May first = λ begun before on. (
  0,
  counts_none (opening_of begun).items first,
  subst (λ (es : List Event). IsOnRun May begun es first) (sym (append-nil before)) on,
)

-- the steps that are left bound the turns still, behind one more
bound_after : (items : List Item) (w next : LoadState) (k : ℕ) → IsTaken items w next
    → k + steps_left items w.stage + in_flight w.attached.device.flight ≤ most_steps items + 1 → k + 1 + steps_left items next.stage ≤ most_steps items + 1
bound_after items w next k taken bound =
    let no_more = taken.no_more in
    elim (flight_few w.attached.device.flight) as (λ _. k + 1 + steps_left items next.stage ≤ most_steps items + 1) [
      | inl idle ↦ let fewer = taken.fewer idle in omega (arith, bound, idle, fewer)
      | inr busy ↦ omega (arith, bound, busy, no_more)
    ]

few_after : (items : List Item) (w next : LoadState) (k : ℕ) → IsTaken items w next
    → k + steps_left items w.stage + in_flight w.attached.device.flight ≤ most_steps items + 1 → 2 * k + 1 ≤ most_closing items
few_after items w next k taken bound = let after = bound_after items w next k taken bound in omega (arith, after)

-- A turn of a load on its run, whose closing events were counted.
turn_on : (May : Answers) (begun first w next : LoadState) (before : List Event) (closing : ℕ) → AreLawful May (memory_of begun).top
    → (has_ended first.stage ≡ true → ⊥) → IsCount (opening_of begun).items first.stage closing w
    → IsOnRun May begun (before ++ closing_events closing) w → has_ended w.stage ≡ false → IsTurn May w next
    → (more : ℕ) × IsCount (opening_of begun).items first.stage more next × IsOnRun May begun (before ++ closing_events more) next
turn_on May begun first w next before closing lawful running_first count on running turn =
    let its = opening_of begun in
    let items = its.items in
    let so = count.turns running in
    let k = so.0 in
    let even : closing_events closing ≡ closing_events (2 * k) = ap closing_events so.1 in
    let taken = step_taken May its w turn.middle on.kept.now turn.first running in
    let first_on = run_more May begun (before ++ closing_events closing) Firmware w turn.middle lawful on running turn.first in
    elim turn.second as (λ _. (more : ℕ) × IsCount items first.stage more next × IsOnRun May begun (before ++ closing_events more) next) [
      | inl over ↦ (
        2 * k + 1,
        record {
          few = few_after items w turn.middle k taken so.2;
          turns = λ runs. absurd (true≢false (sym (ap (λ (m : LoadState). has_ended m.stage) over.1 ∙ over.0) ∙ runs));
          ended = λ was. absurd (running_first was);
        },
        subst (λ (m : LoadState). IsOnRun May begun (before ++ closing_events (2 * k + 1)) m) (sym over.1)
            (subst (λ (es : List Event). IsOnRun May begun es turn.middle)
            (append_assoc before (closing_events closing) (Firmware ∷ [])
            ∙ ap (λ es. before ++ es) (ap (λ es. es ++ Firmware ∷ []) even ∙ one_closing k)) first_on),
      )
      | inr more ↦
          let piece = piece_taken May its w turn.middle next first_on.kept.now more.1 taken in
          let flight : in_flight next.attached.device.flight ≡ 0 = ap in_flight piece.1 in
          let bound : k + 1 + steps_left items next.stage ≤ most_steps items + 1 = bound_after items w next k piece.0 so.2 in (
            2 * (k + 1),
            record {
              few = omega (arith, bound);
              turns = λ runs. (k + 1, refl, omega (arith, bound, flight));
              ended = λ was. absurd (running_first was);
            },
            subst (λ (es : List Event). IsOnRun May begun es next)
                (append_assoc (before ++ closing_events closing) (Firmware ∷ []) (whole_piece ∷ [])
                ∙ append_assoc before (closing_events closing) (Firmware ∷ whole_piece ∷ [])
                ∙ ap (λ es. before ++ es) (ap (λ es. es ++ Firmware ∷ whole_piece ∷ []) even ∙ two_closing k))
                (run_more May begun ((before ++ closing_events closing) ++ Firmware ∷ []) whole_piece turn.middle next lawful first_on more.0 more.1),
          )
    ]

-- and a turn more
pub closes_more : (May : Answers) (first w next : LoadState) → AreLawful May (memory_of first).top → (has_ended first.stage ≡ true → ⊥) → Closes May first w
    → has_ended w.stage ≡ false → IsTurn May w next → Closes May first next
closes_more May first w next lawful running_first closes running turn = λ begun before on.
    let so = closes begun before on in
    turn_on May begun first w next before so.0 (subst (AreLawful May) on.kept.now.top lawful) running_first so.1 so.2 running turn
