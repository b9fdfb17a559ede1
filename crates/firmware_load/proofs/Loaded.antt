-- A whole load: it follows its plan, and is closed.
use Rattle.std.proofs.Common.{◌≡◌, ℕ, ◌≤◌, ◌⊎◌, inl, inr, Bool, true, false, List, [], ◌++◌, Result, Ok, Err, arith, sym, ap, ◌∙◌}
use Rattle.std.proofs.lemmas.Bool.{cases_Bool, true≢false}
use Rattle.vt_outside.specs.Placement.{Range}
use Rattle.vt_outside.specs.Stream.{next_count}
use Rattle.zone_alloc.specs.Allocators.{AllocState}
use Rattle.cfg_directory.specs.declared.item.Item.{Item}
use Rattle.command_acts.specs.Allocators.{AreLawful}
use Rattle.command_acts.specs.declared.fault.LoadFault.{LoadFault}
use Rattle.command_acts.specs.declared.fault.LoadFault.TheVariants.{NoRoom}
use Rattle.command_acts.specs.FilesInMemory.{placed_ranges}
use Rattle.command_acts.specs.Script.{IsAsked}
use Rattle.command_acts.specs.Runs.{Answers}
use Rattle.load_states.specs.declared.event.Event.{Event}
use Rattle.load_states.specs.declared.stage.Stage.{Stage}
use Rattle.load_states.specs.declared.stage.Stage.TheVariants.{Asks, Awaits, AtCommand, AwaitsSkip, AsksWrite, AwaitsWrite, Done, Refused}
use Rattle.load_states.specs.Loads.{IsBegun, most_closing, stage_after}
use Rattle.load_states.specs.Steps.{opening_stage}
use Rattle.load_states.specs.LoadState.{LoadState, memory_of, opening_of}
use Rattle.load_states.specs.Runs.{AnyLawful, closing_events, has_ended}
use Rattle.load_states.proofs.Opening.{begun_keeps}
use Rattle.load_states.proofs.PiecesParted.{run_since}
use Rattle.load_states.proofs.WholeRuns.{loaded_over}
use Rattle.firmware_load.specs.World.{IsLoadOver}
use Rattle.firmware_load.specs.declared.loading.Loading.{Loading}
use Rattle.firmware_load.specs.Inside.{IsOnRun, AsksOnTheWay}
use Rattle.firmware_load.proofs.OnRun.{Follows, asks_through, asks_no_more}

-- What closing a load leads to, from wherever it is on its run.
abbrev pub IsClosed : Answers → LoadState → LoadState → Type 0
IsClosed May between last =
    (begun : LoadState) (before : List Event) → IsOnRun May begun before between
    → (closing : ℕ) × (closing ≤ most_closing (opening_of begun).items) × (has_ended between.stage ≡ true → closing ≡ 0)
    × IsOnRun May begun (before ++ closing_events closing) last

-- A load that was begun, has followed its plan and was closed, is over.
pub load_over : (May : Answers) (first between last : LoadState) (left_first left : List Event) (handed : List Range)
    (answer : Result (Unit {0}) LoadFault) → AreLawful May (memory_of first).top → IsBegun (opening_of first) first → IsOnRun May first [] first
    → Follows May first between left_first left
    → (has_ended between.stage ≡ true) ⊎ (left ≡ []) → IsClosed May between last → has_ended last.stage ≡ true
    → last.stage ≡ stage_after answer → handed ≡ placed_ranges last.placed → IsLoadOver May first left_first left handed answer last
load_over May first between last left_first left handed answer lawful is on follows ends closes over stage placed =
    let so = follows first [] on in
    let taken = so.0 in
    let closed = closes first taken so.2 in
    let closing = closed.0 in
    record {
      taken = taken;
      closing = closing;
      plan = so.1;
      few = closed.1;
      after_plan = λ some. elim ends as (λ _. left ≡ []) [
        | inl ended ↦ let none = closed.2 ended in absurd (omega (arith, some, none))
        | inr none ↦ none
      ];
      ran = (closed.3.ran, over);
      since = run_since May (opening_of first) (taken ++ closing_events closing) first first last lawful is
          (begun_keeps (AnyLawful (memory_of first).top) (opening_of first) first is).now closed.3.ran;
      leaves = loaded_over May (opening_of first) taken closing handed answer last closed.3.kept
          stage placed;
    }

-- what was asked on the whole way
pub asks_in_all : (items : List Item) (first between last : Loading) (alloc_first alloc_between alloc_last : AllocState)
    → AsksOnTheWay items first between alloc_first alloc_between
    → AsksOnTheWay items between last alloc_between alloc_last
    → AsksOnTheWay items first last alloc_first alloc_last
asks_in_all items first between last alloc_first alloc_between alloc_last before after =
    elim (cases_Bool (has_ended between.stage)) as (λ _. AsksOnTheWay items first last alloc_first alloc_last) [
      | inl over ↦
          asks_no_more items first between last alloc_first alloc_between alloc_last over before after
      | inr running ↦
          asks_through items first between last alloc_first alloc_between alloc_last running before after
    ]

-- whether a stage is a refusal
abbrev is_refused : Stage → Bool
is_refused (Refused why) = true
is_refused (Asks reading) = false
is_refused (Awaits reading) = false
is_refused (AtCommand index) = false
is_refused (AwaitsSkip index) = false
is_refused (AsksWrite index) = false
is_refused (AwaitsWrite index) = false
is_refused Done = false

same_refusal : (why other : LoadFault) → Refused why ≡ Refused other → why ≡ other
same_refusal why other is = cc

-- an answer that is no room comes with the stage that says so, and no other does
answers_no_room : (answer : Result (Unit {0}) LoadFault) (index : ℕ) (s : Stage) → s ≡ stage_after answer → s ≡ Refused (NoRoom index)
    → answer ≡ Err (NoRoom index)
answers_no_room (Ok nothing) index s is at = absurd (true≢false (ap is_refused (sym at ∙ is)))
answers_no_room (Err why) index s is at = ap Err (same_refusal why (NoRoom index) (sym is ∙ at))

-- What a load says of its allocator: where it answers that there is no room, and where it doesn't.
pub without_room : (items : List Item) (first last : Loading) (alloc_first alloc_last : AllocState) (answer : Result (Unit {0}) LoadFault)
    → AsksOnTheWay items first last alloc_first alloc_last → first.stage ≡ opening_stage → last.stage ≡ stage_after answer
    → ((index : ℕ) → answer ≡ Err (NoRoom index)
    → (alloc_last.refusals ≡ next_count alloc_first.refusals) × IsAsked items index alloc_last.refused)
    × (((index : ℕ) → answer ≡ Err (NoRoom index) → ⊥) → alloc_last.refusals ≡ alloc_first.refusals)
without_room items first last alloc_first alloc_last answer asks begun stage = (
  λ index is.
      elim (asks.no_room index (stage ∙ ap stage_after is))
      as (λ _. (alloc_last.refusals ≡ next_count alloc_first.refusals) × IsAsked items index alloc_last.refused) [
        | inl there ↦ absurd (true≢false (sym (ap has_ended there) ∙ ap has_ended begun))
        | inr so ↦ so
      ],
  λ never. asks.sound (λ index is. absurd (never index (answers_no_room answer index last.stage stage is))),
)
