-- The number of files, once its read is over.
use Rattle.std.proofs.Common.{◌≡◌, ◌≢◌, ℕ, ◌*◌, ◌==◌, List, [], length}
use Rattle.std.proofs.Common.{inr, arith, refl, sym, ap, subst, ◌∙◌}
use Rattle.std.proofs.lemmas.Bool.{eqb-true, eqb-false}
use Rattle.std.proofs.lemmas.List.{take_at}
use Rattle.vt_bytes.specs.Numbers.{be, be_bytes}
use Rattle.vt_bytes.specs.Parts.{part}
use Rattle.vt_bytes.specs.Memory.{bytes_at}
use Rattle.cfg_directory.specs.declared.item.Item.{Item}
use Rattle.cfg_directory.specs.Items.{IsItems}
use Rattle.cfg_directory.specs.Listing.{entries_of}
use Rattle.cfg_directory.proofs.Listings.{count_of_files}
use Rattle.loader_script.specs.LoaderName.{loader_name}
use Rattle.cfg_dma.specs.declared.transfer.Finished.{Finished}
use Rattle.cfg_dma.specs.Transfers.{Attached}
use Rattle.cfg_dma.specs.Reads.{IsOver}
use Rattle.command_acts.specs.declared.fault.LoadFault.TheVariants.{NoScript}
use Rattle.command_acts.specs.Runs.{Answers}
use Rattle.command_acts.specs.Script.{script_from}
use Rattle.load_states.specs.declared.stage.Stage.{Stage}
use Rattle.load_states.specs.declared.reading.Reading.TheVariants as read
use Rattle.load_states.specs.declared.stage.Stage.TheVariants.{Asks, Refused}
use Rattle.load_states.specs.Guarded.{descriptor_at, buffer_at}
use Rattle.load_states.specs.LoadState.{LoadState, Opening}
use Rattle.load_states.specs.Steps.{buffered, counted}
use Rattle.load_states.specs.Moves.{count_read}
use Rattle.load_states.specs.Kept.{KeepsNow, HasNothing}
use Rattle.load_states.proofs.Looks.{by_test, kept_with, ended_unread}
use Rattle.load_states.proofs.NamedItems.{contents_listed, none_named}
use Rattle.load_states.proofs.Frames.{KeepsOn}

-- the buffer spells the number of files
pub count_held : (items : List Item) (before : List Finished) (a : Attached) → IsItems items → IsOver items before descriptor_at count_read a
    → be (bytes_at a.memory buffer_at 4) ≡ length items
count_held items before a lawful over =
    ap be (over.held ∙ ap (λ (bytes : List ℕ). part bytes 0 4) (contents_listed items)
    ∙ take_at (be_bytes 4 (length items)) (entries_of items) 4 refl)
    ∙ count_of_files items lawful

-- The firmware takes it: it asks for the entries, or there is no script.
pub count_taken : (May : Answers) (its : Opening) (w : LoadState) → KeepsNow May its w → (has : HasNothing its.items w)
    → IsOver its.items [] descriptor_at count_read w.attached → KeepsOn May its w (counted (be (buffered 4 w)) w)
count_taken May its w kept has over =
    let after : Stage → LoadState = λ stage. record w { stage = stage } in
    subst (λ (n : ℕ). KeepsOn May its w (counted n w)) (sym (count_held its.items [] w.attached kept.lawful over))
    (by_test (λ (stage : Stage). KeepsOn May its w (after stage)) (length its.items == 0) (Refused NoScript)
    (Asks (read.Entries (64 * length its.items) 0))
    (λ none. kept_with May its w w.listed w.script (Refused NoScript) kept
    (ended_unread May its.items NoScript (after (Refused NoScript)) over.idle
    (ap script_from (none_named its.items loader_name (eqb-true (length its.items) 0 none))) has.placed has.begun))
    (λ some.
    let differs : length its.items ≢ 0 = eqb-false (length its.items) 0 some in
    kept_with May its w w.listed w.script (Asks (read.Entries (64 * length its.items) 0)) kept (
      omega arith,
      (
        record {
          begun = has.begun;
          pieces = 0;
          taken_is = refl;
          size_is = refl;
          some_left = omega arith;
          listed = has.listed;
          script = has.script;
          placed = has.placed;
        },
        record { idle = record { idle = over.idle; finished = over.finished }; asks = inr (refl, sym over.selected, sym over.offset) },
      ),
    )))
