-- The script is looked for, once the firmware knows all files.
use Rattle.std.proofs.Common.{◌≡◌, ◌≢◌, ℕ, ◌/◌, ◌==◌, true, not, if◌then◌else◌, List, [], ◌++◌, length}
use Rattle.std.proofs.Common.{Option, Some, None, Ok, inl, arith, refl, sym, ap, ap₂, subst, ◌∙◌}
use Rattle.std.specs.Option.{option_map, option_map_or}
use Rattle.std.proofs.lemmas.Bool.{eqb-true, eqb-false, not-true, not-false, cond-true, cond-false}
use Rattle.std.proofs.lemmas.List.{append-nil}
use Rattle.cfg_directory.specs.declared.item.Item.{Item}
use Rattle.cfg_directory.specs.declared.listed.Listed.{Listed}
use Rattle.cfg_directory.specs.Items.{IsItems, named}
use Rattle.cfg_directory.specs.Listing.{listed_of}
use Rattle.cfg_directory.specs.Files.{files_of}
use Rattle.loader_script.specs.LoaderName.{loader_name}
use Rattle.loader_script.specs.Spelling.{entries_of, is_script_length}
use Rattle.cfg_dma.specs.declared.transfer.Finished.{Finished}
use Rattle.command_acts.specs.declared.fault.LoadFault.TheVariants.{NoScript, ScriptLength}
use Rattle.command_acts.specs.FilesInMemory.{files_in, placed_ranges}
use Rattle.loader_script.specs.Run.{Placed}
use Rattle.command_acts.specs.Runs.{Answers, at_files}
use Rattle.command_acts.specs.Script.{script_from, script_in}
use Rattle.load_states.specs.declared.reading.Reading.TheVariants as read
use Rattle.load_states.specs.declared.stage.Stage.TheVariants.{Asks, AtCommand, Refused}
use Rattle.load_states.specs.LoadState.{LoadState, Opening, memory_of, items_now, progress_of, listed_named}
use Rattle.load_states.specs.Steps.{stage_for}
use Rattle.load_states.specs.Moves.{all_reads, directory_reads, script_reads}
use Rattle.load_states.specs.Kept.{KeepsNow, IsIdle, HasCarriedOut, StageKeeps, moves_before}
use Rattle.load_states.proofs.Fronts.{none_yet}
use Rattle.load_states.proofs.CanReads.{file_select_small}
use Rattle.load_states.proofs.Looks.{by_test, kept_with, ended_unread}
use Rattle.load_states.proofs.NamedItems.{listing, listed_as_named}
use Rattle.load_states.proofs.PartsDecoded.{decoding}
use Rattle.load_states.proofs.Frames.{KeepsOn}

-- where nothing is placed no command is carried out
pub nothing_carried_out : (May : Answers) (items : List Item) (w : LoadState) → items_now w ≡ items → w.placed ≡ []
    → HasCarriedOut May items 0 (progress_of w) w
nothing_carried_out May items w begun none =
    none_yet May (files_of items) w.script (placed_ranges w.placed) (progress_of w)
    (ap₂ (λ (is : List Item) (placed : List Placed). at_files (files_of is) placed []) begun (ap (files_in (memory_of w)) none))
    (ap placed_ranges none)

-- before the first command the transfers are those of the directory and of the script
pub moves_none : (items : List Item) (w : LoadState) → moves_before items 0 w w.placed ≡ directory_reads items ++ script_reads items
moves_none items w = append-nil (directory_reads items ++ script_reads items)

-- the reads of the script are those of the item that has its name
pub script_reads_of : (items : List Item) (file : Item) → named items loader_name ≡ Some file
    → script_reads items ≡ all_reads file.select 0 (length file.bytes)
script_reads_of items file is =
    ap (λ (o : Option Item). option_map_or (λ (item : Item). all_reads item.select 0 (length item.bytes)) o []) is

-- the script of the item that has its name
script_found : (items : List Item) (file : Item) → named items loader_name ≡ Some file → is_script_length (length file.bytes) ≡ true
    → script_in items ≡ Ok (entries_of (length file.bytes / 128) file.bytes)
script_found items file is lawful = ap script_from is ∙ cond-true _ _ _ lawful

-- an empty script: the firmware comes to its end
empty_found : (May : Answers) (items : List Item) (w : LoadState) (file : Item) → named items loader_name ≡ Some file
    → is_script_length (length file.bytes) ≡ true → length file.bytes ≡ 0 → IsIdle w (directory_reads items) → w.listed ≡ listed_of items
    → w.script ≡ [] → w.placed ≡ [] → items_now w ≡ items → StageKeeps May items w (AtCommand 0)
empty_found May items w file is lawful empty idle listed script placed begun =
    let none : entries_of (length file.bytes / 128) file.bytes ≡ [] = ap (λ (n : ℕ). entries_of (n / 128) file.bytes) empty in
    let reads : script_reads items ≡ [] = script_reads_of items file is ∙ ap (all_reads file.select 0) empty in (
      record { listed = listed; script = script_found items file is lawful ∙ ap decoding (none ∙ sym script) },
      omega arith,
      record {
        idle = idle.idle;
        finished = idle.finished ∙ sym (moves_none items w ∙ ap (λ (r : List Finished). directory_reads items ++ r) reads
            ∙ append-nil (directory_reads items));
      },
      nothing_carried_out May items w begun placed,
    )

-- a script that isn't empty: the firmware asks for its first commands
script_asked : (May : Answers) (items : List Item) (w : LoadState) (file : Item) → IsItems items → named items loader_name ≡ Some file
    → is_script_length (length file.bytes) ≡ true → length file.bytes ≢ 0 → IsIdle w (directory_reads items) → w.listed ≡ listed_of items
    → w.script ≡ [] → w.placed ≡ [] → items_now w ≡ items → StageKeeps May items w (Asks (read.Commands file.select (length file.bytes) 0))
script_asked May items w file are is lawful some idle listed script placed begun = (
  omega arith,
  (
    record {
      begun = begun;
      pieces = 0;
      taken_is = refl;
      some_left = omega arith;
      loader = file;
      there = is;
      select_is = refl;
      size_is = refl;
      whole = entries_of (length file.bytes / 128) file.bytes;
      whole_is = script_found items file is lawful;
      listed = listed;
      script = script;
      placed = placed;
    },
    record {
      idle = record { idle = idle.idle; finished = idle.finished ∙ sym (append-nil (directory_reads items)) };
      asks = inl (refl, file_select_small items loader_name file are is, refl);
    },
  ),
)

-- the stage after the look for it
stage_found : (May : Answers) (items : List Item) (w : LoadState) (found : Option Item) → IsItems items → named items loader_name ≡ found
    → IsIdle w (directory_reads items) → w.listed ≡ listed_of items → w.script ≡ [] → w.placed ≡ [] → items_now w ≡ items
    → StageKeeps May items w (stage_for (option_map listing found))
stage_found May items w None are is idle listed script placed begun = ended_unread May items NoScript w idle.idle (ap script_from is) placed begun
stage_found May items w (Some file) are is idle listed script placed begun =
    let size = length file.bytes in
    by_test (StageKeeps May items w) (not (is_script_length size)) (Refused ScriptLength)
    (if size == 0 then AtCommand 0 else Asks (read.Commands file.select size 0))
    (λ bad. ended_unread May items ScriptLength w idle.idle (ap script_from is ∙ cond-false _ _ _ (not-true _ bad)) placed begun)
    (λ good.
    let lawful : is_script_length size ≡ true = not-false _ good in
    by_test (StageKeeps May items w) (size == 0) (AtCommand 0) (Asks (read.Commands file.select size 0))
    (λ empty. empty_found May items w file is lawful (eqb-true size 0 empty) idle listed script placed begun)
    (λ some. script_asked May items w file are is lawful (eqb-false size 0 some) idle listed script placed begun))

-- The firmware has taken the whole directory, and looks for the script.
pub directory_taken : (May : Answers) (its : Opening) (w : LoadState) → KeepsNow May its w → w.attached.device.flight ≡ None
    → w.attached.device.finished ≡ directory_reads its.items → w.script ≡ [] → w.placed ≡ [] → items_now w ≡ its.items → KeepsOn May its w
    (record w { listed = listed_of its.items; stage = stage_for (listed_named (listed_of its.items) loader_name) })
directory_taken May its w kept idle finished script placed begun =
    let after : Option Listed → LoadState = λ found. record w { listed = listed_of its.items; stage = stage_for found } in
    let found = option_map listing (named its.items loader_name) in
    subst (λ (o : Option Listed). KeepsOn May its w (after o)) (sym (listed_as_named its.items loader_name))
    (kept_with May its w (listed_of its.items) w.script (stage_for found) kept
    (stage_found May its.items (after found) (named its.items loader_name) kept.lawful refl (record { idle = idle; finished = finished })
    refl script placed begun))
