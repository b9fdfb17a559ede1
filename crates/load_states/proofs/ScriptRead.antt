-- Commands of the script, once a read of them is over.
use Rattle.std.proofs.Common.{◌≡◌, ℕ, suc, ◌+◌, ◌-◌, ◌*◌, ◌/◌, ◌%◌, ◌<◌, ◌==◌, if◌then◌else◌, List, [], ◌∷◌, ◌++◌, length, take}
use Rattle.std.proofs.Common.{inl, inr, arith, refl, sym, ap, ap₂, subst, ◌∙◌, append_assoc}
use Rattle.std.proofs.lemmas.Bool.{cases_lt, cond-true, cond-false, eqb-true, eqb-false, ne_eqb, eq-eqb}
use Rattle.vt_bytes.specs.Parts.{part}
use Rattle.vt_bytes.specs.Memory.{Memory, bytes_at}
use Rattle.cfg_directory.specs.declared.item.Item.{Item}
use Rattle.loader_script.specs.LoaderName.{loader_name}
use Rattle.loader_script.specs.declared.entry.Entry.{Entry}
use Rattle.loader_script.specs.Spelling.{entries_of}
use Rattle.cfg_dma.specs.Device.{DeviceState, contents}
use Rattle.cfg_dma.specs.declared.transfer.Finished.{Finished}
use Rattle.cfg_dma.specs.Reads.{IsOver, AsksFor, selected_read, next_read}
use Rattle.command_acts.specs.Runs.{Answers}
use Rattle.command_acts.specs.Script.{script_from}
use Rattle.load_states.specs.declared.stage.Stage.{Stage}
use Rattle.load_states.specs.declared.reading.Reading.TheVariants as read
use Rattle.load_states.specs.declared.stage.Stage.TheVariants.{Asks, AtCommand}
use Rattle.load_states.specs.Guarded.{descriptor_at, buffer_at, buffer_size}
use Rattle.load_states.specs.LoadState.{LoadState, Opening, memory_of}
use Rattle.load_states.specs.Steps.{asked, buffered, commands_taken, script_control}
use Rattle.load_states.specs.Moves.{piece_read, first_reads, all_reads, directory_reads, script_reads}
use Rattle.load_states.specs.Kept.{KeepsNow, HasCommands, with_commands}
use Rattle.load_states.proofs.CanReads.{file_select_small}
use Rattle.load_states.proofs.Looks.{by_test, kept_with}
use Rattle.load_states.proofs.NamedItems.{contents_named}
use Rattle.load_states.proofs.PartsDecoded.{decoding, script_is, script_whole, decoded_more, all_decoded}
use Rattle.load_states.proofs.PieceSizes.{commands_piece, last_piece, another_piece, offset_after}
use Rattle.load_states.proofs.ScriptFound.{nothing_carried_out, moves_none, script_reads_of}
use Rattle.load_states.proofs.Frames.{KeepsOn}

-- The commands that were taken so far, and those in the buffer, are the first ones.
commands_held : (bytes : List ℕ) (size taken pieces : ℕ) (m : Memory) → taken ≡ buffer_size * pieces → size ≡ length bytes → size % 128 ≡ 0
    → taken < size
    → bytes_at m buffer_at (asked (size - buffer_size * pieces)) ≡ part bytes (0 + buffer_size * pieces) (asked (size - buffer_size * pieces))
    → take (taken / 128) (entries_of (size / 128) bytes) ++ entries_of (asked (size - taken) / 128) (bytes_at m buffer_at (asked (size - taken)))
    ≡ take ((taken + asked (size - taken)) / 128) (entries_of (size / 128) bytes)
commands_held bytes size taken pieces m is its_size whole left held =
    let count = asked (size - taken) in
    let k = taken / 128 in
    let n = count / 128 in
    let all = entries_of (size / 128) bytes in
    let piece = commands_piece size taken pieces is whole left in
    let place : 0 + taken ≡ 128 * k = omega (arith, piece.before) in
    let there : bytes_at m buffer_at count ≡ part bytes (0 + taken) count =
    subst (λ (t : ℕ). bytes_at m buffer_at (asked (size - t)) ≡ part bytes (0 + t) (asked (size - t))) (sym is) held in
    ap (λ (b : List ℕ). take k all ++ entries_of n b) (there ∙ ap₂ (part bytes) place (sym piece.now))
    ∙ decoded_more k n (size / 128) bytes piece.within
    ∙ ap (λ (number : ℕ). take number all) (sym piece.both)

-- what the firmware knows of the loader's script: its length, its bytes, and its commands
record IsLoader (items : List Item) (select size : ℕ) (whole : List Entry) : Type 0 where
  bytes : List ℕ
  size_is : size ≡ length bytes
  contents_are : contents items select ≡ bytes
  units : size % 128 ≡ 0
  whole_is : entries_of (size / 128) bytes ≡ whole
  reads : script_reads items ≡ all_reads select 0 size

-- what it has says so
its_loader : (May : Answers) (its : Opening) (w : LoadState) (select size taken : ℕ) → KeepsNow May its w →
    (has : HasCommands its.items select size taken w) → IsLoader its.items select size has.whole
its_loader May its w select size taken kept has =
    let bytes = has.loader.bytes in
    let is = script_is bytes has.whole (sym (ap script_from has.there) ∙ has.whole_is) in
    record {
      bytes = bytes;
      size_is = has.size_is;
      contents_are = ap (contents its.items) has.select_is ∙ contents_named its.items loader_name has.loader kept.lawful has.there;
      units = ap (λ (n : ℕ). n % 128) has.size_is ∙ script_whole (length bytes) is.lawful;
      whole_is = ap (λ (n : ℕ). entries_of (n / 128) bytes) has.size_is ∙ is.are;
      reads = script_reads_of its.items has.loader has.there ∙ ap₂ (λ (s n : ℕ). all_reads s 0 n) (sym has.select_is) (sym has.size_is);
    }

-- the control word of the next piece of the script asks the device for that piece
script_asks : (d : DeviceState) (select size taken pieces : ℕ) → select < 65536 → taken ≡ buffer_size * pieces
    → (0 < taken → (d.select ≡ select) × (d.offset ≡ taken)) → AsksFor (script_control select taken) d (piece_read select 0 size pieces)
script_asks d select size taken pieces small taken_is at_piece =
    elim (cases_lt 0 taken) as (λ _. AsksFor (script_control select taken) d (piece_read select 0 size pieces)) [
      | inl some ↦
          let here = at_piece some in
          inr (
            cond-false (taken == 0) (selected_read select) next_read (ne_eqb taken 0 (λ none. absurd (omega arith))),
            sym here.0,
            omega (arith, here.1),
          )
      | inr none ↦
          let first : taken ≡ 0 = omega arith in
          inl (cond-true (taken == 0) (selected_read select) next_read (eq-eqb taken 0 first), small, omega arith)
    ]

-- The firmware takes commands: it asks for more, or comes to the first one.
pub commands_are_taken : (May : Answers) (its : Opening) (w : LoadState) (select size taken : ℕ) → KeepsNow May its w →
    (has : HasCommands its.items select size taken w) → IsOver its.items (with_commands its.items select size has.pieces) descriptor_at
    (piece_read select 0 size has.pieces) w.attached → KeepsOn May its w
    (commands_taken select size taken (asked (size - taken)) (buffered (asked (size - taken)) w) w)
commands_are_taken May its w select size taken kept has over =
    let count = asked (size - taken) in
    let loader = its_loader May its w select size taken kept has in
    let now : List Entry = take ((taken + count) / 128) has.whole in
    let held = over.held ∙ ap (λ (b : List ℕ). part b (0 + buffer_size * has.pieces) (asked (size - buffer_size * has.pieces))) loader.contents_are in
    let same : w.script ++ entries_of (count / 128) (buffered count w) ≡ now =
    ap (λ (s : List Entry). s ++ entries_of (count / 128) (buffered count w)) has.script
    ∙ subst (λ (all : List Entry). take (taken / 128) all ++ entries_of (count / 128) (buffered count w) ≡ take ((taken + count) / 128) all)
    loader.whole_is
    (commands_held loader.bytes size taken has.pieces (memory_of w) has.taken_is loader.size_is loader.units has.some_left held) in
    let finished = over.finished
    ∙ append_assoc (directory_reads its.items) (first_reads select 0 size has.pieces) (piece_read select 0 size has.pieces ∷ []) in
    let after : List Entry → Stage → LoadState = λ script stage. record w { script = script; stage = stage } in
    let Keeps : List Entry → Stage → Type 0 = λ script stage. KeepsOn May its w (after script stage) in
    subst (λ (s : List Entry). Keeps s (if taken + count == size then AtCommand 0 else Asks (read.Commands select size (taken + count)))) (sym same)
    (by_test (Keeps now) (taken + count == size) (AtCommand 0) (Asks (read.Commands select size (taken + count)))
    (λ done.
    let all : taken + count ≡ size = eqb-true (taken + count) size done in
    let last = last_piece size taken has.pieces has.taken_is has.some_left all in
    let whole : now ≡ has.whole = ap (λ (n : ℕ). take (n / 128) has.whole) all
    ∙ subst (λ (s : List Entry). take (size / 128) s ≡ s) loader.whole_is (all_decoded (size / 128) loader.bytes) in
    kept_with May its w w.listed now (AtCommand 0) kept (
      record { listed = has.listed; script = has.whole_is ∙ ap decoding (sym whole) },
      omega arith,
      record {
        idle = over.idle;
        finished = finished ∙ ap (λ (n : ℕ). directory_reads its.items ++ first_reads select 0 size n) last
            ∙ ap (λ (r : List Finished). directory_reads its.items ++ r) (sym loader.reads) ∙ sym (moves_none its.items (after now (AtCommand 0)));
      },
      nothing_carried_out May its.items (after now (AtCommand 0)) has.begun has.placed,
    ))
    (λ more.
    let small = file_select_small its.items loader_name has.loader kept.lawful has.there in
    let another = another_piece size taken has.pieces has.taken_is has.some_left (eqb-false (taken + count) size more) in
    kept_with May its w w.listed now (Asks (read.Commands select size (taken + count))) kept (
      another.some_left,
      (
        record {
          begun = has.begun;
          pieces = suc has.pieces;
          taken_is = another.taken_is;
          some_left = another.some_left;
          loader = has.loader;
          there = has.there;
          select_is = has.select_is;
          size_is = has.size_is;
          whole = has.whole;
          whole_is = has.whole_is;
          listed = has.listed;
          script = refl;
          placed = has.placed;
        },
        record {
          idle = record { idle = over.idle; finished = finished };
          asks = script_asks w.attached.device select size (taken + count) (suc has.pieces) (omega (arith, small, has.select_is)) another.taken_is
              (λ some. (over.selected, over.offset ∙ offset_after 0 size taken has.pieces has.taken_is ∙ omega arith));
        },
      ),
    )))
