-- Entries of the directory, once a read of them is over.
use Rattle.std.proofs.Common.{◌≡◌, ℕ, suc, ◌+◌, ◌-◌, ◌*◌, ◌/◌, ◌<◌, ◌==◌, if◌then◌else◌, List, ◌∷◌, ◌++◌, length, take}
use Rattle.std.proofs.Common.{inr, arith, refl, sym, ap, ap₂, subst, ◌∙◌}
use Rattle.std.specs.List.{AllByRecursion}
use Rattle.std.proofs.lemmas.Bool.{eqb-true, eqb-false}
use Rattle.std.proofs.lemmas.List.{take_all, length-map}
use Rattle.vt_outside.specs.Name.{IsName}
use Rattle.vt_bytes.specs.Parts.{part}
use Rattle.vt_bytes.specs.Memory.{Memory, bytes_at}
use Rattle.cfg_directory.specs.declared.item.Item.{Item}
use Rattle.cfg_directory.specs.declared.listed.Listed.{Listed}
use Rattle.cfg_directory.specs.Items.{IsItems, directory_of}
use Rattle.cfg_directory.specs.Listing.{listed_in, listed_of}
use Rattle.loader_script.specs.LoaderName.{loader_name}
use Rattle.cfg_dma.specs.Device.{contents}
use Rattle.cfg_dma.specs.Reads.{IsOver}
use Rattle.command_acts.specs.Runs.{Answers}
use Rattle.load_states.specs.declared.stage.Stage.{Stage}
use Rattle.load_states.specs.declared.reading.Reading.TheVariants as read
use Rattle.load_states.specs.declared.stage.Stage.TheVariants.{Asks}
use Rattle.load_states.specs.Guarded.{descriptor_at, buffer_at, buffer_size}
use Rattle.load_states.specs.LoadState.{LoadState, Opening, memory_of, listed_named}
use Rattle.load_states.specs.Steps.{asked, buffered, entries_taken, stage_for}
use Rattle.load_states.specs.Moves.{count_read, piece_read, first_reads, all_reads}
use Rattle.load_states.specs.Kept.{KeepsNow, HasEntries, with_entries}
use Rattle.load_states.proofs.Looks.{by_test, kept_with}
use Rattle.load_states.proofs.NamedItems.{contents_listed, listing}
use Rattle.load_states.proofs.PartsListed.{listed_more}
use Rattle.load_states.proofs.PieceSizes.{entries_piece, last_piece, another_piece, offset_after}
use Rattle.load_states.proofs.ScriptFound.{directory_taken}
use Rattle.load_states.proofs.Frames.{KeepsOn}

-- The files that were listed so far, and those that the buffer lists, are the first ones.
pub entries_held : (items : List Item) (size taken pieces : ℕ) (m : Memory) → IsItems items → AllByRecursion (λ (item : Item). IsName item.name) items
    → taken ≡ buffer_size * pieces → size ≡ 64 * length items → taken < size
    → bytes_at m buffer_at (asked (size - buffer_size * pieces))
    ≡ part (contents items 0x19) (4 + buffer_size * pieces) (asked (size - buffer_size * pieces))
    → take (taken / 64) (listed_of items) ++ listed_in (asked (size - taken) / 64) (bytes_at m buffer_at (asked (size - taken)))
    ≡ take ((taken + asked (size - taken)) / 64) (listed_of items)
entries_held items size taken pieces m lawful names is whole left held =
    let count = asked (size - taken) in
    let k = taken / 64 in
    let n = count / 64 in
    let piece = entries_piece size taken pieces (length items) is whole left in
    let there : bytes_at m buffer_at count ≡ part (contents items 0x19) (4 + taken) count =
    subst (λ (t : ℕ). bytes_at m buffer_at (asked (size - t)) ≡ part (contents items 0x19) (4 + t) (asked (size - t))) (sym is) held in
    let bytes : bytes_at m buffer_at count ≡ part (directory_of items) (4 + 64 * k) (64 * n) =
    there ∙ ap (λ (b : List ℕ). part b (4 + taken) count) (contents_listed items)
    ∙ ap₂ (λ (s c : ℕ). part (directory_of items) (4 + s) c) (sym piece.before) (sym piece.now) in
    ap (λ (b : List ℕ). take k (listed_of items) ++ listed_in n b) bytes
    ∙ listed_more items k n lawful names (omega (arith, piece.within))
    ∙ ap (λ (number : ℕ). take number (listed_of items)) (sym piece.both)

-- all are the files of the directory
pub all_listed : (items : List Item) (size : ℕ) → size ≡ 64 * length items → take (size / 64) (listed_of items) ≡ listed_of items
all_listed items size whole =
    let number : length (listed_of items) ≡ length items = length-map items listing in take_all (size / 64) (listed_of items) (omega arith)

-- The firmware takes entries: it asks for more, or looks for the script among all files.
pub entries_are_taken : (May : Answers) (its : Opening) (w : LoadState) (size taken : ℕ) → KeepsNow May its w →
    (has : HasEntries its.items size taken w) → IsOver its.items (with_entries size has.pieces) descriptor_at
    (piece_read 0x19 4 size has.pieces) w.attached → KeepsOn May its w (entries_taken size taken (asked (size - taken)) (buffered (asked (size - taken)) w) w)
entries_are_taken May its w size taken kept has over =
    let count = asked (size - taken) in
    let now : List Listed = take ((taken + count) / 64) (listed_of its.items) in
    let same : w.listed ++ listed_in (count / 64) (buffered count w) ≡ now =
    ap (λ (l : List Listed). l ++ listed_in (count / 64) (buffered count w)) has.listed
    ∙ entries_held its.items size taken has.pieces (memory_of w) kept.lawful kept.names has.taken_is has.size_is has.some_left over.held in
    let after : List Listed → Stage → LoadState = λ listed stage. record w { listed = listed; stage = stage } in
    let Keeps : List Listed → Stage → Type 0 = λ listed stage. KeepsOn May its w (after listed stage) in
    subst (λ (l : List Listed). Keeps l (if taken + count == size then stage_for (listed_named l loader_name) else Asks (read.Entries size (taken + count))))
    (sym same)
    (by_test (Keeps now) (taken + count == size) (stage_for (listed_named now loader_name)) (Asks (read.Entries size (taken + count)))
    (λ done.
    let all : taken + count ≡ size = eqb-true (taken + count) size done in
    let whole : now ≡ listed_of its.items = ap (λ (n : ℕ). take (n / 64) (listed_of its.items)) all ∙ all_listed its.items size has.size_is in
    let last = last_piece size taken has.pieces has.taken_is has.some_left all in
    let finished = over.finished ∙ ap (λ (n : ℕ). count_read ∷ first_reads 0x19 4 size n) last
    ∙ ap (λ (n : ℕ). count_read ∷ all_reads 0x19 4 n) has.size_is in
    subst (λ (l : List Listed). Keeps l (stage_for (listed_named l loader_name))) (sym whole)
    (directory_taken May its w kept over.idle finished has.script has.placed has.begun))
    (λ more.
    let another = another_piece size taken has.pieces has.taken_is has.some_left (eqb-false (taken + count) size more) in
    kept_with May its w now w.script (Asks (read.Entries size (taken + count))) kept (
      another.some_left,
      (
        record {
          begun = has.begun;
          pieces = suc has.pieces;
          taken_is = another.taken_is;
          size_is = has.size_is;
          some_left = another.some_left;
          listed = refl;
          script = has.script;
          placed = has.placed;
        },
        record {
          idle = record { idle = over.idle; finished = over.finished };
          asks = inr (refl, sym over.selected, omega (arith, over.offset ∙ offset_after 4 size taken has.pieces has.taken_is, another.taken_is));
        },
      ),
    )))
