-- A WritePointer that is carried out: what holds of it while its skip and its write go on.
use Rattle.std.proofs.Common.{◌≡◌, ℕ, ◌+◌, ◌<◌, ◌≤◌, ◌⊎◌, inl, inr, true, false, List, [], length, Option, Some, None, arith, refl, sym, ap, subst, ◌∙◌}
use Rattle.std.specs.Prelude.{IsSomeAnd}
use Rattle.std.specs.Option.{option_map, option_map_or}
use Rattle.std.proofs.lemmas.Option.{same_Some}
use Rattle.vt_bytes.specs.Memory.{Memory}
use Rattle.cfg_directory.specs.declared.item.Item.{Item}
use Rattle.cfg_directory.specs.Files.{files_of}
use Rattle.vt_layout.specs.Rows.{IsPointerSize}
use Rattle.loader_script.specs.declared.entry.Entry.TheVariants.{WritePointer}
use Rattle.loader_script.specs.Conditions.{CanWritePointer}
use Rattle.loader_script.specs.Run.{Placed, cause_of, place_of as place_in_run}
use Rattle.loader_script.proofs.Conditions.{conditions_from}
use Rattle.vt_outside.specs.File.{File}
use Rattle.cfg_dma.specs.Transfers.{Attached}
use Rattle.cfg_dma.specs.Writes.{CanWrite, write_of}
use Rattle.command_acts.specs.declared.placed.PlacedFile.{PlacedFile}
use Rattle.command_acts.specs.FilesInMemory.{files_in, placed_in, placed_named, place_of}
use Rattle.command_acts.specs.Runs.{Answers, at_files}
use Rattle.command_acts.proofs.ItemsWritten.{as_file, selected_named}
use Rattle.command_acts.proofs.NamedInMemory.{named_in}
use Rattle.load_states.specs.declared.stage.Stage.{Stage}
use Rattle.load_states.specs.Guarded.{descriptor_at, buffer_at, is_work}
use Rattle.load_states.specs.LoadState.{LoadState, files_now}
use Rattle.load_states.specs.Kept.{IsPointing, HasCarriedOut}
use Rattle.load_states.proofs.Frames.{descriptor_ram, buffer_ram, beside_work}
use Rattle.load_states.proofs.NamedItems.{file_of_named}
use Rattle.load_states.proofs.Taken.{going_on, script_still}

-- It holds at another device, memory and stage where placed files hold the same.
abbrev pub pointing_still : (May : Answers) (items before : List Item) (index : ℕ) (w : LoadState) (a : Attached) (s : Stage)
    → files_in a.memory w.placed ≡ files_now w → IsPointing May items before index w → IsPointing May items before index (going_on w a s)
pointing_still May items before index w a s same known = record {
  script = script_still items w a s known.script;
  lawful = known.lawful;
  dest = known.dest;
  src = known.src;
  dst_offset = known.dst_offset;
  src_offset = known.src_offset;
  size = known.size;
  command = known.command;
  goes = subst
      (λ (files : List Placed).
      cause_of (WritePointer known.dest known.src known.dst_offset known.src_offset known.size) (at_files (files_of before) files []) ≡ None) (sym same)
      known.goes;
  file = known.file;
  there = known.there;
  run = subst (λ (files : List Placed). HasCarriedOut May items index (at_files (files_of before) files []) w) (sym same) known.run;
}

-- What it needs is there.
pub can_point : (May : Answers) (items before : List Item) (index : ℕ) (w : LoadState) (known : IsPointing May items before index w)
    → CanWritePointer (at_files (files_of before) (files_now w) []) known.dest known.src known.dst_offset known.src_offset known.size
can_point May items before index w known =
    conditions_from (WritePointer known.dest known.src known.dst_offset known.src_offset known.size) (at_files (files_of before) (files_now w) [])
    known.goes

-- a number that points has bytes, and no more than 8
pub few_bytes : (size : ℕ) → IsPointerSize size → (0 < size) × (size ≤ 8)
few_bytes size (inl one) = (omega arith, omega arith)
few_bytes size (inr (inl two)) = (omega arith, omega arith)
few_bytes size (inr (inr (inl four))) = (omega arith, omega arith)
few_bytes size (inr (inr (inr eight))) = (omega arith, omega arith)

pub pointer_fits : (May : Answers) (items before : List Item) (index : ℕ) (w : LoadState) (known : IsPointing May items before index w) → known.size ≤ 8
pointer_fits May items before index w known = (few_bytes known.size (can_point May items before index w known).sized).1

-- Its write can be carried out.
pub can_put : (May : Answers) (items before : List Item) (index top : ℕ) (w : LoadState) (known : IsPointing May items before index w)
    → CanWrite before top descriptor_at (write_of known.file.select known.dst_offset known.size buffer_at)
can_put May items before index top w known =
    let can = can_point May items before index w known in
    let few = few_bytes known.size can.sized in
    let same : can.file ≡ as_file known.file =
    same_Some can.file (as_file known.file) (sym can.there ∙ file_of_named before known.dest known.file known.there) in
    let selects = sym (selected_named before known.dest known.file known.lawful.distinct known.there) in
    record {
      kind = refl;
      sound = refl;
      some = few.0;
      fits = subst (λ (o : Option Item). IsSomeAnd o (λ (item : Item). known.dst_offset + known.size ≤ length item.bytes)) selects
          (subst (λ (f : File). known.dst_offset + known.size ≤ length f.bytes) same can.within);
      writable = subst (λ (o : Option Item). IsSomeAnd o (λ (item : Item). item.writable ≡ true)) selects
          (subst (λ (f : File). f.writable ≡ true) same can.writable);
      low = omega arith;
      descriptor_ram = descriptor_ram top;
      ram = λ i below. buffer_ram top i (omega (arith, few.1));
      beside = inr (omega arith);
    }

-- what is outside of the work range is beside the control word of a transfer
pub beside_word : (address : ℕ) → is_work address ≡ false → (address < descriptor_at) ⊎ (descriptor_at + 4 ≤ address)
beside_word address other =
    elim (beside_work address other).0 as (λ _. (address < descriptor_at) ⊎ (descriptor_at + 4 ≤ address)) [ inl l ↦ inl l | inr l ↦ inr (omega arith) ]

-- a placed file stands where the run of the script has it
place_there : (m : Memory) (o : Option PlacedFile)
    → option_map_or (λ (p : Placed). p.place) (option_map (placed_in m) o) 0 ≡ option_map_or (λ (p : PlacedFile). p.place) o 0
place_there m None = refl
place_there m (Some p) = refl

pub place_as_run : (m : Memory) (placed : List PlacedFile) (name : List ℕ) → place_in_run (files_in m placed) name ≡ place_of placed name
place_as_run m placed name =
    ap (λ (o : Option Placed). option_map_or (λ (p : Placed). p.place) o 0) (named_in m placed name) ∙ place_there m (placed_named placed name)
