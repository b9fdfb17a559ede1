-- The text of the counts of a machine that is booted, and of the rows of its memory, is what `gen` makes.
use Rattle.std.proofs.Common.{◌≡◌, ℕ, List, Ok, IsSomeAnd, length, ap, subst, ◌∙◌}
use Rattle.cfg_directory.specs.Items.{total_size}
use Rattle.generated_machine.specs.Generated.{generated}
use Rattle.load_states.specs.LoadState.{memory_of}
use Rattle.memory_dump.specs.Rows.{rows_of}
use Rattle.vm_image.specs.Image.{image_items, image_script}
use Rattle.vt_bytes.specs.Memory.{Memory}
use Rattle.vmtables.specs.Boot.{IsMachineBooted}
use Rattle.vmtables.specs.Calls.{Answering, Seen}
use Rattle.vmtables.specs.Generate.{AreCounts, GenMakes, counted, plain, summary, summary_of}

-- the counts of a machine are those of its summary
its_summary : (processors files bytes commands rows : ℕ) (m : Memory) → AreCounts (generated processors) files bytes commands
    → rows ≡ length (rows_of m).rows → summary_of processors files bytes commands rows ≡ summary processors m
unfolding summary
its_summary processors files bytes commands rows m counts are =
    let machine = generated processors in
    ap (λ n. summary_of processors n bytes commands rows) counts.files_are
    ∙ ap (λ n. summary_of processors (length (image_items machine)) n commands rows) counts.bytes_are
    ∙ ap (λ n. summary_of processors (length (image_items machine)) (total_size (image_items machine)) n rows) counts.commands_are
    ∙ ap (λ n. summary_of processors (length (image_items machine)) (total_size (image_items machine)) (length (image_script machine)) n) are

pub counted_so : (Gives : Answering) (processors files bytes commands rows : ℕ) (text : List ℕ) (m : Memory) (before after : Seen)
    → IsMachineBooted Gives plain (generated processors) before after → AreCounts (generated processors) files bytes commands
    → rows ≡ length (rows_of m).rows → IsSomeAnd after.world.load (λ w. m ≡ memory_of w) → text ≡ summary_of processors files bytes commands rows
    → GenMakes Gives processors before after (Ok text)
counted_so Gives processors files bytes commands rows text m before after is counts are held same =
    let its : m ≡ memory_of is.loaded.world = subst (λ seen. IsSomeAnd seen (λ w. m ≡ memory_of w)) is.loaded.world_is held in
    counted is (same ∙ its_summary processors files bytes commands rows m counts are ∙ ap (summary processors) its)
