-- What each command does.
use Rattle.std.specs.Prelude.{◌≡◌, ◌≢◌, false, Option, Some, None, Err}
use Rattle.vt_words.specs.declared.command.Command.{Command}
use Rattle.vt_words.specs.declared.command.Command.TheVariants.{Boot, Load, Build, Decode, List, Gen}
use Rattle.table_model.specs.Search.{search_of}
use Rattle.vmtables.specs.Boot.{BootMakes}
use Rattle.vmtables.specs.Build.{BuildMakes}
use Rattle.vmtables.specs.Calls.{Answering, Unread, Doing, ReadsAll, ReadsNone}
use Rattle.vmtables.specs.Decode.{DecodeMakes, ListMakes, search_for}
use Rattle.vmtables.specs.Generate.{GenMakes}
use Rattle.vmtables.specs.Load.{LoadMakes}
use Rattle.vmtables.specs.declared.fault.Fault.TheVariants.{Usage}
use Rattle.vmtables.specs.declared.status.Status.{Status}
use Rattle.vmtables.specs.declared.status.Status.TheVariants as status

-- Words that are no command: nothing is read, and the world, the allocator and the plan stay as they were.
abbrev pub IsUsage : Doing
IsUsage before after Unread made = (made ≡ Err Usage) × (after ≡ before)
IsUsage before after _ _ = ⊥

-- what the command does that the words are
abbrev pub Does : Answering → Option Command → Doing
Does Gives None = IsUsage
Does Gives (Some (Boot setting)) = ReadsAll (BootMakes Gives setting)
Does Gives (Some (Load options)) = ReadsAll (LoadMakes Gives options)
Does Gives (Some Build) = ReadsAll BuildMakes
Does Gives (Some (Decode legacy)) = ReadsAll (DecodeMakes (search_of legacy false))
Does Gives (Some (List sought)) = ReadsAll (ListMakes (search_for sought))
Does Gives (Some (Gen processors)) = ReadsNone (GenMakes Gives processors)

-- a status that refuses neither an image, nor a dump, nor tables
pub record RefusesNothing (answer : Status) : Type 0 where
  pub image : answer ≢ status.ImageRefused
  pub dump : answer ≢ status.DumpRefused
  pub tables : answer ≢ status.TablesRefused

-- the commands that load an image which they build themselves refuse nothing of it
abbrev pub NothingIsRefused : Option Command → Status → Type 0
NothingIsRefused (Some (Boot setting)) answer = RefusesNothing answer
NothingIsRefused (Some (Gen processors)) answer = RefusesNothing answer
NothingIsRefused command answer = Unit {0}
