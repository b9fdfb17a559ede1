-- What one command does, as it stands in the run of the script.
use Rattle.std.specs.Prelude.{◌≡◌, ℕ, suc, List, [], ◌∷◌, Some, None}
use Rattle.loader_script.specs.declared.entry.Entry.{Entry}
use Rattle.loader_script.specs.Run.{Progress, End, cause_of, carried_out}
use Rattle.command_acts.specs.Runs.{Answers, EndsWith, with_places}

-- the command isn't refused, takes no place, and leads from here to there
abbrev pub CarriesTo : Entry → Progress → Progress → Type 0
CarriesTo entry before after = (cause_of entry before ≡ None) × (carried_out entry (with_places before []) ≡ Some after)

-- however the run ends behind the command, so it ends from the command on
abbrev pub LeadsOn : Answers → Entry → Progress → Progress → Type 0
LeadsOn May entry before after = (index : ℕ) (script : List Entry) (end : End) (final : Progress)
    → EndsWith May (suc index) script after end final → EndsWith May index (entry ∷ script) before end final
