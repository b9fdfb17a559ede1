-- The run of a script with the places that an allocator gave is that on plain lists.
use Rattle.std.proofs.Common.{◌≡◌, ℕ, inl, inr, List, [], ◌∷◌, ◌++◌, map, Option, Some, refl, ap, ap₂, sym, ◌∙◌, append_assoc, append-nil}
use Rattle.std.proofs.lemmas.Bool.{cases_Bool, cond-true, cond-false}
use Rattle.std.proofs.lemmas.List.{map_push}
use Rattle.std.proofs.lemmas.Option.{same_Some, none-some}
use Rattle.std.specs.Str.{bytes_eq}
use Rattle.vt_outside.specs.Placement.{Range}
use Rattle.loader_script.specs.declared.entry.Entry.{Entry}
use Rattle.loader_script.specs.declared.entry.Entry.TheVariants.{Allocate, AddPointer, AddChecksum, WritePointer, Misnamed, Skipped}
use Rattle.vt_outside.specs.File.{File}
use Rattle.loader_script.specs.Run.{Placed, Progress, End, NoRoom, placed_with, carried_out, opening, run_from}
use Rattle.loader_script.specs.Left.{range_of}
use Rattle.loader_script.proofs.Runs.{goes-on}
use Rattle.command_acts.specs.Runs.{Answers, EndsWith, done, refused, without_room, allocated, carried, IsRun, at_files, placed_at, with_file, with_places}
use Rattle.command_acts.proofs.Causes.{cause_any}

-- where placed files stand
abbrev pub places_of_placed : List Placed → List ℕ
places_of_placed placed = map (λ (p : Placed). p.place) placed

-- other bytes don't move a file
with_moves_none : (placed : List Placed) (name bytes : List ℕ) → places_of_placed (placed_with placed name bytes) ≡ places_of_placed placed
with_moves_none [] name bytes = refl
with_moves_none (p ∷ placed) name bytes =
    elim (cases_Bool (bytes_eq p.name name)) as (λ _. places_of_placed (placed_with (p ∷ placed) name bytes) ≡ places_of_placed (p ∷ placed)) [
      | inl same ↦ ap₂ (λ x xs. x ∷ xs) (ap (λ (q : Placed). q.place) (cond-true _ _ _ same)) (with_moves_none placed name bytes)
      | inr other ↦ ap₂ (λ x xs. x ∷ xs) (ap (λ (q : Placed). q.place) (cond-false _ _ _ other)) (with_moves_none placed name bytes)
    ]

-- A command that takes no place is carried out whatever places are still to be given, and moves no file.
pub record IsCarried (entry : Entry) (p next : Progress) (places : List ℕ) : Type 0 where
  pub carried : carried_out entry (with_places p places) ≡ Some (with_places next places)
  pub stand : places_of_placed next.placed ≡ places_of_placed p.placed

-- how far a run is, with these files of fw_cfg and in memory and with these places
abbrev made_of : List ℕ → List File → List Placed → Option Progress
made_of places files placed = Some (at_files files placed places)

-- what is carried out comes to the files that it makes
carried_to : (places : List ℕ) (now next : Progress) → Some now ≡ Some next → made_of places now.files now.placed ≡ Some (with_places next places)
carried_to places now next is =
    let same = same_Some now next is in ap₂ (made_of places) (ap (λ (q : Progress). q.files) same) (ap (λ (q : Progress). q.placed) same)

-- and where those stand that it makes others of
stand_as : (now next : Progress) (placed : List Placed) → Some now ≡ Some next → places_of_placed now.placed ≡ places_of_placed placed
    → places_of_placed next.placed ≡ places_of_placed placed
stand_as now next placed is stand = ap (λ (q : Progress). places_of_placed q.placed) (sym (same_Some now next is)) ∙ stand

pub carried_any : (entry : Entry) (p next : Progress) (places : List ℕ) → carried_out entry (with_places p []) ≡ Some next → IsCarried entry p next places
unfolding carried_out
carried_any (Allocate name align zone) p next places goes = absurd (none-some _ goes)
carried_any (AddPointer dest src offset size) p next places goes =
    record { carried = carried_to places _ next goes; stand = stand_as _ next p.placed goes (with_moves_none p.placed dest _) }
carried_any (AddChecksum name offset start count) p next places goes =
    record { carried = carried_to places _ next goes; stand = stand_as _ next p.placed goes (with_moves_none p.placed name _) }
carried_any (WritePointer dest src dst_offset src_offset size) p next places goes =
    record { carried = carried_to places _ next goes; stand = stand_as _ next p.placed goes refl }
carried_any (Misnamed command) p next places goes =
    record { carried = carried_to places _ next goes; stand = stand_as _ next p.placed goes refl }
carried_any (Skipped command) p next places goes =
    record { carried = carried_to places _ next goes; stand = stand_as _ next p.placed goes refl }

-- The run goes on like this with the places that are given from here on.
pub record RunsOn (index : ℕ) (script : List Entry) (p : Progress) (end : End) (final : Progress) : Type 0 where
  pub places : List ℕ
  pub given : places_of_placed final.placed ≡ places_of_placed p.placed ++ places
  pub ends : run_from index script (with_places p places) ≡ (end, with_places final [])

pub runs_on : {May : Answers} {index : ℕ} {script : List Entry} {p final : Progress} {end : End}
    → EndsWith May index script p end final → RunsOn index script p end final
unfolding carried_out
runs_on {p = p} done = record { places = []; given = sym (append-nil (places_of_placed p.placed)); ends = refl }
runs_on {index = index} {script = entry ∷ script} {p = p} (refused {cause = cause} is) =
    record { places = []; given = sym (append-nil (places_of_placed p.placed)); ends = rw (cause_any entry p [] ∙ is) refl }
runs_on {index = index} {p = p} (without_room {name = name} {align = align} {zone = zone} none may) =
    record {
      places = [];
      given = sym (append-nil (places_of_placed p.placed));
      ends = rw (cause_any (Allocate name align zone) p [] ∙ none) refl;
    }
runs_on {index = index} {p = p} (allocated {name = name} {align = align} {zone = zone} {script = script} place none may rest) =
    let on = runs_on rest in
    record {
      places = place ∷ on.places;
      given = on.given ∙ ap (λ ps. ps ++ on.places) (map_push (λ (q : Placed). q.place) p.placed (placed_at p.files name place))
          ∙ append_assoc (places_of_placed p.placed) (place ∷ []) on.places;
      ends = goes-on index (Allocate name align zone) script (with_places p (place ∷ on.places)) (with_places (with_file p name place) on.places)
          (cause_any (Allocate name align zone) p (place ∷ on.places) ∙ none) refl ∙ on.ends;
    }
runs_on {index = index} {p = p} (carried {entry = entry} {script = script} {next = next} none goes rest) =
    let on = runs_on rest in
    let is = carried_any entry p next on.places goes in
    record {
      places = on.places;
      given = on.given ∙ ap (λ ps. ps ++ on.places) is.stand;
      ends = goes-on index entry script (with_places p on.places) (with_places next on.places) (cause_any entry p on.places ∙ none) is.carried
          ∙ on.ends;
    }

-- the starts of the ranges of placed files are their places
pub starts : (placed : List Placed) → map (λ (r : Range). r.start) (map range_of placed) ≡ places_of_placed placed
starts [] = refl
starts (p ∷ placed) = ap (λ ps. p.place ∷ ps) (starts placed)

-- A run that has room ends in the same way where more places are given than it needs.
record RunsMore (index : ℕ) (script : List Entry) (p : Progress) (end : End) (final : Progress) : Type 0 where
  pub places : List ℕ
  pub given : places_of_placed final.placed ≡ places_of_placed p.placed ++ places
  pub ends : (extra : List ℕ) → run_from index script (with_places p (places ++ extra)) ≡ (end, with_places final extra)

runs_more : {May : Answers} {index : ℕ} {script : List Entry} {p final : Progress} {end : End}
    → EndsWith May index script p end final → ((at : ℕ) → end ≡ NoRoom at → ⊥) → RunsMore index script p end final
unfolding carried_out
runs_more {p = p} done room = record { places = []; given = sym (append-nil (places_of_placed p.placed)); ends = λ extra. refl }
runs_more {index = index} {script = entry ∷ script} {p = p} (refused {cause = cause} is) room =
    record { places = []; given = sym (append-nil (places_of_placed p.placed)); ends = λ extra. rw (cause_any entry p extra ∙ is) refl }
runs_more {index = index} (without_room none may) room = absurd (room index refl)
runs_more {index = index} {p = p} (allocated {name = name} {align = align} {zone = zone} {script = script} place none may rest) room =
    let on = runs_more rest room in
    record {
      places = place ∷ on.places;
      given = on.given ∙ ap (λ ps. ps ++ on.places) (map_push (λ (q : Placed). q.place) p.placed (placed_at p.files name place))
          ∙ append_assoc (places_of_placed p.placed) (place ∷ []) on.places;
      ends = λ extra. goes-on index (Allocate name align zone) script (with_places p (place ∷ on.places ++ extra))
          (with_places (with_file p name place) (on.places ++ extra))
          (cause_any (Allocate name align zone) p (place ∷ on.places ++ extra) ∙ none) refl ∙ on.ends extra;
    }
runs_more {index = index} {p = p} (carried {entry = entry} {script = script} {next = next} none goes rest) room =
    let on = runs_more rest room in
    record {
      places = on.places;
      given = on.given ∙ ap (λ ps. ps ++ on.places) (carried_any entry p next [] goes).stand;
      ends = λ extra. goes-on index entry script (with_places p (on.places ++ extra)) (with_places next (on.places ++ extra))
          (cause_any entry p (on.places ++ extra) ∙ none) (carried_any entry p next (on.places ++ extra) goes).carried ∙ on.ends extra;
    }

-- a run from the first command on
pub is_run : (May : Answers) (files : List File) (script : List Entry) (handed : List Range) (end : End) (final : Progress)
    → EndsWith May 0 script (opening files []) end final → handed ≡ map range_of final.placed → IsRun May files script handed end final
is_run May files script handed end final answered is =
    let on = runs_on answered in
    let places : map (λ (r : Range). r.start) handed ≡ places_of_placed final.placed = ap (map (λ (r : Range). r.start)) is ∙ starts final.placed in
    record {
      answered = answered;
      ends = ap (λ ps. run_from 0 script (opening files ps)) (places ∙ on.given) ∙ on.ends;
      goes_on = λ room extra.
          let more = runs_more answered room in
          ap (λ ps. run_from 0 script (opening files (ps ++ extra))) (places ∙ more.given) ∙ more.ends extra;
      handed_are = is;
    }
