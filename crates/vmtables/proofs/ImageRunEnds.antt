-- How the run of an image's script ends: whole, or for want of room.
use Rattle.std.proofs.Common.{◌≡◌, ℕ, ◌+◌, List, [], ◌++◌, map, Result, Err, refl, ap, sym, subst, ◌∙◌, append_assoc, append-nil, arith}
use Rattle.std.specs.List.{flat_map}
use Rattle.vt_outside.specs.Placement.{Range}
use Rattle.vt_outside.specs.File.{File}
use Rattle.machine_desc.specs.declared.machine.Machine.{Machine}
use Rattle.loader_script.specs.declared.entry.Entry.{Entry}
use Rattle.loader_script.specs.Left.{range_of}
use Rattle.loader_script.specs.Run.{Placed, Progress, End, Done, Command, NoRoom, opening, place_of, run}
use Rattle.cfg_directory.specs.declared.item.Item.{Item}
use Rattle.cfg_directory.specs.Files.{files_of}
use Rattle.image_files.specs.Places.{ArePlaces}
use Rattle.image_files.specs.Linked.{AreLinked}
use Rattle.image_files.specs.Script.{allocation, linking}
use Rattle.vm_image.specs.Image.{telling, image_files, image_script, image_items}
use Rattle.vm_image.specs.Promised.{top_of, told_files}
use Rattle.vm_image.specs.Built.{IsBuilt}
use Rattle.command_acts.specs.declared.fault.LoadFault.{LoadFault}
use Rattle.command_acts.specs.declared.fault.LoadFault.TheVariants as load
use Rattle.command_acts.specs.Runs.{Answers, EndsWith, IsRun, at_files, with_places, request_at, result_of}
use Rattle.command_acts.proofs.PlainRuns.{starts}
use Rattle.vmtables.specs.Loading.{IsRefusedFree}
use Rattle.vmtables.proofs.ImageRuns.{Extends, GivesFree, IsStuck, later_commands, later_place_none, extends}
use Rattle.vmtables.proofs.PlacesMore.{room_from}

-- how far a run is in which two are the same
abbrev ending : End → Progress → End × Progress
ending end p = (end, p)

its_progress : (a b : End) (p q : Progress) → ending a p ≡ ending b q → p ≡ q
its_progress a b p q is = ap (λ (e : End × Progress). e.1) is

-- A run that isn't without room isn't refused, and its places are lawful. Of the files of fw_cfg it writes the one that tells the host where
-- the id of the generation is.
pub record IsLawfulRun (m : Machine) (places : List ℕ) (end : End) (final : Progress) : Type 0 where
  pub done : end ≡ Done
  pub files : final.files ≡ told_files m final.placed
  pub lawful : ArePlaces (top_of m) [] (image_files m) places
  pub linked : AreLinked (place_of final.placed) (image_files m) places final.placed

-- a machine's script: its Allocates, and what is behind them
script_parts : (m : Machine) → image_script m ≡ flat_map allocation (image_files m) ++ later_commands m
script_parts m = append_assoc (flat_map allocation (image_files m)) (linking (image_files m)) (telling m.generation)

pub extended_of : (m : Machine) (items : List Item) (script : List Entry) (built : IsBuilt m items script) (May : Answers) (end : End) (final : Progress)
    → GivesFree May (top_of m) → EndsWith May 0 (image_script m) (opening (files_of (image_items m)) []) end final
    → Extends May (top_of m) (files_of (image_items m)) (image_script m) 0 [] (image_files m) [] final.placed end
extended_of m items script built May end final free ends =
    subst (λ those. Extends May (top_of m) (files_of (image_items m)) those 0 [] (image_files m) [] final.placed end) (sym (script_parts m))
    (extends May (top_of m) (files_of (image_items m)) (later_commands m) (later_place_none m) free (image_files m) [] 0 [] end final
    (rw built.items_are at built.there) refl (room_from (top_of m) (image_files m) built.room)
    (subst (λ those. EndsWith May 0 those (opening (files_of (image_items m)) []) end final) (script_parts m) ends))

pub lawful_so : (m : Machine) (items : List Item) (script : List Entry) (built : IsBuilt m items script) (May : Answers) (handed : List Range) (end : End)
    (final : Progress) → GivesFree May (top_of m) → IsRun May (files_of (image_items m)) (image_script m) handed end final
    → ((at : ℕ) → end ≡ NoRoom at → ⊥) → IsLawfulRun m (map (λ (r : Range). r.start) handed) end final
lawful_so m items script built May handed end final free ran room =
    let placed : List Placed = final.placed in
    let extended : Extends May (top_of m) (files_of (image_items m)) (image_script m) 0 [] (image_files m) [] placed end =
    extended_of m items script built May end final free ran.answered in
    let same : map (λ (r : Range). r.start) handed ≡ extended.given =
    ap (map (λ (r : Range). r.start)) ran.handed_are ∙ starts placed ∙ extended.stand in
    let loaded = built.loaded (extended.given ++ extended.extra) extended.lawful in
    let both : ending end (with_places final extended.extra) ≡ ending Done (at_files (told_files m loaded.0) loaded.0 []) =
    sym (ran.goes_on room extended.extra) ∙ ap (λ ps. run (files_of (image_items m)) (image_script m) (ps ++ extended.extra)) same ∙ loaded.2 in
    let left = its_progress end Done _ _ both in
    let none : extended.extra ≡ [] = ap (λ (p : Progress). p.places) left in
    let files : placed ≡ loaded.0 = ap (λ (p : Progress). p.placed) left in
    let given : extended.given ++ extended.extra ≡ map (λ (r : Range). r.start) handed =
    ap (λ ps. extended.given ++ ps) none ∙ append-nil extended.given ∙ sym same in
    record {
      done = ap (λ (e : End × Progress). e.0) both;
      files = ap (λ (p : Progress). p.files) left ∙ ap (told_files m) (sym files);
      lawful = subst (ArePlaces (top_of m) [] (image_files m)) given extended.lawful;
      linked = subst (λ ps. AreLinked (place_of placed) (image_files m) ps placed) given
          (subst (λ fs. AreLinked (place_of fs) (image_files m) (extended.given ++ extended.extra) fs) (sym files) loaded.1);
    }

-- A load that ended with a fault: no command is refused, and there is a script, so that it is for want of room at a command, whose request
-- was refused though a place is free.
pub data EndsSo (May : Answers) (top : ℕ) (loaded : List File) (script : List Entry) (placed : List Placed) (why : LoadFault) : Type 0 where
  room : (index : ℕ) → why ≡ load.NoRoom index → IsRefusedFree May top (map range_of placed) (request_at loaded script index)
      → EndsSo May top loaded script placed why

-- a load that answered with a fault
abbrev pub ended_with : LoadFault → Result (Unit {0}) LoadFault
ended_with why = Err why

same_fault : (a b : LoadFault) → ended_with a ≡ ended_with b → a ≡ b
same_fault a b is = cc

pub room_of : (May : Answers) (top : ℕ) (loaded : List File) (script : List Entry) (placed : List Placed) (end : End) (why : LoadFault)
    → ended_with why ≡ result_of end → (((at : ℕ) → end ≡ NoRoom at → ⊥) → end ≡ Done)
    → ((at : ℕ) → end ≡ NoRoom at → IsStuck May top loaded script 0 placed at) → EndsSo May top loaded script placed why
room_of May top loaded script placed Done why is lawful stuck = absurd (cc)
room_of May top loaded script placed (Command index cause) why is lawful stuck =
    let done : Command index cause ≡ Done = lawful (λ at without. absurd (cc)) in
    absurd (cc)
room_of May top loaded script placed (NoRoom index) why is lawful stuck =
    let at = stuck index refl in
    let behind : index ≡ 0 + at.behind = at.at_is in
    let same : at.behind ≡ index = omega arith in
    room index (same_fault why (load.NoRoom index) is)
    (subst (λ k. IsRefusedFree May top (map range_of placed) (request_at loaded script k)) same at.refusal)
