-- Runs over files that are alike end in the same way, with the same files placed.
use Rattle.std.proofs.Common.{◌≡◌, ◌≢◌, ℕ, suc, ◌+◌, Bool, true, false, ◌||◌, List, [], ◌∷◌, ◌++◌, Option, Some, None, refl, ap, ap₂, sym, subst}
use Rattle.std.proofs.Common.{◌∙◌}
use Rattle.std.specs.List.{AllByRecursion}
use Rattle.std.specs.Str.{bytes_eq}
use Rattle.std.proofs.lemmas.Bool.{true≢false}
use Rattle.vt_outside.specs.File.{File}
use Rattle.vt_outside.proofs.Texts.{text_itself}
use Rattle.vt_bytes.specs.Numbers.{le_bytes}
use Rattle.cfg_directory.specs.SmbiosNames.{anchor_name, structures_name}
use Rattle.loader_script.specs.declared.entry.Entry.{Entry}
use Rattle.loader_script.specs.declared.entry.Entry.TheVariants.{Allocate, AddPointer, AddChecksum, WritePointer, Misnamed, Skipped}
use Rattle.loader_script.specs.declared.refusing.Cause.{Cause}
use Rattle.loader_script.specs.Run.{Progress, End, Command, NoRoom, bytes_of, place_of, cause_of, carried_out, allocated, goes_on, run_from}
use Rattle.smbios_install.specs.Commands.{places_either, NamesNoScript, NameNoScript}
use Rattle.smbios_install.proofs.Alike.{AreAlike, same_of, alike_written}

-- how far a run over other files is
abbrev over : List File → Progress → Progress
over others p = record p { files = others }

-- ---- one command

-- it is refused for the same cause
cause_same : (entry : Entry) (p : Progress) (others : List File) → NamesNoScript entry → AreAlike p.files others
    → cause_of entry p ≡ cause_of entry (over others p)
unfolding cause_of
cause_same (Allocate name align zone) p others names alike =
    let same = same_of p.placed p.files others name alike names in
    rw (same.known, same.place) refl
cause_same (AddPointer dest src offset size) p others names alike =
    let d = same_of p.placed p.files others dest alike names.0 in
    let s = same_of p.placed p.files others src alike names.1 in
    rw (d.known, d.place, s.known, s.place) refl
cause_same (AddChecksum name offset start count) p others names alike =
    let same = same_of p.placed p.files others name alike names in
    rw (same.known, same.place) refl
cause_same (WritePointer dest src dst_offset src_offset size) p others names alike =
    let d = same_of p.placed p.files others dest alike names.0 in
    let s = same_of p.placed p.files others src alike names.1 in
    rw (d.known, s.known, s.place) refl
cause_same (Misnamed command) p others names alike = refl
cause_same (Skipped command) p others names alike = refl

-- and leads to alike files, with the same ones placed at the same places
pub record AreLike (a b : Progress) : Type 0 where
  pub files : AreAlike a.files b.files
  pub placed : a.placed ≡ b.placed
  pub places : a.places ≡ b.places

abbrev Follow : Option Progress → Option Progress → Type 0
Follow None None = Unit {0}
Follow None (Some b) = ⊥
Follow (Some a) None = ⊥
Follow (Some a) (Some b) = AreLike a b

-- a name that no command places is no name of the two files
apart_from : (name other : List ℕ) → bytes_eq name other ≡ false → name ≢ other
apart_from name other tested same = true≢false (sym (ap (bytes_eq name) (sym same) ∙ text_itself name) ∙ tested)

or_first_false : (a b : Bool) → (a || b) ≡ false → a ≡ false
or_first_false true b is = absurd (true≢false is)
or_first_false false b is = refl

allocated_same : (name : List ℕ) (p : Progress) (others : List File) (places : List ℕ) → bytes_of p.files name ≡ bytes_of others name
    → AreAlike p.files others → Follow (allocated name p places) (allocated name (over others p) places)
allocated_same name p others [] bytes alike = tt
allocated_same name p others (place ∷ rest) bytes alike = record {
  files = alike;
  placed = ap (λ bs. p.placed ++ record { name = name; place = place; bytes = bs } ∷ []) bytes;
  places = refl;
}

carried_same : (entry : Entry) (p : Progress) (others : List File) → NamesNoScript entry → places_either entry ≡ false → AreAlike p.files others
    → Follow (carried_out entry p) (carried_out entry (over others p))
unfolding carried_out
carried_same (Allocate name align zone) p others names free alike =
    let tests = or_first_false (bytes_eq name anchor_name) (bytes_eq name structures_name) free in
    allocated_same name p others p.places (alike.bytes name names (apart_from name anchor_name tests)) alike
carried_same (AddPointer dest src offset size) p others names free alike = record { files = alike; placed = refl; places = refl }
carried_same (AddChecksum name offset start count) p others names free alike = record { files = alike; placed = refl; places = refl }
carried_same (WritePointer dest src dst_offset src_offset size) p others names free alike = record {
  files = alike_written p.files others dest dst_offset (le_bytes size (place_of p.placed src + src_offset)) alike names.0;
  placed = refl;
  places = refl;
}
carried_same (Misnamed command) p others names free alike = record { files = alike; placed = refl; places = refl }
carried_same (Skipped command) p others names free alike = record { files = alike; placed = refl; places = refl }

-- ---- a run

abbrev pub EndSame : End × Progress → End × Progress → Type 0
EndSame a b = (a.0 ≡ b.0) × (a.1.placed ≡ b.1.placed)

goes_same : (index : ℕ) (a b : Progress) (run : Progress → End × Progress) (cause other : Option Cause) (after other_after : Option Progress)
    → cause ≡ other → Follow after other_after → a.placed ≡ b.placed → ((x y : Progress) → AreLike x y → EndSame (run x) (run y))
    → EndSame (goes_on index a cause after run) (goes_on index b other other_after run)
goes_same index a b run cause None None None is follow placed rest = subst (λ c. EndSame (goes_on index a c None run) (NoRoom index, b)) (sym is) (refl, placed)
goes_same index a b run cause None None (Some y) is follow placed rest = absurd follow
goes_same index a b run cause None (Some x) None is follow placed rest = absurd follow
goes_same index a b run cause None (Some x) (Some y) is follow placed rest =
    subst (λ c. EndSame (goes_on index a c (Some x) run) (run y)) (sym is) (rest x y follow)
goes_same index a b run cause (Some found) after other_after is follow placed rest =
    subst (λ c. EndSame (goes_on index a c after run) (Command index found, b)) (sym is) (refl, placed)

-- what is alike is the same over other files
like_is : (a b : Progress) → AreLike a b → over b.files a ≡ b
like_is a b like = ap₂ (λ placed places. record { files = b.files; placed = placed; places = places }) like.placed like.places

pub run_same : (index : ℕ) (script : List Entry) (p : Progress) (others : List File) → NameNoScript script
    → AllByRecursion (λ (entry : Entry). places_either entry ≡ false) script → AreAlike p.files others
    → EndSame (run_from index script p) (run_from index script (over others p))
run_same index [] p others names free alike = (refl, refl)
run_same index (entry ∷ script) p others names free alike =
    goes_same index p (over others p) (run_from (suc index) script) (cause_of entry p) (cause_of entry (over others p)) (carried_out entry p)
    (carried_out entry (over others p)) (cause_same entry p others names.0 alike) (carried_same entry p others names.0 free.0 alike) refl
    (λ x y like. subst (λ q. EndSame (run_from (suc index) script x) (run_from (suc index) script q)) (like_is x y like)
    (run_same (suc index) script x y.files names.1 free.1 like.files))
