-- The first commands of a script, which were carried out, and the run of the whole script.
use Rattle.std.proofs.Common.{◌≡◌, ℕ, suc, ◌+◌, ◌<◌, ◌≤◌, List, [], ◌∷◌, ◌++◌, length, map, take, drop, get_or, arith, refl, ap, sym, subst, ◌∙◌}
use Rattle.std.proofs.lemmas.List.{take_all, take-append-drop, length-take}
use Rattle.std.proofs.Math.Seq.{take-suc}
use Rattle.vt_outside.specs.Placement.{Range}
use Rattle.loader_script.specs.declared.entry.Entry.{Entry}
use Rattle.loader_script.specs.Left.{range_of}
use Rattle.vt_outside.specs.File.{File}
use Rattle.loader_script.specs.Run.{Progress, End, Done, opening}
use Rattle.command_acts.specs.Runs.{Answers, EndsWith, IsRun, done, refused, without_room, allocated, carried}
use Rattle.command_acts.specs.Steps.{LeadsOn}
use Rattle.command_acts.proofs.PlainRuns.{is_run}

-- An end of the rest of a script, from where the run of its front is done, is an end of the whole.
pub ends_behind : {May : Answers} {index : ℕ} {front : List Entry} {p now final : Progress} {end last : End}
    (rest : List Entry) → EndsWith May index front p end now → end ≡ Done → EndsWith May (index + length front) rest now last final
    → EndsWith May index (front ++ rest) p last final
ends_behind {May} {index} {p = p} {final = final} {last = last} rest done is ends =
    let here : index + 0 ≡ index = omega arith in subst (λ i. EndsWith May i rest p last final) here ends
ends_behind rest (refused why) is ends = absurd (cc)
ends_behind rest (without_room none may) is ends = absurd (cc)
ends_behind {May} {index} {now = now} {final = final} {last = last} rest (allocated {script = script} place none may after) is ends =
    let next : index + suc (length script) ≡ suc index + length script = omega arith in
    allocated place none may (ends_behind rest after is (subst (λ i. EndsWith May i rest now last final) next ends))
ends_behind {May} {index} {now = now} {final = final} {last = last} rest (carried {script = script} none goes after) is ends =
    let next : index + suc (length script) ≡ suc index + length script = omega arith in
    carried none goes (ends_behind rest after is (subst (λ i. EndsWith May i rest now last final) next ends))

-- so a run whose first commands are carried out ends as the run from the next one on does
pub ends_from : (May : Answers) (files : List File) (script : List Entry) (index : ℕ) (handed : List Range) (now final : Progress) (end : End)
    → index ≤ length script → IsRun May files (take index script) handed Done now → EndsWith May index (drop index script) now end final
    → EndsWith May 0 script (opening files []) end final
ends_from May files script index handed now final end within run ends =
    let so_many : index ≡ 0 + length (take index script) = omega (arith, length-take index script) in
    subst (λ (all : List Entry). EndsWith May 0 all (opening files []) end final) (take-append-drop index script)
    (ends_behind (drop index script) run.answered refl (subst (λ i. EndsWith May i (drop index script) now end final) so_many ends))

-- a command that leads on is one more that is carried out
pub one_more : (May : Answers) (files : List File) (script : List Entry) (index : ℕ) (entry : Entry) (handed given : List Range)
    (now after : Progress) → index < length script → entry ≡ get_or script index entry → IsRun May files (take index script) handed Done now
    → LeadsOn May entry now after → given ≡ map range_of after.placed → IsRun May files (take (suc index) script) given Done after
one_more May files script index entry handed given now after within is run leads given_are =
    let more : take index script ++ entry ∷ [] ≡ take (suc index) script = ap (λ (e : Entry). take index script ++ e ∷ []) is
    ∙ sym (take-suc script index entry within) in
    let so_many : index ≡ 0 + length (take index script) = omega (arith, length-take index script) in
    is_run May files (take (suc index) script) given Done after
    (subst (λ (front : List Entry). EndsWith May 0 front (opening files []) Done after) more
    (ends_behind (entry ∷ []) run.answered refl
    (subst (λ i. EndsWith May i (entry ∷ []) now Done after) so_many (leads index [] Done after done)))) given_are

-- no command is carried out yet
pub none_yet : (May : Answers) (files : List File) (script : List Entry) (handed : List Range) (now : Progress) → now ≡ opening files [] → handed ≡ []
    → IsRun May files (take 0 script) handed Done now
none_yet May files script handed now none handed_none =
    is_run May files [] handed Done now (subst (λ (p : Progress). EndsWith May 0 [] (opening files []) Done p) (sym none) done)
    (handed_none ∙ sym (ap (λ (p : Progress). map range_of p.placed) none))

-- all are
pub all_done : (May : Answers) (files : List File) (script : List Entry) (index : ℕ) (handed : List Range) (now : Progress) → length script ≤ index
    → IsRun May files (take index script) handed Done now → EndsWith May 0 script (opening files []) Done now
all_done May files script index handed now past run =
    subst (λ (front : List Entry). EndsWith May 0 front (opening files []) Done now) (take_all index script past) run.answered
