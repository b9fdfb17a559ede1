-- The commands in front leave the files that they don't write, and the run goes on behind them.
use Rattle.std.proofs.Common.{◌≡◌, ℕ, suc, ◌+◌, List, [], ◌∷◌, ◌++◌, length, Some, refl, ap, sym, ◌∙◌}
use Rattle.std.proofs.lemmas.Option.{same_Some, none-some}
use Rattle.vt_outside.specs.File.{File}
use Rattle.cfg_directory.specs.SmbiosNames.{anchor_name, structures_name}
use Rattle.loader_script.specs.declared.entry.Entry.{Entry}
use Rattle.loader_script.specs.declared.entry.Entry.TheVariants.{Allocate, AddPointer, AddChecksum, WritePointer, Misnamed, Skipped}
use Rattle.loader_script.specs.Run.{Progress, End, Done, Command, NoRoom, file_of, allocated, with_written, carried_out, run_from, run_on}
use Rattle.loader_script.proofs.Runs.{done-on, joined}
use Rattle.smbios_install.specs.Commands.{LeavesBoth, LeaveBoth}
use Rattle.smbios_install.proofs.Found.{find-other}

-- Both files are what they were.
pub record AreLeft (before after : Progress) : Type 0 where
  pub anchor : file_of after.files anchor_name ≡ file_of before.files anchor_name
  pub structures : file_of after.files structures_name ≡ file_of before.files structures_name

left_same : (before after : Progress) → after.files ≡ before.files → AreLeft before after
left_same before after same = record {
  anchor = ap (λ (files : List File). file_of files anchor_name) same;
  structures = ap (λ (files : List File). file_of files structures_name) same;
}

-- a file that is placed is still in fw_cfg
allocated_files : (name : List ℕ) (p next : Progress) (places : List ℕ) → allocated name p places ≡ Some next → next.files ≡ p.files
allocated_files name p next [] is = absurd (none-some next is)
allocated_files name p next (place ∷ others) is = ap (λ (q : Progress). q.files) (sym (same_Some _ next is))

-- one command
one_leaves : (entry : Entry) (p next : Progress) → LeavesBoth entry → carried_out entry p ≡ Some next → AreLeft p next
unfolding carried_out
one_leaves (Allocate name align zone) p next leaves is = left_same p next (allocated_files name p next p.places is)
one_leaves (AddPointer dest src offset size) p next leaves is = left_same p next (ap (λ (q : Progress). q.files) (sym (same_Some _ next is)))
one_leaves (AddChecksum name offset start count) p next leaves is = left_same p next (ap (λ (q : Progress). q.files) (sym (same_Some _ next is)))
one_leaves (WritePointer dest src dst_offset src_offset size) p next leaves is =
    let files : next.files ≡ with_written dest src dst_offset src_offset size p = ap (λ (q : Progress). q.files) (sym (same_Some _ next is)) in
    record {
      anchor = ap (λ (fs : List File). file_of fs anchor_name) files
          ∙ find-other (λ (file : File). file.name) _ (λ file. refl) dest anchor_name leaves.0 p.files;
      structures = ap (λ (fs : List File). file_of fs structures_name) files
          ∙ find-other (λ (file : File). file.name) _ (λ file. refl) dest structures_name leaves.1 p.files;
    }
one_leaves (Misnamed command) p next leaves is = left_same p next (ap (λ (q : Progress). q.files) (sym (same_Some _ next is)))
one_leaves (Skipped command) p next leaves is = left_same p next (ap (λ (q : Progress). q.files) (sym (same_Some _ next is)))

-- all of them
pub front_leaves : (index : ℕ) (front : List Entry) (p end : Progress) → LeaveBoth front → run_from index front p ≡ (Done, end) → AreLeft p end
front_leaves index [] p end leaves ends = left_same p end (ap (λ (e : End × Progress). e.1.files) (sym ends))
front_leaves index (entry ∷ front) p end leaves ends =
    let first = done-on index entry front p end ends in
    let one = one_leaves entry p first.next leaves.0 first.carried in
    let rest = front_leaves (suc index) front first.next end leaves.1 first.rest in
    record { anchor = rest.anchor ∙ one.anchor; structures = rest.structures ∙ one.structures }

-- a run that is done behind other commands has done those
pub record IsDoneBehind (index : ℕ) (front back : List Entry) (p end : Progress) : Type 0 where
  pub between : Progress
  pub first : run_from index front p ≡ (Done, between)
  pub rest : run_from (index + length front) back between ≡ (Done, end)

behind_of : (index : ℕ) (front back : List Entry) (p between end : Progress) (ended : End) → run_from index front p ≡ (ended, between)
    → run_on (index + length front) back ended between ≡ (Done, end) → IsDoneBehind index front back p end
behind_of index front back p between end Done first ends = record { between = between; first = first; rest = ends }
behind_of index front back p between end (Command at cause) first ends =
    let other : Command at cause ≡ Done = ap (λ (e : End × Progress). e.0) ends in
    absurd (cc)
behind_of index front back p between end (NoRoom at) first ends =
    let other : NoRoom at ≡ Done = ap (λ (e : End × Progress). e.0) ends in
    absurd (cc)

pub done_behind : (index : ℕ) (front back : List Entry) (p end : Progress) → run_from index (front ++ back) p ≡ (Done, end)
    → IsDoneBehind index front back p end
done_behind index front back p end ends =
    let run = run_from index front p in
    behind_of index front back p run.1 end run.0 refl (sym (joined index front back p) ∙ ends)
