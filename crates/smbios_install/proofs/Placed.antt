-- What the added commands make of the files that are placed.
use Rattle.std.proofs.Common.{◌≡◌, ◌≢◌, ℕ, suc, ◌+◌, ◌^◌, ◌<◌, List, [], ◌∷◌, ◌++◌, Some, None, option_map, refl, ap, ap₂, sym, subst}
use Rattle.std.proofs.Common.{◌∙◌}
use Rattle.std.specs.Option.{option_map_or}
use Rattle.std.specs.Str.{bytes_eq}
use Rattle.std.proofs.lemmas.Option.{same_Some, none-some}
use Rattle.vt_outside.specs.File.{File}
use Rattle.vt_outside.proofs.Texts.{text_itself, other_text}
use Rattle.vt_bytes.specs.Numbers.{le, le_bytes}
use Rattle.vt_bytes.specs.Parts.{part, put_at}
use Rattle.loader_script.specs.declared.entry.Entry.{Entry}
use Rattle.loader_script.specs.declared.entry.Entry.TheVariants.{Allocate, AddPointer, AddChecksum}
use Rattle.loader_script.specs.Run.{Placed, Progress, Done, file_of, placed_of, bytes_of, placed_bytes, place_of, placed_with, allocated}
use Rattle.loader_script.specs.Run.{with_pointer, with_sum, carried_out, run_from}
use Rattle.loader_script.specs.Conditions.{CanAllocate, CanAddPointer}
use Rattle.loader_script.proofs.Conditions.{conditions_from}
use Rattle.loader_script.proofs.Runs.{done-on}
use Rattle.smbios_install.proofs.Found.{find-own, find-other, find-last, find-before}
use Rattle.smbios_install.proofs.Bytes.{summed}

-- the file of a name has other bytes
pub with_own : (placed : List Placed) (name bytes : List ℕ) (d : Placed) → placed_of placed name ≡ Some d
    → placed_of (placed_with placed name bytes) name ≡ Some (record d { bytes = bytes })
with_own placed name bytes d found =
    find-own (λ (p : Placed). p.name) (λ (p : Placed). record p { bytes = bytes }) (λ p. refl) name placed
    ∙ ap (option_map (λ (p : Placed). record p { bytes = bytes })) found

pub with_other : (placed : List Placed) (dest bytes name : List ℕ) → dest ≢ name → placed_of (placed_with placed dest bytes) name ≡ placed_of placed name
with_other placed dest bytes name differ =
    find-other (λ (p : Placed). p.name) (λ (p : Placed). record p { bytes = bytes }) (λ p. refl) dest name differ placed

-- A file was placed, which wasn't before, and the run goes on.
pub record IsPlacedOn (index : ℕ) (name : List ℕ) (script : List Entry) (p end : Progress) (file : File) : Type 0 where
  pub next : Progress
  pub place : ℕ
  pub rest : run_from (suc index) script next ≡ (Done, end)
  pub files : next.files ≡ p.files
  pub found : placed_of next.placed name ≡ Some (record { name = name; place = place; bytes = file.bytes })
  pub others : (other : List ℕ) → name ≢ other → placed_of next.placed other ≡ placed_of p.placed other

place_on : (index : ℕ) (name : List ℕ) (script : List Entry) (p next end : Progress) (file : File) (places : List ℕ)
    → file_of p.files name ≡ Some file → placed_of p.placed name ≡ None → allocated name p places ≡ Some next
    → run_from (suc index) script next ≡ (Done, end) → IsPlacedOn index name script p end file
place_on index name script p next end file [] there fresh is rest = absurd (none-some next is)
place_on index name script p next end file (place ∷ others) there fresh is rest =
    let q : Placed = record { name = name; place = place; bytes = bytes_of p.files name } in
    let after : p.placed ++ q ∷ [] ≡ next.placed = ap (λ (n : Progress). n.placed) (same_Some _ next is) in
    let bytes : bytes_of p.files name ≡ file.bytes = ap (λ o. option_map_or (λ (f : File). f.bytes) o []) there in
    record {
      next = next;
      place = place;
      rest = rest;
      files = ap (λ (n : Progress). n.files) (sym (same_Some _ next is));
      found = ap (λ (ps : List Placed). placed_of ps name) (sym after)
          ∙ find-last (λ (r : Placed). bytes_eq r.name name) p.placed q fresh (text_itself name)
          ∙ ap (λ bs. Some (record { name = name; place = place; bytes = bs })) bytes;
      others = λ other differ. ap (λ (ps : List Placed). placed_of ps other) (sym after)
          ∙ find-before (λ (r : Placed). bytes_eq r.name other) p.placed q (other_text name other differ);
    }

pub placed_on : (index : ℕ) (name : List ℕ) (align zone : ℕ) (script : List Entry) (p end : Progress) (file : File) → file_of p.files name ≡ Some file
    → run_from index (Allocate name align zone ∷ script) p ≡ (Done, end) → IsPlacedOn index name script p end file
unfolding carried_out
placed_on index name align zone script p end file there ends =
    let first = done-on index (Allocate name align zone) script p end ends in
    let can : CanAllocate p name align zone = conditions_from (Allocate name align zone) p first.none in
    place_on index name script p first.next end file p.places there can.fresh first.carried first.rest

-- One placed file has other bytes, and the run goes on.
pub record IsChangedOn (index : ℕ) (name : List ℕ) (script : List Entry) (p end : Progress) (d : Placed) (bytes : List ℕ) : Type 0 where
  pub next : Progress
  pub rest : run_from (suc index) script next ≡ (Done, end)
  pub files : next.files ≡ p.files
  pub found : placed_of next.placed name ≡ Some (record d { bytes = bytes })
  pub others : (other : List ℕ) → name ≢ other → placed_of next.placed other ≡ placed_of p.placed other

change_on : (index : ℕ) (name : List ℕ) (script : List Entry) (p next end : Progress) (d : Placed) (bytes : List ℕ) → placed_of p.placed name ≡ Some d
    → next ≡ record p { placed = placed_with p.placed name bytes } → run_from (suc index) script next ≡ (Done, end)
    → IsChangedOn index name script p end d bytes
change_on index name script p next end d bytes found is rest = record {
  next = next;
  rest = rest;
  files = ap (λ (n : Progress). n.files) is;
  found = ap (λ (n : Progress). placed_of n.placed name) is ∙ with_own p.placed name bytes d found;
  others = λ other differ. ap (λ (n : Progress). placed_of n.placed other) is ∙ with_other p.placed name bytes other differ;
}

-- a sum is subtracted
pub summed_on : (index : ℕ) (name : List ℕ) (offset start count : ℕ) (script : List Entry) (p end : Progress) (d : Placed)
    → placed_of p.placed name ≡ Some d → run_from index (AddChecksum name offset start count ∷ script) p ≡ (Done, end)
    → IsChangedOn index name script p end d (summed d.bytes offset start count)
unfolding carried_out
summed_on index name offset start count script p end d found ends =
    let first = done-on index (AddChecksum name offset start count) script p end ends in
    let is : first.next ≡ record p { placed = with_sum name offset start count p.placed } = sym (same_Some _ first.next first.carried) in
    let bytes : placed_bytes p.placed name ≡ d.bytes = ap (λ o. option_map_or (λ (q : Placed). q.bytes) o []) found in
    change_on index name script p first.next end d (summed d.bytes offset start count) found
    (is ∙ ap (λ bs. record p { placed = placed_with p.placed name (summed bs offset start count) }) bytes) first.rest

-- bytes with a place added to a number in them
abbrev pub pointed : List ℕ → ℕ → ℕ → ℕ → List ℕ
pointed bytes offset size place = put_at bytes offset (le_bytes size (le (part bytes offset size) + place))

-- a place is added, and the sum fits
pub record IsPointedOn (index : ℕ) (dest src : List ℕ) (offset size : ℕ) (script : List Entry) (p end : Progress) (d s : Placed) : Type 0 where
  pub changed : IsChangedOn index dest script p end d (pointed d.bytes offset size s.place)
  pub fits : le (part d.bytes offset size) + s.place < 256 ^ size

pub pointed_on : (index : ℕ) (dest src : List ℕ) (offset size : ℕ) (script : List Entry) (p end : Progress) (d s : Placed)
    → placed_of p.placed dest ≡ Some d → placed_of p.placed src ≡ Some s
    → run_from index (AddPointer dest src offset size ∷ script) p ≡ (Done, end) → IsPointedOn index dest src offset size script p end d s
unfolding carried_out
pointed_on index dest src offset size script p end d s found source_found ends =
    let first = done-on index (AddPointer dest src offset size) script p end ends in
    let can : CanAddPointer p dest src offset size = conditions_from (AddPointer dest src offset size) p first.none in
    let is : first.next ≡ record p { placed = with_pointer dest src offset size p.placed } = sym (same_Some _ first.next first.carried) in
    let bytes : placed_bytes p.placed dest ≡ d.bytes = ap (λ o. option_map_or (λ (q : Placed). q.bytes) o []) found in
    let place : place_of p.placed src ≡ s.place = ap (λ o. option_map_or (λ (q : Placed). q.place) o 0) source_found in
    record {
      changed = change_on index dest script p first.next end d (pointed d.bytes offset size s.place) found
          (is ∙ ap₂ (λ bs at. record p { placed = placed_with p.placed dest (pointed bs offset size at) }) bytes place) first.rest;
      fits = subst (λ n. n < 256 ^ size) (ap₂ (λ bs at. le (part bs offset size) + at) bytes place) can.fits;
    }
