-- Files that are alike but for the script: the anchor's bytes may differ, and are as many.
use Rattle.std.proofs.Common.{◌≡◌, ◌≢◌, ℕ, false, inl, inr, List, [], ◌∷◌, length, Option, Some, None, option_map, refl, ap, ap₂, sym, subst}
use Rattle.std.proofs.Common.{◌∙◌}
use Rattle.std.specs.Option.{option_map_or}
use Rattle.std.specs.Str.{bytes_eq}
use Rattle.std.proofs.lemmas.Bool.{cases_Bool, cond-true, cond-false, true≢false}
use Rattle.vt_outside.specs.File.{File}
use Rattle.vt_outside.proofs.Texts.{same_text, text_itself}
use Rattle.vt_bytes.specs.Parts.{put_at}
use Rattle.cfg_directory.specs.SmbiosNames.{anchor_name}
use Rattle.loader_script.specs.LoaderName.{loader_name}
use Rattle.loader_script.specs.declared.refusing.FileInfo.{FileInfo}
use Rattle.loader_script.specs.Run.{Placed, file_of, bytes_of, files_with, infos_of, placed_of, places_of}
use Rattle.loader_script.specs.Refusal.{info_of, placed_at}
use Rattle.loader_script.proofs.Named.{find-map}
use Rattle.smbios_install.proofs.Found.{find-own, find-other}
use Rattle.smbios_install.proofs.Bytes.{length-put_same}

-- names that are tested to differ do
pub names_differ : (a b : List ℕ) → bytes_eq a b ≡ false → a ≢ b
names_differ a b other same = true≢false (sym (ap (bytes_eq a) (sym same) ∙ text_itself a) ∙ other)

-- what is known of a file
abbrev pub info : File → FileInfo
info file = record { name = file.name; size = length file.bytes; writable = file.writable }

abbrev pub info_in : List File → List ℕ → Option FileInfo
info_in files name = option_map info (file_of files name)

pub record AreAlike (files others : List File) : Type 0 where
  pub infos : (name : List ℕ) → name ≢ loader_name → info_in files name ≡ info_in others name
  pub bytes : (name : List ℕ) → name ≢ loader_name → name ≢ anchor_name → bytes_of files name ≡ bytes_of others name

-- what the causes of a refusal know of a file
pub info_found : (files : List File) (name : List ℕ) → info_of (infos_of files) name ≡ info_in files name
info_found files name = find-map info (λ (i : FileInfo). bytes_eq i.name name) files

-- where it stands
abbrev place_in : List Placed → List ℕ → Option ℕ
place_in placed name = option_map (λ (p : Placed). p.place) (placed_of placed name)

place_known : (placed : List Placed) (files : List File) (name : List ℕ)
    → placed_at (infos_of files) (places_of placed files) name
    ≡ option_map_or (λ (i : FileInfo). place_in placed name) (info_of (infos_of files) name) None
place_known placed [] name = refl
place_known placed (first ∷ files) name =
    let known : Option FileInfo → Option ℕ = λ o. option_map_or (λ (i : FileInfo). place_in placed name) o None in
    elim (cases_Bool (bytes_eq first.name name)) as (λ _. placed_at (infos_of (first ∷ files)) (places_of placed (first ∷ files)) name
    ≡ known (info_of (infos_of (first ∷ files)) name)) [
      | inl same ↦
          cond-true _ _ _ same ∙ ap (place_in placed) (same_text first.name name same)
          ∙ sym (ap known (cond-true (bytes_eq first.name name) (Some (info first)) (info_of (infos_of files) name) same))
      | inr other ↦
          cond-false _ _ _ other ∙ place_known placed files name
          ∙ sym (ap known (cond-false (bytes_eq first.name name) (Some (info first)) (info_of (infos_of files) name) other))
    ]

-- What a command sees of a file that is alike is the same.
pub record IsSame (placed : List Placed) (files others : List File) (name : List ℕ) : Type 0 where
  pub known : info_of (infos_of files) name ≡ info_of (infos_of others) name
  pub place : placed_at (infos_of files) (places_of placed files) name ≡ placed_at (infos_of others) (places_of placed others) name

pub same_of : (placed : List Placed) (files others : List File) (name : List ℕ) → AreAlike files others → name ≢ loader_name
    → IsSame placed files others name
same_of placed files others name alike differ =
    let known : info_of (infos_of files) name ≡ info_of (infos_of others) name =
    info_found files name ∙ alike.infos name differ ∙ sym (info_found others name) in
    record {
      known = known;
      place = place_known placed files name ∙ ap (λ o. option_map_or (λ (i : FileInfo). place_in placed name) o None) known
          ∙ sym (place_known placed others name);
    }

-- ---- a file is written

-- a file with other bytes
abbrev with_bytes : List ℕ → File → File
with_bytes bytes file = record file { bytes = bytes }

info_with : (bytes : List ℕ) (found : Option File)
    → option_map info (option_map (with_bytes bytes) found) ≡ option_map (λ (i : FileInfo). record i { size = length bytes }) (option_map info found)
info_with bytes None = refl
info_with bytes (Some file) = refl

bytes_with : (bytes : List ℕ) (found : Option File) → option_map_or (λ (f : File). f.bytes) (option_map (with_bytes bytes) found) []
    ≡ option_map_or (λ (i : FileInfo). bytes) (option_map info found) []
bytes_with bytes None = refl
bytes_with bytes (Some file) = refl

size_in : (found : Option File) → length (option_map_or (λ (f : File). f.bytes) found [])
    ≡ option_map_or (λ (i : FileInfo). i.size) (option_map info found) 0
size_in None = refl
size_in (Some file) = refl

pub same_size : (files others : List File) (name : List ℕ) → info_in files name ≡ info_in others name
    → length (bytes_of files name) ≡ length (bytes_of others name)
same_size files others name same =
    size_in (file_of files name) ∙ ap (λ o. option_map_or (λ (i : FileInfo). i.size) o 0) same ∙ sym (size_in (file_of others name))

-- the one that is written, and another
own_file : (files : List File) (dest bytes : List ℕ) → file_of (files_with files dest bytes) dest ≡ option_map (with_bytes bytes) (file_of files dest)
own_file files dest bytes = find-own (λ (f : File). f.name) (with_bytes bytes) (λ f. refl) dest files

other_file : (files : List File) (dest bytes name : List ℕ) → dest ≢ name → file_of (files_with files dest bytes) name ≡ file_of files name
other_file files dest bytes name differ = find-other (λ (f : File). f.name) (with_bytes bytes) (λ f. refl) dest name differ files

-- Files that are alike are so once the same bytes are put into those of a name.
module _ (files others : List File) (dest : List ℕ) (at : ℕ) (piece : List ℕ) (alike : AreAlike files others) (no_script : dest ≢ loader_name) where
  sizes : length (put_at (bytes_of files dest) at piece) ≡ length (put_at (bytes_of others dest) at piece)
  sizes = length-put_same (bytes_of files dest) (bytes_of others dest) at piece (same_size files others dest (alike.infos dest no_script))

  -- what is known of the one of this name, and its bytes
  own_info : info_in (files_with files dest (put_at (bytes_of files dest) at piece)) dest
      ≡ info_in (files_with others dest (put_at (bytes_of others dest) at piece)) dest
  own_info =
      let now = put_at (bytes_of files dest) at piece in
      let now_other = put_at (bytes_of others dest) at piece in
      ap (option_map info) (own_file files dest now) ∙ info_with now (file_of files dest)
      ∙ ap₂ (λ (n : ℕ) (o : Option FileInfo). option_map (λ (i : FileInfo). record i { size = n }) o) sizes (alike.infos dest no_script)
      ∙ sym (ap (option_map info) (own_file others dest now_other) ∙ info_with now_other (file_of others dest))

  own_bytes : dest ≢ anchor_name → bytes_of (files_with files dest (put_at (bytes_of files dest) at piece)) dest
      ≡ bytes_of (files_with others dest (put_at (bytes_of others dest) at piece)) dest
  own_bytes no_anchor =
      let now = put_at (bytes_of files dest) at piece in
      let now_other = put_at (bytes_of others dest) at piece in
      let bytes_in : Option File → List ℕ = λ o. option_map_or (λ (f : File). f.bytes) o [] in
      ap bytes_in (own_file files dest now) ∙ bytes_with now (file_of files dest)
      ∙ ap₂ (λ (bs : List ℕ) (o : Option FileInfo). option_map_or (λ (i : FileInfo). bs) o [])
      (ap (λ bs. put_at bs at piece) (alike.bytes dest no_script no_anchor)) (alike.infos dest no_script)
      ∙ sym (ap bytes_in (own_file others dest now_other) ∙ bytes_with now_other (file_of others dest))

  pub alike_written : AreAlike (files_with files dest (put_at (bytes_of files dest) at piece))
      (files_with others dest (put_at (bytes_of others dest) at piece))
  alike_written =
      let after = files_with files dest (put_at (bytes_of files dest) at piece) in
      let others_after = files_with others dest (put_at (bytes_of others dest) at piece) in
      let bytes_in : Option File → List ℕ = λ o. option_map_or (λ (f : File). f.bytes) o [] in
      record {
        infos = λ name differ. elim (cases_Bool (bytes_eq dest name)) as (λ _. info_in after name ≡ info_in others_after name) [
          | inl same ↦ subst (λ n. info_in after n ≡ info_in others_after n) (same_text dest name same) own_info
          | inr other ↦
              let apart : dest ≢ name = names_differ dest name other in
              ap (option_map info) (other_file files dest _ name apart) ∙ alike.infos name differ
              ∙ sym (ap (option_map info) (other_file others dest _ name apart))
        ];
        bytes = λ name differ no_anchor. elim (cases_Bool (bytes_eq dest name)) as (λ _. bytes_of after name ≡ bytes_of others_after name) [
          | inl same ↦
              let is : dest ≡ name = same_text dest name same in
              subst (λ n. bytes_of after n ≡ bytes_of others_after n) is (own_bytes (λ own. no_anchor (sym is ∙ own)))
          | inr other ↦
              let apart : dest ≢ name = names_differ dest name other in
              ap bytes_in (other_file files dest _ name apart) ∙ alike.bytes name differ no_anchor ∙ sym (ap bytes_in (other_file others dest _ name apart))
        ];
      }
