-- An entry is read again as it was written.
use Rattle.std.proofs.Common.{◌≡◌, ◌≢◌, ◌<◌, ℕ, inl, inr, false, List, eqb, length, refl, ap, ap₂, arith, sym, ◌∙◌}
use Rattle.std.proofs.lemmas.Bool.{ne_eqb}
use Rattle.std.specs.List.{AllByRecursion}
use Rattle.vt_bytes.specs.View.{view_of}
use Rattle.vt_layout.specs.declared.row.Row.{Row}
use Rattle.vt_layout.specs.Rows.{size}
use Rattle.vt_layout.specs.Shown.{LayoutShown}
use Rattle.vt_layout.specs.Rows.{IsPlain}
use Rattle.vt_layout.specs.Reading.{read_number}
use Rattle.vt_layout.proofs.Sizes.{length-spelled}
use Rattle.vt_layout.proofs.InBytes.{number_read, name_read}
use Rattle.vt_layout.proofs.Spelled.{spelled_shown}
use Rattle.loader_script.specs.declared.entry.Entry.{Entry}
use Rattle.loader_script.specs.declared.entry.Entry.TheVariants.{Allocate, AddPointer, AddChecksum, WritePointer, Misnamed, Skipped}
use Rattle.loader_script.specs.Spelling.{command_rows, rows_of, entry_bytes, with_name, allocate_of, add_pointer_of, add_checksum_of, entry_of, Fits}
use Rattle.loader_script.specs.Spelling.{write_pointer_of, CanBeWritten}

-- the number of a command
abbrev pub command_in : List ℕ → ℕ
command_in bytes = read_number 0 (command_rows 0) bytes

pub command_read : (bytes : List ℕ) (rows : List Row) (read : ℕ) → rows ≡ command_rows 0 → read ≡ read_number 0 rows bytes → command_in bytes ≡ read
command_read bytes rows read are is = sym (is ∙ ap (λ r. read_number 0 r bytes) are)

-- the entry of each command
pub entry_of-allocate : (bytes : List ℕ) → command_in bytes ≡ 1 → entry_of bytes ≡ allocate_of bytes
unfolding entry_of
entry_of-allocate bytes is = rw is

pub entry_of-add_pointer : (bytes : List ℕ) → command_in bytes ≡ 2 → entry_of bytes ≡ add_pointer_of bytes
unfolding entry_of
entry_of-add_pointer bytes is = rw is

pub entry_of-add_checksum : (bytes : List ℕ) → command_in bytes ≡ 3 → entry_of bytes ≡ add_checksum_of bytes
unfolding entry_of
entry_of-add_checksum bytes is = rw is

pub entry_of-write_pointer : (bytes : List ℕ) → command_in bytes ≡ 4 → entry_of bytes ≡ write_pointer_of bytes
unfolding entry_of
entry_of-write_pointer bytes is = rw is

pub entry_of-skipped : (bytes : List ℕ) (command : ℕ) → command_in bytes ≡ command → eqb command 1 ≡ false → eqb command 2 ≡ false
    → eqb command 3 ≡ false → eqb command 4 ≡ false → entry_of bytes ≡ Skipped command
unfolding entry_of
entry_of-skipped bytes command is one two three four = rw (is, one, two, three, four)

-- no command has a hole, and each has 128 bytes
no_hole : (entry : Entry) → AllByRecursion IsPlain (rows_of entry)
no_hole (Allocate file align zone) = (tt, (tt, (tt, (tt, (tt, tt)))))
no_hole (AddPointer dest src offset size) = (tt, (tt, (tt, (tt, (tt, (tt, tt))))))
no_hole (AddChecksum file offset start count) = (tt, (tt, (tt, (tt, (tt, (tt, tt))))))
no_hole (WritePointer dest src dst_offset src_offset size) = (tt, (tt, (tt, (tt, (tt, (tt, (tt, tt)))))))
no_hole (Misnamed command) = (tt, (tt, tt))
no_hole (Skipped command) = (tt, (tt, tt))

size_is : (entry : Entry) → size (rows_of entry) ≡ 128
size_is (Allocate file align zone) = refl
size_is (AddPointer dest src offset size) = refl
size_is (AddChecksum file offset start count) = refl
size_is (WritePointer dest src dst_offset src_offset size) = refl
size_is (Misnamed command) = refl
size_is (Skipped command) = refl

pub length-entry_bytes : (entry : Entry) → Fits entry → length (entry_bytes entry) ≡ 128
length-entry_bytes entry fits = length-spelled (rows_of entry) fits ∙ size_is entry

shown : (entry : Entry) → Fits entry → LayoutShown (view_of (entry_bytes entry)) 0 (rows_of entry)
shown entry fits = spelled_shown (rows_of entry) fits (no_hole entry)

-- each entry that fits is read again
pub entry-again : (entry : Entry) → Fits entry → CanBeWritten entry → entry_of (entry_bytes entry) ≡ entry
entry-again (Allocate file align zone) fits can =
    let entry = Allocate file align zone in
    let bytes = entry_bytes entry in
    let rows = rows_of entry in
    let are = shown entry fits in
    entry_of-allocate bytes (number_read bytes rows 0 4 are refl)
    ∙ ap (λ name. with_name 1 name (λ file. Allocate file (read_number 2 rows bytes) (read_number 3 rows bytes))) (name_read bytes rows 1 are tt)
    ∙ ap₂ (Allocate file) (number_read bytes rows 2 4 are refl) (number_read bytes rows 3 1 are refl)
entry-again (AddPointer dest src offset size) fits can =
    let entry = AddPointer dest src offset size in
    let bytes = entry_bytes entry in
    let rows = rows_of entry in
    let are = shown entry fits in
    entry_of-add_pointer bytes (number_read bytes rows 0 4 are refl)
    ∙ ap₂ (λ first second. with_name 2 first (λ dest. with_name 2 second (λ src. AddPointer dest src (read_number 3 rows bytes) (read_number 4 rows bytes))))
    (name_read bytes rows 1 are tt) (name_read bytes rows 2 are tt)
    ∙ ap₂ (AddPointer dest src) (number_read bytes rows 3 4 are refl) (number_read bytes rows 4 1 are refl)
entry-again (AddChecksum file offset start count) fits can =
    let entry = AddChecksum file offset start count in
    let bytes = entry_bytes entry in
    let rows = rows_of entry in
    let are = shown entry fits in
    entry_of-add_checksum bytes (number_read bytes rows 0 4 are refl)
    ∙ ap (λ name. with_name 3 name (λ file. AddChecksum file (read_number 2 rows bytes) (read_number 3 rows bytes) (read_number 4 rows bytes)))
    (name_read bytes rows 1 are tt)
    ∙ ap₂ (λ at from. AddChecksum file at from (read_number 4 rows bytes)) (number_read bytes rows 2 4 are refl) (number_read bytes rows 3 4 are refl)
    ∙ ap (AddChecksum file offset start) (number_read bytes rows 4 4 are refl)
entry-again (WritePointer dest src dst_offset src_offset size) fits can =
    let entry = WritePointer dest src dst_offset src_offset size in
    let bytes = entry_bytes entry in
    let rows = rows_of entry in
    let are = shown entry fits in
    let at = read_number 3 rows bytes in
    let from = read_number 4 rows bytes in
    let width = read_number 5 rows bytes in
    entry_of-write_pointer bytes (number_read bytes rows 0 4 are refl)
    ∙ ap₂ (λ first second. with_name 4 first (λ dest. with_name 4 second (λ src. WritePointer dest src at from width)))
    (name_read bytes rows 1 are tt) (name_read bytes rows 2 are tt)
    ∙ ap₂ (λ m n. WritePointer dest src m n width) (number_read bytes rows 3 4 are refl) (number_read bytes rows 4 4 are refl)
    ∙ ap (WritePointer dest src dst_offset src_offset) (number_read bytes rows 5 1 are refl)
entry-again (Misnamed command) fits can = absurd can
entry-again (Skipped command) fits can =
    let bytes = entry_bytes (Skipped command) in
    let is : command_in bytes ≡ command = number_read bytes (command_rows command) 0 4 (shown (Skipped command) fits) refl in
    let other : (n : ℕ) → n ≢ 0 → n < 5 → eqb command n ≡ false =
    λ n some below. elim can as (λ _. eqb command n ≡ false) [
      | inl none ↦ ne_eqb _ _ (λ same. omega arith)
      | inr more ↦ ne_eqb _ _ (λ same. omega arith)
    ] in
    entry_of-skipped bytes command is (other 1 (omega arith) (omega arith)) (other 2 (omega arith) (omega arith)) (other 3 (omega arith) (omega arith))
    (other 4 (omega arith) (omega arith))
