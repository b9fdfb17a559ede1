-- Scripts, entry by entry.
use Rattle.std.proofs.Common.{◌≡◌, ℕ, zero, suc, ◌*◌, List, [], ◌∷◌, ◌++◌, length, take, drop, map, arith, refl, ap, ap₂, ◌∙◌, length-append}
use Rattle.std.specs.List.{flat_map, AllByRecursion}
use Rattle.std.specs.Simd.{first_chunks}
use Rattle.std.proofs.lemmas.List.{take_at, drop_at}
use Rattle.std.proofs.lemmas.List.Concat.{flat_map-cons}
use Rattle.loader_script.specs.declared.entry.Entry.{Entry}
use Rattle.loader_script.specs.Spelling.{entry_of, entries_of, entry_bytes, Fits, CanBeWritten}
use Rattle.loader_script.proofs.ReadAgain.{entry-again, length-entry_bytes}

-- the entries of a script are those of its parts of 128 bytes
pub entries_of-chunks : (count : ℕ) (bytes : List ℕ) → map entry_of (first_chunks 128 count bytes) ≡ entries_of count bytes
entries_of-chunks zero bytes = refl
entries_of-chunks (suc count) bytes = ap (λ entries. entry_of (take 128 bytes) ∷ entries) (entries_of-chunks count (drop 128 bytes))

-- a script is written as 128 bytes for each entry
pub length-script : (script : List Entry) → AllByRecursion Fits script → length (flat_map entry_bytes script) ≡ 128 * length script
length-script [] fits = refl
length-script (entry ∷ script) fits =
    let parts : length (flat_map entry_bytes (entry ∷ script)) ≡ length (entry_bytes entry ++ flat_map entry_bytes script) =
    ap length (flat_map-cons entry_bytes entry script) in
    omega (arith, length-append (entry_bytes entry) (flat_map entry_bytes script), length-entry_bytes entry fits.0, length-script script fits.1)

-- and read again
pub script-again : (script : List Entry) → AllByRecursion Fits script → AllByRecursion CanBeWritten script
    → entries_of (length script) (flat_map entry_bytes script) ≡ script
script-again [] fits can = refl
script-again (entry ∷ script) fits can =
    let rest = flat_map entry_bytes script in
    let long : length (entry_bytes entry) ≡ 128 = length-entry_bytes entry fits.0 in
    let first : entry_of (take 128 (entry_bytes entry ++ rest)) ≡ entry = ap entry_of (take_at (entry_bytes entry) rest 128 long)
    ∙ entry-again entry fits.0 can.0 in
    let others : entries_of (length script) (drop 128 (entry_bytes entry ++ rest)) ≡ script =
    ap (entries_of (length script)) (drop_at (entry_bytes entry) rest 128 long) ∙ script-again script fits.1 can.1 in
    ap (entries_of (suc (length script))) (flat_map-cons entry_bytes entry script) ∙ ap₂ (λ (e : Entry) (es : List Entry). e ∷ es) first others
