-- A script that was decoded isn't too long.
use Rattle.std.proofs.Common.{◌≡◌, ℕ, zero, suc, ◌/◌, ◌%◌, ◌≤◌, nat_le, Bool, true, false, List, length, drop, Option, Some, None, Result, Ok, Err}
use Rattle.std.proofs.Common.{arith, refl, ap, sym, ◌∙◌}
use Rattle.std.specs.Bool.{◌==◌}
use Rattle.std.proofs.lemmas.Bool.{cond-true, cond-false, and_parts, leb-true}
use Rattle.cfg_directory.specs.declared.item.Item.{Item}
use Rattle.cfg_directory.specs.Items.{named}
use Rattle.loader_script.specs.LoaderName.{loader_name}
use Rattle.loader_script.specs.declared.entry.Entry.{Entry}
use Rattle.loader_script.specs.Spelling.{entries_of, is_script_length}
use Rattle.command_acts.specs.declared.fault.LoadFault.{LoadFault}
use Rattle.command_acts.specs.Script.{script_of, script_from, script_in}

pub length-entries : (count : ℕ) (bytes : List ℕ) → length (entries_of count bytes) ≡ count
length-entries zero bytes = refl
length-entries (suc count) bytes = ap suc (length-entries count (drop 128 bytes))

-- two decoded scripts, and a script and a fault
abbrev decoding : List Entry → Result (List Entry) LoadFault
decoding script = Ok script

same_script : (a b : List Entry) → decoding a ≡ decoding b → a ≡ b
same_script a b is = cc

no_script : (why : LoadFault) (script : List Entry) → Err why ≡ decoding script → ⊥
no_script why script is = cc

decoded_so : (bytes : List ℕ) (lawful : Bool) (script : List Entry) → is_script_length (length bytes) ≡ lawful
    → script_of bytes ≡ Ok script → length script ≤ 8192
decoded_so bytes true script is decoded =
    let same : entries_of (length bytes / 128) bytes ≡ script = same_script _ _ (sym (cond-true _ _ _ is) ∙ decoded) in
    let few : length bytes ≤ 1048576 = leb-true (length bytes) 1048576 (and_parts (length bytes % 128 == 0) (nat_le (length bytes) 1048576) is).1 in
    omega (arith, few, ap length (sym same), length-entries (length bytes / 128) bytes)
decoded_so bytes false script is decoded = absurd (no_script _ script (sym (cond-false _ _ _ is) ∙ decoded))

decoded_from : (found : Option Item) (script : List Entry) → script_from found ≡ Ok script → length script ≤ 8192
decoded_from None script is = absurd (no_script _ script is)
decoded_from (Some item) script is = decoded_so item.bytes (is_script_length (length item.bytes)) script refl is

pub script_short : (items : List Item) (script : List Entry) → script_in items ≡ Ok script → length script ≤ 8192
script_short items script is = decoded_from (named items loader_name) script is
