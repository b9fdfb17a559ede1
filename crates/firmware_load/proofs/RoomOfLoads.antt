-- How much room a load of items needs: for its transfers, and for the commands of its script.
use Rattle.std.proofs.Common.{◌≡◌, ℕ, zero, suc, ◌+◌, ◌*◌, ◌/◌, ◌%◌, ◌≤◌, min, nat_le, inl, inr, List, [], ◌∷◌, length, drop}
use Rattle.std.proofs.Common.{Option, Some, None, IfOk, Result, arith, refl, sym, ap, subst, ◌∙◌}
use Rattle.std.specs.Bool.{◌==◌}
use Rattle.std.specs.Option.{option_map_or}
use Rattle.std.specs.Str.{bytes_eq}
use Rattle.std.proofs.lemmas.Bool.{cases_Bool, cond-true, cond-false, and_parts, leb-true}
use Rattle.std.proofs.lemmas.List.Sums.{sum_by-cons}
use Rattle.std.proofs.lemmas.Option.{same_Some, none-some}
use Rattle.cfg_directory.specs.declared.item.Item.{Item}
use Rattle.cfg_directory.specs.Items.{IsItems, named, total_size}
use Rattle.loader_script.specs.LoaderName.{loader_name}
use Rattle.loader_script.specs.declared.entry.Entry.{Entry}
use Rattle.loader_script.specs.Spelling.{entries_of, is_script_length}
use Rattle.command_acts.specs.declared.fault.LoadFault.{LoadFault}
use Rattle.command_acts.specs.Script.{script_of, script_from, script_in}
use Rattle.load_states.specs.Moves.{all_reads, script_size, most_commands, most_transfers, pieces_of}
use Rattle.load_states.proofs.Counting.{length-first_reads}

-- No item has more bytes than all of them.
pub named_small : (items : List Item) (name : List ℕ) (item : Item) → named items name ≡ Some item → length item.bytes ≤ total_size items
named_small [] name item there = absurd (none-some item there)
named_small (first ∷ items) name item there =
    let all : total_size (first ∷ items) ≡ length first.bytes + total_size items = sum_by-cons (λ (x : Item). length x.bytes) first items in
    elim (cases_Bool (bytes_eq first.name name)) as (λ _. length item.bytes ≤ total_size (first ∷ items)) [
      | inl same ↦ omega (arith, all, ap (λ (i : Item). length i.bytes) (same_Some _ item (sym (cond-true _ _ _ same) ∙ there)))
      | inr other ↦ omega (arith, all, named_small items name item (sym (cond-false _ _ _ other) ∙ there))
    ]

-- The script's file has few bytes.
pub loader_small : (items : List Item) (item : Item) → IsItems items → named items loader_name ≡ Some item → length item.bytes ≤ 67108864
loader_small items item lawful is = omega (arith, named_small items loader_name item is, lawful.small)

-- the reads of a script are as many as its pieces
script_reads_are : (found : Option Item)
    → length (option_map_or (λ (item : Item). all_reads item.select 0 (length item.bytes)) found [])
    ≡ pieces_of (option_map_or (λ (item : Item). length item.bytes) found 0)
script_reads_are None = refl
script_reads_are (Some item) = length-first_reads item.select 0 (length item.bytes) (pieces_of (length item.bytes))

-- The most transfers of a load, counted: one for the number of files, those of the entries and of the script, and two for each command.
pub transfers_are : (items : List Item)
    → most_transfers items ≡ 1 + pieces_of (64 * length items) + pieces_of (script_size items) + 2 * most_commands items
transfers_are items =
    omega (
      arith,
      length-first_reads 0x19 4 (64 * length items) (pieces_of (64 * length items)),
      script_reads_are (named items loader_name),
    )

-- so many commands are so many
length-entries : (count : ℕ) (bytes : List ℕ) → length (entries_of count bytes) ≡ count
length-entries zero bytes = refl
length-entries (suc count) bytes = ap suc (length-entries count (drop 128 bytes))

-- a number is no less than the commands of a script, where there is one
abbrev IsRoomFor : ℕ → Result (List Entry) LoadFault → Type 0
IsRoomFor most script = IfOk script (λ entries. length entries ≤ most)

-- as many as its bytes hold, and no more than the longest script has
bytes_room : (bytes : List ℕ) → IsRoomFor (min (length bytes) 1048576 / 128) (script_of bytes)
bytes_room bytes =
    let most = min (length bytes) 1048576 / 128 in
    elim (cases_Bool (is_script_length (length bytes))) as (λ _. IsRoomFor most (script_of bytes)) [
      | inl lawful ↦
          let few : length bytes ≤ 1048576 =
          leb-true (length bytes) 1048576 (and_parts (length bytes % 128 == 0) (nat_le (length bytes) 1048576) lawful).1 in
          let count : length (entries_of (length bytes / 128) bytes) ≤ most = omega (arith, few, length-entries (length bytes / 128) bytes) in
          subst (IsRoomFor most) (sym (cond-true _ _ _ lawful)) count
      | inr other ↦ subst (IsRoomFor most) (sym (cond-false _ _ _ other)) tt
    ]

-- where there is a file of the script
found_room : (found : Option Item) → IsRoomFor (min (option_map_or (λ (item : Item). length item.bytes) found 0) 1048576 / 128) (script_from found)
found_room None = tt
found_room (Some item) = bytes_room item.bytes

-- No script of the items has more commands than its bytes hold.
pub script_room : (items : List Item) (most : ℕ) → most ≡ most_commands items
    → IfOk (script_in items) (λ (script : List Entry). length script ≤ most)
script_room items most is = subst (λ (most : ℕ). IsRoomFor most (script_in items)) (sym is) (found_room (named items loader_name))
