use Rattle.std.proofs.Common.{rules, tests, sym, ◌∙◌}
use Rattle.loader_script.proofs.ReadAgain.{command_read, entry_of-allocate, entry_of-add_pointer, entry_of-add_checksum, entry_of-write_pointer}
use Rattle.loader_script.proofs.ReadAgain.{entry_of-skipped}
use Rattle.loader_script.proofs.reading.decode_entry.Goals as goal

pub returns-in-1 : goal.returns-in-1
returns-in-1 c =
    c.allocate.ensures ∙ sym (entry_of-allocate c.args.bytes.now (command_read c.args.bytes.now _ _ c.command_rows.ensures.rows c.read_u32.ensures ∙ c.in-1.is))

pub returns-in-2 : goal.returns-in-2
returns-in-2 c =
    c.add_pointer.ensures
    ∙ sym (entry_of-add_pointer c.args.bytes.now (command_read c.args.bytes.now _ _ c.command_rows.ensures.rows c.read_u32.ensures ∙ c.in-2.is))

pub returns-in-3 : goal.returns-in-3
returns-in-3 c =
    c.add_checksum.ensures
    ∙ sym (entry_of-add_checksum c.args.bytes.now (command_read c.args.bytes.now _ _ c.command_rows.ensures.rows c.read_u32.ensures ∙ c.in-3.is))

pub returns-in-4 : goal.returns-in-4
returns-in-4 c =
    c.write_pointer.ensures
    ∙ sym (entry_of-write_pointer c.args.bytes.now (command_read c.args.bytes.now _ _ c.command_rows.ensures.rows c.read_u32.ensures ∙ c.in-4.is))

pub returns-in_default : goal.returns-in_default
returns-in_default c =
    let command = command_read c.args.bytes.now _ _ c.command_rows.ensures.rows c.read_u32.ensures in
    sym (entry_of-skipped c.args.bytes.now c.read_u32.result command (search (tests, rules)) (search (tests, rules)) (search (tests, rules))
    (search (tests, rules)))
