use Rattle.std.proofs.Common.{◌≡◌, arith, sym, ap, ◌∙◌}
use Rattle.cfg_directory.specs.Items.{total_size}
use Rattle.smbios_install.proofs.Refusals.{script_full, too_many, large, small}
use Rattle.smbios_install.proofs.checking.check_limits.Goals as goal

pub returns-then-script_bytes-added-clause-err : goal.returns-then-script_bytes-added-clause-err
returns-then-script_bytes-added-clause-err c =
    let few = c.added_size-added.ensures.few in
    let over = c.if-script_bytes-added.true in
    script_full c.args.items.now c.args.form c.script_bytes.result.now c.added_size-added.result
    (record { formed = c.requires.form; script_is = c.script_bytes.ensures; added_is = c.added_size-added.ensures.size })
    (omega (arith, few, over))

pub returns-then-has_no_room-clause-err : goal.returns-then-has_no_room-clause-err
returns-then-has_no_room-clause-err c =
    let few = c.added_size-added.ensures.few in
    let fits = c.if-script_bytes-added.false in
    too_many c.args.items.now c.args.form c.script_bytes.result.now c.added_size-added.result
    (record { formed = c.requires.form; script_is = c.script_bytes.ensures; added_is = c.added_size-added.ensures.size })
    (omega (arith, few, fits)) (sym c.has_no_room.ensures ∙ c.if-has_no_room.true)

pub returns-then-total_size-added-clause-err : goal.returns-then-total_size-added-clause-err
returns-then-total_size-added-clause-err c =
    let few = c.added_size-added.ensures.few in
    let fits = c.if-script_bytes-added.false in
    let all : c.total_size.result ≡ total_size c.args.items.now = c.total_size.ensures ∙ ap total_size c.all.ensures.items in
    let over = c.if-total_size-added.true in
    large c.args.items.now c.args.form c.script_bytes.result.now c.added_size-added.result
    (record { formed = c.requires.form; script_is = c.script_bytes.ensures; added_is = c.added_size-added.ensures.size })
    (omega (arith, few, fits)) (sym c.has_no_room.ensures ∙ c.if-has_no_room.false) (omega (arith, few, all, over))

pub returns-clause-ok : goal.returns-clause-ok
returns-clause-ok c =
    let few = c.added_size-added.ensures.few in
    let fits = c.if-script_bytes-added.false in
    let all : c.total_size.result ≡ total_size c.args.items.now = c.total_size.ensures ∙ ap total_size c.all.ensures.items in
    let within = c.if-total_size-added.false in
    small c.args.items.now c.args.form c.script_bytes.result.now c.added_size-added.result
    (record { formed = c.requires.form; script_is = c.script_bytes.ensures; added_is = c.added_size-added.ensures.size })
    (omega (arith, few, fits)) (sym c.has_no_room.ensures ∙ c.if-has_no_room.false) (omega (arith, few, all, within))
