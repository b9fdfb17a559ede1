use Rattle.std.proofs.Common.{◌≡◌, ◌+◌, ◌<◌, ◌≤◌, List, ℕ, length, None, ap₂, sym, subst, ◌∙◌}
use Rattle.cfg_directory.specs.declared.item.Item.{Item}
use Rattle.cfg_directory.specs.Items.{IsItems, named, total_size, file_limit, bytes_limit}
use Rattle.loader_script.specs.LoaderName.{loader_name}
use Rattle.smbios_install.specs.Installed.{installed_as, with_blank_pointer, with_commands}
use Rattle.smbios_install.proofs.Blanked.{HasRoom, has_room}
use Rattle.smbios_install.proofs.installing.install_as.Goals as goal

pub blank_pointer-requires-clause-lawful : goal.blank_pointer-requires-clause-lawful
blank_pointer-requires-clause-lawful c = subst IsItems c.items.view_is c.items.invariant

pub add_commands-requires-clause-some : goal.add_commands-requires-clause-some
add_commands-requires-clause-some c =
    let room : HasRoom c.args.items c.args.form =
    has_room c.args.items c.args.form (subst IsItems c.items.view_is c.items.invariant) c.requires.sound c.requires.form in
    subst (λ (now : List Item). 0 < length now) (sym c.blank_pointer.ensures) room.some

pub add_commands-requires-clause-few : goal.add_commands-requires-clause-few
add_commands-requires-clause-few c =
    let room : HasRoom c.args.items c.args.form =
    has_room c.args.items c.args.form (subst IsItems c.items.view_is c.items.invariant) c.requires.sound c.requires.form in
    subst (λ (now : List Item). named now loader_name ≡ None → length now < file_limit) (sym c.blank_pointer.ensures) room.few

pub add_commands-requires-clause-small : goal.add_commands-requires-clause-small
add_commands-requires-clause-small c =
    let room : HasRoom c.args.items c.args.form =
    has_room c.args.items c.args.form (subst IsItems c.items.view_is c.items.invariant) c.requires.sound c.requires.form in
    subst (λ (now : List Item). total_size now + length c.in_ok-commands.commands ≤ bytes_limit) (sym c.blank_pointer.ensures)
    (subst (λ (bytes : List ℕ). total_size (with_blank_pointer c.args.form c.args.items) + length bytes ≤ bytes_limit) (sym c.in_ok-commands.ensures)
    room.small)

pub returns : goal.returns
unfolding installed_as
returns c =
    c.in_ok-add_commands.ensures ∙ ap₂ with_commands c.in_ok-commands.ensures c.blank_pointer.ensures
