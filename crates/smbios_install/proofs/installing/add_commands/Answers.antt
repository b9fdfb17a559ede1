use Rattle.std.proofs.Common.{◌≡◌, ◌≢◌, ℕ, Option, Some, None, option_map, is_some, refl, ap, sym, subst, ◌∙◌}
use Rattle.std.specs.Str.{bytes_eq}
use Rattle.std.proofs.lemmas.Option.{none-some, same_Some}
use Rattle.cfg_directory.specs.declared.item.Item.{Item}
use Rattle.cfg_directory.specs.Items.{HasNoName, HasNoSelect, IsFileSelect, named, selected}
use Rattle.loader_script.specs.LoaderName.{loader_name}
use Rattle.loader_script.proofs.Named.{none_passes}
use Rattle.smbios_install.specs.Selectors.{next_select}
use Rattle.smbios_install.proofs.BySelector.{selected_there}
use Rattle.smbios_install.proofs.NextSelector.{next_is_new}
use Rattle.smbios_install.proofs.installing.add_commands.Goals as goal

-- the item whose selector it is
item_of : (found : Option Item) (select : ℕ) → option_map (λ (item : Item). item.select) found ≡ Some select
    → (item : Item) × (found ≡ Some item) × (item.select ≡ select)
item_of None select is = absurd (none-some select is)
item_of (Some item) select is = (item, refl, same_Some item.select select is)

no_item : (found : Option Item) → option_map (λ (item : Item). item.select) found ≡ None → found ≡ None
no_item None is = refl
no_item (Some item) is = absurd (none-some item.select (sym is))

pub extend-requires-clause-there : goal.extend-requires-clause-there
extend-requires-clause-there c =
    let script = item_of (named c.args.items.now loader_name) c.in-Some.select (sym c.script_select.ensures ∙ c.in-Some.is) in
    subst (λ select. selected c.args.items.now select ≢ None) script.2 (selected_there c.args.items.now loader_name script.0 script.1)

pub add_at-requires-clause-name : goal.add_at-requires-clause-name
add_at-requires-clause-name c =
    let none = no_item (named c.args.items.now loader_name) (sym c.script_select.ensures ∙ c.in-None.is) in
    subst (HasNoName c.args.items.now) (sym c.loader_name.ensures)
    (none_passes (λ (item : Item). bytes_eq item.name loader_name) c.args.items.now (ap is_some none))

pub add_at-requires-clause-select : goal.add_at-requires-clause-select
add_at-requires-clause-select c =
    let select : c.next_select-select.result ≡ next_select c.args.items.now = c.next_select-select.ensures ∙ ap next_select c.all.ensures.items in
    let new = next_is_new c.args.items.now c.requires.some c.all.ensures.kept in
    subst (λ s. IsFileSelect s × HasNoSelect c.args.items.now s) (sym select) (new.of_file, new.free)
