use Rattle.std.proofs.Common.{◌≤◌, ◌++◌, length, option_map, ap, ap₂, subst, sym, ◌∙◌}
use Rattle.std.specs.Prelude.{option_to_list}
use Rattle.std.specs.List.{list_all}
use Rattle.machine_desc.specs.Rules.{is_lawful_uart}
use Rattle.dsdt_terms.specs.Bridge.{bridge_device}
use Rattle.dsdt_terms.specs.Devices.{clock_device, keyboard_device, timer_device}
use Rattle.dsdt_terms.specs.Dsdt.{if_there, has_clock, has_keyboard, uart_devices, cpu_devices}
use Rattle.dsdt_terms.proofs.AcceptedDevices.{few_devices, lawful_uarts, lawful_windows}
use Rattle.dsdt_terms.proofs.dsdt.placeless_devices.Goals as goal

pub push_bridge-requires : goal.push_bridge-requires
push_bridge-requires c = lawful_windows c.args.machine.now c.requires

pub push_uarts-requires-clause-few : goal.push_uarts-requires-clause-few
push_uarts-requires-clause-few c =
    subst (λ uarts. length uarts ≤ 4) (sym c.as_slice.ensures) (few_devices c.args.machine.now c.requires).uarts

pub push_uarts-requires-clause-lawful : goal.push_uarts-requires-clause-lawful
push_uarts-requires-clause-lawful c = ap (list_all is_lawful_uart) c.as_slice.ensures ∙ lawful_uarts c.args.machine.now c.requires

pub push_cpus-requires : goal.push_cpus-requires
push_cpus-requires c = subst (λ cpus. length cpus ≤ 4096) (sym c.as_slice-2.ensures) (few_devices c.args.machine.now c.requires).cpus

pub returns : goal.returns
returns c =
    let m = c.args.machine.now in
    let bridge = c.in_ok-push_bridge.ensures ∙ ap (λ those. those ++ option_to_list (option_map bridge_device m.bridge)) c.new-devices.ensures in
    let uarts = c.in_ok-push_uarts.ensures ∙ ap₂ (λ those those_uarts. those ++ uart_devices those_uarts) bridge c.as_slice.ensures in
    let clock = c.in_ok-push_clock.ensures ∙ ap (λ those. those ++ if_there (has_clock m.power) clock_device) uarts in
    let keyboard = c.in_ok-push_keyboard.ensures ∙ ap (λ those. those ++ if_there (has_keyboard m.power) keyboard_device) clock in
    let timer = c.in_ok-push_timer.ensures ∙ ap (λ those. those ++ option_to_list (option_map timer_device m.hpet)) keyboard in
    c.in_ok-push_cpus.ensures ∙ ap₂ (λ those cpus. those ++ cpu_devices cpus) timer c.as_slice-2.ensures
