-- The lists of a machine's devices that are there or not, and what holds of each device in such a list.
use Rattle.std.proofs.Common.{Bool, true, false, List, Option, Some, None, option_map}
use Rattle.std.specs.Prelude.{option_to_list}
use Rattle.std.specs.List.{AllByRecursion}
use Rattle.aml_terms.specs.declared.term.Term.{Term}
use Rattle.machine_desc.specs.declared.machine.Machine.{Machine}
use Rattle.dsdt_terms.specs.Bridge.{bridge_device}
use Rattle.dsdt_terms.specs.Devices.{clock_device, keyboard_device, timer_device}
use Rattle.dsdt_terms.specs.Dsdt.{if_there, has_clock, has_keyboard}

-- a device that is there or isn't
pub if_each : (P : Term → Type 0) (there : Bool) (t : Term) → P t → AllByRecursion P (if_there there t)
if_each P true t p = (p, tt)
if_each P false t p = tt

pub option_each : {A : Type 0} (P : Term → Type 0) (f : A → Term) → ((a : A) → P (f a)) → (part : Option A)
    → AllByRecursion P (option_to_list (option_map f part))
option_each P f p None = tt
option_each P f p (Some a) = (p a, tt)

-- the lists of a machine's devices, in order
abbrev pub bridge_list : Machine → List Term
bridge_list m = option_to_list (option_map bridge_device m.bridge)

abbrev pub clock_list : Machine → List Term
clock_list m = if_there (has_clock m.power) clock_device

abbrev pub keyboard_list : Machine → List Term
keyboard_list m = if_there (has_keyboard m.power) keyboard_device

abbrev pub timer_list : Machine → List Term
timer_list m = option_to_list (option_map timer_device m.hpet)
