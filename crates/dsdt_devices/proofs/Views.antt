-- What is told of terms as they are seen.
use Rattle.std.proofs.Common.{◌≡◌, ℕ, true, List, [], ◌∷◌, cond, map, Some, None, refl, ap, ◌∙◌}
use Rattle.std.proofs.lemmas.Bool.{cond-true}
use Rattle.aml_terms.specs.declared.term.Path.{Path}
use Rattle.aml_terms.specs.declared.term.Term.{Term}
use Rattle.aml_terms.specs.declared.term.Term.TheVariants as t
use Rattle.aml_terms.specs.Trees.{view, views}
use Rattle.aml_terms.specs.OneSegment.{is_system_bus, is_beside}
use Rattle.dsdt_terms.proofs.Views.{view-package, view-named, view-scope, view-device}
use Rattle.dsdt_devices.specs.BusTerms.{each_of, in_bus, in_device, value_in}
use Rattle.dsdt_devices.specs.Told.{resources_in, rows_of, uart_of, is_uart, uart_in}

-- terms that are seen, one after the other
pub each_of-views : (ts : List Term) → each_of (views ts) ≡ map view ts
each_of-views [] = refl
each_of-views (t ∷ ts) = ap (λ those. view t ∷ those) (each_of-views ts)

-- what stands in a scope, where it is one of the system bus
pub in_bus-scope : (path : Path) (ts : List Term) → in_bus (view (t.Scope path ts)) ≡ cond (is_system_bus path) (map view ts) []
in_bus-scope path ts = ap in_bus (view-scope path ts) ∙ ap (λ those. cond (is_system_bus path) those []) (each_of-views ts)

-- what stands in a device of this name
pub in_device-device : (name : List ℕ) (path : Path) (ts : List Term)
    → in_device name (view (t.Device path ts)) ≡ cond (is_beside name path) (Some (map view ts)) None
in_device-device name path ts =
    ap (in_device name) (view-device path ts) ∙ ap (λ those. cond (is_beside name path) (Some those) None) (each_of-views ts)

-- the value of this name
pub value_in-name : (name : List ℕ) (path : Path) (value : Term)
    → value_in name (view (t.Named path value)) ≡ cond (is_beside name path) (Some (view value)) None
value_in-name name path value = ap (value_in name) (view-named path value)

-- what a package holds
pub rows_of-package : (values : List Term) → rows_of (Some (view (t.Package values))) ≡ map view values
rows_of-package values = ap (λ seen. rows_of (Some seen)) (view-package values) ∙ each_of-views values

-- a device that may be a serial port
pub uart_in-device : (path : Path) (ts : List Term)
    → uart_in (view (t.Device path ts)) ≡ cond (is_uart path) (Some (uart_of (resources_in (map view ts)))) None
uart_in-device path ts =
    ap uart_in (view-device path ts) ∙ ap (λ those. cond (is_uart path) (Some (uart_of (resources_in those))) None) (each_of-views ts)

-- a term that is a scope of the system bus
pub bus_seen : (term : Term) (path : Path) (ts : List Term) → term ≡ t.Scope path ts → is_system_bus path ≡ true → in_bus (view term) ≡ map view ts
bus_seen term path ts is bus =
    ap (λ one. in_bus (view one)) is ∙ in_bus-scope path ts ∙ cond-true (is_system_bus path) (map view ts) [] bus

-- a device of this name
pub device_seen : (name : List ℕ) (term : Term) (path : Path) (ts : List Term) → term ≡ t.Device path ts → is_beside name path ≡ true
    → in_device name (view term) ≡ Some (map view ts)
device_seen name term path ts is beside =
    ap (λ one. in_device name (view one)) is ∙ in_device-device name path ts ∙ cond-true (is_beside name path) (Some (map view ts)) None beside

-- the device of a serial port
pub uart_seen : (term : Term) (path : Path) (ts : List Term) → term ≡ t.Device path ts → is_uart path ≡ true
    → uart_in (view term) ≡ Some (uart_of (resources_in (map view ts)))
uart_seen term path ts is serial =
    ap (λ one. uart_in (view one)) is ∙ uart_in-device path ts ∙ cond-true (is_uart path) (Some (uart_of (resources_in (map view ts)))) None serial
