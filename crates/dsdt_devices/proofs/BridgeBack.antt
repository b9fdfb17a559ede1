-- A bridge, but for its configuration space, is told by its device.
use Rattle.std.proofs.Common.{◌≡◌, ℕ, ◌+◌, ◌*◌, ◌/◌, ◌^◌, ◌<◌, ◌≤◌, Bool, true, false, not, ◌&&◌, ◌==◌, nat_le, nat_lt, List, [], ◌∷◌, codes, cond}
use Rattle.std.proofs.Common.{map, Option, Some, None, refl, ap, ap₂, ◌∙◌, arith}
use Rattle.std.specs.List.{cons_option, filter_map, list_all, AllByRecursion}
use Rattle.std.specs.Option.{option_or}
use Rattle.std.specs.Str.{bytes_eq}
use Rattle.std.proofs.lemmas.Bool.{and_parts, cond_both, cond-true, leb-true, lt-ltb}
use Rattle.std.proofs.lemmas.List.{map-append}
use Rattle.aml_terms.specs.declared.term.Term.{Term}
use Rattle.aml_terms.specs.declared.term.Term.TheVariants.{Int, Buffer, Package}
use Rattle.aml_terms.specs.Trees.{view}
use Rattle.machine_desc.specs.declared.device_parts.Bridge.{Bridge}
use Rattle.machine_desc.specs.declared.device_parts.Route.{Route}
use Rattle.machine_desc.specs.declared.device_parts.Window.{Window}
use Rattle.machine_desc.specs.declared.device_parts.WindowKind.{WindowKind}
use Rattle.machine_desc.specs.declared.device_parts.WindowKind.TheVariants.{Io, Mem32, Mem64}
use Rattle.machine_desc.specs.Rules.{ends_within, are_lawful_addresses, is_lawful_window, is_lawful_route}
use Rattle.machine_desc.specs.Fields.{IsFittingRoute, IsFittingBridge, fitted}
use Rattle.resource_items.specs.Templates.{template_of}
use Rattle.dsdt_terms.specs.Names.{name, hardware_id, compatible_id, unique_id, resources, pci_bridge, pci_express_bridge}
use Rattle.dsdt_terms.specs.Bridge.{memory_flags, window_item_of, window_item, bridge_items, route_term, bridge_ids}
use Rattle.dsdt_terms.specs.Dsdt.{without_ecam}
use Rattle.dsdt_terms.proofs.Views.{view-route}
use Rattle.dsdt_terms.proofs.FittingItems.{fit_bridge}
use Rattle.dsdt_devices.specs.BusTerms.{value_in, first_told}
use Rattle.dsdt_devices.specs.Told.{resources_in, last_bus_in, window_in, windows_in, rows_of, route_in, bridge_in}
use Rattle.dsdt_devices.proofs.FirstTold.{first_told-append}
use Rattle.dsdt_devices.proofs.Views.{rows_of-package}
use Rattle.dsdt_devices.proofs.ToldOfMachines.{bridge_values}
use Rattle.dsdt_devices.proofs.NamedValues.{first_value, first_value-name, resources_there}

-- a number that has so few bits is told as it is
fitted_back : (bits n : ℕ) → n < 2 ^ bits → fitted bits n ≡ n
fitted_back bits n small = cond-true (nat_lt n (2 ^ bits)) n 0 (lt-ltb n (2 ^ bits) small)

-- the flags of memory tell whether it may be read ahead
flags_back : (prefetch : Bool) → (memory_flags prefetch == 7) ≡ prefetch
flags_back true = refl
flags_back false = refl

-- what can't be read ahead isn't
not_ahead : (prefetch : Bool) → not prefetch ≡ true → false ≡ prefetch
not_ahead false is = refl
not_ahead true is = absurd (cc)

-- one window is told by its item, of whichever kind it is
window_back_of : (kind : WindowKind) (w : Window) → kind ≡ w.kind → are_lawful_addresses kind w ≡ true → window_in (window_item_of kind w) ≡ Some w
window_back_of Io w is lawful =
    let made : WindowKind → Bool → Option Window = λ kind prefetch. Some (record { kind = kind; base = w.base; size = w.size; prefetch = prefetch }) in
    ap₂ made is (not_ahead w.prefetch (and_parts (ends_within 0x10000 w && nat_le w.size 0xFFFF) (not w.prefetch) lawful).1)
window_back_of Mem32 w is lawful =
    let made : WindowKind → Bool → Option Window = λ kind prefetch. Some (record { kind = kind; base = w.base; size = w.size; prefetch = prefetch }) in
    ap₂ made is (flags_back w.prefetch)
window_back_of Mem64 w is lawful =
    let made : WindowKind → Bool → Option Window = λ kind prefetch. Some (record { kind = kind; base = w.base; size = w.size; prefetch = prefetch }) in
    ap₂ made is (flags_back w.prefetch)

-- and so are all of a bridge
windows_back : (windows : List Window) → list_all is_lawful_window windows ≡ true → filter_map window_in (map window_item windows) ≡ windows
windows_back [] lawful = refl
windows_back (w ∷ windows) lawful =
    let both = and_parts (is_lawful_window w) (list_all is_lawful_window windows) lawful in
    let here = and_parts (nat_le 1 w.size) (are_lawful_addresses w.kind w) both.0 in
    ap₂ cons_option (window_back_of w.kind w refl here.1) (windows_back windows both.1)

-- one route is told by its row
route_back : (r : Route) → is_lawful_route r ≡ true → IsFittingRoute r → route_in (view (route_term r)) ≡ r
route_back r lawful fits =
    let bounds = and_parts (nat_le r.device 31) (nat_le r.pin 3) lawful in
    let device : r.device ≤ 31 = leb-true r.device 31 bounds.0 in
    let pin : r.pin ≤ 3 = leb-true r.pin 3 bounds.1 in
    let high : (r.device * 0x10000 + 0xFFFF) / 0x10000 ≡ r.device = omega arith in
    let made : ℕ → ℕ → ℕ → Route = λ first second third. record { device = first; pin = second; gsi = third } in
    ap route_in (view-route r)
    ∙ ap₂ (λ first second. made first second (fitted 32 r.gsi)) (ap (fitted 8) high ∙ fitted_back 8 r.device (omega (arith, device)))
    (fitted_back 8 r.pin (omega (arith, pin)))
    ∙ ap (made r.device r.pin) (fitted_back 32 r.gsi fits)

-- all routes of a bridge
routes_back : (routes : List Route) → AllByRecursion (λ route. is_lawful_route route ≡ true) routes → AllByRecursion IsFittingRoute routes
    → map route_in (map view (map route_term routes)) ≡ routes
routes_back [] lawful fit = refl
routes_back (r ∷ routes) lawful fit =
    ap₂ (λ (first : Route) (others : List Route). first ∷ others) (route_back r lawful.0 fit.0) (routes_back routes lawful.1 fit.1)

-- no id of a bridge has another name
ids_passed : (segment : List ℕ) (ecam : ℕ) → bytes_eq (codes "_HID") segment ≡ false → bytes_eq (codes "_CID") segment ≡ false
    → first_value segment (bridge_ids ecam) ≡ None
ids_passed segment ecam no_hardware no_compatible =
    let hardware : (id : ℕ) (ts : List Term) → first_value segment (hardware_id id ∷ ts) ≡ first_value segment ts =
    λ id ts. first_value-name segment (codes "_HID") (Int id) ts ∙ ap (λ is. cond is (Some (view (Int id))) (first_value segment ts)) no_hardware in
    cond_both (ecam == 0) (hardware_id pci_bridge ∷ []) (hardware_id pci_express_bridge ∷ compatible_id pci_bridge ∷ [])
    (λ ids. first_value segment ids ≡ None) (λ t. hardware pci_bridge [])
    (λ t. hardware pci_express_bridge (compatible_id pci_bridge ∷ []) ∙ first_value-name segment (codes "_CID") (Int pci_bridge) []
    ∙ ap (λ is. cond is (Some (view (Int pci_bridge))) None) no_compatible)

-- the values of a bridge behind its ids
abbrev behind_ids : Bridge → List Term
behind_ids b =
    unique_id 0 ∷ name (codes "_BBN") (Int 0) ∷ resources (bridge_items b) ∷ name (codes "_PRT") (Package (map route_term b.routes)) ∷ []

-- so a value of another name than theirs is one of those behind them
behind_there : (segment : List ℕ) (b : Bridge) → bytes_eq (codes "_HID") segment ≡ false → bytes_eq (codes "_CID") segment ≡ false
    → first_value segment (bridge_values b) ≡ first_value segment (behind_ids b)
behind_there segment b no_hardware no_compatible =
    ap (first_told (value_in segment)) (map-append view (bridge_ids b.ecam) (behind_ids b))
    ∙ first_told-append (value_in segment) (map view (bridge_ids b.ecam)) (map view (behind_ids b))
    ∙ ap (λ one. option_or one (first_value segment (behind_ids b))) (ids_passed segment b.ecam no_hardware no_compatible)

-- the template, and the table of routes
template_there : (b : Bridge) → first_value (codes "_CRS") (bridge_values b) ≡ Some (view (Buffer (template_of (bridge_items b))))
template_there b =
    let routes = Package (map route_term b.routes) in
    let spaces = resources (bridge_items b) in
    behind_there (codes "_CRS") b refl refl
    ∙ first_value-name (codes "_CRS") (codes "_UID") (Int 0) (name (codes "_BBN") (Int 0) ∷ spaces ∷ name (codes "_PRT") routes ∷ [])
    ∙ first_value-name (codes "_CRS") (codes "_BBN") (Int 0) (spaces ∷ name (codes "_PRT") routes ∷ [])
    ∙ first_value-name (codes "_CRS") (codes "_CRS") (Buffer (template_of (bridge_items b))) (name (codes "_PRT") routes ∷ [])

table_there : (b : Bridge) → first_value (codes "_PRT") (bridge_values b) ≡ Some (view (Package (map route_term b.routes)))
table_there b =
    let routes = Package (map route_term b.routes) in
    let spaces = resources (bridge_items b) in
    behind_there (codes "_PRT") b refl refl
    ∙ first_value-name (codes "_PRT") (codes "_UID") (Int 0) (name (codes "_BBN") (Int 0) ∷ spaces ∷ name (codes "_PRT") routes ∷ [])
    ∙ first_value-name (codes "_PRT") (codes "_BBN") (Int 0) (spaces ∷ name (codes "_PRT") routes ∷ [])
    ∙ first_value-name (codes "_PRT") (codes "_CRS") (Buffer (template_of (bridge_items b))) (name (codes "_PRT") routes ∷ [])
    ∙ first_value-name (codes "_PRT") (codes "_PRT") routes []

-- what stands in a bridge's device tells the bridge
pub bridge_back : (b : Bridge) → IsFittingBridge b → list_all is_lawful_window b.windows ≡ true
    → AllByRecursion (λ route. is_lawful_route route ≡ true) b.routes → bridge_in (map view (bridge_values b)) ≡ without_ecam b
bridge_back b fits windows routes =
    let inside = map view (bridge_values b) in
    let items : resources_in inside ≡ bridge_items b =
    resources_there (bridge_values b) (bridge_items b) (template_there b) (fit_bridge b fits.last_bus windows) in
    let table : map route_in (rows_of (first_told (value_in (codes "_PRT")) inside)) ≡ b.routes =
    ap (λ value. map route_in (rows_of value)) (table_there b) ∙ ap (map route_in) (rows_of-package (map route_term b.routes))
    ∙ routes_back b.routes routes fits.routes in
    let last : last_bus_in (resources_in inside) ≡ b.last_bus = ap last_bus_in items ∙ fitted_back 8 b.last_bus fits.last_bus in
    let spaces : windows_in (resources_in inside) ≡ b.windows = ap windows_in items ∙ windows_back b.windows windows in
    let made : ℕ → List Window → List Route → Bridge = λ bus those routed. record { ecam = 0; last_bus = bus; windows = those; routes = routed } in
    ap₂ (λ bus those. made bus those (map route_in (rows_of (first_told (value_in (codes "_PRT")) inside)))) last spaces
    ∙ ap (made b.last_bus b.windows) table
