-- What the rules say of an accepted machine's devices.
use Rattle.std.proofs.Common.{◌≡◌, ℕ, ◌+◌, ◌≤◌, ◌&&◌, true, List, [], ◌∷◌, length, refl}
use Rattle.std.proofs.lemmas.Bool.{and_parts}
use Rattle.std.specs.List.{list_all, enumerate_from, AllByRecursion}
use Rattle.machine_desc.specs.declared.machine.Machine.{Machine}
use Rattle.machine_desc.specs.declared.device_parts.Route.{Route}
use Rattle.machine_desc.specs.Rules.{windows_of, routes_of, is_new, pair_of, is_lawful_window, is_lawful_route, is_lawful_uart, IsAccepted}
use Rattle.machine_desc.proofs.Accepted.{each_kept, few_at}
use Rattle.dsdt_terms.proofs.Limits.{most_cpus, most_uarts, most_windows, most_routes}

pub lawful_windows : (m : Machine) → IsAccepted m → list_all is_lawful_window (windows_of m.bridge) ≡ true
lawful_windows m accepted = each_kept m accepted 26 is_lawful_window (windows_of m.bridge) refl

pub lawful_uarts : (m : Machine) → IsAccepted m → list_all is_lawful_uart m.uarts ≡ true
lawful_uarts m accepted = each_kept m accepted 28 is_lawful_uart m.uarts refl

lawful_from : (all : List Route) (place : ℕ) (routes : List Route)
    → list_all (λ (e : ℕ × Route). is_lawful_route e.1 && is_new pair_of all e) (enumerate_from place routes) ≡ true
    → AllByRecursion (λ route. is_lawful_route route ≡ true) routes
lawful_from all place [] lawful = tt
lawful_from all place (route ∷ routes) lawful =
    let Test = λ (e : ℕ × Route). is_lawful_route e.1 && is_new pair_of all e in
    let both = and_parts (Test (place, route)) (list_all Test (enumerate_from (place + 1) routes)) lawful in (
      (and_parts (is_lawful_route route) (is_new pair_of all (place, route)) both.0).0,
      lawful_from all (place + 1) routes both.1,
    )

pub lawful_routes : (m : Machine) → IsAccepted m → AllByRecursion (λ route. is_lawful_route route ≡ true) (routes_of m.bridge)
lawful_routes m accepted =
    let all = routes_of m.bridge in
    lawful_from all 0 all (each_kept m accepted 27 (λ (e : ℕ × Route). is_lawful_route e.1 && is_new pair_of all e) (enumerate_from 0 all) refl)

-- its lists have few elements
pub record HasFewDevices (m : Machine) : Type 0 where
  pub cpus : length m.cpus ≤ most_cpus
  pub uarts : length m.uarts ≤ most_uarts
  pub windows : length (windows_of m.bridge) ≤ most_windows
  pub routes : length (routes_of m.bridge) ≤ most_routes

pub few_devices : (m : Machine) → IsAccepted m → HasFewDevices m
few_devices m accepted = record {
  cpus = few_at m accepted 5;
  uarts = few_at m accepted 9;
  windows = few_at m accepted 10;
  routes = few_at m accepted 11;
}
