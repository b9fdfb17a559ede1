-- The values of the parts that have arrays: the nodes and the bridge; and those of the devices.
use Rattle.std.proofs.Common.{◌≡◌, inr, ℕ, suc, ◌+◌, ◌≤◌, ◌<◌, ◌^◌, true, not, take, drop, [], ◌&&◌, ◌==◌, ◌%◌, ◌*◌, List, ◌∷◌, ◌++◌, length, nat_le}
use Rattle.std.proofs.Common.{nat_lt, refl, ap, arith, append_assoc}
use Rattle.std.specs.List.{list_all, enumerate_from, AllByRecursion}
use Rattle.std.proofs.lemmas.Bool.{and_parts, leb-true, le-leb, ltb-true}
use Rattle.vt_outside.proofs.Each.{each_true}
use Rattle.desc_schema.specs.declared.value.Value.{Value}
use Rattle.desc_schema.specs.Form as forms
use Rattle.desc_schema.specs.Fits.{IsOne, FitsFields, FitsTable}
use Rattle.machine_desc.specs.declared.acpi_parts.Numa.{Numa}
use Rattle.machine_desc.specs.declared.device_parts.Bridge.{Bridge}
use Rattle.machine_desc.specs.declared.device_parts.Window.{Window}
use Rattle.machine_desc.specs.declared.device_parts.WindowKind.{WindowKind}
use Rattle.machine_desc.specs.declared.device_parts.WindowKind.TheVariants.{Io, Mem32, Mem64}
use Rattle.machine_desc.specs.declared.device_parts.Route.{Route}
use Rattle.machine_desc.specs.declared.device_parts.Uart.{Uart}
use Rattle.machine_desc.specs.Fields.{IsFittingNuma, IsFittingRoute, IsFittingBridge}
use Rattle.machine_desc.specs.Rules.{is_lawful_numa, is_lawful_distance, has_lawful_ecam, ends_within, are_lawful_addresses, is_lawful_window}
use Rattle.machine_desc.specs.Rules.{is_lawful_route, is_lawful_uart}
use Rattle.machine_desc.proofs.Passing.{◌⨾◌}
use Rattle.desc_toml.specs.Keys.{schema, numa_keys, bridge_keys, window_keys, route_keys, uart_keys}
use Rattle.desc_toml.specs.Values.{kind_at, byte_taken, numa_taken, window_taken, route_taken, bridge_taken, uart_taken}
use Rattle.desc_toml.specs.Printed.{list_values, number_values, numa_values, place_of_kind, window_values, route_values, bridge_values, uart_values}
use Rattle.desc_toml.proofs.Valued.{IsValued, good_fits, number_good, list_valued, first_key, last_key, keys_append, texts_append, both_of_each}
use Rattle.desc_toml.proofs.Valued.{each_holds}
use Rattle.desc_toml.proofs.ValuedParts.{part_good, byte_valued}

pub few_nodes : (n : Numa) → is_lawful_numa n ≡ true → n.nodes ≤ 64
few_nodes n lawful =
    let all = list_all (is_lawful_distance n.nodes) (enumerate_from 0 n.distance) in
    let sized = and_parts (nat_le 1 n.nodes && nat_le n.nodes 64 && (length n.distance == n.nodes * n.nodes)) all lawful in
    let few = and_parts (nat_le 1 n.nodes && nat_le n.nodes 64) (length n.distance == n.nodes * n.nodes) sized.0 in
    leb-true n.nodes 64 (and_parts (nat_le 1 n.nodes) (nat_le n.nodes 64) few.0).1

numa_with : ℕ → List ℕ × List Value → Numa × List Value
numa_with nodes distance = (record { nodes = nodes; distance = distance.0 }, distance.1)

pub numa_valued : (Inside : ℕ → List Value → Type 0) (n : Numa) → is_lawful_numa n ≡ true → IsFittingNuma n
    → IsValued (FitsFields Inside numa_keys) numa_taken (numa_values n) n
unfolding numa_with
numa_valued Inside n lawful fits =
    let nodes = number_good n.nodes 0xFF (omega (arith, few_nodes n lawful)) in
    let bytes = each_holds (λ distance. distance < 2 ^ 8) (λ distance. IsValued (IsOne (forms.Number 0 0xFF)) byte_taken (number_values distance) distance)
    byte_valued n.distance fits in
    let distance = list_valued (IsOne (forms.Number 0 0xFF)) byte_taken number_values n.distance bytes in
    let first : List Value = Value.Number n.nodes ∷ [] in
    record {
      back = λ more. rw nodes.1 (ap (numa_with n.nodes) (distance.back more));
      fits = keys_append Inside (take 1 numa_keys) (drop 1 numa_keys) first (list_values number_values n.distance)
          (good_fits Inside (take 1 numa_keys) first (nodes ⨾ tt)) (last_key Inside (drop 1 numa_keys) (list_values number_values n.distance)
          (inr distance.fits) refl);
      texts = (tt, distance.texts);
    }

-- a window by its kind

kind_back : (kind : WindowKind) → kind_at (place_of_kind kind) ≡ kind
kind_back Io = refl
kind_back Mem32 = refl
kind_back Mem64 = refl

kind_small : (kind : WindowKind) → place_of_kind kind < 3
kind_small Io = omega arith
kind_small Mem32 = omega arith
kind_small Mem64 = omega arith

-- the addresses of a lawful window have 52 bits
window_ends : (kind : WindowKind) (w : Window) → are_lawful_addresses kind w ≡ true → w.base + w.size ≤ 2 ^ 52
window_ends Io w lawful =
    let both = and_parts (ends_within 0x10000 w && nat_le w.size 0xFFFF) (not w.prefetch) lawful in
    omega (arith, leb-true (w.base + w.size) 0x10000 (and_parts (ends_within 0x10000 w) (nat_le w.size 0xFFFF) both.0).0)
window_ends Mem32 w lawful =
    omega (arith, leb-true (w.base + w.size) (2 ^ 32) (and_parts (ends_within (2 ^ 32) w) (nat_lt w.size (2 ^ 32)) lawful).0)
window_ends Mem64 w lawful = leb-true (w.base + w.size) (2 ^ 52) lawful

pub window_valued : (Inside : ℕ → List Value → Type 0) (w : Window) → is_lawful_window w ≡ true
    → IsValued (FitsFields Inside window_keys) window_taken (window_values w) w
window_valued Inside w lawful =
    let ends = window_ends w.kind w (and_parts (nat_le 1 w.size) (are_lawful_addresses w.kind w) lawful).1 in
    let base = number_good w.base 0x7FFFFFFFFFFFFFFF (omega (arith, ends)) in
    let size = number_good w.size 0x7FFFFFFFFFFFFFFF (omega (arith, ends)) in
    part_good Inside window_keys window_taken (window_values w) w (kind_small w.kind ⨾ base ⨾ size ⨾ tt ⨾ tt)
    (λ more.
    rw (
      kind_back w.kind,
      le-leb w.base 0xFFFFFFFFFFFFFFFF (omega (arith, ends)),
      le-leb w.size 0xFFFFFFFFFFFFFFFF (omega (arith, ends)),
    ) refl)

pub route_valued : (Inside : ℕ → List Value → Type 0) (r : Route) → is_lawful_route r ≡ true → IsFittingRoute r
    → IsValued (FitsFields Inside route_keys) route_taken (route_values r) r
route_valued Inside r lawful fits =
    let both = and_parts (nat_le r.device 31) (nat_le r.pin 3) lawful in
    let device = number_good r.device 0xFF (omega (arith, leb-true r.device 31 both.0)) in
    let pin = number_good r.pin 0xFF (omega (arith, leb-true r.pin 3 both.1)) in
    let gsi = number_good r.gsi 0xFFFFFFFF (omega (arith, fits)) in
    part_good Inside route_keys route_taken (route_values r) r (device ⨾ pin ⨾ gsi ⨾ tt) (λ more. rw (device.1, pin.1, gsi.1) refl)

pub uart_valued : (Inside : ℕ → List Value → Type 0) (u : Uart) → is_lawful_uart u ≡ true
    → IsValued (FitsFields Inside uart_keys) uart_taken (uart_values u) u
uart_valued Inside u lawful =
    let both = and_parts (nat_le u.irq 15) (nat_le u.port 0xFFF8) lawful in
    let port = number_good u.port 0xFFFF (omega (arith, leb-true u.port 0xFFF8 both.1)) in
    let irq = number_good u.irq 0xFF (omega (arith, leb-true u.irq 15 both.0)) in
    part_good Inside uart_keys uart_taken (uart_values u) u (port ⨾ irq ⨾ tt) (λ more. rw (port.1, irq.1) refl)

-- the bridge, and in it its windows and its routes
pub bridge_valued : (depth : ℕ) (b : Bridge) → has_lawful_ecam b ≡ true → list_all is_lawful_window b.windows ≡ true
    → AllByRecursion (λ r. is_lawful_route r ≡ true) b.routes → IsFittingBridge b
    → IsValued (FitsFields (FitsTable schema (suc depth)) bridge_keys) bridge_taken (bridge_values b) b
bridge_valued depth b lawful lawful_windows lawful_routes fits =
    let Inside = FitsTable schema (suc depth) in
    let below = ltb-true b.ecam (2 ^ 52) (and_parts (b.ecam % 0x100000 == 0) (nat_lt b.ecam (2 ^ 52)) lawful).1 in
    let ecam = number_good b.ecam 0x7FFFFFFFFFFFFFFF (omega (arith, below)) in
    let last_bus = number_good b.last_bus 0xFF (omega arith) in
    let windows = list_valued (Inside 18) window_taken window_values b.windows
    (each_holds (λ w. is_lawful_window w ≡ true) (λ w. IsValued (Inside 18) window_taken (window_values w) w) (window_valued (FitsTable schema depth))
    b.windows (each_true is_lawful_window b.windows lawful_windows)) in
    let routes = list_valued (Inside 19) route_taken route_values b.routes
    (both_of_each (λ r. is_lawful_route r ≡ true) IsFittingRoute (λ r. IsValued (Inside 19) route_taken (route_values r) r)
    (route_valued (FitsTable schema depth)) b.routes lawful_routes fits.routes) in
    let numbers : List Value = Value.Number b.ecam ∷ Value.Number b.last_bus ∷ [] in
    let first = list_values window_values b.windows in
    let second = list_values route_values b.routes in
    record {
      back = λ more.
          rw (
            le-leb b.ecam 0xFFFFFFFFFFFFFFFF (omega (arith, below)),
            last_bus.1,
            append_assoc first second more,
            windows.back (second ++ more),
            routes.back more,
          ) refl;
      fits = keys_append Inside (take 2 bridge_keys) (drop 2 bridge_keys) numbers (first ++ second)
          (good_fits Inside (take 2 bridge_keys) numbers (ecam ⨾ last_bus ⨾ tt))
          (first_key Inside (drop 2 bridge_keys) first second (inr windows.fits)
          (last_key Inside (drop 3 bridge_keys) second (inr routes.fits) refl));
      texts = (tt, (tt, texts_append first second windows.texts routes.texts));
    }
