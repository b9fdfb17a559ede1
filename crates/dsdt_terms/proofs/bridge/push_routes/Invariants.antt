use Rattle.std.proofs.Common.{◌≡◌, map, take}
use Rattle.dsdt_terms.specs.Bridge.{route_term}
use Rattle.dsdt_terms.proofs.bridge.push_routes.Given as goal

abbrev pub invariant-loop-route : goal.invariant-loop-route
invariant-loop-route l = l.terms ≡ map route_term (take l.route-index l.routes)
