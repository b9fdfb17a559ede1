use Rattle.std.proofs.Common.{◌≡◌, length, arith, ap, ◌∙◌}
use Rattle.std.proofs.lemmas.List.{length-map}
use Rattle.loader_script.specs.declared.refusing.FileInfo.{FileInfo}
use Rattle.command_acts.specs.Placing.{place_named}
use Rattle.command_acts.proofs.Placings.{none_placed}
use Rattle.command_acts.proofs.placements.Placements.clear.Goals as goal

pub returns-clause-are : goal.returns-clause-are
returns-clause-are c =
    let p = c.args.self.now in
    let as_many : length p.places.items ≡ length p.infos.items =
    ap length c.requires.are.places ∙ length-map p.infos.items (λ (info : FileInfo). place_named p.placed.items info.name) in
    none_placed (record { infos = p.infos; places = c.put_nowhere.new.places; placed = c.clear.new.self; order = p.order }) (length p.places.items)
    c.put_nowhere.ensures as_many c.clear.ensures.items (omega (arith, c.clear.ensures.capacity, c.requires.are.room)) c.requires.are.order
