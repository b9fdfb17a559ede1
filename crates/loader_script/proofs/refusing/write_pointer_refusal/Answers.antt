use Rattle.std.proofs.Common.{Some, arith, subst}
use Rattle.loader_script.specs.Refusal.{IsFound}
use Rattle.loader_script.proofs.Found.{found_ends_low}
use Rattle.loader_script.proofs.refusing.write_pointer_refusal.Goals as goal

pub overflow_add-place : goal.overflow_add-place
overflow_add-place c =
    let src = c.in-Some-file_of.src.now in
    let place = c.in-Some-src_place.place in
    let found : IsFound c.args.files.now c.args.placed.now c.args.src.now src (Some place) =
    subst (IsFound c.args.files.now c.args.placed.now c.args.src.now src) c.in-Some-src_place.is c.in-Some-file_of.ensures in
    omega (arith, found_ends_low c.args.files.now c.args.placed.now c.args.src.now src place c.requires.low found)
