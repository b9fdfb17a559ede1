use Rattle.std.proofs.Common.{◌≡◌, length, arith, ap, sym, ◌∙◌, Ok, true}
use Rattle.std.proofs.lemmas.Bool.{eqb-false}
use Rattle.std.specs.List.{list_all}
use Rattle.vt_outside.specs.Name.{is_printable}
use Rattle.vt_outside.proofs.Names.{before_nul-copied, IsName-from_tests, IsField-copied}
use Rattle.vt_outside.proofs.name.Name.from_bytes.Goals as goal

pub invariant_of-result : goal.invariant_of-result
invariant_of-result c =
    let not_empty = eqb-false (length c.args.text.now) 0 (sym c.if-is_empty.ensures) in
    IsField-copied c.args.text.now _ c.copy_from_slice.ensures.after c.if-text-gt-LONGEST.false (omega arith) (sym c.if-not-are_printable.ensures)

pub returns : goal.returns
returns c =
    let not_empty = eqb-false (length c.args.text.now) 0 (sym c.if-is_empty.ensures) in
    let printable : list_all is_printable c.args.text.now ≡ true = sym c.if-not-are_printable.ensures in
    ap (λ x. Ok x) (before_nul-copied c.args.text.now _ c.copy_from_slice.ensures.after printable)
    ∙ sym (IsName-from_tests c.args.text.now c.if-text-gt-LONGEST.false (omega arith) printable)
