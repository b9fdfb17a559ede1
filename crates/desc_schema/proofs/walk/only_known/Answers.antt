use Rattle.std.proofs.Common.{sym, ◌∙◌}
use Rattle.desc_schema.specs.Form.{fields_of}
use Rattle.desc_schema.proofs.Known.{names_known-of, names_known-on, names_known-not}
use Rattle.desc_schema.proofs.walk.only_known.Goals as goal

pub loop-name-init : goal.loop-name-init
loop-name-init c = rw (c.into_iter-name-iterator.ensures.into_iter_gives, c.keys-name-items.ensures.rest)
    (names_known-of c.args.place (fields_of c.args.keys.now) c.args.table.now.entries c.keys-name-items.ensures.ordered)

pub returns-then-not-is_named : goal.returns-then-not-is_named
returns-then-not-is_named c =
    let unknown = names_known-not c.args.place c.args.keys.now _ _ _ _ c.in-Some.ensures.steps
    (sym c.is_named.ensures ∙ c.if-not-is_named.true) c.as_str.ensures.value in
    c.loop-name.invariant ∙ unknown ∙ cc (c.in_ok-unknown.ensures, c.as_str.ensures.value, c.as_str-then-not-is_named.ensures.value)

pub loop-name-preserved : goal.loop-name-preserved
loop-name-preserved c =
    c.loop-name.invariant ∙ names_known-on c.args.place c.args.keys.now _ _ _ _ c.in-Some.ensures.steps
    (sym c.is_named.ensures ∙ c.if-not-is_named.false) c.as_str.ensures.value
