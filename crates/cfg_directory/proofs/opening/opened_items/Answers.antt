use Rattle.std.proofs.Common.{map, ap, sym, ◌∙◌, arith}
use Rattle.std.proofs.lemmas.List.{length-map}
use Rattle.std.proofs.lemmas.Result.{err_from_is_err_and}
use Rattle.cfg_directory.specs.Parts.{is_set, flags_at}
use Rattle.cfg_directory.proofs.Heads.{listed_many, flags_refused, too_large_refused, Opens-from}
use Rattle.cfg_directory.proofs.opening.opened_items.Goals as goal

pub returns-in_err-flags-clause-err : goal.returns-in_err-flags-clause-err
returns-in_err-flags-clause-err c =
    let p = err_from_is_err_and c.from_residual.result c.from_residual.ensures.1 in
    rw (p.1, p.2) (flags_refused c.args.head.now c.split_at.result.1.now c.args.count c.args.listed.now c.in_err-flags.field-0.0 c.requires.listed
    c.requires.there c.split_at.ensures.back c.in_err-flags.ensures.exact)

pub total_of-requires : goal.total_of-requires
total_of-requires c =
    omega (arith, listed_many c.args.head.now c.args.count c.args.listed.now c.requires.listed, c.requires.listed.counted.few)

pub returns-then-total_of-gt-BYTES_LIMIT-clause-err : goal.returns-then-total_of-gt-BYTES_LIMIT-clause-err
returns-then-total_of-gt-BYTES_LIMIT-clause-err c =
    too_large_refused c.args.head.now c.args.count c.args.listed.now (map is_set c.in_ok-flags.flags.now) c.in_ok-flags.field-0-1.now c.requires.listed
    c.requires.there (ap (flags_at c.args.count) (sym c.split_at.ensures.back) ∙ c.in_ok-flags.ensures.exact)
    (omega (arith, c.total_of.ensures, c.if-total_of-gt-BYTES_LIMIT.true))

pub empty_items-requires : goal.empty_items-requires
empty_items-requires c =
    c.in_ok-flags.ensures.count ∙ sym (listed_many c.args.head.now c.args.count c.args.listed.now c.requires.listed)

pub returns-clause-ok : goal.returns-clause-ok
returns-clause-ok c =
    let flags = map is_set c.in_ok-flags.flags.now in (
      flags,
      Opens-from c.args.head.now c.args.count c.args.listed.now flags c.in_ok-flags.field-0-1.now c.requires.listed c.requires.there
          (ap (flags_at c.args.count) (sym c.split_at.ensures.back) ∙ c.in_ok-flags.ensures.exact)
          (omega (arith, c.total_of.ensures, c.if-total_of-gt-BYTES_LIMIT.false))
          (length-map c.in_ok-flags.flags.now is_set ∙ c.in_ok-flags.ensures.count
          ∙ sym (listed_many c.args.head.now c.args.count c.args.listed.now c.requires.listed)),
      c.in_ok-empty_items.ensures,
    )
