use Rattle.std.proofs.Common.{◌<◌, refl, arith}
use Rattle.std.proofs.lemmas.Result.{err_from_is_err_and}
use Rattle.image_files.specs.Items.{image_limit}
use Rattle.image_files.proofs.Counted.{few_counted, many_counted}
use Rattle.image_files.proofs.image.link.Goals as goal

pub returns-then-image_size-gt-IMAGE_LIMIT-clause-large : goal.returns-then-image_size-gt-IMAGE_LIMIT-clause-large
returns-then-image_size-gt-IMAGE_LIMIT-clause-large c =
    let many : image_limit < c.image_size.result = c.if-image_size-gt-IMAGE_LIMIT.true in (
      λ is. many_counted c.args.files.items c.as_slice.result.now c.args.later.now c.image_size.result c.as_slice.ensures.value c.image_size.ensures
          many,
      λ large. refl,
    )

pub image_from-requires-clause-small : goal.image_from-requires-clause-small
image_from-requires-clause-small c =
    few_counted c.args.files.items c.as_slice.result.now c.args.later.now c.image_size.result c.as_slice.ensures.value c.image_size.ensures
    (omega (arith, c.if-image_size-gt-IMAGE_LIMIT.false))

pub returns-in_err-image_from-clause-large : goal.returns-in_err-image_from-clause-large
returns-in_err-image_from-clause-large c =
    let few = few_counted c.args.files.items c.as_slice.result.now c.args.later.now c.image_size.result c.as_slice.ensures.value c.image_size.ensures
    (omega (arith, c.if-image_size-gt-IMAGE_LIMIT.false)) in
    let p = err_from_is_err_and c.from_residual.result c.from_residual.ensures.1 in
    rw (p.1, p.2) (λ is. absurd (cc), λ large. absurd (omega (arith, few, large)))

pub returns-clause-small : goal.returns-clause-small
returns-clause-small c =
    few_counted c.args.files.items c.as_slice.result.now c.args.later.now c.image_size.result c.as_slice.ensures.value c.image_size.ensures
    (omega (arith, c.if-image_size-gt-IMAGE_LIMIT.false))

pub returns-clause-large : goal.returns-clause-large
returns-clause-large c =
    let few = few_counted c.args.files.items c.as_slice.result.now c.args.later.now c.image_size.result c.as_slice.ensures.value c.image_size.ensures
    (omega (arith, c.if-image_size-gt-IMAGE_LIMIT.false)) in
    (λ is. absurd (cc), λ large. absurd (omega (arith, few, large)))
