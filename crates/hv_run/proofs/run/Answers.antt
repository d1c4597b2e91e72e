-- `hv_run::run` meets its contract. Assumes nothing.
use mathlib.Core.Path.{refl}
use native.Mathlib.Omega.{arith}
use Rattle.std.proofs.lemmas.Result.{err_from_is_err_and}
use Rattle.base.proofs.Says.{refused, not_refused}
use Rattle.hv_run.proofs.Laws.{served_all}
use Rattle.hv_run.proofs.run.Goals as goal

pub overflow_mul-len : goal.overflow_mul-len
overflow_mul-len c = omega (arith, c.well_formed)

pub returns-then-replies-len : goal.returns-then-replies-len
returns-then-replies-len c = (λ h. (let x = h.for_replies in omega (arith, c.if-replies-len.true)), refl, refl, refl)

pub overflow_mul-len-2 : goal.overflow_mul-len-2
overflow_mul-len-2 c = omega (arith, c.well_formed)

pub returns-then-answers-len : goal.returns-then-answers-len
returns-then-answers-len c = (λ h. (let x = h.for_answers in omega (arith, c.if-answers-len.true)), refl, refl, refl)

pub returns-then-not-fits_spare : goal.returns-then-not-fits_spare
returns-then-not-fits_spare c = (record { for_replies = omega (arith, c.if-replies-len.false); for_answers = omega (arith, c.if-answers-len.false) }, refused c.fits_spare.result c.if-not-fits_spare.true-raw c.fits_spare.ensures, refl, refl, refl)

pub serve_items-requires : goal.serve_items-requires
serve_items-requires c =
    let i = c.in_ok-n.ensures in
    record {
      spare = not_refused c.fits_spare.result c.if-not-fits_spare.false-raw c.fits_spare.ensures;
      replies = omega (arith, c.if-replies-len.false);
      answers = omega (arith, c.if-answers-len.false);
      framed = (i.items, i.framed);
    }

pub returns-in_err-n : goal.returns-in_err-n
returns-in_err-n c =
    let e = err_from_is_err_and c.from_residual.result c.from_residual.ensures.1 in
    rw (e.1, e.2) (
      record { for_replies = omega (arith, c.if-replies-len.false); for_answers = omega (arith, c.if-answers-len.false) },
      not_refused c.fits_spare.result c.if-not-fits_spare.false-raw c.fits_spare.ensures,
      c.in_err-n.ensures,
      refl,
      refl,
      refl,
    )

pub returns : goal.returns
returns c = (
  record { for_replies = omega (arith, c.if-replies-len.false); for_answers = omega (arith, c.if-answers-len.false) },
  not_refused c.fits_spare.result c.if-not-fits_spare.false-raw c.fits_spare.ensures,
  served_all c.in_ok-n.ensures c.serve_items.ensures,
)
