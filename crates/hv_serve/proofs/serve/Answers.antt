-- `hv_serve::serve` meets its contract. Assumes nothing.
use mathlib.Core.Path.{refl}
use native.Mathlib.Omega.{arith}
use Rattle.base.proofs.Says.{refused, not_refused}
use Rattle.hv_serve.proofs.serve.Goals as goal

pub returns-then-answers-len : goal.returns-then-answers-len
returns-then-answers-len c = (omega (arith, c.if-answers-len.true), refl, refl)

pub returns-then-not-fits_spare : goal.returns-then-not-fits_spare
returns-then-not-fits_spare c = (omega (arith, c.if-answers-len.false), refused c.fits_spare.result c.if-not-fits_spare.true-raw c.fits_spare.ensures, refl, refl)

pub serve_call-requires : goal.serve_call-requires
serve_call-requires c = record {
  spare = not_refused c.fits_spare.result c.if-not-fits_spare.false-raw c.fits_spare.ensures;
  call = omega arith;
  room = omega (arith, c.if-answers-len.false);
}

pub returns : goal.returns
returns c = (
  omega (arith, c.if-answers-len.false),
  not_refused c.fits_spare.result c.if-not-fits_spare.false-raw c.fits_spare.ensures,
  c.serve_call.ensures.says,
  record { long = c.serve_call.ensures.told.long; others = λ k d. c.serve_call.ensures.told.others k (λ a b. d a (omega (arith, b))) },
)
