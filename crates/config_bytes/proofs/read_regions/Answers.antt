-- `config_bytes::read_regions` meets its contract. Assumes nothing.
use mathlib.Core.Path.{◌∙◌}
use native.Mathlib.Omega.{arith}
use Rattle.std.specs.Prelude.{Err}
use Rattle.config_bytes.proofs.Laws.{handed, regions_found, regions_more, regions_none}
use Rattle.config_bytes.proofs.read_regions.Goals as goal

pub returns-in_err-read_region : goal.returns-in_err-read_region
returns-in_err-read_region c = λ next. rw (handed c.from_residual.result c.from_residual.ensures.1) (regions_found (Err c.in_err-read_region.field-0.0) c.loop-i.invariant c.loop-i-test.true c.in_err-read_region.ensures next)

pub loop-i-preserved : goal.loop-i-preserved
loop-i-preserved c = regions_more c.loop-i.invariant c.loop-i-test.true c.in_ok-read_region.ensures

pub returns : goal.returns
returns c = λ next. c.loop-i.invariant.same next ∙ regions_none _ _ _ _ _ next (omega arith)
