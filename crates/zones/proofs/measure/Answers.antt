-- `zones::measure` meets its contract. Assumes nothing.
use Rattle.zones.proofs.Laws.{slots_are, shape_right, shape_wrong}
use Rattle.zones.proofs.measure.Goals as goal

pub returns-then-slots-n : goal.returns-then-slots-n
returns-then-slots-n c = shape_wrong _ _ _ (slots_are _ _ _ _ c.max.ensures c.saturating_sub-slots.ensures) c.if-slots-n.true

pub returns : goal.returns
returns c = let e = slots_are c.args.zones.now c.args.n _ _ c.max.ensures c.saturating_sub-slots.ensures in (shape_right _ _ _ e c.if-slots-n.false, e)
