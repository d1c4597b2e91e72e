-- `hv_asker::who_asks` meets its contract. Assumes nothing.
use Rattle.hv_asker.specs.Asking.{Unasked}
use Rattle.hv_asker.proofs.Laws.{is_here, is_away}
use Rattle.hv_asker.proofs.who_asks.Goals as goal

pub returns-in-Away : goal.returns-in-Away
returns-in-Away c = Unasked.IsAway (is_away _ _ _ _ (rw c.in-Away.is at c.in_ok-locate.ensures))

pub returns-in-Here : goal.returns-in-Here
returns-in-Here c = let h = rw c.in-Here.is at c.in_ok-locate.ensures in (is_here _ _ _ _ h, h.1.0)
