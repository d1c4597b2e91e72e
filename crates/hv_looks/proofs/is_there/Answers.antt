-- `hv_looks::is_there` meets its contract. Assumes nothing.
use Rattle.hv_asker.proofs.Laws.{is_here, is_away}
use Rattle.hv_looks.proofs.Laws.{known}
use Rattle.hv_looks.proofs.is_there.Goals as goal

pub returns-in-Away : goal.returns-in-Away
returns-in-Away c = let h = rw c.in-Away.is at c.in_ok-locate.ensures in (known _ _ _ _ h.0 h.1.0, h.1.1, (is_away _ _ _ _ h).absent)

pub returns-in-Here : goal.returns-in-Here
returns-in-Here c = let h = rw c.in-Here.is at c.in_ok-locate.ensures in (known _ _ _ _ h.0 h.1.0, h.1.1, (is_here _ _ _ _ h).present)
