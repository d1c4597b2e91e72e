-- `hv_start::zones_fit` meets its contract. Assumes nothing.
use Rattle.hv_start.proofs.Sizes.{few_machines, wrong_zones, crowded, roomy}
use Rattle.hv_start.proofs.zones_fit.Goals as goal

pub measure-requires : goal.measure-requires
measure-requires c = few_machines _ _ c.requires

pub returns-in_default : goal.returns-in_default
returns-in_default c = wrong_zones _ _ c.requires _ c.in_default.ensures

pub returns-in-Some-first_crowded : goal.returns-in-Some-first_crowded
returns-in-Some-first_crowded c = crowded _ _ c.requires _ _ c.in-Some.ensures _ c.in-Some-first_crowded.ensures

pub returns-in-None : goal.returns-in-None
returns-in-None c = roomy _ _ c.requires _ _ c.in-Some.ensures c.in-None.ensures
