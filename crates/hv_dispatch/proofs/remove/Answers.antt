-- `hv_dispatch::remove` meets its contract. Assumes nothing.
use mathlib.Core.Path.{ap}
use Rattle.machine.specs.declared.Which.{Which}
use Rattle.machine.specs.declared.Request.{Request}
use Rattle.hv_dispatch.proofs.Laws.{as_asked}
use Rattle.hv_dispatch.proofs.remove.Goals as goal

pub returns-in-Processors : goal.returns-in-Processors
returns-in-Processors c = λ t o w. as_asked (ap (λ (x : Which). Request.Remove x c.args.region) c.in-Processors.is) (c.remove_region.ensures t o w)

pub returns-in-Devices : goal.returns-in-Devices
returns-in-Devices c = λ t o w. as_asked (ap (λ (x : Which). Request.Remove x c.args.region) c.in-Devices.is) (c.remove_iommu_region.ensures t o w)
