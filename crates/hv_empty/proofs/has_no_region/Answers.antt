-- `hv_empty::has_no_region` meets its contract. Assumes nothing.
use mathlib.Core.Path.{◌∙◌}
use Rattle.machine.specs.declared.Which.TheVariants.{Processors, Devices}
use Rattle.hv_empty.proofs.Laws.{bare_is, no_set_lem, unread, no_first, as_second}
use Rattle.hv_empty.proofs.has_no_region.Goals as goal

pub returns-in_err-processors : goal.returns-in_err-processors
returns-in_err-processors c = unread _ _ _ _ c.from_residual.result c.from_residual.ensures.1 (no_set_lem _ _ _ _ Processors _ c.requires c.set_at.ensures c.in_err-processors.ensures)

pub returns-then-not-processors : goal.returns-then-not-processors
returns-then-not-processors c = no_first _ _ (bare_is _ _ _ _ Processors _ c.set_at.ensures (c.in_ok-processors.ensures.1 ∙ c.if-not-processors.true))

pub returns-in_err-devices : goal.returns-in_err-devices
returns-in_err-devices c = unread _ _ _ _ c.from_residual-in_err-devices.result c.from_residual-in_err-devices.ensures.1 (no_set_lem _ _ _ _ Devices _ c.requires c.set_at-2.ensures c.in_err-devices.ensures)

pub returns : goal.returns
returns c = as_second _ _ _ (bare_is _ _ _ _ Processors _ c.set_at.ensures (c.in_ok-processors.ensures.1 ∙ c.if-not-processors.false)) (bare_is _ _ _ _ Devices _ c.set_at-2.ensures c.in_ok-devices.ensures.1)
