-- `call_bytes::shape_of` meets its contract. Assumes nothing.
use mathlib.Core.Path.{sym, ◌∙◌}
use Rattle.call_bytes.proofs.shape_of.Goals as goal

pub list_shape-requires : goal.list_shape-requires
list_shape-requires c = (c.requires, sym c.is_list.ensures ∙ c.if-is_list.true)
