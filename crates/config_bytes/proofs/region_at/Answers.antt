-- `config_bytes::region_at` meets its contract. Assumes nothing.
use mathlib.Core.Path.{ap, ◌∙◌}
use Rattle.region_words.specs.Words.{kind_of}
use Rattle.region_words.proofs.Laws.{region_once}
use Rattle.config_bytes.specs.Fields.{region_at}
use Rattle.config_bytes.proofs.region_at.Goals as goal

pub returns : goal.returns
unfolding region_at
returns c = region_once _ _ c.u64_at.ensures c.u64_at-2.ensures c.u64_at-3.ensures (c.kind_of.ensures ∙ ap kind_of c.byte.ensures.0)
