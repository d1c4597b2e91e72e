-- `config_bytes::u16_at` meets its contract. Assumes nothing.
use native.Mathlib.Omega.{arith}
use Rattle.config_bytes.specs.Fields.{le16}
use Rattle.config_bytes.proofs.u16_at.Goals as goal

pub returns : goal.returns
unfolding le16
returns c = (omega (arith, c.from_le_bytes.ensures), omega arith)
