-- `list_attempt::attempt_read` meets its contract. Assumes nothing.
use Rattle.request_bytes.proofs.Laws.{read_some, read_is}
use Rattle.list_attempt.proofs.Laws.{as_read}
use Rattle.list_attempt.proofs.attempt_read.Goals as goal

pub unwrap-q-requires : goal.unwrap-q-requires
unwrap-q-requires c = read_some _ _ c.read_at.result c.read_at.ensures c.requires

pub returns : goal.returns
returns c = as_read _ _ _ _ _ _ _ _ _ (read_is _ _ c.read_at.result c.read_at.ensures c.unwrap-q.ensures) c.attempt.ensures
