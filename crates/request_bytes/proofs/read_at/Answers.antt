-- `request_bytes::read_at` meets its contract. Assumes nothing.
use Rattle.request_bytes.proofs.Laws.{not_meant, numbers_differ}
use Rattle.request_bytes.proofs.read_at.Goals as goal

pub returns-else-eq : goal.returns-else-eq
returns-else-eq c = not_meant c.numbers_at-n.ensures c.request_of-q.ensures c.numbers_of.ensures (numbers_differ c.numbers_at-n.result c.numbers_of.result c.if-eq.ensures)
