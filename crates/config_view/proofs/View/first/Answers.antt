-- `config_view::View::first` meets its contract. Assumes nothing.
use Rattle.config_bytes.proofs.Laws.{offset_first}
use Rattle.config_view.proofs.View.first.Goals as goal

pub returns-in-Bytes : goal.returns-in-Bytes
returns-in-Bytes c = rw c.in-Bytes.is (offset_first c.in-Bytes.field-0.now)
