-- `list_clearing::clear_read` meets its contract. Assumes nothing.
use mathlib.Core.Path.{sym}
use Rattle.request_bytes.proofs.Laws.{read_some, read_is}
use Rattle.list_clearing.proofs.Laws.{of_request}
use Rattle.list_clearing.proofs.clear_read.Goals as goal

pub unwrap-q-requires : goal.unwrap-q-requires
unwrap-q-requires c = read_some _ _ c.read_at.result c.read_at.ensures c.requires.3

pub clear_freed-requires : goal.clear_freed-requires
clear_freed-requires c = let r = c.requires in (r.0, r.1, r.2)

pub returns : goal.returns
returns c = of_request c.args.tree.now c.args.owners.now c.args.words.now c.args.first c.args.c (sym (read_is _ _ c.read_at.result c.read_at.ensures c.unwrap-q.ensures)) c.clear_freed.ensures
