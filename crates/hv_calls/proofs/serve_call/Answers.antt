-- `hv_calls::serve_call` meets its contract. Assumes nothing.
use Rattle.call_bytes.specs.Calls.{Several}
use Rattle.hv_calls.proofs.Laws.{as_several, members_mean, members_done}
use Rattle.hv_calls.proofs.serve_call.Goals as goal

pub serve_list-requires-clause-members : goal.serve_list-requires-clause-members
serve_list-requires-clause-members c =
    let h : Several c.args.bytes.now c.args.from c.args.len c.in-Ok-List.n = rw c.in-Ok-List.field-0-is at c.in-Ok-List.ensures in
    members_mean _ _ _ _ h c.requires.call

pub returns-in-Ok-clause-says : goal.returns-in-Ok-clause-says
returns-in-Ok-clause-says c =
    let h : Several c.args.bytes.now c.args.from c.args.len c.in-Ok-List.n = rw c.in-Ok-List.field-0-is at c.in-Ok-List.ensures in
    (as_several _ _ _ _ h, members_done _ _ _ _ h _ _ _ _ _ c.in-Ok.ensures.says)
