-- `run_item::serve_item` meets its contract. Assumes nothing.
use native.Mathlib.Omega.{arith}
use Rattle.run_item.proofs.Laws.{as_item, as_told}
use Rattle.run_item.proofs.serve_item.Goals as goal

pub serve_call-said-requires : goal.serve_call-said-requires
serve_call-said-requires c =
    let w = c.requires.whole in
    let a = c.requires.room in
    let e = c.u64_at-len.ensures in
    record { spare = c.requires.spare; call = omega arith; room = omega arith }

pub returns : goal.returns
returns c = record {
  len = c.u64_at-len.ensures;
  served = record {
    said = c.serve_call-said.result;
    says = as_item c.args.bytes.now c.args.p _ _ _ _ _ _ c.serve_call-said.result c.u64_at-number.ensures c.u64_at-len.ensures c.serve_call-said.ensures.says;
    wrote = c.write_reply.ensures.1;
    replied = c.write_reply.ensures.0;
    told = as_told _ _ _ _ _ c.serve_call-said.result c.u64_at-len.ensures c.serve_call-said.ensures.told;
  };
}
