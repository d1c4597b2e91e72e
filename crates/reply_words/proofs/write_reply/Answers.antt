-- `reply_words::write_reply` meets its contract. Assumes nothing.
use native.Mathlib.Omega.{arith}
use Rattle.reply_words.proofs.Laws.{long_one, long_two, wrote}
use Rattle.reply_words.proofs.write_reply.Goals as goal

pub bounds-replies-r-2 : goal.bounds-replies-r-2
bounds-replies-r-2 c = let e = long_one c.args.replies.now c.args.r c.code_in.result 0 0 c.requires in omega arith

pub bounds-replies-r-3 : goal.bounds-replies-r-3
bounds-replies-r-3 c = let e = long_two c.args.replies.now c.args.r c.code_in.result c.index_in.result 0 c.requires in omega arith

pub returns : goal.returns
returns c = wrote c.args.replies.now c.args.r c.code_in.result c.index_in.result c.place_in.result c.requires c.args.said c.code_in.ensures c.index_in.ensures c.place_in.ensures
