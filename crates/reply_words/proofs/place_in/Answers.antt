-- `reply_words::place_in` meets its contract. Assumes nothing.
use mathlib.Core.Path.{sym, ◌∙◌, ap}
use Rattle.hv_calls.specs.declared.Replied.{Replied}
use Rattle.reply_words.specs.Replies.{place_in}
use Rattle.reply_words.proofs.place_in.Goals as goal

pub returns-in-Answered : goal.returns-in-Answered
returns-in-Answered c = c.address_in.ensures ∙ ap (λ (x : Replied). place_in x c.args.old) (sym c.in-Answered.is)
