-- `config_rules::not_valid` meets its contract. Assumes nothing.
use borrow.Author.Rules.{rules}
use Rattle.config_view.specs.View.{viewed}
use Rattle.config_rules.proofs.Laws.{validity_found}
use Rattle.config_rules.proofs.not_valid.Goals as goal

pub returns : goal.returns
returns c = validity_found (viewed c.args.v.now) c.refused_of.result c.refused_of.ensures (λ r a p. search rules)
