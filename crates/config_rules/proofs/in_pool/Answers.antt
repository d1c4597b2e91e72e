-- `config_rules::in_pool` meets its contract. Assumes nothing.
use borrow.Author.Rules.{rules}
use Rattle.address.specs.declared.Region.{Region}
use Rattle.config_model.specs.Config.{HostMeets}
use Rattle.config_view.specs.View.{viewed}
use Rattle.config_rules.proofs.Laws.{rule_broken}
use Rattle.config_rules.proofs.in_pool.Goals as goal

pub returns-in-Some : goal.returns-in-Some
returns-in-Some c = rule_broken (λ (r : Region). HostMeets (viewed c.args.v.now).pool r → ⊥) c.in-Some.ensures.first (λ r p. rw (← c.requires.is_pool) (search rules)) (λ p. rw (← c.requires.is_pool) (search rules))

pub returns : goal.returns
returns c = λ a b l h. rw (← c.requires.is_pool) (let p = c.in_default.ensures.first a b l h in search rules)
