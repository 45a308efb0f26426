use Rattle.regtype_grammar.proofs.ListRange.{lists_stay, lists_front}
use Rattle.regtype_grammar.proofs.NamedRules.{lists_stay_named}
use Rattle.std.proofs.lemmas.Result.{IfOk-weaker}
use Rattle.regtype_grammar.proofs.lists.list_of.Goals as goal

pub returns-clause-range : goal.returns-clause-range
returns-clause-range c = IfOk-weaker c.find_or_add.result _ _ (λ name has. lists_stay c.args.grammar.now c.args.element c.find_or_add.new.grammar name has) c.find_or_add.ensures.ok

pub returns-clause-named : goal.returns-clause-named
returns-clause-named c = IfOk-weaker c.find_or_add.result _ _ (λ name has. lists_stay_named c.args.grammar.now c.args.element c.find_or_add.new.grammar name has) c.find_or_add.ensures.ok

pub returns-clause-front : goal.returns-clause-front
returns-clause-front c = IfOk-weaker c.find_or_add.result _ _ (λ name has. lists_front c.args.grammar.now c.args.element c.find_or_add.new.grammar name has) c.find_or_add.ensures.ok
