use Rattle.std.proofs.Common.{sym, ◌∙◌}
use Rattle.regtype_grammar.proofs.FaultLaws.{fault_is}
use Rattle.regtype_grammar.proofs.MadeLaws.{grammar_in_range, types_named, seen_below}
use Rattle.regtype_grammar.proofs.NamedRules.{types_give_named}
use Rattle.regtype_grammar.proofs.grammars.grammar_of.Goals as goal

pub returns-in-Some-clause-err : goal.returns-in-Some-clause-err
returns-in-Some-clause-err c = fault_is c.args.modules.now c.in-Some.fault (sym c.in_ok-fault.ensures ∙ c.in-Some.is)

pub returns-in-Some-2-clause-range : goal.returns-in-Some-2-clause-range
returns-in-Some-2-clause-range c = grammar_in_range c.args.modules.now c.requires c.in-Some-2.grammar (sym c.in_ok-made_grammar-in-None.ensures ∙ c.in-Some-2.is)

pub returns-in-Some-2-clause-types : goal.returns-in-Some-2-clause-types
returns-in-Some-2-clause-types c = types_named c.args.modules.now c.in-Some-2.grammar (sym c.in_ok-made_grammar-in-None.ensures ∙ c.in-Some-2.is)

pub returns-in-Some-2-clause-seen : goal.returns-in-Some-2-clause-seen
returns-in-Some-2-clause-seen c = seen_below c.args.modules.now c.requires c.in-Some-2.grammar (sym c.in_ok-made_grammar-in-None.ensures ∙ c.in-Some-2.is)

pub returns-in-Some-2-clause-named : goal.returns-in-Some-2-clause-named
returns-in-Some-2-clause-named c = types_give_named c.args.modules.now c.in-Some-2.grammar (sym c.in_ok-made_grammar-in-None.ensures ∙ c.in-Some-2.is)
