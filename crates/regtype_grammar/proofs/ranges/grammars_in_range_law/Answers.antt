use Rattle.regtype_grammar.proofs.MadeLaws.{grammar_in_range, seen_below}
use Rattle.regtype_grammar.proofs.NamedRules.{types_give_named}
use Rattle.regtype_grammar.proofs.ranges.grammars_in_range_law.Goals as goal

pub returns : goal.returns
returns c = λ modules g seen e. record {
  range = grammar_in_range modules seen g e;
  seen = seen_below modules seen g e;
  named = types_give_named modules g e;
}
