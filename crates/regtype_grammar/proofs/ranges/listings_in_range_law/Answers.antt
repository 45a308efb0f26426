use Rattle.regtype_grammar.proofs.ListRange.{lists_stay, lists_front}
use Rattle.regtype_grammar.proofs.NamedRules.{lists_stay_named}
use Rattle.regtype_grammar.proofs.ranges.listings_in_range_law.Goals as goal

pub returns : goal.returns
returns c = λ g element l e. record {
  begins = lists_front g element l.grammar l.name e;
  range = lists_stay g element l.grammar l.name e;
  named = lists_stay_named g element l.grammar l.name e;
}
