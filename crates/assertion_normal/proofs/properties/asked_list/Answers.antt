use Rattle.std.proofs.Common.{sym, subst}
use Rattle.prog_data.specs.GrammarRange.{IsGrammar}
use Rattle.assertion_normal.proofs.GrownLaws.{kept_grows, kept_named, list_grows}
use Rattle.assertion_normal.proofs.properties.asked_list.Goals as goal

pub returns-in-Ok-clause-grows : goal.returns-in-Ok-clause-grows
returns-in-Ok-clause-grows c = list_grows c.args.grammar.now c.args.kind _ c.in-Ok.ensures.ok

pub returns-in-TooManyNames-clause-grows : goal.returns-in-TooManyNames-clause-grows
returns-in-TooManyNames-clause-grows c = kept_grows c.args.grammar.now c.list_of.new.grammar c.in-Err.ensures.kept

pub returns-in-BadRegtype : goal.returns-in-BadRegtype
returns-in-BadRegtype c =
    let old = c.args.grammar.now in
    let new = c.list_of.new.grammar in
    record {
      ok = tt;
      err = tt;
      grows = kept_grows old new c.in-Err.ensures.kept;
      named = kept_named old new c.in-Err.ensures.kept;
      range = λ h lt. subst IsGrammar (sym c.in-Err.ensures.kept) h;
    }
