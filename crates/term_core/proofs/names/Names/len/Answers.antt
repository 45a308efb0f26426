use Rattle.std.proofs.Common.{subst}
use Rattle.std.specs.Prelude.{bytes_eq, IsUtf8}
use Rattle.std.specs.List.{IsDistinct, AllByRecursion}
use Rattle.term_core.specs.Names.{fixed_names}
use Rattle.term_core.specs.Lists.{IsPrefix}
use Rattle.term_core.proofs.TextLemmas.{distinct-texts, utf8-texts}
use Rattle.term_core.proofs.names.Names.len.Goals as goal

pub returns-clause-distinct : goal.returns-clause-distinct
returns-clause-distinct c = subst (IsDistinct bytes_eq) c.self.view_is (distinct-texts c.self.inside.texts.keys c.len.ensures.unique)

pub returns-clause-begins : goal.returns-clause-begins
returns-clause-begins c = subst (IsPrefix fixed_names) c.self.view_is c.self.invariant

pub returns-clause-utf8 : goal.returns-clause-utf8
returns-clause-utf8 c = subst (AllByRecursion IsUtf8) c.self.view_is (utf8-texts c.self.inside.texts.keys)
