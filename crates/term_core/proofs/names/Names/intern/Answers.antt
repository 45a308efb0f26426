use Rattle.std.proofs.Common.{subst}
use Rattle.term_core.specs.Names.{fixed_names}
use Rattle.term_core.specs.Lists.{IsPrefix}
use Rattle.term_core.proofs.TextLemmas.{front_of_front, texts_of}
use Rattle.term_core.proofs.names.Names.intern.Goals as goal

pub invariant_of-self : goal.invariant_of-self
invariant_of-self c = front_of_front fixed_names (texts_of c.self.inside.texts.keys) (texts_of c.add.new.texts.keys) c.self.invariant c.add.ensures.kept

pub returns-clause-kept : goal.returns-clause-kept
returns-clause-kept c = subst (λ texts. IsPrefix texts (texts_of c.add.new.texts.keys)) c.self.view_is c.add.ensures.kept
