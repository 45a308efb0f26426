use Rattle.regtype_grammar.proofs.DeclarationLaws.{declarations_are_written}
use Rattle.regtype_grammar.proofs.declarations.declaration_law.Goals as goal

pub returns : goal.returns
returns c = declarations_are_written
