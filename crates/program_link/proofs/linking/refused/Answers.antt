use Rattle.std.proofs.Common.{map, refl, subst}
use Rattle.prog_data.specs.declared.refusals.RefusalKind.TheVariants as kind
use Rattle.regtype_grammar.specs.Grammars.{IsTypeFault}
use Rattle.regtype_grammar.specs.declared.modules.TypeFault.TheVariants.{BadRegtype, UnknownProperty, Ambiguous}
use Rattle.unit_scopes.specs.Imports.{type_modules}
use Rattle.unit_scopes.specs.Sayings.{file_of}
use Rattle.program_link.specs.NamedFaults.{fault}
use Rattle.program_link.proofs.LinkedLaws.{told_types}
use Rattle.program_link.proofs.linking.refused.Goals as goal

pub untyped-requires-in-BadRegtype-clause-full : goal.untyped-requires-in-BadRegtype-clause-full
untyped-requires-in-BadRegtype-clause-full c =
    let unit = c.in-BadRegtype.field-0 in
    let place = c.in-BadRegtype.field-1 in
    told_types c.args.names c.args.units.now (BadRegtype unit place) (fault unit place.line kind.BadRegtype) refl (subst (IsTypeFault (type_modules (map file_of c.args.units.now))) c.in-BadRegtype.is c.requires.told)

pub untyped-requires-in-UnknownProperty-clause-full : goal.untyped-requires-in-UnknownProperty-clause-full
untyped-requires-in-UnknownProperty-clause-full c =
    let unit = c.in-UnknownProperty.field-0 in
    let place = c.in-UnknownProperty.field-1 in
    told_types c.args.names c.args.units.now (UnknownProperty unit place) (fault unit place.line kind.UnknownProperty) refl (subst (IsTypeFault (type_modules (map file_of c.args.units.now))) c.in-UnknownProperty.is c.requires.told)

pub untyped-requires-in-Ambiguous-clause-full : goal.untyped-requires-in-Ambiguous-clause-full
untyped-requires-in-Ambiguous-clause-full c =
    let unit = c.in-Ambiguous.field-0 in
    let place = c.in-Ambiguous.field-1 in
    told_types c.args.names c.args.units.now (Ambiguous unit place) (fault unit place.line kind.Ambiguous) refl (subst (IsTypeFault (type_modules (map file_of c.args.units.now))) c.in-Ambiguous.is c.requires.told)
