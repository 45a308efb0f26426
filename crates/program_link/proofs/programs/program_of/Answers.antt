use Rattle.std.proofs.Common.{refl, map, subst}
use Rattle.unit_scopes.specs.Sayings.{file_of}
use Rattle.program_link.specs.HeldPrograms.{IsNoRoom, unit_preds_from, parts_held}
use Rattle.program_link.proofs.ProgramLaws.{held_no_trouble, held_no_problem, program_is, no_program}
use Rattle.program_link.proofs.programs.program_of.Goals as goal

pub parts_of-requires-clause-trouble : goal.parts_of-requires-clause-trouble
parts_of-requires-clause-trouble c =
    held_no_trouble c.args.names (map file_of c.args.units.now) c.args.sources.now c.args.settings.now c.requires.sources c.requires.settings c.requires.untroubled

pub parts_of-requires-clause-problem : goal.parts_of-requires-clause-problem
parts_of-requires-clause-problem c =
    held_no_problem c.args.names (map file_of c.args.units.now) c.args.sources.now c.args.settings.now c.requires.sources c.requires.settings c.requires.untroubled

pub returns-in-Err-TooManyNames-clause-err : goal.returns-in-Err-TooManyNames-clause-err
returns-in-Err-TooManyNames-clause-err c =
    let sources = c.args.sources.now in
    let made = parts_held c.args.names sources c.args.settings.now (unit_preds_from 0 sources) c.args.grammar in
    let none = subst (IsNoRoom made) c.in-Err-TooManyNames.field-0-is c.in-Err-TooManyNames.ensures.err in
    (no_program c.args.names (map file_of c.args.units.now) sources c.args.settings.now c.requires.sources c.requires.settings c.requires.untroubled c.args.grammar c.requires.grammar none, refl)

pub returns-in_ok-program-in-Ok-clause-ok : goal.returns-in_ok-program-in-Ok-clause-ok
returns-in_ok-program-in-Ok-clause-ok c =
    program_is c.args.names (map file_of c.args.units.now) c.args.sources.now c.args.settings.now c.requires.sources c.requires.settings c.requires.untroubled c.args.grammar c.requires.grammar
    c.parts_of.new.grammar c.in-Ok.parts c.in_ok-program-in-Ok.program c.in-Ok.ensures.ok c.in_ok-program-in-Ok.ensures
