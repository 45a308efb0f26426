-- The atoms and functors in the rules of grammars.
-- The headline does not rest on this file.
use Rattle.std.specs.Prelude.{◌≡◌, ◌≤◌, ℕ, true, List, length}
use Rattle.std.specs.List.{list_all, AllByRecursion}
use Rattle.term_core.specs.Names.{fixed_names}
use Rattle.ciao_reader.specs.Ranges.{IsSentenceInRange}
use Rattle.prog_data.specs.declared.grammars.Grammar.{Grammar}
use Rattle.prog_data.specs.declared.programs.Program.{Program}
use Rattle.prog_data.specs.Programs.{is_named_rule}
use Rattle.regtype_grammar.specs.declared.modules.RegType.{RegType}
use Rattle.regtype_grammar.specs.declared.modules.TypeModule.{TypeModule}

-- the clauses of a type, and of the types of a module, are in range of so many names
abbrev pub IsTypeInRange : ℕ → RegType → Type 0
IsTypeInRange names t = AllByRecursion (IsSentenceInRange names) t.clauses

abbrev pub AreTypesInRange : ℕ → TypeModule → Type 0
AreTypesInRange names one = AllByRecursion (IsTypeInRange names) one.types

-- each atom and functor in a grammar's rules is a name of the program
abbrev pub HasNamedRules : Program → Grammar → Type 0
HasNamedRules program g = list_all (list_all (is_named_rule program)) g.rules ≡ true

-- where a program has the fixed names, and its names are enough for the clauses of the types, they are for the rules of the grammar
abbrev pub TypesGiveNamedRules : List TypeModule → Grammar → Type 0
TypesGiveNamedRules modules g = (program : Program) → length fixed_names ≤ length program.names → AllByRecursion (AreTypesInRange (length program.names)) modules → HasNamedRules program g

-- where a program has the fixed names, and the names in the rules of the old grammar, it has those of the new one
abbrev pub RulesStayNamed : Grammar → Grammar → Type 0
RulesStayNamed old new = (program : Program) → length fixed_names ≤ length program.names → HasNamedRules program old → HasNamedRules program new
