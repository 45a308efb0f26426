-- What a command's files and its query are.
use Rattle.std.specs.Prelude.{◌≡◌, ℕ, List}
use Rattle.byte_io.specs.Outside.{Held}
use Rattle.term_core.specs.Names.{fixed_names, name_text}
use Rattle.term_core.specs.declared.operators.Operators.{Operators}
use Rattle.term_core.specs.declared.terms.Term.{Term}
use Rattle.prog_data.specs.declared.programs.Program.{Program}
use Rattle.prog_data.specs.Programs.{with_names}
use Rattle.ciao_modules.specs.FileNames.{Word}
use Rattle.ciao_modules.specs.Loaded.{Loaded, IsReachedFile}
use Rattle.ciao_modules.specs.declared.units.Unit.{Unit}
use Rattle.program_link.specs.Linked.{Linked, linked}
use Rattle.ciao_top.specs.Queries.{main_operators, IsQuery}
use Rattle.ciao_top.specs.WordsAccepted.{RunWords}

module _ (held : Held) (command : RunWords) where
  -- the files that are reached from the command's file are accepted: they have this program, with these operators for queries
  pub record HasProgram (program : Program) (ops : Operators) : Type 0 where
    pub names : List Word
    pub units : List Unit
    pub loaded : Loaded held command.file fixed_names names units
    pub linked_is : linked names units ≡ Linked program
    pub ops_are : ops ≡ main_operators units

  -- the command's query is this one of this program, which has the names of the query
  pub record HasQuery (program : Program) (query : Term) : Type 0 where
    pub before : Program
    pub ops : Operators
    pub has : HasProgram before ops
    pub names : List Word
    pub read : IsQuery ops before.names command.query names query
    pub program_is : program ≡ with_names names before

  -- a file of this name, as it is printed, is one of those that are read
  pub record IsReached (name : Word) : Type 0 where
    pub names : List Word
    pub file : ℕ
    pub reached : IsReachedFile held command.file fixed_names names file
    pub name_is : name ≡ name_text names file
