use Rattle.std.proofs.Common.{◌≡◌, drop}
use Rattle.std.specs.List.{list_all}
use Rattle.term_core.specs.Names.{name_text}
use Rattle.ciao_modules.specs.Directives.{is_package}
use Rattle.ciao_modules.proofs.directives.are_packages.Given as goal

abbrev pub invariant-loop-name : goal.invariant-loop-name
invariant-loop-name l =
    list_all (λ n. is_package (name_text l.names n)) (drop l.name-index l.packages) ≡ list_all (λ n. is_package (name_text l.names n)) l.packages
