use Rattle.std.proofs.Common.{sym, ap, ◌∙◌}
use Rattle.std.specs.Prelude.{bytes_eq}
use Rattle.run_report.specs.ClauseTerms.{library_text}
use Rattle.run_report.proofs.LibraryNames.{no_library, found}
use Rattle.run_report.proofs.modules.library_of.Goals as goal

pub returns-in-None : goal.returns-in-None
returns-in-None c = no_library c.args.names.now c.args.text.now (λ name. ap (bytes_eq (library_text name)) (sym c.as_bytes.ensures.value) ∙ c.in-None.ensures name)

pub returns-in-Some : goal.returns-in-Some
returns-in-Some c = c.number_of.ensures ∙ found c.args.names.now c.args.text.now c.in-Some.name.now (sym c.as_bytes.ensures.value ∙ c.in-Some.ensures)
