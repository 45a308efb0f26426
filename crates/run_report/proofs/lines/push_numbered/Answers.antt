use Rattle.std.proofs.Common.{◌≡◌, ◌++◌, ◌∷◌, Option, OnOk, string_bytes, decimal, unwrap_or, ap, ◌∙◌, subst}
use Rattle.std.proofs.lemmas.Option.{unwrap_or-slice_get}
use Rattle.term_core.specs.declared.terms.Term as term
use Rattle.prog_data.specs.Goals.{pred_of, no_pred}
use Rattle.prog_data.specs.declared.programs.Pred.{Pred}
use Rattle.run_report.specs.Lines.{quoted_text}
use Rattle.run_report.proofs.lines.push_numbered.Goals as goal

pub returns-in-None : goal.returns-in-None
returns-in-None c =
    let program = c.args.program.now in
    let none : no_pred ≡ pred_of program c.args.pred =
    ap (λ (o : Option Pred). unwrap_or o no_pred) c.in-None.ensures.value ∙ unwrap_or-slice_get program.preds c.args.pred no_pred in
    subst (λ p. OnOk c.push_name_with_arity-in-None.result (string_bytes c.push_name_with_arity-in-None.new.out ≡ string_bytes c.args.out.now ++ (quoted_text program (term.Atom p.name) ++ 47 ∷ decimal p.arity)))
    none c.push_name_with_arity-in-None.ensures
