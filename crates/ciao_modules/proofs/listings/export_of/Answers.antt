use Rattle.std.proofs.Common.{[], ◌∷◌, ◌∙◌, sym, ap}
use Rattle.term_core.specs.declared.fixed.TheConstants.{SLASH}
use Rattle.term_core.proofs.TermFolds.{fold-Node}
use Rattle.ciao_modules.specs.Listings.{Listing, listing_step, listing, export_with, export_of}
use Rattle.ciao_modules.proofs.listings.export_of.Goals as goal

pub returns-in-Some : goal.returns-in-Some
returns-in-Some c =
    c.export_with.ensures
    ∙ ap (λ n. export_with c.args.line n c.natural_of.result) (c.atom_of.ensures.name c.args.line)
    ∙ ap (export_with c.args.line (listing c.args.line c.in-Some.name.now).name) (c.natural_of.ensures c.args.line)
    ∙ sym (ap (λ r. r.export) (fold-Node Listing (listing_step c.args.line) SLASH (c.in-Some.name.now ∷ c.in-Some.arity.now ∷ [])))
    ∙ sym (ap (export_of c.args.line) c.in-Some.ensures.whole)
