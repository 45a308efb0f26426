-- The names that directives name are those of their terms.
use Rattle.std.proofs.Common.{◌≡◌, ◌<◌, ℕ, Bool, true, false, List, [], ◌∷◌, map, Option, Some, None, sym, ◌∙◌, subst, arith}
use Rattle.std.specs.Prelude.{◌==◌, nat_lt, if◌then◌else◌, IfSome}
use Rattle.std.specs.Option.{option_or}
use Rattle.std.specs.List.{AllByRecursion, list_all}
use Rattle.std.proofs.lemmas.Bool.{and_parts}
use Rattle.std.proofs.lemmas.Bool.Decides.{nat_tests}
use Rattle.term_core.specs.declared.terms.Term.{Term, Atom, Node}
use Rattle.term_core.specs.declared.terms.Term.TheOpen as layer
use Rattle.term_core.specs.declared.fixed.TheConstants.{NIL, CELL, SLASH}
use Rattle.term_core.specs.Ranges.{has_names, has_names_step}
use Rattle.term_core.proofs.TermFolds.{fold-Var, fold-Int, fold-Atom, fold-Node, ind_terms}
use Rattle.ciao_modules.specs.Listings.{Listing, listing_step, listing, export_with, with_export, export_of, exports_in, one_export, one_or_more}
use Rattle.ciao_modules.specs.UnitRanges.{AreExportsInRange}
use Rattle.ciao_modules.specs.declared.units.Export.{Export}

module _ (n : ℕ) where
  -- the name and the parts of a compound are in range
  pub record PartsNamed (f : ℕ) (ts : List Term) : Type 0 where
    pub name : f < n
    pub parts : AllByRecursion (λ t. has_names n t ≡ true) ts

  below : (a : ℕ) → nat_lt a n ≡ true → a < n
  below a e = grind (arith, nat_tests)

  each_part : (ts : List Term) → list_all (λ part. part) (map (has_names n) ts) ≡ true → AllByRecursion (λ t. has_names n t ≡ true) ts
  each_part [] e = tt
  each_part (t ∷ ts) e = let parts = and_parts (has_names n t) _ e in (parts.0, each_part ts parts.1)

  pub node_named : (f : ℕ) (ts : List Term) → has_names n (Node f ts) ≡ true → PartsNamed f ts
  node_named f ts e =
      let parts = and_parts (nat_lt f n) _ (sym (fold-Node Bool (has_names_step n) f ts) ∙ e) in
      record { name = below f parts.0; parts = each_part ts (and_parts _ _ parts.1).1 }

  pub atom_named : (a : ℕ) → has_names n (Atom a) ≡ true → a < n
  atom_named a e = below a (sym (fold-Atom Bool (has_names_step n) a) ∙ e)

  -- listings

  -- what a term is as a listing is in range
  pub record IsListed (l : Listing) : Type 0 where
    pub name : IfSome l.name (λ a. a < n)
    pub export : IfSome l.export (λ e. e.name < n)
    pub exports : IfSome l.exports (AreExportsInRange n)

  module _ (line : ℕ) where
    named_export : (a k : Option ℕ) → IfSome a (λ a. a < n) → IfSome (export_with line a k) (λ e. e.name < n)
    named_export None None w = tt
    named_export None (Some k) w = tt
    named_export (Some a) None w = tt
    named_export (Some a) (Some k) w = w

    named_cell : (e : Option Export) (rest : Option (List Export)) → IfSome e (λ e. e.name < n) → IfSome rest (AreExportsInRange n) → IfSome (with_export e rest) (AreExportsInRange n)
    named_cell None rest w v = tt
    named_cell (Some e) None w v = tt
    named_cell (Some e) (Some rest) w v = (w, v)

    if_some : {A : Type 0} (P : A → Type 0) (b : Bool) (o : Option A) → IfSome o P → IfSome (if b then o else None) P
    if_some P true o w = w
    if_some P false o w = tt

    atom_listed : (a : ℕ) → a < n → IsListed (listing_step line (layer.Atom a))
    atom_listed a lt = record { name = lt; export = tt; exports = if_some (AreExportsInRange n) (a == NIL) (Some []) tt }

    node_listed : (f : ℕ) (ls : List Listing) → AllByRecursion IsListed ls → IsListed (listing_step line (layer.Node f ls))
    node_listed f [] all = record { name = tt; export = tt; exports = tt }
    node_listed f (first ∷ []) all = record { name = tt; export = tt; exports = tt }
    node_listed f (first ∷ second ∷ []) all = record {
      name = tt;
      export = if_some (λ e. e.name < n) (f == SLASH) (export_with line first.name second.count) (named_export first.name second.count all.0.name);
      exports = if_some (AreExportsInRange n) (f == CELL) (with_export first.export second.exports) (named_cell first.export second.exports all.0.export all.1.0.exports);
    }
    node_listed f (first ∷ second ∷ third ∷ rest) all = record { name = tt; export = tt; exports = tt }

    listed_parts : (ts : List Term) → AllByRecursion (λ t. has_names n t ≡ true → IsListed (listing line t)) ts → AllByRecursion (λ t. has_names n t ≡ true) ts → AllByRecursion IsListed (map (listing line) ts)
    listed_parts [] h named = tt
    listed_parts (t ∷ ts) h named = (h.0 named.0, listed_parts ts h.1 named.1)

    pub term_listed : (t : Term) → has_names n t ≡ true → IsListed (listing line t)
    term_listed =
        ind_terms (λ t. has_names n t ≡ true → IsListed (listing line t))
        (λ v e. subst IsListed (sym (fold-Var Listing (listing_step line) v)) (record { name = tt; export = tt; exports = tt }))
        (λ i e. subst IsListed (sym (fold-Int Listing (listing_step line) i)) (record { name = tt; export = tt; exports = tt }))
        (λ a e. subst IsListed (sym (fold-Atom Listing (listing_step line) a)) (atom_listed a (atom_named a e)))
        (λ f ts h e. subst IsListed (sym (fold-Node Listing (listing_step line) f ts)) (node_listed f (map (listing line) ts) (listed_parts ts h (node_named f ts e).parts)))

    pub exports_named : (t : Term) → has_names n t ≡ true → IfSome (exports_in line t) (AreExportsInRange n)
    exports_named t e = (term_listed t e).exports

    one_named : (e : Option Export) → IfSome e (λ e. e.name < n) → IfSome (one_export e) (AreExportsInRange n)
    one_named None w = tt
    one_named (Some e) w = (w, tt)

    or_named : (first second : Option (List Export)) → IfSome first (AreExportsInRange n) → IfSome second (AreExportsInRange n) → IfSome (option_or first second) (AreExportsInRange n)
    or_named None second w v = v
    or_named (Some es) second w v = w

    pub some_exports_named : (t : Term) → has_names n t ≡ true → IfSome (one_or_more line t) (AreExportsInRange n)
    some_exports_named t e = or_named (one_export (export_of line t)) (exports_in line t) (one_named (export_of line t) (term_listed t e).export) (term_listed t e).exports
