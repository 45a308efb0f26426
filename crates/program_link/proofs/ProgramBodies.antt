-- The clauses and the predicates of a program are in range of each program with such predicates.
use Rattle.std.proofs.Common.{◌≡◌, ℕ, suc, ◌+◌, ◌<◌, ◌≤◌, true, false, List, [], ◌∷◌, map, length, refl, ap, sym, ◌∙◌, subst, arith}
use Rattle.std.specs.Prelude.{slice_get, nat_lt, ◌==◌, Option, Some, None, option_map, option_and_then}
use Rattle.std.specs.Option.{option_map_or}
use Rattle.std.specs.List.{AllByRecursion}
use Rattle.std.proofs.lemmas.Bool.{and_parts}
use Rattle.std.proofs.lemmas.Bool.Decides.{nat_tests}
use Rattle.term_core.specs.Names.{fixed_names}
use Rattle.term_core.proofs.OperandLaws.{none_part, some_part}
use Rattle.ciao_reader.specs.Ranges.{IsSentenceInRange}
use Rattle.ciao_reader.specs.declared.sentences.Sentence.{Sentence}
use Rattle.prog_data.specs.declared.goals.Goal.{Goal}
use Rattle.prog_data.specs.declared.grammars.Grammar.{Grammar}
use Rattle.prog_data.specs.declared.programs.Clause.{Clause}
use Rattle.prog_data.specs.declared.programs.Pred.{Pred}
use Rattle.prog_data.specs.declared.programs.Program.{Program}
use Rattle.prog_data.specs.Goals.{pred_of, ends_in_exit}
use Rattle.prog_data.specs.Ranges.{is_clause_of}
use Rattle.assertion_normal.specs.Settling.{in_order}
use Rattle.assertion_normal.specs.declared.outcomes.Normal.{Normal}
use Rattle.body_code.specs.Clauses.{indicator_of, body_term, body_goal, clause_with, compiled_with, compiled}
use Rattle.body_code.specs.Making.{made as made_so, followed}
use Rattle.body_code.specs.Ranges.{ClausesAreInRange}
use Rattle.body_code.specs.declared.faults.Compiled.{Compiled}
use Rattle.body_code.specs.declared.faults.Indicator.{Indicator}
use Rattle.body_code.specs.declared.scopes.Visible.{Visible}
use Rattle.unit_scopes.specs.Indicators.{same_indicator}
use Rattle.unit_scopes.specs.Numbering.{is_clause_of as is_clause_about}
use Rattle.unit_scopes.specs.declared.settings.Setting.{Setting}
use Rattle.program_link.specs.Programs.{clause_made, pred_with, pred_in, pred_made}
use Rattle.program_link.specs.declared.drafts.Draft.{Draft}
use Rattle.program_link.proofs.ProgramGrammars.{prefix_longer, kinds_more, GrammarIn, grammar_grows, Beside, order_made}
use Rattle.program_link.proofs.ProgramLists.{each_more, each_at}
use Rattle.program_link.proofs.ProgramNames.{DraftIn, HasDraft, SettingIn}

-- a program has these predicates, each with as many arguments
abbrev pub HasArities : List Draft → Program → Type 0
HasArities all program = (k : ℕ) (d : Draft) → slice_get all k ≡ Some d → (k < length program.preds) × ((pred_of program k).arity ≡ d.indicator.arity)

-- a clause is in range of each program with these names, these predicates, and at least so many grammar names
abbrev pub ClauseIn : List (List ℕ) → List Draft → ℕ → ℕ → Clause → Type 0
ClauseIn names all arity size c = (program : Program) → program.names ≡ names → HasArities all program → size ≤ length program.grammar.rules → (is_clause_of program arity c ≡ true) × (ends_in_exit c.body ≡ false)

-- a predicate of a program, by what it is made of
pub record PredIn (names : List (List ℕ)) (all : List Draft) (size : ℕ) (dm : Draft × Normal) (pred : Pred) : Type 0 where
  pub owner : pred.«module» < length names
  pub name : pred.name ≡ dm.0.indicator.name
  pub arity : pred.arity ≡ dm.0.indicator.arity
  pub clauses : AllByRecursion (ClauseIn names all dm.0.indicator.arity size) pred.clauses
  pub conds : pred.conds ≡ map (λ c. c.id) dm.1.conds
  pub checks : pred.call_checks ≡ []

pub is_less : (a n : ℕ) → a < n → nat_lt a n ≡ true
is_less a n lt = grind (arith, nat_tests)

equal : (n m : ℕ) → (n == m) ≡ true → n ≡ m
equal n m e = grind (arith, nat_tests)

-- the number of arguments of a clause is that of its predicate
arity_is : (visible : Visible) (file : ℕ) (s : Sentence) (g : Grammar) (made : Compiled × Grammar) (p : Indicator) → is_clause_about p s ≡ true → compiled visible file s g ≡ Some made → made.0.arity ≡ p.arity
arity_is visible file s g made p about e = by (indicator_of s.term) about e
  where
    by_goal : (i : Indicator) → same_indicator p i ≡ true → (o : Option (Goal × Grammar)) → followed (λ body. made_so (clause_with file s i body)) o ≡ Some made → made.0.arity ≡ p.arity
    by_goal i same None e' = absurd (none_part made e')
    by_goal i same (Some x) e' =
        sym (ap (λ r. r.0.arity) (some_part (clause_with file s i x.0, x.1) made e')) ∙ sym (equal p.arity i.arity (and_parts (p.name == i.name) (p.arity == i.arity) same).1)

    by : (o : Option Indicator) → option_map_or (same_indicator p) o false ≡ true → compiled_with visible file s o g ≡ Some made → made.0.arity ≡ p.arity
    by None same e' = absurd (none_part made e')
    by (Some i) same e' = by_goal i same (body_goal visible (body_term s.term) g) e'

module _ (clauses_stay : ClausesAreInRange) (names : List (List ℕ)) (fixed : length fixed_names ≤ length names) (size : ℕ) (all : List Draft) where
  abbrev SentenceOf : Draft → Sentence → Type 0
  SentenceOf d s = IsSentenceInRange (length names) s × (is_clause_about d.indicator s ≡ true)

  abbrev ClauseOf : Draft → ℕ → Sentence → Clause → Type 0
  ClauseOf d n s c = ClauseIn names all d.indicator.arity n c

  clause_more : (arity n m : ℕ) (c : Clause) → n ≤ m → ClauseIn names all arity n c → ClauseIn names all arity m c
  clause_more arity n m c le h program is has enough = h program is has (omega (arith, le, enough))

  module _ (s : Setting) (setting : SettingIn (length names) size all s) where
    -- a clause, and the grammar behind it
    clause_in : (d : Draft) (g : Grammar) (sentence : Sentence) (made : Grammar × Clause) → GrammarIn names size g → SentenceOf d sentence → clause_made s g sentence ≡ Some made
        → GrammarIn names size made.0 × (length g.rules ≤ length made.0.rules) × ClauseIn names all d.indicator.arity (length made.0.rules) made.1
    clause_in d g sentence made h q e = by (compiled s.scope s.file sentence g) refl e
      where
        by : (o : Option (Compiled × Grammar)) → compiled s.scope s.file sentence g ≡ o → option_map (λ x. (x.1, x.0.clause)) o ≡ Some made
            → GrammarIn names size made.0 × (length g.rules ≤ length made.0.rules) × ClauseIn names all d.indicator.arity (length made.0.rules) made.1
        by None i e' = absurd (none_part made e')
        by (Some x) i e' =
            let both = clauses_stay s.scope s.file sentence g x i in
            let longer = prefix_longer g.rules x.1.rules both.0.begins in
            let below = kinds_more size (length g.rules) s.scope.types h.enough setting.types in
            let arity = arity_is s.scope s.file sentence g x d.indicator q.1 i in
            subst (λ r. GrammarIn names size r.0 × (length g.rules ≤ length r.0.rules) × ClauseIn names all d.indicator.arity (length r.0.rules) r.1) (some_part (x.1, x.0.clause) made e') (
              grammar_grows names fixed size g x.1 h longer (λ is. both.0.range is below) both.0.named,
              longer,
              λ program is has enough. let of = both.1 program
                  (record {
                    sentence = subst (λ ns. IsSentenceInRange (length ns) sentence) (sym is) q.0;
                    place = is_less s.file (length program.names) (subst (λ ns. s.file < length ns) (sym is) setting.file);
                    preds = each_more (HasDraft all) (λ n. (n.pred < length program.preds) × ((pred_of program n.pred).arity ≡ n.arity)) (λ n held. let found = has n.pred held.0 held.1 in (found.0, found.1 ∙ held.2)) s.scope.preds setting.preds;
                    types = enough;
                  }) in (subst (λ k. is_clause_of program k x.0.clause ≡ true) arity of.clause, of.no_exit),
            )

  -- the clauses alone
  clauses_alone : (d : Draft) (n : ℕ) (ss : List Sentence) (cs : List Clause) → Beside (ClauseOf d n) ss cs → AllByRecursion (ClauseIn names all d.indicator.arity n) cs
  clauses_alone d n [] [] h = tt
  clauses_alone d n [] (c ∷ cs) h = absurd h
  clauses_alone d n (s ∷ ss) [] h = absurd h
  clauses_alone d n (s ∷ ss) (c ∷ cs) h = (h.0, clauses_alone d n ss cs h.1)

  pred_more : (n m : ℕ) (dm : Draft × Normal) (pred : Pred) → n ≤ m → PredIn names all n dm pred → PredIn names all m dm pred
  pred_more n m dm pred le h = record {
    owner = h.owner;
    name = h.name;
    arity = h.arity;
    clauses = each_more (ClauseIn names all dm.0.indicator.arity n) (ClauseIn names all dm.0.indicator.arity m) (λ c is. clause_more dm.0.indicator.arity n m c le is) pred.clauses h.clauses;
    conds = h.conds;
    checks = h.checks;
  }

  -- a predicate, and the grammar behind its clauses
  abbrev PredMade : Grammar → Draft × Normal → Grammar × Pred → Type 0
  PredMade g dm made = GrammarIn names size made.0 × (length g.rules ≤ length made.0.rules) × PredIn names all (length made.0.rules) dm made.1

  pred_of_setting : (s : Setting) → SettingIn (length names) size all s → (g : Grammar) (dm : Draft × Normal) (made : Grammar × Pred) → GrammarIn names size g → DraftIn (length names) dm.0 → pred_in g dm s ≡ Some made → PredMade g dm made
  pred_of_setting s setting g dm made h draft e = by (in_order (clause_made s) (g, []) dm.0.clauses) refl e
    where
      by : (o : Option (Grammar × List Clause)) → in_order (clause_made s) (g, []) dm.0.clauses ≡ o → option_map (λ x. (x.0, pred_with s dm.0 dm.1 x.1)) o ≡ Some made → PredMade g dm made
      by None i e' = absurd (none_part made e')
      by (Some x) i e' =
          let arity = dm.0.indicator.arity in
          let bodies = order_made (clause_made s) (SentenceOf dm.0) (ClauseOf dm.0) (GrammarIn names size) (λ n m sentence c le is. clause_more arity n m c le is) (clause_in s setting dm.0) g [] dm.0.clauses x h draft.clauses i in
          subst (PredMade g dm) (some_part (x.0, pred_with s dm.0 dm.1 x.1) made e') (
            bodies.grammar,
            bodies.longer,
            record {
              owner = setting.owner;
              name = refl;
              arity = refl;
              clauses = subst (AllByRecursion (ClauseIn names all arity (length x.0.rules))) (sym bodies.whole) (clauses_alone dm.0 (length x.0.rules) dm.0.clauses bodies.items bodies.each);
              conds = refl;
              checks = refl;
            },
          )

  module _ (ss : List Setting) (settings_are : AllByRecursion (SettingIn (length names) size all) ss) where
    pred_next : (g : Grammar) (dm : Draft × Normal) (made : Grammar × Pred) → GrammarIn names size g → DraftIn (length names) dm.0 → pred_made ss g dm ≡ Some made → PredMade g dm made
    pred_next g dm made h draft e = by (slice_get ss dm.0.unit) refl e
      where
        by : (o : Option Setting) → slice_get ss dm.0.unit ≡ o → option_and_then (pred_in g dm) o ≡ Some made → PredMade g dm made
        by None i e' = absurd (none_part made e')
        by (Some s) i e' = pred_of_setting s (each_at (SettingIn (length names) size all) ss dm.0.unit s settings_are i) g dm made h draft e'

    -- all predicates, and the grammar behind them
    pub preds_made : (g : Grammar) (dms : List (Draft × Normal)) (r : Grammar × List Pred) → GrammarIn names size g → AllByRecursion (λ dm. DraftIn (length names) dm.0) dms → in_order (pred_made ss) (g, []) dms ≡ Some r
        → GrammarIn names size r.0 × (length g.rules ≤ length r.0.rules) × Beside (PredIn names all (length r.0.rules)) dms r.1
    preds_made g dms r h q e =
        let whole = order_made (pred_made ss) (λ dm. DraftIn (length names) dm.0) (PredIn names all) (GrammarIn names size) pred_more pred_next g [] dms r h q e in
        (whole.grammar, whole.longer, subst (Beside (PredIn names all (length r.0.rules)) dms) (sym whole.whole) whole.each)
