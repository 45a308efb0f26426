-- What the assertions of all predicates give is in range.
use Rattle.std.proofs.Common.{◌≡◌, ℕ, suc, ◌+◌, ◌<◌, ◌≤◌, true, List, [], ◌∷◌, ◌++◌, length, refl, ap, sym, ◌∙◌, subst, append_assoc, append-nil, length-append, arith}
use Rattle.std.specs.Prelude.{slice_get, Option, Some, None, option_and_then}
use Rattle.std.specs.List.{list_all, AllByRecursion}
use Rattle.std.proofs.lemmas.List.{length_push}
use Rattle.term_core.specs.Names.{fixed_names}
use Rattle.term_core.proofs.OperandLaws.{none_part, some_part}
use Rattle.prog_data.specs.declared.grammars.Grammar.{Grammar}
use Rattle.prog_data.specs.Ranges.{is_prop_of, is_kind_of}
use Rattle.assertion_normal.specs.Laws.{IsOfPredicate, RangesGrow, NormalsAreInRange}
use Rattle.assertion_normal.specs.declared.outcomes.Normal.{Normal}
use Rattle.unit_scopes.specs.declared.settings.Setting.{Setting}
use Rattle.program_link.specs.Programs.{conditions, next_normal, normals_behind}
use Rattle.program_link.specs.declared.drafts.Draft.{Draft}
use Rattle.program_link.proofs.ProgramGrammars.{prefix_longer, kinds_more, GrammarIn, grammar_grows}
use Rattle.program_link.proofs.ProgramLists.{each_more, each_at}
use Rattle.program_link.proofs.ProgramNames.{DraftIn, SettingIn}

-- what the assertions of the predicate with a number give: its conditions are numbered on from the first number, and ask for arguments of the predicate and for so many grammar names
pub record NormalIn (names size number first : ℕ) (d : Draft) (m : Normal) : Type 0 where
  pub file : ℕ
  pub named : file < names
  pub owned : IsOfPredicate file number first m
  pub conds : AllByRecursion (λ c. is_kind_of d.indicator.arity size c.kind ≡ true) m.conds
  pub entries : AllByRecursion (λ e. list_all (is_prop_of d.indicator.arity size) e.pre ≡ true) m.entries

-- those of predicates, whose numbers follow on one another
abbrev pub AreNormals : (names size number first : ℕ) → List Draft → List Normal → Type 0
AreNormals names size number first [] [] = Unit {0}
AreNormals names size number first [] (m ∷ ms) = ⊥
AreNormals names size number first (d ∷ ds) [] = ⊥
AreNormals names size number first (d ∷ ds) (m ∷ ms) = NormalIn names size number first d m × AreNormals names size (suc number) (length m.conds + first) ds ms

normal_more : RangesGrow → (names size more number first : ℕ) (d : Draft) (m : Normal) → size ≤ more → NormalIn names size number first d m → NormalIn names more number first d m
normal_more grow names size more number first d m le h =
    let arity = d.indicator.arity in
    record {
      file = h.file;
      named = h.named;
      owned = h.owned;
      conds = each_more (λ c. is_kind_of arity size c.kind ≡ true) (λ c. is_kind_of arity more c.kind ≡ true) (λ c e. (grow arity size more le).0 c.kind e) m.conds h.conds;
      entries = each_more (λ e. list_all (is_prop_of arity size) e.pre ≡ true) (λ e. list_all (is_prop_of arity more) e.pre ≡ true) (λ e i. (grow arity size more le).1 e.pre i) m.entries h.entries;
    }

pub normals_grow : RangesGrow → (names size more : ℕ) → size ≤ more → (number first : ℕ) (ds : List Draft) (ms : List Normal) → AreNormals names size number first ds ms → AreNormals names more number first ds ms
normals_grow grow names size more le number first [] [] h = tt
normals_grow grow names size more le number first [] (m ∷ ms) h = absurd h
normals_grow grow names size more le number first (d ∷ ds) [] h = absurd h
normals_grow grow names size more le number first (d ∷ ds) (m ∷ ms) h = (normal_more grow names size more number first d m le h.0, normals_grow grow names size more le (suc number) (length m.conds + first) ds ms h.1)

-- the conditions so far, and one normal more
conditions_push : (done : List Normal) (m : Normal) → length (conditions (done ++ m ∷ [])) ≡ length m.conds + length (conditions done)
conditions_push [] m = let all : length (m.conds ++ []) ≡ length m.conds = ap length (append-nil m.conds) in omega (arith, all)
conditions_push (x ∷ xs) m =
    let rest : length (conditions (xs ++ m ∷ [])) ≡ length m.conds + length (conditions xs) = conditions_push xs m in
    let longer : length (x.conds ++ conditions (xs ++ m ∷ [])) ≡ length x.conds + length (conditions (xs ++ m ∷ [])) = length-append x.conds (conditions (xs ++ m ∷ [])) in
    let before : length (x.conds ++ conditions xs) ≡ length x.conds + length (conditions xs) = length-append x.conds (conditions xs) in
    omega (arith, rest, longer, before)

module _ (grow : RangesGrow) (normals_stay : NormalsAreInRange) (names : List (List ℕ)) (fixed : length fixed_names ≤ length names) (size : ℕ) (all : List Draft) where
  -- what the next assertions give
  record NextIn (g : Grammar) (number first : ℕ) (d : Draft) (made : Grammar × Normal) : Type 0 where
    grammar : GrammarIn names size made.0
    longer : length g.rules ≤ length made.0.rules
    normal : NormalIn (length names) (length made.0.rules) number first d made.1

  next_in : (g : Grammar) (done : List Normal) (d : Draft) (s : Setting) (made : Grammar × Normal) → GrammarIn names size g → DraftIn (length names) d → SettingIn (length names) size all s
      → next_normal names (g, done) d s ≡ Some made → NextIn g (length done) (length (conditions done)) d made
  next_in g done d s made h draft setting e =
      let seen = s.scope.types in
      let is_so = normals_stay names s.file seen g (length done) (length (conditions done)) d.assertions made e in
      let below = kinds_more size (length g.rules) seen h.enough setting.types in
      let longer = prefix_longer g.rules made.0.rules is_so.grown.grows.front in
      let ranged = is_so.range (length names) d.indicator.arity h.range below draft.assertions in
      record {
        grammar = grammar_grows names fixed size g made.0 h longer (λ is. is_so.grown.range is below) is_so.grown.named;
        longer = longer;
        normal = record {
          file = s.file;
          named = setting.file;
          owned = is_so.of_predicate;
          conds = ranged.conds;
          entries = ranged.entries;
        };
      }

  -- what all give, behind what was given so far
  pub record NormalsMade (g : Grammar) (done : List Normal) (ds : List Draft) (r : Grammar × List Normal) : Type 0 where
    pub grammar : GrammarIn names size r.0
    pub longer : length g.rules ≤ length r.0.rules
    pub items : List Normal
    pub whole : r.1 ≡ done ++ items
    pub each : AreNormals (length names) (length r.0.rules) (length done) (length (conditions done)) ds items

  module _ (ss : List Setting) (settings_are : AllByRecursion (SettingIn (length names) size all) ss) where
    pub normals_made : (g : Grammar) (done : List Normal) (ds : List Draft) (r : Grammar × List Normal) → GrammarIn names size g → AllByRecursion (DraftIn (length names)) ds → normals_behind names ss (g, done) ds ≡ Some r → NormalsMade g done ds r
    normals_made g done [] r h q e = subst (λ x. NormalsMade g done [] x) (some_part (g, done) r e) (record { grammar = h; longer = omega arith; items = []; whole = sym (append-nil done); each = tt })
    normals_made g done (d ∷ ds) r h q e = by_setting (λ new m h' e'. normals_made new (done ++ m ∷ []) ds r h' q.1 e') (slice_get ss d.unit) refl e
      where
        onward : Grammar × Normal → Option (Grammar × List Normal)
        onward made = normals_behind names ss (made.0, done ++ made.1 ∷ []) ds

        with_next : (made : Grammar × Normal) → NextIn g (length done) (length (conditions done)) d made → NormalsMade made.0 (done ++ made.1 ∷ []) ds r → NormalsMade g done (d ∷ ds) r
        with_next made one rest =
            let now : length g.rules ≤ length made.0.rules = one.longer in
            let then_on : length made.0.rules ≤ length r.0.rules = rest.longer in
            let pushed : length (done ++ made.1 ∷ []) ≡ length done + 1 = length_push done made.1 in
            let number : length (done ++ made.1 ∷ []) ≡ suc (length done) = omega (arith, pushed) in
            record {
              grammar = rest.grammar;
              longer = omega (arith, now, then_on);
              items = made.1 ∷ rest.items;
              whole = rest.whole ∙ append_assoc done (made.1 ∷ []) rest.items;
              each = (
                normal_more grow (length names) (length made.0.rules) (length r.0.rules) (length done) (length (conditions done)) d made.1 then_on one.normal,
                subst (λ k. AreNormals (length names) (length r.0.rules) k (length made.1.conds + length (conditions done)) ds rest.items) number
                    (subst (λ k. AreNormals (length names) (length r.0.rules) (length (done ++ made.1 ∷ [])) k ds rest.items) (conditions_push done made.1) rest.each),
              );
            }

        by_normal : ((new : Grammar) (m : Normal) → GrammarIn names size new → normals_behind names ss (new, done ++ m ∷ []) ds ≡ Some r → NormalsMade new (done ++ m ∷ []) ds r) → (s : Setting) → SettingIn (length names) size all s
            → (o : Option (Grammar × Normal)) → next_normal names (g, done) d s ≡ o → option_and_then onward o ≡ Some r → NormalsMade g done (d ∷ ds) r
        by_normal later s setting None i e' = absurd (none_part r e')
        by_normal later s setting (Some made) i e' =
            let one = next_in g done d s made h q.0 setting i in
            with_next made one (later made.0 made.1 one.grammar e')

        by_setting : ((new : Grammar) (m : Normal) → GrammarIn names size new → normals_behind names ss (new, done ++ m ∷ []) ds ≡ Some r → NormalsMade new (done ++ m ∷ []) ds r)
            → (o : Option Setting) → slice_get ss d.unit ≡ o → option_and_then onward (option_and_then (next_normal names (g, done) d) o) ≡ Some r → NormalsMade g done (d ∷ ds) r
        by_setting later None i e' = absurd (none_part r e')
        by_setting later (Some s) i e' = by_normal later s (each_at (SettingIn (length names) size all) ss d.unit s settings_are i) (next_normal names (g, done) d s) refl e'
