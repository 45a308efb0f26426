-- The assertion that is computed of a sentence is the one that it is written as.
use Rattle.std.proofs.Common.{◌≡◌, ℕ, ◌==◌, Bool, true, false, List, [], ◌∷◌, refl, ap, sym, ◌∙◌}
use Rattle.std.specs.Prelude.{cond, Option, Some, None, option_map}
use Rattle.term_core.specs.declared.terms.Term.{Term, out-Term, roll-Term, roll-out-Term}
use Rattle.term_core.specs.declared.terms.Term as term
use Rattle.term_core.specs.declared.terms.Term.TheOpen as layer
use Rattle.term_core.specs.declared.terms.Term.TheVariants.{outs-Node, rolls-Node}
use Rattle.term_core.specs.declared.fixed.TheConstants.{PRED, CALLS, SUCCESS, COMP, ENTRY, CHECK, TRUST, TRUE, CHECKED, FALSE, NECK, PLUS, COLON, HASH, IMPLIES}
use Rattle.ciao_reader.specs.declared.sentences.Sentence.{Sentence}
use Rattle.term_core.specs.Shapes.{single_of, pair_of, split, with_mark, parts_of}
use Rattle.term_core.proofs.OperandLaws.{none_part, some_part, single_is, of_single, no_pair_of, unsplit, split_none, split_some, eqb-eq}
use Rattle.assertion_read.specs.declared.heads.Head.{Head}
use Rattle.assertion_read.specs.declared.reading.Kind.{Kind}
use Rattle.assertion_read.specs.declared.assertions.Word.{Word}
use Rattle.assertion_read.specs.declared.assertions.Word.TheVariants.{Pred, Calls, Success, Comp, Entry}
use Rattle.assertion_read.specs.declared.assertions.Mark.{Mark}
use Rattle.assertion_read.specs.declared.assertions.Mark.TheVariants.{Check, Trust, True, Checked, False}
use Rattle.assertion_read.specs.declared.assertions.Written.{Written}
use Rattle.assertion_read.specs.declared.assertions.Assertion.{Assertion}
use Rattle.assertion_read.specs.Words.{word_name, mark_name, word_at, mark_at, may_have}
use Rattle.assertion_read.specs.Heads.{head_at}
use Rattle.assertion_read.specs.Properties.{said}
use Rattle.assertion_read.specs.Parts.{Asserted, asserted, keyword_at, behind_mark, keyword_or, directive_at, behind_neck, Fields, with_comp, fields_of}
use Rattle.assertion_read.specs.Readings.{kind_of, fields_are, is_there, pre_said, post_said, comp_said, assembled, about_head, of_fields, of_asserted, assertion_of}
use Rattle.assertion_read.specs.Written.{with_fields, with_status, status_or_check, IsAssertion, AssertionsAreWritten}
use Rattle.assertion_read.proofs.NoFields.{head_no_pair, said_no_sum}

-- the names of keywords and statuses

word_of : (n : ℕ) (w : Word) → word_at n ≡ Some w → n ≡ word_name w
word_of n w e = by (n == PRED) (n == CALLS) (n == SUCCESS) (n == COMP) (n == ENTRY) refl refl refl refl refl e
  where
    by : (a b c d f : Bool) → (n == PRED) ≡ a → (n == CALLS) ≡ b → (n == SUCCESS) ≡ c → (n == COMP) ≡ d → (n == ENTRY) ≡ f →
        cond a (Some Pred) (cond b (Some Calls) (cond c (Some Success) (cond d (Some Comp) (cond f (Some Entry) None)))) ≡ Some w → n ≡ word_name w
    by true b c d f i j k l m e = eqb-eq n PRED i ∙ ap word_name (some_part Pred w e)
    by false true c d f i j k l m e = eqb-eq n CALLS j ∙ ap word_name (some_part Calls w e)
    by false false true d f i j k l m e = eqb-eq n SUCCESS k ∙ ap word_name (some_part Success w e)
    by false false false true f i j k l m e = eqb-eq n COMP l ∙ ap word_name (some_part Comp w e)
    by false false false false true i j k l m e = eqb-eq n ENTRY m ∙ ap word_name (some_part Entry w e)
    by false false false false false i j k l m e = absurd (none_part w e)

mark_of : (n : ℕ) (w : Mark) → mark_at n ≡ Some w → n ≡ mark_name w
mark_of n w e = by (n == CHECK) (n == TRUST) (n == TRUE) (n == CHECKED) (n == FALSE) refl refl refl refl refl e
  where
    by : (a b c d f : Bool) → (n == CHECK) ≡ a → (n == TRUST) ≡ b → (n == TRUE) ≡ c → (n == CHECKED) ≡ d → (n == FALSE) ≡ f →
        cond a (Some Check) (cond b (Some Trust) (cond c (Some True) (cond d (Some Checked) (cond f (Some False) None)))) ≡ Some w → n ≡ mark_name w
    by true b c d f i j k l m e = eqb-eq n CHECK i ∙ ap mark_name (some_part Check w e)
    by false true c d f i j k l m e = eqb-eq n TRUST j ∙ ap mark_name (some_part Trust w e)
    by false false true d f i j k l m e = eqb-eq n TRUE k ∙ ap mark_name (some_part True w e)
    by false false false true f i j k l m e = eqb-eq n CHECKED l ∙ ap mark_name (some_part Checked w e)
    by false false false false true i j k l m e = eqb-eq n FALSE m ∙ ap mark_name (some_part False w e)
    by false false false false false i j k l m e = absurd (none_part w e)

word_back : (w : Word) → word_at (word_name w) ≡ Some w
word_back Pred = refl
word_back Calls = refl
word_back Success = refl
word_back Comp = refl
word_back Entry = refl

mark_back : (m : Mark) → mark_at (mark_name m) ≡ Some m
mark_back Check = refl
mark_back Trust = refl
mark_back True = refl
mark_back Checked = refl
mark_back False = refl

mark_no_word : (m : Mark) → word_at (mark_name m) ≡ None
mark_no_word Check = refl
mark_no_word Trust = refl
mark_no_word True = refl
mark_no_word Checked = refl
mark_no_word False = refl

-- from the computed assertion to the written one

-- a status, a keyword and a body are written so
record Directed (d : Term) (a : Asserted) : Type 0 where
  status : Option Mark
  written : d ≡ with_status status (term.Node (word_name a.word) (a.body ∷ []))
  mark_is : a.mark ≡ status_or_check status

keyword_by : (m : Mark) (x : layer.Term-F Term) (t : Term) (a : Asserted) → roll-Term x ≡ t → keyword_at m x ≡ Some a → (t ≡ term.Node (word_name a.word) (a.body ∷ [])) × (a.mark ≡ m)
keyword_by m (layer.Var v) t a e h = absurd (none_part a h)
keyword_by m (layer.Int v) t a e h = absurd (none_part a h)
keyword_by m (layer.Atom v) t a e h = absurd (none_part a h)
keyword_by m (layer.Node f []) t a e h = absurd (none_part a h)
keyword_by m (layer.Node f (b ∷ [])) t a e h = by (word_at f) refl h
  where
    by : (o : Option Word) → word_at f ≡ o → option_map (asserted m b) o ≡ Some a → (t ≡ term.Node (word_name a.word) (a.body ∷ [])) × (a.mark ≡ m)
    by None i h = absurd (none_part a h)
    by (Some w) i h =
        let s : asserted m b w ≡ a = some_part (asserted m b w) a h in
        (sym e ∙ rolls-Node f (b ∷ []) ∙ ap (λ g. term.Node g (b ∷ [])) (word_of f w i) ∙ ap (λ c. term.Node (word_name c.word) (c.body ∷ [])) s, sym (ap (λ c. c.mark) s))
keyword_by m (layer.Node f (b ∷ c ∷ rest)) t a e h = absurd (none_part a h)

directed_by : (x : layer.Term-F Term) (d : Term) (a : Asserted) → roll-Term x ≡ d → directive_at x ≡ Some a → Directed d a
directed_by (layer.Var v) d a e h = absurd (none_part a h)
directed_by (layer.Int v) d a e h = absurd (none_part a h)
directed_by (layer.Atom v) d a e h = absurd (none_part a h)
directed_by (layer.Node f []) d a e h = absurd (none_part a h)
directed_by (layer.Node f (b ∷ [])) d a e h = by (word_at f) refl h
  where
    marked : (o : Option Mark) → mark_at f ≡ o → behind_mark o b ≡ Some a → Directed d a
    marked None i h = absurd (none_part a h)
    marked (Some m) i h =
        let k = keyword_by m (out-Term b) b a (roll-out-Term b) h in
        record { status = Some m; written = sym e ∙ rolls-Node f (b ∷ []) ∙ ap (λ g. term.Node g (b ∷ [])) (mark_of f m i) ∙ ap (λ c. term.Node (mark_name m) (c ∷ [])) k.0; mark_is = k.1 }

    by : (o : Option Word) → word_at f ≡ o → keyword_or o f b ≡ Some a → Directed d a
    by None i h = marked (mark_at f) refl h
    by (Some w) i h =
        let s : asserted Check b w ≡ a = some_part (asserted Check b w) a h in
        record { status = None; written = sym e ∙ rolls-Node f (b ∷ []) ∙ ap (λ g. term.Node g (b ∷ [])) (word_of f w i) ∙ ap (λ c. term.Node (word_name c.word) (c.body ∷ [])) s; mark_is = sym (ap (λ c. c.mark) s) }
directed_by (layer.Node f (b ∷ c ∷ rest)) d a e h = absurd (none_part a h)

-- the fields, written again
comp_again : (head : Term) (pre post : Option Term) → let f = with_comp head pre post in with_fields f.head f.pre f.post f.comp ≡ with_mark IMPLIES (with_mark COLON head pre) post
comp_again head pre (Some post) = ap (λ t. term.Node IMPLIES (with_mark COLON head pre ∷ t ∷ [])) (unsplit PLUS post)
comp_again head (Some pre) None = ap (λ t. term.Node COLON (head ∷ t ∷ [])) (unsplit PLUS pre)
comp_again head None None = unsplit PLUS head

fields_again : (t : Term) → let f = fields_of t in with_mark HASH (with_fields f.head f.pre f.post f.comp) (split HASH t).1 ≡ t
fields_again t =
    let whole = (split HASH t).0 in
    let rest = split IMPLIES whole in
    let front = split COLON rest.0 in
    ap (λ u. with_mark HASH u (split HASH t).1) (comp_again front.0 front.1 rest.1 ∙ ap (λ u. with_mark IMPLIES u rest.1) (unsplit COLON rest.0) ∙ unsplit IMPLIES whole) ∙ unsplit HASH t

-- what is assembled
record Assembled (kind : Kind) (head : Head) (pre : Option (List Written)) (post : Option (Option (List Written))) (comp : Option (List ℕ)) (a : Assertion) : Type 0 where
  keyword_is : a.keyword ≡ kind.word
  mark_is : a.mark ≡ kind.mark
  name_is : a.name ≡ head.name
  arity_is : a.arity ≡ head.arity
  pre_is : pre ≡ Some a.pre
  post_is : post ≡ Some a.post
  comp_is : comp ≡ Some a.comp
  line_is : a.line ≡ kind.line

assembled_of : (kind : Kind) (head : Head) (pre : Option (List Written)) (post : Option (Option (List Written))) (comp : Option (List ℕ)) (a : Assertion)
    → assembled kind head pre post comp ≡ Some a → Assembled kind head pre post comp a
assembled_of kind head None post comp a e = absurd (none_part a e)
assembled_of kind head (Some pre) None comp a e = absurd (none_part a e)
assembled_of kind head (Some pre) (Some post) None a e = absurd (none_part a e)
assembled_of kind head (Some pre) (Some post) (Some comp) a e =
    let s = sym (some_part _ a e) in
    record {
      keyword_is = ap (λ b. b.keyword) s;
      mark_is = ap (λ b. b.mark) s;
      name_is = ap (λ b. b.name) s;
      arity_is = ap (λ b. b.arity) s;
      pre_is = sym (ap (λ b. Some b.pre) s);
      post_is = sym (ap (λ b. Some b.post) s);
      comp_is = sym (ap (λ b. Some b.comp) s);
      line_is = ap (λ b. b.line) s;
    }

module _ (s : Sentence) (a : Assertion) where
  written_by : (as' : Asserted) (d : Term) → s.term ≡ term.Node NECK (d ∷ []) → Directed d as' → of_fields (kind_of as'.mark as'.word s.line) (fields_of as'.body) ≡ Some a → IsAssertion s a
  written_by as' d whole dir e = may (may_have as'.word (is_there f.pre) (is_there f.post) (is_there f.comp)) refl e
    where
      f : Fields
      f = fields_of as'.body

      kind : Kind
      kind = kind_of as'.mark as'.word s.line

      about : (o : Option Head) → head_at (out-Term f.head) ≡ o → may_have as'.word (is_there f.pre) (is_there f.post) (is_there f.comp) ≡ true
          → about_head kind (parts_of (out-Term f.head)) f.pre f.post f.comp o ≡ Some a → IsAssertion s a
      about None i m e = absurd (none_part a e)
      about (Some head) i m e =
          let x = assembled_of kind head _ _ _ a e in
          record {
            status = dir.status;
            head = f.head;
            pre = f.pre;
            post = f.post;
            comp = f.comp;
            comment = (split HASH as'.body).1;
            about = head;
            whole = whole ∙ ap (λ t. term.Node NECK (t ∷ []))
                (dir.written ∙ ap (λ t. with_status dir.status (term.Node (word_name as'.word) (t ∷ []))) (sym (fields_again as'.body))
                ∙ ap (λ w. with_status dir.status (term.Node (word_name w) (with_mark HASH (with_fields f.head f.pre f.post f.comp) (split HASH as'.body).1 ∷ []))) (sym x.keyword_is));
            fields = ap (λ w. may_have w (is_there f.pre) (is_there f.post) (is_there f.comp)) x.keyword_is ∙ m;
            is_head = i;
            mark_is = x.mark_is ∙ dir.mark_is;
            name_is = x.name_is;
            arity_is = x.arity_is;
            pre_says = x.pre_is;
            post_says = x.post_is;
            comp_says = x.comp_is;
            line_is = x.line_is;
          }

      may : (b : Bool) → may_have as'.word (is_there f.pre) (is_there f.post) (is_there f.comp) ≡ b
          → cond b (about_head kind (parts_of (out-Term f.head)) f.pre f.post f.comp (head_at (out-Term f.head))) None ≡ Some a → IsAssertion s a
      may true i e = about (head_at (out-Term f.head)) refl i e
      may false i e = absurd (none_part a e)

  computed_is_written : assertion_of s ≡ Some a → IsAssertion s a
  computed_is_written e = necked (single_of NECK (out-Term s.term)) refl e
    where
      directed : (d : Term) → s.term ≡ term.Node NECK (d ∷ []) → (o : Option Asserted) → directive_at (out-Term d) ≡ o → of_asserted s.line o ≡ Some a → IsAssertion s a
      directed d whole None i e = absurd (none_part a e)
      directed d whole (Some as') i e = written_by as' d whole (directed_by (out-Term d) d as' (roll-out-Term d) i) e

      necked : (o : Option Term) → single_of NECK (out-Term s.term) ≡ o → of_asserted s.line (behind_neck o) ≡ Some a → IsAssertion s a
      necked None i e = absurd (none_part a e)
      necked (Some d) i e = directed d (single_is NECK s.term d i) (directive_at (out-Term d)) refl e

-- from the written assertion to the computed one

directive_of : (status : Option Mark) (w : Word) (body : Term) → directive_at (out-Term (with_status status (term.Node (word_name w) (body ∷ [])))) ≡ Some (asserted (status_or_check status) body w)
directive_of None w body = ap directive_at (outs-Node (word_name w) (body ∷ [])) ∙ ap (λ o. keyword_or o (word_name w) body) (word_back w)
directive_of (Some m) w body =
    let inner = term.Node (word_name w) (body ∷ []) in
    ap directive_at (outs-Node (mark_name m) (inner ∷ [])) ∙ ap (λ o. keyword_or o (mark_name m) inner) (mark_no_word m) ∙ ap (λ o. behind_mark o inner) (mark_back m)
    ∙ ap (keyword_at m) (outs-Node (word_name w) (body ∷ [])) ∙ ap (option_map (asserted m body)) (word_back w)

-- a term that is no pair of a mark, with a field behind the mark or without
split_mark : (mark : ℕ) (t : Term) (o : Option Term) → pair_of mark (out-Term t) ≡ None → split mark (with_mark mark t o) ≡ (t, o)
split_mark mark t None n = split_none mark t n
split_mark mark t (Some field) n = split_some mark (term.Node mark (t ∷ field ∷ [])) t field refl

other_mark : (mark other : ℕ) (t : Term) (o : Option Term) → (other == mark) ≡ false → pair_of mark (out-Term t) ≡ None → pair_of mark (out-Term (with_mark other t o)) ≡ None
other_mark mark other t None n h = h
other_mark mark other t (Some field) n h = no_pair_of mark other (term.Node other (t ∷ field ∷ [])) t field n refl

module _ (head : Term) (about : Head) (is_head : head_at (out-Term head) ≡ Some about) where
  -- without a postcondition there is no `=>`, and so on
  no_implies : (pre comp : Option Term) → pair_of IMPLIES (out-Term (with_fields head pre None comp)) ≡ None
  no_implies None comp = other_mark IMPLIES PLUS head comp refl (head_no_pair IMPLIES refl refl head about is_head)
  no_implies (Some pre) comp = no_pair_of IMPLIES COLON _ head (with_mark PLUS pre comp) refl refl

  no_colon : (comp : Option Term) → pair_of COLON (out-Term (with_mark PLUS head comp)) ≡ None
  no_colon comp = other_mark COLON PLUS head comp refl (head_no_pair COLON refl refl head about is_head)

  no_hash : (pre post comp : Option Term) → pair_of HASH (out-Term (with_fields head pre post comp)) ≡ None
  no_hash None None comp = other_mark HASH PLUS head comp refl (head_no_pair HASH refl refl head about is_head)
  no_hash (Some pre) None comp = no_pair_of HASH COLON _ head (with_mark PLUS pre comp) refl refl
  no_hash pre (Some post) comp = no_pair_of HASH IMPLIES _ (with_mark COLON head pre) (with_mark PLUS post comp) refl refl

  abbrev comp_split : Term × Option Term → Option Term → Fields
  comp_split front post = with_comp front.0 front.1 post

  -- the fields of what is written are those that were written
  fields_back : (arguments : List Term) (pre post comp comment : Option Term) (ps : List Written) (qs : Option (List Written))
      → pre_said about arguments pre ≡ Some ps → post_said about arguments post ≡ Some qs
      → fields_of (with_mark HASH (with_fields head pre post comp) comment) ≡ fields_are head pre post comp
  fields_back arguments pre post comp comment ps qs p q = ap (λ r. comp_split (split COLON (split IMPLIES r.0).0) (split IMPLIES r.0).1) (split_mark HASH (with_fields head pre post comp) comment (no_hash pre post comp)) ∙ by pre post p q
    where
      post_plus : (t : Term) → option_map (λ xs. Some xs) (said about arguments t) ≡ Some qs → pair_of PLUS (out-Term t) ≡ None
      post_plus t e = inner (said about arguments t) refl e
        where
          inner : (o : Option (List Written)) → said about arguments t ≡ o → option_map (λ xs. Some xs) o ≡ Some qs → pair_of PLUS (out-Term t) ≡ None
          inner None i e = absurd (none_part qs e)
          inner (Some xs) i e = said_no_sum about arguments t xs i

      by : (pre post : Option Term) → pre_said about arguments pre ≡ Some ps → post_said about arguments post ≡ Some qs
          → comp_split (split COLON (split IMPLIES (with_fields head pre post comp)).0) (split IMPLIES (with_fields head pre post comp)).1 ≡ fields_are head pre post comp
      by pre (Some post) p q =
          ap (λ r. comp_split (split COLON r.0) r.1) (split_some IMPLIES _ (with_mark COLON head pre) (with_mark PLUS post comp) refl)
          ∙ ap (λ r. comp_split r (Some (with_mark PLUS post comp))) (split_mark COLON head pre (head_no_pair COLON refl refl head about is_head))
          ∙ ap (λ r. fields_are head pre (Some r.0) r.1) (split_mark PLUS post comp (post_plus post q))
      by (Some pre) None p q =
          ap (λ r. comp_split (split COLON r.0) r.1) (split_none IMPLIES _ (no_implies (Some pre) comp))
          ∙ ap (λ r. comp_split r None) (split_some COLON _ head (with_mark PLUS pre comp) refl)
          ∙ ap (λ r. fields_are head (Some r.0) None r.1) (split_mark PLUS pre comp (said_no_sum about arguments pre ps p))
      by None None p q =
          ap (λ r. comp_split (split COLON r.0) r.1) (split_none IMPLIES _ (no_implies None comp))
          ∙ ap (λ r. comp_split r None) (split_none COLON _ (no_colon comp))
          ∙ ap (λ r. fields_are r.0 None None r.1) (split_mark PLUS head comp (head_no_pair PLUS refl refl head about is_head))

module _ (s : Sentence) (a : Assertion) where
  written_is_computed : IsAssertion s a → assertion_of s ≡ Some a
  written_is_computed x =
      let body = with_mark HASH (with_fields x.head x.pre x.post x.comp) x.comment in
      let arguments = parts_of (out-Term x.head) in
      let kind = kind_of (status_or_check x.status) a.keyword s.line in
      ap (λ o. of_asserted s.line (behind_neck o)) (of_single NECK s.term _ x.whole)
      ∙ ap (of_asserted s.line) (directive_of x.status a.keyword body)
      ∙ ap (of_fields kind) (fields_back x.head x.about x.is_head arguments x.pre x.post x.comp x.comment a.pre a.post x.pre_says x.post_says)
      ∙ ap (λ b. cond b (about_head kind arguments x.pre x.post x.comp (head_at (out-Term x.head))) None) x.fields
      ∙ ap (about_head kind arguments x.pre x.post x.comp) x.is_head
      ∙ ap (λ o. assembled kind x.about o (post_said x.about arguments x.post) (comp_said x.comp)) x.pre_says
      ∙ ap (λ o. assembled kind x.about (Some a.pre) o (comp_said x.comp)) x.post_says
      ∙ ap (assembled kind x.about (Some a.pre) (Some a.post)) x.comp_says
      ∙ ap (λ m. Some (made m x.about.name x.about.arity s.line)) (sym x.mark_is)
      ∙ ap (λ n. Some (made a.mark n x.about.arity s.line)) (sym x.name_is)
      ∙ ap (λ n. Some (made a.mark a.name n s.line)) (sym x.arity_is)
      ∙ ap (λ n. Some (made a.mark a.name a.arity n)) (sym x.line_is)
    where
      made : Mark → ℕ → ℕ → ℕ → Assertion
      made mark name arity line = record { keyword = a.keyword; mark = mark; name = name; arity = arity; pre = a.pre; post = a.post; comp = a.comp; line = line }

pub assertions_are_written : AssertionsAreWritten
assertions_are_written s a = (computed_is_written s a, written_is_computed s a)
