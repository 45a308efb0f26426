-- A run that is the outcome of another one's run is the only one, since each run ends and has one outcome: so a law in one direction holds in both.
use Rattle.std.proofs.Common.{◌≡◌, ℕ, List, sym, ◌∙◌, subst}
use Rattle.std.specs.Prelude.{Some}
use Rattle.term_core.specs.declared.terms.Term.{Term}
use Rattle.prog_data.specs.declared.programs.Program.{Program}
use Rattle.prog_data.specs.declared.events.Event.{Event}
use Rattle.prog_data.specs.declared.events.Ending.{Ending}
use Rattle.prog_data.specs.Goals.{called_by}
use Rattle.machine_model.specs.Tests.{Tests, every_condition}
use Rattle.machine_model.specs.Run.{RunsFrom, RunsBy, Run, start_of}
use Rattle.machine_model.specs.Laws.{SameUntil}
use Rattle.machine_model.proofs.OneRun.{one_run}
use Rattle.machine_model.proofs.Ends.{ends}

pub some_same : {a b : ℕ} → Some a ≡ Some b → a ≡ b
some_same e = cc

-- two runs of one query are the same
pub one_outcome : (what : Tests) (program : Program) (query : Term) (bound : ℕ) (es es' : List Event) (n n' : ℕ) (e e' : Ending) →
    RunsBy what program query bound es n e → RunsBy what program query bound es' n' e' → (es ≡ es') × (n ≡ n') × (e ≡ e')
one_outcome what program query bound es es' n n' e e' a b =
    let same : a.pred ≡ b.pred = some_same (sym a.calls ∙ b.calls) in
    one_run what program bound (start_of b.pred query) es es' n n' e e' (subst (λ p. RunsFrom what program bound (start_of p query) es n e) same a.runs) b.runs

-- where the one run does not break off, the other has its events and its ending
pub unbroken : (BreaksOff : Ending → Type 0) (One Other : List Event → Ending → Type 0) → SameUntil BreaksOff One Other → (es : List Event) (e : Ending) → One es e → (BreaksOff e → ⊥) → Other es e
unbroken BreaksOff One Other s es e one safe =
    let found = s.both.0 (es, e, one) in
    let same = s.same es found.0 e found.1 one found.2 safe in
    subst (λ es. Other es e) (sym same.0) (subst (λ e. Other found.0 e) (sym same.1) found.2)

pub back : (what : Tests) (program other : Program) (query : Term) (bound p : ℕ) (es : List Event) (e : Ending) → called_by program query ≡ Some p →
    ((es : List Event) (e : Ending) → Run program query bound es e → (tests : ℕ) × RunsBy what other query bound es tests e) → (tests : ℕ) × RunsBy what other query bound es tests e → Run program query bound es e
back what program other query bound p es e called there here =
    let run = ends (every_condition program) program bound (start_of p query) in
    let whole : Run program query bound run.0 run.2 = (run.1, record { pred = p; calls = called; runs = run.3 }) in
    let found = there run.0 run.2 whole in
    let same = one_outcome what other query bound run.0 es found.0 here.0 run.2 e found.1 here.1 in
    subst (λ es. Run program query bound es e) same.0 (subst (λ e. Run program query bound run.0 e) same.2 whole)
