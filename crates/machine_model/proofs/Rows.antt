-- Runs of the small programs, computed.
use Rattle.std.proofs.Common.{◌≡◌, ℕ, zero, suc, Bool, true, false, List, [], ◌∷◌, map, refl, ap}
use Rattle.std.specs.Prelude.{pos, negsuc, Ok, codes}
use Rattle.std.specs.Str.{byte}
use Rattle.term_core.specs.declared.terms.Term.{Term, Atom, Node, out-Term}
use Rattle.term_core.specs.declared.terms.Term.TheBlock as term_block
use Rattle.term_core.specs.declared.terms.Term.TheFolds.{fold-Term}
use Rattle.term_core.proofs.TermFolds as terms
use Rattle.prog_data.specs.declared.goals.Goal.{out-Goal}
use Rattle.prog_data.specs.declared.goals.Goal as goal
use Rattle.prog_data.specs.declared.goals.Goal.TheBlock as goal_block
use Rattle.prog_data.specs.declared.goals.Goal.TheFolds.{fold-Goal}
use Rattle.prog_data.proofs.GoalFolds as goals
use Rattle.prog_data.specs.Arithmetic.{value}
use Rattle.prog_data.specs.declared.programs.Program.{Program}
use Rattle.prog_data.specs.declared.tables.Status.TheVariants as status
use Rattle.prog_data.specs.declared.events.ArithKind.TheVariants.{Overflow}
use Rattle.prog_data.specs.declared.events.Event.{Event}
use Rattle.prog_data.specs.declared.events.Event.TheVariants.{Out, Answer, Broken}
use Rattle.prog_data.specs.declared.events.Ending.{Ending}
use Rattle.prog_data.specs.declared.events.Ending.TheVariants.{NoMore, Bound, Violated, Cyclic, Arithmetic}
use Rattle.machine_model.specs.State.{State, Trace, Going, Over}
use Rattle.term_core.specs.Printing.{Printed, shown_of}
use Rattle.machine_model.proofs.Parts.{goes_on}
use Rattle.machine_model.specs.Tests.{Tests, every_condition, kept_checks, told}
use Rattle.machine_model.specs.Run.{steps, start_of}
use Rattle.machine_model.specs.Instrumented.{instrumented}
use Rattle.term_core.specs.declared.fixed.TheConstants.{PLUS, QUOTIENT, REMAINDER, MODULO}
use Rattle.machine_model.proofs.Samples.{p, q, f, a, b, number, negative, X, Y, at, two_entries, promised, promised_once, counted, twice, cycle, cycle_or_clash, evaluated, least, one_answer, never_fails, exits_once, control, once, broken_twice, four, divided, chosen, negated_twice, written, negated_in_turn, otherwise, cut_in_condition, cut_in_negation, cut_in_branch, not_cyclic, entered_divisions, one_divided, three_divided, entered_choice, second_choice}
use denote.Hole.Carrier

-- numbers that wait for a fold so often: with these beside it, an equation of a fold may be used more often than a run needs it
abbrev pub terms_wait : Bool → ℕ → ℕ
terms_wait false n = 0
terms_wait true zero = 0
terms_wait true (suc n) = terms_wait (fold-Term Bool (λ layer. true) (Atom 0)) n

abbrev pub goals_wait : Bool → ℕ → ℕ
goals_wait false n = 0
goals_wait true zero = 0
goals_wait true (suc n) = goals_wait (fold-Goal Bool (λ layer. true) goal.True) n

abbrev pub Computes : ℕ → Trace → Trace → Type 0
Computes n found wanted = ◌≡◌ {A = List Trace × ℕ × ℕ} (found ∷ [], terms_wait true n, goals_wait true n) (wanted ∷ [], 0, 0)

abbrev pub run_by : Tests → Program → ℕ → Term → ℕ → Trace
run_by what program pred query bound = steps what program bound 100 (Going (start_of pred query))

abbrev pub run : Program → ℕ → Term → Trace
run program pred query = run_by (every_condition program) program pred query 1000

abbrev pub ends : List Event → ℕ → Ending → Trace
ends events tests ending = record { events = events; tests = tests; phase = Over ending }

abbrev pub one : ℕ → Term → Term
one name t = Node name (t ∷ [])

-- `p(f(a))`: neither disjunct of the calls condition holds
pub neither_disjunct : Computes 1 (run two_entries 0 (one p (f a))) (ends [] 1 (Violated 0))
unfolding term_block.hidden-the_row-Term-0 term_block.shape-the_row-Term-0 term_block.shown-the_row-Term-0 out-Term goal_block.hidden-the_row-Goal-0 goal_block.shape-the_row-Goal-0 goal_block.shown-the_row-Goal-0 out-Goal Carrier.hidden Carrier.shown Carrier.out
neither_disjunct = rw (terms.all_folds, terms_wait) (rw (goals.all_folds, goals_wait) (refl))

-- `p(b)`: the second disjunct holds
pub one_disjunct : Computes 3 (run two_entries 0 (one p b)) (ends (Answer (one p b) ∷ []) 1 NoMore)
unfolding term_block.hidden-the_row-Term-0 term_block.shape-the_row-Term-0 term_block.shown-the_row-Term-0 out-Term goal_block.hidden-the_row-Goal-0 goal_block.shape-the_row-Goal-0 goal_block.shown-the_row-Goal-0 out-Goal Carrier.hidden Carrier.shown Carrier.out
one_disjunct = rw (terms.all_folds, terms_wait) (rw (goals.all_folds, goals_wait) (rw (terms.all_folds, terms_wait) (rw (goals.all_folds, goals_wait) (rw (terms.all_folds, terms_wait) (rw (goals.all_folds, goals_wait) (refl))))))

-- `p(Y)`: `int(Y)` holds only after the call, so nothing is noted
pub noted_later : Computes 5 (run promised_once 0 (one p X)) (ends (Answer (one p (number 1)) ∷ []) 1 NoMore)
unfolding term_block.hidden-the_row-Term-0 term_block.shape-the_row-Term-0 term_block.shown-the_row-Term-0 out-Term goal_block.hidden-the_row-Goal-0 goal_block.shape-the_row-Goal-0 goal_block.shown-the_row-Goal-0 out-Goal Carrier.hidden Carrier.shown Carrier.out
noted_later = rw (terms.all_folds, terms_wait) (rw (goals.all_folds, goals_wait) (rw (terms.all_folds, terms_wait) (rw (goals.all_folds, goals_wait) (rw (terms.all_folds, terms_wait) (rw (goals.all_folds, goals_wait) (rw (terms.all_folds, terms_wait) (rw (goals.all_folds, goals_wait) (rw (terms.all_folds, terms_wait) (rw (goals.all_folds, goals_wait) (refl))))))))))

-- `p(1)`: `int(1)` holds at the call, and `atm(1)` does not at the exit
pub noted : Computes 3 (run promised 0 (one p (number 1))) (ends [] 2 (Violated 0))
unfolding term_block.hidden-the_row-Term-0 term_block.shape-the_row-Term-0 term_block.shown-the_row-Term-0 out-Term goal_block.hidden-the_row-Goal-0 goal_block.shape-the_row-Goal-0 goal_block.shown-the_row-Goal-0 out-Goal Carrier.hidden Carrier.shown Carrier.out
noted = rw (terms.all_folds, terms_wait) (rw (goals.all_folds, goals_wait) (rw (terms.all_folds, terms_wait) (rw (goals.all_folds, goals_wait) (rw (terms.all_folds, terms_wait) (rw (goals.all_folds, goals_wait) (refl))))))

-- and with one it is not known
pub one_call : Computes 2 (run_by (every_condition counted) counted 0 (one p (f a)) 1) (ends [] 0 Bound)
unfolding term_block.hidden-the_row-Term-0 term_block.shape-the_row-Term-0 term_block.shown-the_row-Term-0 out-Term goal_block.hidden-the_row-Goal-0 goal_block.shape-the_row-Goal-0 goal_block.shown-the_row-Goal-0 out-Goal Carrier.hidden Carrier.shown Carrier.out
one_call = rw (terms.all_folds, terms_wait) (rw (goals.all_folds, goals_wait) (rw (terms.all_folds, terms_wait) (rw (goals.all_folds, goals_wait) (refl))))

-- `p(X,f(X))`: the cycle comes of the head
pub cyclic_head : Computes 3 (run twice 0 (Node p (X ∷ f X ∷ []))) (ends [] 0 (Cyclic (at 2)))
unfolding term_block.hidden-the_row-Term-0 term_block.shape-the_row-Term-0 term_block.shown-the_row-Term-0 out-Term goal_block.hidden-the_row-Goal-0 goal_block.shape-the_row-Goal-0 goal_block.shown-the_row-Goal-0 out-Goal Carrier.hidden Carrier.shown Carrier.out
cyclic_head = rw (terms.all_folds, terms_wait) (rw (goals.all_folds, goals_wait) (rw (terms.all_folds, terms_wait) (rw (goals.all_folds, goals_wait) (rw (terms.all_folds, terms_wait) (rw (goals.all_folds, goals_wait) (refl))))))

-- `X = f(X)`: the run ends at the clause's place
pub cyclic_goal : Computes 3 (run cycle 0 (Atom p)) (ends [] 0 (Cyclic (at 2)))
unfolding term_block.hidden-the_row-Term-0 term_block.shape-the_row-Term-0 term_block.shown-the_row-Term-0 out-Term goal_block.hidden-the_row-Goal-0 goal_block.shape-the_row-Goal-0 goal_block.shown-the_row-Goal-0 out-Goal Carrier.hidden Carrier.shown Carrier.out
cyclic_goal = rw (terms.all_folds, terms_wait) (rw (goals.all_folds, goals_wait) (rw (terms.all_folds, terms_wait) (rw (goals.all_folds, goals_wait) (rw (terms.all_folds, terms_wait) (rw (goals.all_folds, goals_wait) (refl))))))

-- `f(X,a) = f(f(X),b)`: the cycle comes before the clash
pub cycle_first : Computes 3 (run cycle_or_clash 0 (Atom p)) (ends [] 0 (Cyclic (at 2)))
unfolding term_block.hidden-the_row-Term-0 term_block.shape-the_row-Term-0 term_block.shown-the_row-Term-0 out-Term goal_block.hidden-the_row-Goal-0 goal_block.shape-the_row-Goal-0 goal_block.shown-the_row-Goal-0 out-Goal Carrier.hidden Carrier.shown Carrier.out
cycle_first = rw (terms.all_folds, terms_wait) (rw (goals.all_folds, goals_wait) (rw (terms.all_folds, terms_wait) (rw (goals.all_folds, goals_wait) (rw (terms.all_folds, terms_wait) (rw (goals.all_folds, goals_wait) (refl))))))

-- `f(a,X) = f(b,f(X))`: the clash comes before the cycle
pub clash_first : Computes 2 (run cycle_or_clash 1 (Atom q)) (ends [] 0 NoMore)
unfolding term_block.hidden-the_row-Term-0 term_block.shape-the_row-Term-0 term_block.shown-the_row-Term-0 out-Term goal_block.hidden-the_row-Goal-0 goal_block.shape-the_row-Goal-0 goal_block.shown-the_row-Goal-0 out-Goal Carrier.hidden Carrier.shown Carrier.out
clash_first = rw (terms.all_folds, terms_wait) (rw (goals.all_folds, goals_wait) (rw (terms.all_folds, terms_wait) (rw (goals.all_folds, goals_wait) (refl))))

-- a sum of more than 64 bits
pub overflow : Computes 2 (run (evaluated PLUS (number 9223372036854775807) (number 1)) 0 (one p X)) (ends [] 0 (Arithmetic Overflow (at 2)))
unfolding term_block.hidden-the_row-Term-0 term_block.shape-the_row-Term-0 term_block.shown-the_row-Term-0 out-Term goal_block.hidden-the_row-Goal-0 goal_block.shape-the_row-Goal-0 goal_block.shown-the_row-Goal-0 out-Goal Carrier.hidden Carrier.shown Carrier.out
overflow = rw (terms.all_folds, terms_wait) (rw (goals.all_folds, goals_wait) (rw (terms.all_folds, terms_wait) (rw (goals.all_folds, goals_wait) (refl))))

-- `-7 // 2`, `-7 rem 2`, `-7 mod 2` and `7 mod -2`
pub signs : map value (Node QUOTIENT (negative 6 ∷ number 2 ∷ []) ∷ Node REMAINDER (negative 6 ∷ number 2 ∷ []) ∷ Node MODULO (negative 6 ∷ number 2 ∷ []) ∷ Node MODULO (number 7 ∷ negative 1 ∷ []) ∷ []) ≡ map Ok (negsuc 2 ∷ negsuc 0 ∷ pos 1 ∷ negsuc 0 ∷ [])
unfolding term_block.hidden-the_row-Term-0 term_block.shape-the_row-Term-0 term_block.shown-the_row-Term-0 out-Term goal_block.hidden-the_row-Goal-0 goal_block.shape-the_row-Goal-0 goal_block.shown-the_row-Goal-0 out-Goal Carrier.hidden Carrier.shown Carrier.out
signs = rw terms.all_folds refl

-- the least number
pub least_number : Computes 3 (run least 0 (one p X)) (ends (Answer (one p (negative 9223372036854775807)) ∷ []) 0 NoMore)
unfolding term_block.hidden-the_row-Term-0 term_block.shape-the_row-Term-0 term_block.shown-the_row-Term-0 out-Term goal_block.hidden-the_row-Goal-0 goal_block.shape-the_row-Goal-0 goal_block.shown-the_row-Goal-0 out-Goal Carrier.hidden Carrier.shown Carrier.out
least_number = rw (terms.all_folds, terms_wait) (rw (goals.all_folds, goals_wait) (rw (terms.all_folds, terms_wait) (rw (goals.all_folds, goals_wait) (rw (terms.all_folds, terms_wait) (rw (goals.all_folds, goals_wait) (refl))))))

-- `p(X)`: the second exit breaks `is_det`
pub second_exit : Computes 3 (run one_answer 0 (one p X)) (ends (Answer (one p (number 1)) ∷ []) 1 (Violated 0))
unfolding term_block.hidden-the_row-Term-0 term_block.shape-the_row-Term-0 term_block.shown-the_row-Term-0 out-Term goal_block.hidden-the_row-Goal-0 goal_block.shape-the_row-Goal-0 goal_block.shown-the_row-Goal-0 out-Goal Carrier.hidden Carrier.shown Carrier.out
second_exit = rw (terms.all_folds, terms_wait) (rw (goals.all_folds, goals_wait) (rw (terms.all_folds, terms_wait) (rw (goals.all_folds, goals_wait) (rw (terms.all_folds, terms_wait) (rw (goals.all_folds, goals_wait) (refl))))))

-- `q(X)`: the cut takes the mark of `p` off
pub mark_cut : Computes 5 (run one_answer 1 (one q X)) (ends (Answer (one q (number 1)) ∷ []) 1 NoMore)
unfolding term_block.hidden-the_row-Term-0 term_block.shape-the_row-Term-0 term_block.shown-the_row-Term-0 out-Term goal_block.hidden-the_row-Goal-0 goal_block.shape-the_row-Goal-0 goal_block.shown-the_row-Goal-0 out-Goal Carrier.hidden Carrier.shown Carrier.out
mark_cut = rw (terms.all_folds, terms_wait) (rw (goals.all_folds, goals_wait) (rw (terms.all_folds, terms_wait) (rw (goals.all_folds, goals_wait) (rw (terms.all_folds, terms_wait) (rw (goals.all_folds, goals_wait) (rw (terms.all_folds, terms_wait) (rw (goals.all_folds, goals_wait) (rw (terms.all_folds, terms_wait) (rw (goals.all_folds, goals_wait) (refl))))))))))

-- `p`: the cut in `q` leaves the mark of `q`
pub own_mark : Computes 2 (run never_fails 1 (Atom p)) (ends [] 1 (Violated 0))
unfolding term_block.hidden-the_row-Term-0 term_block.shape-the_row-Term-0 term_block.shown-the_row-Term-0 out-Term goal_block.hidden-the_row-Goal-0 goal_block.shape-the_row-Goal-0 goal_block.shown-the_row-Goal-0 out-Goal Carrier.hidden Carrier.shown Carrier.out
own_mark = rw (terms.all_folds, terms_wait) (rw (goals.all_folds, goals_wait) (rw (terms.all_folds, terms_wait) (rw (goals.all_folds, goals_wait) (refl))))

-- `p`: failure after an exit breaks no `not_fails`
pub exited : Computes 2 (run exits_once 0 (Atom p)) (ends (Answer (Atom p) ∷ []) 1 NoMore)
unfolding term_block.hidden-the_row-Term-0 term_block.shape-the_row-Term-0 term_block.shown-the_row-Term-0 out-Term goal_block.hidden-the_row-Goal-0 goal_block.shape-the_row-Goal-0 goal_block.shown-the_row-Goal-0 out-Goal Carrier.hidden Carrier.shown Carrier.out
exited = rw (terms.all_folds, terms_wait) (rw (goals.all_folds, goals_wait) (rw (terms.all_folds, terms_wait) (rw (goals.all_folds, goals_wait) (refl))))

-- a disjunction in order, and a cut, which takes its last branch off
pub controlled : Computes 2 (run control 0 (Atom p)) (ends (Answer (Atom p) ∷ []) 0 NoMore)
unfolding term_block.hidden-the_row-Term-0 term_block.shape-the_row-Term-0 term_block.shown-the_row-Term-0 out-Term goal_block.hidden-the_row-Goal-0 goal_block.shape-the_row-Goal-0 goal_block.shown-the_row-Goal-0 out-Goal Carrier.hidden Carrier.shown Carrier.out
controlled = rw (terms.all_folds, terms_wait) (rw (goals.all_folds, goals_wait) (rw (terms.all_folds, terms_wait) (rw (goals.all_folds, goals_wait) (refl))))

-- a condition is solved once, and the other branch is not taken then
pub condition_once : Computes 2 (run once 0 (Atom p)) (ends (Out (byte "\n" ∷ []) ∷ Answer (Atom p) ∷ []) 0 NoMore)
unfolding term_block.hidden-the_row-Term-0 term_block.shape-the_row-Term-0 term_block.shown-the_row-Term-0 out-Term goal_block.hidden-the_row-Goal-0 goal_block.shape-the_row-Goal-0 goal_block.shown-the_row-Goal-0 out-Goal Carrier.hidden Carrier.shown Carrier.out
condition_once = rw (terms.all_folds, terms_wait) (rw (goals.all_folds, goals_wait) (rw (terms.all_folds, terms_wait) (rw (goals.all_folds, goals_wait) (refl))))

-- a negation holds where its goal fails, and only there: `once` would end no line
pub negated_one_way : Computes 3 (run negated_in_turn 0 (Atom p)) (ends (Out (byte "\n" ∷ []) ∷ Answer (Atom p) ∷ []) 0 NoMore)
unfolding term_block.hidden-the_row-Term-0 term_block.shape-the_row-Term-0 term_block.shown-the_row-Term-0 out-Term goal_block.hidden-the_row-Goal-0 goal_block.shape-the_row-Goal-0 goal_block.shown-the_row-Goal-0 out-Goal Carrier.hidden Carrier.shown Carrier.out
negated_one_way = rw (terms.all_folds, terms_wait) (rw (goals.all_folds, goals_wait) (rw (terms.all_folds, terms_wait) (rw (goals.all_folds, goals_wait) (rw (terms.all_folds, terms_wait) (rw (goals.all_folds, goals_wait) (refl))))))

-- where the condition fails the other branch is taken
pub other_branch : Computes 3 (run otherwise 0 (Atom p)) (ends (Out (byte "\n" ∷ []) ∷ Answer (Atom p) ∷ []) 0 NoMore)
unfolding term_block.hidden-the_row-Term-0 term_block.shape-the_row-Term-0 term_block.shown-the_row-Term-0 out-Term goal_block.hidden-the_row-Goal-0 goal_block.shape-the_row-Goal-0 goal_block.shown-the_row-Goal-0 out-Goal Carrier.hidden Carrier.shown Carrier.out
other_branch = rw (terms.all_folds, terms_wait) (rw (goals.all_folds, goals_wait) (rw (terms.all_folds, terms_wait) (rw (goals.all_folds, goals_wait) (rw (terms.all_folds, terms_wait) (rw (goals.all_folds, goals_wait) (refl))))))

-- a cut in a condition is local to it
pub local_in_condition : Computes 3 (run cut_in_condition 0 (Atom p)) (ends (Answer (Atom p) ∷ Out (byte "\n" ∷ []) ∷ Answer (Atom p) ∷ []) 0 NoMore)
unfolding term_block.hidden-the_row-Term-0 term_block.shape-the_row-Term-0 term_block.shown-the_row-Term-0 out-Term goal_block.hidden-the_row-Goal-0 goal_block.shape-the_row-Goal-0 goal_block.shown-the_row-Goal-0 out-Goal Carrier.hidden Carrier.shown Carrier.out
local_in_condition = rw (terms.all_folds, terms_wait) (rw (goals.all_folds, goals_wait) (rw (terms.all_folds, terms_wait) (rw (goals.all_folds, goals_wait) (rw (terms.all_folds, terms_wait) (rw (goals.all_folds, goals_wait) (refl))))))

-- a cut under a negation is local to it
pub local_in_negation : Computes 3 (run cut_in_negation 0 (Atom p)) (ends (Answer (Atom p) ∷ Out (byte "\n" ∷ []) ∷ Answer (Atom p) ∷ []) 0 NoMore)
unfolding term_block.hidden-the_row-Term-0 term_block.shape-the_row-Term-0 term_block.shown-the_row-Term-0 out-Term goal_block.hidden-the_row-Goal-0 goal_block.shape-the_row-Goal-0 goal_block.shown-the_row-Goal-0 out-Goal Carrier.hidden Carrier.shown Carrier.out
local_in_negation = rw (terms.all_folds, terms_wait) (rw (goals.all_folds, goals_wait) (rw (terms.all_folds, terms_wait) (rw (goals.all_folds, goals_wait) (rw (terms.all_folds, terms_wait) (rw (goals.all_folds, goals_wait) (refl))))))

-- a cut in a branch is the clause's
pub cut_of_branch : Computes 3 (run cut_in_branch 0 (Atom p)) (ends (Answer (Atom p) ∷ []) 0 NoMore)
unfolding term_block.hidden-the_row-Term-0 term_block.shape-the_row-Term-0 term_block.shown-the_row-Term-0 out-Term goal_block.hidden-the_row-Goal-0 goal_block.shape-the_row-Goal-0 goal_block.shown-the_row-Goal-0 out-Goal Carrier.hidden Carrier.shown Carrier.out
cut_of_branch = rw (terms.all_folds, terms_wait) (rw (goals.all_folds, goals_wait) (rw (terms.all_folds, terms_wait) (rw (goals.all_folds, goals_wait) (rw (terms.all_folds, terms_wait) (rw (goals.all_folds, goals_wait) (refl))))))

-- `X \\= f(X)` ends as a cycle
pub cyclic_under_negation : Computes 4 (run not_cyclic 0 (Atom p)) (ends [] 0 (Cyclic (at 2)))
unfolding term_block.hidden-the_row-Term-0 term_block.shape-the_row-Term-0 term_block.shown-the_row-Term-0 out-Term goal_block.hidden-the_row-Goal-0 goal_block.shape-the_row-Goal-0 goal_block.shown-the_row-Goal-0 out-Goal Carrier.hidden Carrier.shown Carrier.out
cyclic_under_negation = rw (terms.all_folds, terms_wait) (rw (goals.all_folds, goals_wait) (rw (terms.all_folds, terms_wait) (rw (goals.all_folds, goals_wait) (rw (terms.all_folds, terms_wait) (rw (goals.all_folds, goals_wait) (rw (terms.all_folds, terms_wait) (rw (goals.all_folds, goals_wait) (refl))))))))

-- `p(X)`: a negation binds nothing
pub bound_by_none : Computes 6 (run negated_twice 0 (one p X)) (ends (Answer (one p Y) ∷ []) 0 NoMore)
unfolding term_block.hidden-the_row-Term-0 term_block.shape-the_row-Term-0 term_block.shown-the_row-Term-0 out-Term goal_block.hidden-the_row-Goal-0 goal_block.shape-the_row-Goal-0 goal_block.shown-the_row-Goal-0 out-Goal Carrier.hidden Carrier.shown Carrier.out
bound_by_none = rw (terms.all_folds, terms_wait) (rw (goals.all_folds, goals_wait) (rw (terms.all_folds, terms_wait) (rw (goals.all_folds, goals_wait) (rw (terms.all_folds, terms_wait) (rw (goals.all_folds, goals_wait) (rw (terms.all_folds, terms_wait) (rw (goals.all_folds, goals_wait) (rw (terms.all_folds, terms_wait) (rw (goals.all_folds, goals_wait) (rw (terms.all_folds, terms_wait) (rw (goals.all_folds, goals_wait) (refl))))))))))))

-- `p(X)`: each clause writes, and the exit of the second breaks the condition
pub written_before : Computes 7 (run written 0 (one p X)) (ends (Out (codes "one") ∷ Out (byte "\n" ∷ []) ∷ Answer (one p (number 1)) ∷ Out (codes "two") ∷ Out (byte "\n" ∷ []) ∷ []) 3 (Violated 0))
unfolding term_block.hidden-the_row-Term-0 term_block.shape-the_row-Term-0 term_block.shown-the_row-Term-0 out-Term goal_block.hidden-the_row-Goal-0 goal_block.shape-the_row-Goal-0 goal_block.shown-the_row-Goal-0 out-Goal Carrier.hidden Carrier.shown Carrier.out
written_before = rw (terms.all_folds, terms_wait, Printed, shown_of) (rw (goals.all_folds, goals_wait, Printed, shown_of) (rw (terms.all_folds, terms_wait, Printed, shown_of) (rw (goals.all_folds, goals_wait, Printed, shown_of) (rw (terms.all_folds, terms_wait, Printed, shown_of) (rw (goals.all_folds, goals_wait, Printed, shown_of) (rw (terms.all_folds, terms_wait, Printed, shown_of) (rw (goals.all_folds, goals_wait, Printed, shown_of) (rw (terms.all_folds, terms_wait, Printed, shown_of) (rw (goals.all_folds, goals_wait, Printed, shown_of) (rw (terms.all_folds, terms_wait, Printed, shown_of) (rw (goals.all_folds, goals_wait, Printed, shown_of) (rw (terms.all_folds, terms_wait, Printed, shown_of) (rw (goals.all_folds, goals_wait, Printed, shown_of) (refl))))))))))))))

-- where it does not, the first ends the run
pub stopped : Computes 2 (run broken_twice 0 (Atom p)) (ends [] 2 (Violated 0))
unfolding term_block.hidden-the_row-Term-0 term_block.shape-the_row-Term-0 term_block.shown-the_row-Term-0 out-Term goal_block.hidden-the_row-Goal-0 goal_block.shape-the_row-Goal-0 goal_block.shown-the_row-Goal-0 out-Goal Carrier.hidden Carrier.shown Carrier.out
stopped = rw (terms.all_folds, terms_wait) (rw (goals.all_folds, goals_wait) (rw (terms.all_folds, terms_wait) (rw (goals.all_folds, goals_wait) (refl))))

-- each broken condition of an exit is told, and the run goes on
pub told_on : Computes 2 (run_by (told (every_condition broken_twice)) broken_twice 0 (Atom p) 1000) (ends (Broken 0 ∷ Broken 1 ∷ Answer (Atom p) ∷ []) 2 NoMore)
unfolding term_block.hidden-the_row-Term-0 term_block.shape-the_row-Term-0 term_block.shown-the_row-Term-0 out-Term goal_block.hidden-the_row-Goal-0 goal_block.shape-the_row-Goal-0 goal_block.shown-the_row-Goal-0 out-Goal Carrier.hidden Carrier.shown Carrier.out
told_on = rw (terms.all_folds, terms_wait) (rw (goals.all_folds, goals_wait) (rw (terms.all_folds, terms_wait) (rw (goals.all_folds, goals_wait) (refl))))

-- `p(1)` by the checks, where the condition is not checked
pub kept : Computes 3 (run_by (kept_checks (instrumented promised (status.Check ∷ []))) (instrumented promised (status.Check ∷ [])) 0 (one p (number 1)) 1000) (ends [] 2 (Violated 0))
unfolding term_block.hidden-the_row-Term-0 term_block.shape-the_row-Term-0 term_block.shown-the_row-Term-0 out-Term goal_block.hidden-the_row-Goal-0 goal_block.shape-the_row-Goal-0 goal_block.shown-the_row-Goal-0 out-Goal Carrier.hidden Carrier.shown Carrier.out
kept = rw (terms.all_folds, terms_wait) (rw (goals.all_folds, goals_wait) (rw (terms.all_folds, terms_wait) (rw (goals.all_folds, goals_wait) (rw (terms.all_folds, terms_wait) (rw (goals.all_folds, goals_wait) (refl))))))

-- and where it is
pub dropped : Computes 3 (run_by (kept_checks (instrumented promised (status.Checked ∷ []))) (instrumented promised (status.Checked ∷ [])) 0 (one p (number 1)) 1000) (ends (Answer (one p (number 1)) ∷ []) 0 NoMore)
unfolding term_block.hidden-the_row-Term-0 term_block.shape-the_row-Term-0 term_block.shown-the_row-Term-0 out-Term goal_block.hidden-the_row-Goal-0 goal_block.shape-the_row-Goal-0 goal_block.shown-the_row-Goal-0 out-Goal Carrier.hidden Carrier.shown Carrier.out
dropped = rw (terms.all_folds, terms_wait) (rw (goals.all_folds, goals_wait) (rw (terms.all_folds, terms_wait) (rw (goals.all_folds, goals_wait) (rw (terms.all_folds, terms_wait) (rw (goals.all_folds, goals_wait) (refl))))))

abbrev pub goes : State → Trace
goes s = record { events = []; tests = 0; phase = Going s }

-- the steps of a run from a state on
abbrev pub from : Program → ℕ → State → Trace
from program k s = steps (every_condition program) program 1000 k (Going s)

-- the trace that is computed
abbrev pub first_of : Trace → List Trace → Trace
first_of other [] = other
first_of other (t ∷ ts) = t

pub computed : (n : ℕ) (found wanted : Trace) → Computes n found wanted → found ≡ wanted
computed n found wanted c = ap (λ x. first_of found x.0) c

-- the clause is entered
pub divisions_entered : Computes 5 (from divided 5 (start_of 0 (one p X))) (goes entered_divisions)
unfolding term_block.hidden-the_row-Term-0 term_block.shape-the_row-Term-0 term_block.shown-the_row-Term-0 out-Term goal_block.hidden-the_row-Goal-0 goal_block.shape-the_row-Goal-0 goal_block.shown-the_row-Goal-0 out-Goal Carrier.hidden Carrier.shown Carrier.out
divisions_entered = rw (terms.all_folds, terms_wait) (rw (goals.all_folds, goals_wait) (rw (terms.all_folds, terms_wait) (rw (goals.all_folds, goals_wait) (rw (terms.all_folds, terms_wait) (rw (goals.all_folds, goals_wait) (rw (terms.all_folds, terms_wait) (rw (goals.all_folds, goals_wait) (rw (terms.all_folds, terms_wait) (rw (goals.all_folds, goals_wait) (refl))))))))))

-- the first division
pub first_division : Computes 5 (from divided 5 entered_divisions) (goes one_divided)
unfolding term_block.hidden-the_row-Term-0 term_block.shape-the_row-Term-0 term_block.shown-the_row-Term-0 out-Term goal_block.hidden-the_row-Goal-0 goal_block.shape-the_row-Goal-0 goal_block.shown-the_row-Goal-0 out-Goal Carrier.hidden Carrier.shown Carrier.out
first_division = rw (terms.all_folds, terms_wait) (rw (goals.all_folds, goals_wait) (rw (terms.all_folds, terms_wait) (rw (goals.all_folds, goals_wait) (rw (terms.all_folds, terms_wait) (rw (goals.all_folds, goals_wait) (rw (terms.all_folds, terms_wait) (rw (goals.all_folds, goals_wait) (rw (terms.all_folds, terms_wait) (rw (goals.all_folds, goals_wait) (refl))))))))))

-- the second and the third
pub more_divisions : Computes 6 (from divided 10 one_divided) (goes three_divided)
unfolding term_block.hidden-the_row-Term-0 term_block.shape-the_row-Term-0 term_block.shown-the_row-Term-0 out-Term goal_block.hidden-the_row-Goal-0 goal_block.shape-the_row-Goal-0 goal_block.shown-the_row-Goal-0 out-Goal Carrier.hidden Carrier.shown Carrier.out
more_divisions = rw (terms.all_folds, terms_wait) (rw (goals.all_folds, goals_wait) (rw (terms.all_folds, terms_wait) (rw (goals.all_folds, goals_wait) (rw (terms.all_folds, terms_wait) (rw (goals.all_folds, goals_wait) (rw (terms.all_folds, terms_wait) (rw (goals.all_folds, goals_wait) (rw (terms.all_folds, terms_wait) (rw (goals.all_folds, goals_wait) (rw (terms.all_folds, terms_wait) (rw (goals.all_folds, goals_wait) (refl))))))))))))

-- the last, the answer and the end
pub last_division : Computes 5 (from divided 80 three_divided) (ends (Answer (one p (four (negative 2) (negative 0) (number 1) (negative 0))) ∷ []) 0 NoMore)
unfolding term_block.hidden-the_row-Term-0 term_block.shape-the_row-Term-0 term_block.shown-the_row-Term-0 out-Term goal_block.hidden-the_row-Goal-0 goal_block.shape-the_row-Goal-0 goal_block.shown-the_row-Goal-0 out-Goal Carrier.hidden Carrier.shown Carrier.out
last_division = rw (terms.all_folds, terms_wait) (rw (goals.all_folds, goals_wait) (rw (terms.all_folds, terms_wait) (rw (goals.all_folds, goals_wait) (rw (terms.all_folds, terms_wait) (rw (goals.all_folds, goals_wait) (rw (terms.all_folds, terms_wait) (rw (goals.all_folds, goals_wait) (rw (terms.all_folds, terms_wait) (rw (goals.all_folds, goals_wait) (refl))))))))))

-- `p(X)`: four divisions, one after the other
pub divisions : run divided 0 (one p X) ≡ ends (Answer (one p (four (negative 2) (negative 0) (number 1) (negative 0))) ∷ []) 0 NoMore
divisions =
    let wanted = ends (Answer (one p (four (negative 2) (negative 0) (number 1) (negative 0))) ∷ []) 0 NoMore in
    let what = every_condition divided in
    goes_on what divided 1000 5 95 (Going (start_of 0 (one p X))) (Going entered_divisions) wanted (computed 5 (from divided 5 (start_of 0 (one p X))) (goes entered_divisions) divisions_entered)
    (goes_on what divided 1000 5 90 (Going entered_divisions) (Going one_divided) wanted (computed 5 (from divided 5 entered_divisions) (goes one_divided) first_division)
    (goes_on what divided 1000 10 80 (Going one_divided) (Going three_divided) wanted (computed 6 (from divided 10 one_divided) (goes three_divided) more_divisions)
    (computed 5 (from divided 80 three_divided) wanted last_division)))

-- the clause is entered
pub choice_entered : Computes 4 (from chosen 5 (start_of 0 (one p X))) (goes entered_choice)
unfolding term_block.hidden-the_row-Term-0 term_block.shape-the_row-Term-0 term_block.shown-the_row-Term-0 out-Term goal_block.hidden-the_row-Goal-0 goal_block.shape-the_row-Goal-0 goal_block.shown-the_row-Goal-0 out-Goal Carrier.hidden Carrier.shown Carrier.out
choice_entered = rw (terms.all_folds, terms_wait) (rw (goals.all_folds, goals_wait) (rw (terms.all_folds, terms_wait) (rw (goals.all_folds, goals_wait) (rw (terms.all_folds, terms_wait) (rw (goals.all_folds, goals_wait) (rw (terms.all_folds, terms_wait) (rw (goals.all_folds, goals_wait) (refl))))))))

-- 1 is not greater than 1
pub first_choice : Computes 5 (from chosen 12 entered_choice) (goes second_choice)
unfolding term_block.hidden-the_row-Term-0 term_block.shape-the_row-Term-0 term_block.shown-the_row-Term-0 out-Term goal_block.hidden-the_row-Goal-0 goal_block.shape-the_row-Goal-0 goal_block.shown-the_row-Goal-0 out-Goal Carrier.hidden Carrier.shown Carrier.out
first_choice = rw (terms.all_folds, terms_wait) (rw (goals.all_folds, goals_wait) (rw (terms.all_folds, terms_wait) (rw (goals.all_folds, goals_wait) (rw (terms.all_folds, terms_wait) (rw (goals.all_folds, goals_wait) (rw (terms.all_folds, terms_wait) (rw (goals.all_folds, goals_wait) (rw (terms.all_folds, terms_wait) (rw (goals.all_folds, goals_wait) (refl))))))))))

-- 2 is, and the cut takes the last branch off
pub last_choice : Computes 6 (from chosen 83 second_choice) (ends (Answer (one p (number 2)) ∷ []) 0 NoMore)
unfolding term_block.hidden-the_row-Term-0 term_block.shape-the_row-Term-0 term_block.shown-the_row-Term-0 out-Term goal_block.hidden-the_row-Goal-0 goal_block.shape-the_row-Goal-0 goal_block.shown-the_row-Goal-0 out-Goal Carrier.hidden Carrier.shown Carrier.out
last_choice = rw (terms.all_folds, terms_wait) (rw (goals.all_folds, goals_wait) (rw (terms.all_folds, terms_wait) (rw (goals.all_folds, goals_wait) (rw (terms.all_folds, terms_wait) (rw (goals.all_folds, goals_wait) (rw (terms.all_folds, terms_wait) (rw (goals.all_folds, goals_wait) (rw (terms.all_folds, terms_wait) (rw (goals.all_folds, goals_wait) (rw (terms.all_folds, terms_wait) (rw (goals.all_folds, goals_wait) (refl))))))))))))

-- `p(X)`: a disjunction, an if-then-else and a cut
pub choices : run chosen 0 (one p X) ≡ ends (Answer (one p (number 2)) ∷ []) 0 NoMore
choices =
    let wanted = ends (Answer (one p (number 2)) ∷ []) 0 NoMore in
    let what = every_condition chosen in
    goes_on what chosen 1000 5 95 (Going (start_of 0 (one p X))) (Going entered_choice) wanted (computed 4 (from chosen 5 (start_of 0 (one p X))) (goes entered_choice) choice_entered)
    (goes_on what chosen 1000 12 83 (Going entered_choice) (Going second_choice) wanted (computed 5 (from chosen 12 entered_choice) (goes second_choice) first_choice)
    (computed 6 (from chosen 83 second_choice) wanted last_choice))
