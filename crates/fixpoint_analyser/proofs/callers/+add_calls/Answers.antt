use Rattle.std.proofs.Common.{◌||◌}
use Rattle.fixpoint_analyser.specs.Ascent.{calls}
use Rattle.fixpoint_analyser.proofs.CallerLaws.{added_both, added_same, calls_Conj, calls_Disj, calls_IfElse}
use Rattle.fixpoint_analyser.proofs.callers.+add_calls.Goals as goal

pub returns-in_ok-add_calls-in-Conj-2 : goal.returns-in_ok-add_calls-in-Conj-2
returns-in_ok-add_calls-in-Conj-2 t c =
    let g = c.args.goal.now in
    let x = c.get.result.now in
    let y = c.get-in-Conj.result.now in
    let start = c.args.lists.now in
    let end = c.add_calls-in-Conj.new.lists in
    added_same start end c.args.pred (λ q. calls q x || calls q y) (λ q. calls q g) (calls_Conj g c.in-Conj.first c.in-Conj.second x y c.in-Conj.is c.get.ensures c.get-in-Conj.ensures)
    (added_both start c.add_calls.new.lists end c.args.pred (λ q. calls q x) (λ q. calls q y) c.in_ok-add_calls-in-Conj.ensures c.in_ok-add_calls-in-Conj-2.ensures)

pub returns-in_ok-add_calls-in-Disj-2 : goal.returns-in_ok-add_calls-in-Disj-2
returns-in_ok-add_calls-in-Disj-2 t c =
    let g = c.args.goal.now in
    let x = c.get-in-Disj.result.now in
    let y = c.get-in-Disj-2.result.now in
    let start = c.args.lists.now in
    let end = c.add_calls-in-Disj-2.new.lists in
    added_same start end c.args.pred (λ q. calls q x || calls q y) (λ q. calls q g) (calls_Disj g c.in-Disj.first c.in-Disj.second x y c.in-Disj.is c.get-in-Disj.ensures c.get-in-Disj-2.ensures)
    (added_both start c.add_calls-in-Disj.new.lists end c.args.pred (λ q. calls q x) (λ q. calls q y) c.in_ok-add_calls-in-Disj.ensures c.in_ok-add_calls-in-Disj-2.ensures)

pub returns-in_ok-add_calls-in-IfElse-3 : goal.returns-in_ok-add_calls-in-IfElse-3
returns-in_ok-add_calls-in-IfElse-3 t c =
    let g = c.args.goal.now in
    let z = c.get-in-IfElse.result.now in
    let x = c.get-in-IfElse-2.result.now in
    let y = c.get-in-IfElse-3.result.now in
    let start = c.args.lists.now in
    let middle = c.add_calls-in-IfElse-2.new.lists in
    let end = c.add_calls-in-IfElse-3.new.lists in
    added_same start end c.args.pred (λ q. (calls q z || calls q x) || calls q y) (λ q. calls q g)
    (calls_IfElse g c.in-IfElse.condition c.in-IfElse.first c.in-IfElse.second z x y c.in-IfElse.is c.get-in-IfElse.ensures c.get-in-IfElse-2.ensures c.get-in-IfElse-3.ensures)
    (added_both start middle end c.args.pred (λ q. calls q z || calls q x) (λ q. calls q y)
    (added_both start c.add_calls-in-IfElse.new.lists middle c.args.pred (λ q. calls q z) (λ q. calls q x) c.in_ok-add_calls-in-IfElse.ensures c.in_ok-add_calls-in-IfElse-2.ensures) c.in_ok-add_calls-in-IfElse-3.ensures)
