use Rattle.heap_tests.proofs.heads.doubled_often.Given as goal

abbrev pub decreases-loop-left : goal.decreases-loop-left
decreases-loop-left l = l.left
