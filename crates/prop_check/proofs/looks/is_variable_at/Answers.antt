use Rattle.term_heap.specs.Changes.{value_of}
use Rattle.prop_check.proofs.CellLaws.{free_variable, no_variable}
use Rattle.prop_check.proofs.looks.is_variable_at.Goals as goal

pub returns-in-Free : goal.returns-in-Free
returns-in-Free c = free_variable c.args.heap.now.changes (value_of c.args.heap.now.changes c.args.place) c.look.result c.look.ensures c.in-Free.is

pub returns-in-Ref : goal.returns-in-Ref
returns-in-Ref c = no_variable c.args.heap.now.changes (value_of c.args.heap.now.changes c.args.place) c.look.result c.look.ensures (λ e. let q = c.in-Ref.is in cc)

pub returns-in-Int : goal.returns-in-Int
returns-in-Int c = no_variable c.args.heap.now.changes (value_of c.args.heap.now.changes c.args.place) c.look.result c.look.ensures (λ e. let q = c.in-Int.is in cc)

pub returns-in-Atom : goal.returns-in-Atom
returns-in-Atom c = no_variable c.args.heap.now.changes (value_of c.args.heap.now.changes c.args.place) c.look.result c.look.ensures (λ e. let q = c.in-Atom.is in cc)

pub returns-in-Node : goal.returns-in-Node
returns-in-Node c = no_variable c.args.heap.now.changes (value_of c.args.heap.now.changes c.args.place) c.look.result c.look.ensures (λ e. let q = c.in-Node.is in cc)
