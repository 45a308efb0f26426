use Rattle.std.proofs.Common.{◌≡◌, ◌++◌, ◌∷◌, [], ◌+◌, ◌≤◌, sym, subst, ◌∙◌, arith}
use Rattle.std.proofs.lemmas.Int.{to_z-of_z}
use Rattle.term_core.specs.declared.terms.Term as term
use Rattle.term_heap.specs.declared.cells.Cell.TheVariants as cell
use Rattle.term_heap.specs.Changes.{size_of, NamesBelow}
use Rattle.term_heap.proofs.ValueLaws.{names_in}
use Rattle.term_heap.proofs.DecodeLaws.{root_term, opened_leaf, opened_node}
use Rattle.term_heap.proofs.decoding.open.Goals as goal

pub push_parts-requires : goal.push_parts-requires
push_parts-requires c =
    let h = c.args.heap.now.changes in
    let names : c.in-Node.first + c.in-Node.count ≤ size_of h = subst (NamesBelow (size_of h)) (sym c.cell.ensures ∙ c.in-Node.is) (names_in h c.root-root.result c.len-size.ensures.made c.root-root.ensures.place) in
    omega (arith, names, c.len-size.ensures.len)

pub returns-in_ok-push-in-Free : goal.returns-in_ok-push-in-Free
returns-in_ok-push-in-Free c =
    let h = c.args.heap.now.changes in
    let root = c.root-root.result in
    opened_leaf h c.args.at (term.Var root) c.args.left.now.items c.args.done.now _ (root_term h c.args.at root cell.Free c.len-size.ensures.made c.root-root.ensures.place c.root-root.ensures.value (sym c.in-Free.is ∙ c.cell.ensures)) c.in_ok-push-in-Free.ensures.ok

pub returns-in_ok-push-in-Int : goal.returns-in_ok-push-in-Int
returns-in_ok-push-in-Int c =
    let h = c.args.heap.now.changes in
    let root = c.root-root.result in
    let n = c.in-Int.n in
    let is_new : c.push-in-Int.new.self ≡ c.args.done.now ++ term.Int n ∷ [] = grind (arith, to_z-of_z, c.in_ok-push-in-Int.ensures.ok) in
    opened_leaf h c.args.at (term.Int n) c.args.left.now.items c.args.done.now _ (root_term h c.args.at root (cell.Int n) c.len-size.ensures.made c.root-root.ensures.place c.root-root.ensures.value (sym c.in-Int.is ∙ c.cell.ensures)) is_new

pub returns-in_ok-push-in-Atom : goal.returns-in_ok-push-in-Atom
returns-in_ok-push-in-Atom c =
    let h = c.args.heap.now.changes in
    let root = c.root-root.result in
    opened_leaf h c.args.at (term.Atom c.in-Atom.a) c.args.left.now.items c.args.done.now _ (root_term h c.args.at root (cell.Atom c.in-Atom.a) c.len-size.ensures.made c.root-root.ensures.place c.root-root.ensures.value (sym c.in-Atom.is ∙ c.cell.ensures)) c.in_ok-push-in-Atom.ensures.ok

pub returns-in_ok-push_parts-in-Node : goal.returns-in_ok-push_parts-in-Node
returns-in_ok-push_parts-in-Node c =
    let h = c.args.heap.now.changes in
    let root = c.root-root.result in
    let f = c.in-Node.name in
    let names : c.in-Node.first + c.in-Node.count ≤ size_of h = subst (NamesBelow (size_of h)) (sym c.cell.ensures ∙ c.in-Node.is) (names_in h root c.len-size.ensures.made c.root-root.ensures.place) in
    opened_node h c.args.at f c.in-Node.count c.in-Node.first c.args.left.now.items _ c.args.done.now
    (root_term h c.args.at root (cell.Node f c.in-Node.count c.in-Node.first) c.len-size.ensures.made c.root-root.ensures.place c.root-root.ensures.value (sym c.in-Node.is ∙ c.cell.ensures)) names c.in_ok-push_parts-in-Node.ensures
