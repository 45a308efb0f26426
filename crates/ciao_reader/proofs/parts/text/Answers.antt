use Rattle.std.proofs.Common.{arith, ◌∙◌, ◌-◌, ap, get_or, w64}
use Rattle.std.proofs.lemmas.Int.{to_z_pos}
use Rattle.term_core.specs.declared.terms.Term as term
use Rattle.ciao_reader.specs.Parts.{leaf}
use Rattle.ciao_reader.proofs.PartLists.{codes_more}
use Rattle.ciao_reader.proofs.parts.text.Goals as goal

pub loop-at-preserved : goal.loop-at-preserved
loop-at-preserved c =
    let code = get_or c.args.codes.now (c.loop-at.at - 1) 0 in
    let small = c.type_inv.codes (c.loop-at.at - 1) in (
      codes_more c.args.codes.now c.loop-at.at c.leaf.result c.loop-at.list c.in_ok-list.list c.loop-at-test.true c.loop-at.invariant.1
          (c.leaf.ensures ∙ ap (λ n. leaf (term.Int n)) (to_z_pos w64 code (omega (arith, small)))) c.in_ok-list.ensures ∙ c.loop-at.invariant.0,
      omega (arith, c.loop-at.invariant.1),
    )
