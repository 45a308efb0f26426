use Rattle.std.proofs.Common.{◌≡◌, ◌+◌, ◌-◌, ◌^◌, min, refl, subst, ◌∙◌, arith}
use Rattle.sld_engine.specs.Going.{HasCome}
use Rattle.sld_engine.proofs.RunLaws.{whole_of, program_same, running, tells, tells_first}
use Rattle.sld_engine.proofs.state.RunState.tell_next.Goals as goal

pub go_on-requires-clause-whole : goal.go_on-requires-clause-whole
go_on-requires-clause-whole c =
    let r = c.args.self.now in
    whole_of r.program.now r.engine r.stage c.requires.running.stage c.requires.phase.0 c.requires.phase.1

pub returns-in-Some-clause-told : goal.returns-in-Some-clause-told
returns-in-Some-clause-told c =
    let r = c.args.self.now in
    let p = c.requires.phase.0 in
    let next = c.in_ok-next.next in
    let sum : c.saturating_add-self.result ≡ min (r.tests + next.tests) (2 ^ 64 - 1) = omega (arith, c.saturating_add-self.ensures) in
    let same = program_same r.program.now r.engine r.stage c.requires.running.stage p c.requires.phase.1 in
    let come = subst (λ q. HasCome r.reading r.bound q p next.event c.go_on.new.told.items next.tests c.go_on.new.engine next.stage) same (c.in_ok-next.ensures.come p c.requires.phase.1) in
    tells r _ p c.requires.phase.1 c.requires.given next.tests sum c.in-Some.event
    (subst (λ o. HasCome r.reading r.bound r.program.now p o c.go_on.new.told.items next.tests c.go_on.new.engine next.stage) c.in-Some.is come) refl

pub returns-in-Some-clause-running : goal.returns-in-Some-clause-running
returns-in-Some-clause-running c =
    let r = c.args.self.now in
    let p = c.requires.phase.0 in
    let next = c.in_ok-next.next in
    let same = program_same r.program.now r.engine r.stage c.requires.running.stage p c.requires.phase.1 in
    let come = c.in_ok-next.ensures.come p c.requires.phase.1 in
    record { stage = running r.program.now c.go_on.new.engine next.stage (come.program_is ∙ same) come.whole; counted = omega (arith, c.saturating_add-self.ensures) }

pub returns-in-None-clause-told : goal.returns-in-None-clause-told
returns-in-None-clause-told c =
    let r = c.args.self.now in
    let p = c.requires.phase.0 in
    let next = c.in_ok-next.next in
    let sum : c.saturating_add-self.result ≡ min (r.tests + next.tests) (2 ^ 64 - 1) = omega (arith, c.saturating_add-self.ensures) in
    let same = program_same r.program.now r.engine r.stage c.requires.running.stage p c.requires.phase.1 in
    let come = subst (λ q. HasCome r.reading r.bound q p next.event c.go_on.new.told.items next.tests c.go_on.new.engine next.stage) same (c.in_ok-next.ensures.come p c.requires.phase.1) in
    let condition = c.index-condition.result.now in
    tells_first r _ p c.requires.phase.1 c.requires.given next.tests sum condition condition
    (subst (λ o. HasCome r.reading r.bound r.program.now p o c.go_on.new.told.items next.tests c.go_on.new.engine next.stage) c.in-None.is come) (c.in_ok-next.ensures.some c.in-None.is) c.index-condition.ensures refl

pub returns-in-None-clause-running : goal.returns-in-None-clause-running
returns-in-None-clause-running c =
    let r = c.args.self.now in
    let p = c.requires.phase.0 in
    let next = c.in_ok-next.next in
    let same = program_same r.program.now r.engine r.stage c.requires.running.stage p c.requires.phase.1 in
    let come = c.in_ok-next.ensures.come p c.requires.phase.1 in
    record { stage = running r.program.now c.go_on.new.engine next.stage (come.program_is ∙ same) come.whole; counted = omega (arith, c.saturating_add-self.ensures) }
