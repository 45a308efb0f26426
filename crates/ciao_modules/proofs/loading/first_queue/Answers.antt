use Rattle.std.proofs.lemmas.Result.{IfOk-weaker}
use Rattle.ciao_modules.proofs.UnitLaws.{first_in_range, known_later, known}
use Rattle.ciao_modules.proofs.loading.first_queue.Goals as goal

pub returns-clause-in_range : goal.returns-clause-in_range
returns-clause-in_range c =
    let later = c.intern-2.new.self in
    IfOk-weaker c.one.result _ _
    (λ queue e. first_in_range later c.in_ok-name.name c.in_ok-file.file 0 queue e (known_later c.intern.new.self later c.in_ok-name.name _ c.in_ok-name.ensures.found c.intern-2.ensures.kept) (known later c.in_ok-file.file _ c.in_ok-file.ensures.found))
    c.one.ensures
