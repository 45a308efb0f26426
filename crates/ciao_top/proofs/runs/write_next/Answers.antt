use Rattle.ciao_top.proofs.Comings.{cut_short}
use Rattle.ciao_top.proofs.RunTexts.{told_at, event_begun, comes_next, goes_next}
use Rattle.ciao_top.proofs.runs.write_next.Goals as goal

pub returns-in-Err-write_event-clause-told : goal.returns-in-Err-write_event-clause-told
returns-in-Err-write_event-clause-told g c =
    cut_short _ _ _ _ _ _ c.in-Err-write_event.ensures.status
    (event_begun _ _ _ c.requires.limit _ _ c.in-Ok.event _ _ (told_at _ _ _ _ c.requires.program c.requires.reading c.in-Ok.ensures.told) c.in-Err-write_event.ensures.err)

pub returns-clause-told : goal.returns-clause-told
returns-clause-told g c =
    comes_next _ _ _ c.requires.limit _ _ c.in-Ok.event c.behind.result _ _ _ (told_at _ _ _ _ c.requires.program c.requires.reading c.in-Ok.ensures.told) c.behind.ensures c.in-Ok-write_event.ensures.ok

pub returns-clause-goes : goal.returns-clause-goes
returns-clause-goes g c = goes_next _ _ c.args.limit _ _ c.in-Ok.event c.behind.result (told_at _ _ _ _ c.requires.program c.requires.reading c.in-Ok.ensures.told) c.behind.ensures
