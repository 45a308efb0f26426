use Rattle.analysis_tests.proofs.tables.is_analysed.Goals as goal

pub statuses-requires-clause-closed : goal.statuses-requires-clause-closed
statuses-requires-clause-closed c = c.in_ok-table.ensures.closed
