use Rattle.goal_transfer.specs.Statuses.{statuses_of}
use Rattle.discharger.proofs.laws.discharged_law.Goals as goal

pub returns : goal.returns
returns c =
    λ program rows is no_exit closed query bound p es e calls meets.
    c.simulation_law.ensures program (statuses_of program rows) no_exit (c.sound_law.ensures program rows is closed) query bound p es e calls meets
