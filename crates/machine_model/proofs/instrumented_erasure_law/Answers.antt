use Rattle.machine_model.proofs.ErasedInstrumented.{erases_instrumented}
use Rattle.machine_model.proofs.instrumented_erasure_law.Goals as goal

pub returns : goal.returns
returns c = erases_instrumented
