use Rattle.program_link.specs.HeldPrograms.{HasNoTrouble, draft_held}
use Rattle.program_link.proofs.MadeLaws.{each_mapped}
use Rattle.program_link.proofs.normals.normals.Goals as goal

pub normal_of-requires : goal.normal_of-requires
normal_of-requires c = record {
  sound = each_mapped (HasNoTrouble c.args.names.now c.args.settings.now) (draft_held c.args.sources.now) c.args.preds.now c.loop-pred.pred-index
      (record { unit = 0; indicator = record { name = 0; arity = 0 } }) c.requires.sound c.loop-pred-test.true;
}
