-- The fixed texts are distinct, so each keeps its place when they are added one by one.
use Rattle.std.proofs.Common.{◌≡◌, [], refl}
use Rattle.term_core.specs.Names.{fixed_names, with_texts}

pub all_new : with_texts [] fixed_names ≡ fixed_names
all_new = refl
