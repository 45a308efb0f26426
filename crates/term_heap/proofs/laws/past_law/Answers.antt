use Rattle.term_heap.proofs.PastLaws.{lengths_stay, sizes_stay, cells_stay, grows_on, binds_on, goes_further}
use Rattle.term_heap.proofs.laws.past_law.Goals as goal

pub returns : goal.returns
returns c = record { lengths = lengths_stay; sizes = sizes_stay; cells = cells_stay; grows = grows_on; binds = binds_on; joined = goes_further }
