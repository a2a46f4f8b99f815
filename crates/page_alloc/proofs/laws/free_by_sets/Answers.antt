use Rattle.page_alloc.proofs.Sets.{free_is_by_sets}
use Rattle.page_alloc.proofs.laws.free_by_sets.Goals as goal

pub returns : goal.returns
returns c = free_is_by_sets
