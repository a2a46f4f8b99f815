use Rattle.page_store.proofs.CurrentSlots.{newest}
use Rattle.page_store.proofs.laws.the_current_slot_is_the_newest.Goals as goal

pub returns : goal.returns
returns c = newest
