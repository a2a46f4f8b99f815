use Rattle.page_store.proofs.CurrentSlots.{is_valid}
use Rattle.page_store.proofs.laws.one_seal_makes_a_slot.Goals as goal

pub returns : goal.returns
returns c = is_valid
