use Rattle.page_store.proofs.CurrentSlots.{one_seal}
use Rattle.page_store.proofs.laws.a_valid_slot_has_one_seal.Goals as goal

pub returns : goal.returns
returns c = one_seal
