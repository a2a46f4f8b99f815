use Rattle.std.proofs.Common.{◌≡◌, ◌∙◌}
use Rattle.page_store.proofs.WrittenSlots.{slot_valid}
use Rattle.page_store.proofs.encoding.slot_page.Goals as goal

pub returns-clause-bytes : goal.returns-clause-bytes
returns-clause-bytes c = c.in-Some.ensures.cases.same ∙ c.deref.ensures.value ∙ c.in_ok-sectors.ensures.bytes

pub returns-clause-valid : goal.returns-clause-valid
returns-clause-valid c = λ sectors small fits some_port.
    slot_valid sectors c.args.slot.now c.in-Some.page.now c.requires small c.in_ok-sectors.ensures.typed fits some_port (c.in-Some.ensures.cases.same ∙ c.deref.ensures.value ∙ c.in_ok-sectors.ensures.bytes)
