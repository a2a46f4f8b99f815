use Rattle.admin_office.proofs.Steps.{held_still, not_held}
use Rattle.admin_office.proofs.holding.hold.Goals as goal

pub returns-then-tell_held : goal.returns-then-tell_held
returns-then-tell_held g c = held_still _ _ _ _ (rw c.if-tell_held.true at c.tell_held.ensures) c.wait.ensures

pub returns : goal.returns
returns g c = not_held _ _ _ (rw c.if-tell_held.false at c.tell_held.ensures) c.close.ensures
