use Rattle.admin_client.proofs.Held.{asked_whole, asked_in_part}
use Rattle.admin_client.proofs.holding.hold.Goals as goal

pub returns-then-send : goal.returns-then-send
returns-then-send g c = asked_whole c.hears_held.result _ _ _ (rw (c.hold_line.ensures, c.if-send.true) at c.send.ensures) c.hears_held.ensures

pub returns-else-send : goal.returns-else-send
returns-else-send g c = rw c.if-send.false (asked_in_part _ _ (rw (c.hold_line.ensures, c.if-send.false) at c.send.ensures))
