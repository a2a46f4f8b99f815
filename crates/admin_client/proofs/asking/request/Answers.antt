use Rattle.admin_client.proofs.Asked.{requested, cut_short}
use Rattle.admin_client.proofs.asking.request.Goals as goal

pub returns-then-not-send : goal.returns-then-not-send
returns-then-not-send g c = cut_short _ _ _ (rw (c.as_bytes.ensures.value, c.in_ok-head.ensures, c.if-not-send.true) at c.send.ensures)

pub returns : goal.returns
returns g c = requested _ _ _ _ c.send-2.result (rw (c.as_bytes.ensures.value, c.in_ok-head.ensures, c.if-not-send.false) at c.send.ensures) c.send-2.ensures
