use Rattle.std.proofs.Common.{inl, inr, refl}
use Rattle.gopher_host.proofs.Ended.{opened_then}
use Rattle.gopher_host.proofs.sessions.serve_logged.Goals as goal

pub returns-in-Err : goal.returns-in-Err
returns-in-Err g c = opened_then _ _ _ _ c.in_ok-device.device _ _ _ c.in_ok-device.ensures.noted c.close.ensures c.in_ok-device.ensures.named c.in_ok-device.ensures.opened c.in_ok-device.ensures.unused (inr (record {
  fault = c.in-Err.fault;
  answered = refl;
  has_none = c.in-Err.ensures;
  unasked = refl;
  untold = refl;
  left_is = refl;
}))

pub returns : goal.returns
returns g c = opened_then _ _ _ _ c.in_ok-device.device _ _ _ c.in_ok-device.ensures.noted c.closed.ensures.left c.in_ok-device.ensures.named c.in_ok-device.ensures.opened c.in_ok-device.ensures.unused (inl (record {
  given = c.serve_clients-served.result;
  handed = refl;
  ended = rw c.closed.ensures.given at c.serving_ended.ensures;
  moments = c.serve_clients-served.new.clock.given.moments;
  read = c.serve_clients-served.new.watch.read.readings;
  gate = c.in-Ok.gate;
  has_gate = c.in-Ok.ensures;
  texts = _;
  office_before = c.new-office.result;
  office_now = c.serve_clients-served.new.office;
  office = c.new-office.ensures;
  served = rw (c.start-watch.ensures, c.new-clock.ensures.given) at c.serve_clients-served.ensures.served;
  listened = c.serve_clients-served.ensures.listened;
  asked = c.serve_clients-served.ensures.asked;
  refused = c.serve_clients-served.ensures.refused;
}))
