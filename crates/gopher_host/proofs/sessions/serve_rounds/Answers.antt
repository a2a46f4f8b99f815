use Rattle.std.proofs.Common.{refl}
use Rattle.gopher_host.proofs.Ended.{opened_then}
use Rattle.gopher_host.proofs.sessions.serve_rounds.Goals as goal

pub returns : goal.returns
returns g c = opened_then _ _ _ _ c.in_ok-device.device _ _ _ c.in_ok-device.ensures.noted c.closed.ensures.left c.in_ok-device.ensures.named c.in_ok-device.ensures.opened c.in_ok-device.ensures.unused (record {
  given = c.serve_image-served.result;
  handed = refl;
  printed = rw c.closed.ensures.given at c.print_served.ensures;
  moments = c.serve_image-served.new.clock.given.moments;
  served = rw c.new-clock.ensures.given at c.serve_image-served.ensures.served;
  listened = c.serve_image-served.ensures.listened;
  asked = c.serve_image-served.ensures.asked;
  refused = c.serve_image-served.ensures.refused;
})
