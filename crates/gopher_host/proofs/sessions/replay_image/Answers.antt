use Rattle.std.proofs.Common.{ap, refl}
use Rattle.gopher_host.proofs.Ended.{both_err_too, opened_then}
use Rattle.gopher_host.proofs.sessions.replay_image.Goals as goal

pub returns : goal.returns
returns g c = opened_then _ _ _ _ c.in_ok-device.device _ _ _ c.in_ok-device.ensures.noted c.closed.ensures.left c.in_ok-device.ensures.named c.in_ok-device.ensures.opened c.in_ok-device.ensures.unused (record {
  given = c.replay_on-replayed.result;
  handed = refl;
  ended = rw c.closed.ensures.given at c.replay_ended.ensures;
  replayed = c.replay_on-replayed.ensures.replayed;
  refused = both_err_too c.replay_on-replayed.result (λ e back unread. (back, ap g.R.Read.remaining unread.0, ap g.W.Write.contents unread.1)) c.replay_on-replayed.ensures.refused c.replay_on-replayed.ensures.unread;
})
