use Rattle.std.proofs.Common.{ap, inr, refl}
use Rattle.gopher_host.specs.Endings.{device_beside}
use Rattle.gopher_host.proofs.Ended.{both_err_too}
use Rattle.gopher_host.proofs.sessions.replay_in_memory.Goals as goal

pub replay_over-requires-clause-valid : goal.replay_over-requires-clause-valid
replay_over-requires-clause-valid g c = λ is honest. ∣ c.in-Ok.ensures.valid ∣₁

pub returns : goal.returns
returns g c = inr (
  device_beside c.replay_over.result,
  record {
    given = c.replay_over.result;
    handed = refl;
    ended = rw c.answer_of.ensures at c.replay_ended.ensures;
    replayed = rw c.in-Ok.ensures.fresh at c.replay_over.ensures.replayed;
    refused = both_err_too c.replay_over.result (λ e err unread. (err, ap g.R.Read.remaining unread.0, ap g.W.Write.contents unread.1)) (rw c.in-Ok.ensures.fresh at c.replay_over.ensures.err) c.replay_over.ensures.unread;
  },
)
