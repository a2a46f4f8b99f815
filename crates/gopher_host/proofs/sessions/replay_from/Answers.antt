use Rattle.std.proofs.Common.{refl}
use Rattle.gopher_host.proofs.Written.{written_so}
use Rattle.gopher_host.proofs.sessions.replay_from.Goals as goal
use Rattle.gopher_host.proofs.sessions.replay_from.Goals.{in-Some, in-None}

pub returns-clause-image : goal.returns-clause-image
returns-clause-image g c = elim c.match-image.branch [
  | in-Some w ↦ rw (w.in-Some.is, w.reader-is, w.used-is) (written_so _ _ _ _ c.match-image.ended c.flush-written.result c.all_written.result (rw (w.ended-is, w.writer-is) w.replay_image-ended.ensures) c.flush-written.ensures.bytes c.flush-written.ensures.ok c.all_written.ensures)
  | in-None w ↦ rw w.in-None.is tt
]

pub returns-clause-memory : goal.returns-clause-memory
returns-clause-memory g c = elim c.match-image.branch [
  | in-Some w ↦ rw w.in-Some.is (λ none. absurd (cc none))
  | in-None w ↦ λ none. rw (w.reader-is, w.used-is) (refl, written_so _ _ _ _ c.match-image.ended c.flush-written.result c.all_written.result (rw (w.ended-is, w.writer-is) w.replay_in_memory-ended.ensures) c.flush-written.ensures.bytes c.flush-written.ensures.ok c.all_written.ensures)
]
