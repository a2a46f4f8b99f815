use Rattle.std.proofs.Common.{◌++◌, true, false, ap, sym, ◌∙◌}
use Rattle.old_clients.specs.AdaptedReply.{adapted_reply}
use Rattle.old_clients.specs.Place.{given_from}
use Rattle.old_clients.proofs.Joins.{given_reply}
use Rattle.old_clients.proofs.reply.ReplyAdapter.new.Goals as goal
use Rattle.old_clients.proofs.reply.ReplyAdapter.new.Goals.{then-rewritten, else-rewritten}

pub returns-clause-reply : goal.returns-clause-reply
returns-clause-reply c reply =
    ap (λ l. l ++ given_from c.if-rewritten.result reply) c.new.ensures
    ∙ elim c.if-rewritten.branch [
      | then-rewritten w ↦ ap (λ p. given_from p reply) w.result-is ∙ given_reply true reply ∙ ap (λ r. adapted_reply r reply) (sym w.if-rewritten.true)
      | else-rewritten w ↦ ap (λ p. given_from p reply) w.result-is ∙ given_reply false reply ∙ ap (λ r. adapted_reply r reply) (sym w.if-rewritten.false)
    ]
