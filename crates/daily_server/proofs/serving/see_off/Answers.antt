use Rattle.std.proofs.Common.{refl, sym, subst, ◌∙◌, arith}
use Rattle.std.proofs.lemmas.Grind.{common_steps}
use Rattle.daily_server.proofs.SameClients.{all_kept}
use Rattle.daily_server.specs.Logged.{AreTold, nobody, at}
use Rattle.daily_server.specs.DailyClients.{has_gone}
use Rattle.daily_server.proofs.serving.see_off.Goals as goal

pub returns-else-has_closed-clause-gone : goal.returns-else-has_closed-clause-gone
returns-else-has_closed-clause-gone g c = record {
  clients = all_kept has_gone c.args.service.now.clients.items (sym c.has_closed.ensures ∙ c.if-has_closed.false);
  listener = refl;
  may_accept = refl;
  lost = refl;
  posts = refl;
}

pub returns-else-has_closed-clause-logged : goal.returns-else-has_closed-clause-logged
returns-else-has_closed-clause-logged g c = nobody (grind (arith, common_steps, c.is_empty.ensures, c.if-not-is_empty.false)) (sym c.has_closed.ensures ∙ c.if-has_closed.false) refl refl

pub returns-then-not-is_empty-clause-logged : goal.returns-then-not-is_empty-clause-logged
returns-then-not-is_empty-clause-logged g c = at c.now-moment.result (c.tell_crowd.new.log, c.tell_crowd.new.written.calls) c.now-moment.ensures c.tell_crowd.ensures
    (subst (λ clients. AreTold g.L.Write.contents c.args.form c.now-moment.result clients (c.tell_crowd.new.log, c.tell_crowd.new.written.calls) (c.tell_gone.new.log, c.tell_gone.new.written.calls)) c.deref.ensures.value c.tell_gone.ensures)
