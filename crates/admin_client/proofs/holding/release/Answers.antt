use Rattle.std.proofs.Common.{◌∙◌}
use Rattle.admin_client.proofs.Held.{released, answered_so}
use Rattle.admin_client.proofs.holding.release.Goals as goal

pub returns : goal.returns
returns g c =
    let made = released c.in_ok-reply.reply.items c.send.result _ _ _ c.send.ensures c.in_ok-reply.ensures in
    record {
      answered = answered_so c.answer_in.result c.deref.result.now c.in_ok-reply.reply.items _ _ c.deref.ensures.value c.answer_in.ensures.says made;
      refused = λ fault err. (made.0, made.1, (c.in_ok-reply.reply.items, made.2, λ done text utf8 is. c.answer_in.ensures.refused fault done text err utf8 (c.deref.ensures.value ∙ is)));
    }
