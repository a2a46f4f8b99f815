use Rattle.std.proofs.Common.{◌∙◌}
use Rattle.admin_client.proofs.Asked.{asked, answered_so}
use Rattle.admin_client.proofs.asking.ask.Goals as goal

pub returns : goal.returns
returns g c =
    let made = asked c.args.file.now c.in_ok-reply.reply.items _ _ _ c.in_ok-request.ensures c.in_ok-reply.ensures in
    record {
      answered = answered_so c.answer_in.result c.args.file.now c.deref.result.now c.in_ok-reply.reply.items _ _ c.deref.ensures.value c.answer_in.ensures.says made;
      refused = λ fault err. (made.0, made.1, (c.in_ok-reply.reply.items, made.2, λ done text utf8 is. c.answer_in.ensures.refused fault done text err utf8 (c.deref.ensures.value ∙ is)));
    }
