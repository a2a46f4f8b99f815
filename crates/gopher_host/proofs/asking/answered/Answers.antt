use Rattle.std.proofs.Common.{ap, inr, ◌∙◌, Err}
use Rattle.gopher_host.proofs.AskedInstead.{gives_so, gives_no_reply}
use Rattle.gopher_host.proofs.asking.answered.Goals as goal

pub returns-in-Ok : goal.returns-in-Ok
returns-in-Ok c = rw c.answer_of.ensures (gives_so c.args.file.now c.in-Ok.answer _ _ c.in-Ok.ensures.answered)

pub returns-in-Err-Reply : goal.returns-in-Err-Reply
returns-in-Err-Reply c = gives_no_reply c.args.file.now c.in-Err-Reply.fault _ _ (c.ask.ensures.refused c.in-Err-Reply.fault (c.in-Err-Reply.is ∙ ap (λ f. Err f) c.in-Err-Reply.field-0-is))

pub returns-in-Err-Memory : goal.returns-in-Err-Memory
returns-in-Err-Memory c = inr (inr c.of_memory.ensures)
