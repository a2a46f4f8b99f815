use Rattle.old_clients.proofs.Clients.{other_answered, other_heard}
use Rattle.old_clients.proofs.laws.others_pass.Goals as goal

pub returns : goal.returns
returns c = λ old new is. (λ piece passed heard. other_heard old new piece passed is heard, λ drawn part answered. other_answered old new drawn part is answered)
