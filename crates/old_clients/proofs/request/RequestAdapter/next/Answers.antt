use Rattle.std.proofs.Common.{◌∙◌, arith}
use Rattle.old_clients.proofs.Replies.{unchanged_on}
use Rattle.old_clients.proofs.request.RequestAdapter.next.Goals as goal

pub returns-clause-behind : goal.returns-clause-behind
returns-clause-behind c =
    let gave = c.give-given in
    c.pass_on-passed.ensures.behind ∙ unchanged_on gave.result _ gave.new.out c.args.out.now (omega arith) gave.ensures.behind
