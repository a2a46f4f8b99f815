use Rattle.std.proofs.Common.{◌≤◌, length, arith, sym, ap, subst}
use Rattle.old_clients.proofs.Clients.{drawn_given}
use Rattle.old_clients.proofs.reply.ReplyAdapter.pass.Goals as goal

pub returns-clause-given : goal.returns-clause-given
returns-clause-given c rest =
    let e = c.next.ensures in
    drawn_given c.args.self.now c.next.new.self c.args.drawn.now c.next.new.out c.next.result.taken c.next.result.given
    (omega (arith, c.self.invariant, ap (λ a. length a.ready) c.self.view_is)) (omega (arith, c.requires, c.next.auto.out)) e.within e.given e.progress rest
