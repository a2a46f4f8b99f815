use Rattle.std.proofs.Common.{rules}
use Rattle.turns.proofs.Runnings.{run_as, run_both}
use Rattle.daily_server.proofs.ComingIn.{comes_in, finds_no_space}
use Rattle.daily_server.proofs.serving.enter.Goals as goal

pub returns-in-Err-clause-run : goal.returns-in-Err-clause-run
returns-in-Err-clause-run g c = run_both _ _ _ _ g.met.S.SiteKeeper.crash_states_represent _ _ _ _ _ _ _ _ _ c.join.ensures c.dismiss.ensures
    (λ es fs os ps p q. finds_no_space c.args.terms _ c.args.next.1 c.args.next.2 c.args.now c.new.result c.join.result _ _ c.args.clients.now.items c.push.new.self.items es fs os ps (λ space. search rules) (search rules) (search rules) p q)

pub returns-in_default-clause-run : goal.returns-in_default-clause-run
returns-in_default-clause-run g c = run_as _ _ _ _ _ _ _ c.join.ensures (λ es os p. comes_in c.args.terms _ c.args.next.1 c.args.next.2 c.args.now c.new.result c.join.result c.args.clients.now.items c.push.new.self.items es os c.new.ensures (search rules) p)
