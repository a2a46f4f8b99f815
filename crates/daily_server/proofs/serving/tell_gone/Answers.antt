use Rattle.std.proofs.Common.{subst, arith, refl}
use Rattle.std.proofs.lemmas.List.{take_all}
use Rattle.daily_server.specs.Logged.{IsTold, AreTold}
use Rattle.daily_server.proofs.ToldOnes.{one_more_told}
use Rattle.daily_server.proofs.serving.tell_gone.Goals as goal

pub loop-client-init : goal.loop-client-init
loop-client-init g c = refl

pub loop-client-preserved : goal.loop-client-preserved
loop-client-preserved g c = one_more_told g.L.Write.contents (IsTold g.L.Write.contents c.args.form c.args.moment) c.args.clients.now c.loop-client.client-index c.client-item.result c.client-item.result _ (c.loop-client.log, c.loop-client.written.calls) (c.tell_if_gone.new.log, c.tell_if_gone.new.written.calls) (c.loop-client-test.true) c.client-item.is c.loop-client.invariant c.tell_if_gone.ensures

pub returns : goal.returns
returns g c = subst (λ clients. AreTold g.L.Write.contents c.args.form c.args.moment clients (c.args.log.now, c.args.written.now.calls) (c.loop-client.log, c.loop-client.written.calls)) (take_all c.loop-client.client-index c.args.clients.now (let t = c.loop-client-test.false in omega (arith, t))) c.loop-client.invariant
