use Rattle.std.proofs.Common.{subst, arith, refl, get_or}
use Rattle.std.proofs.lemmas.List.{take_all}
use Rattle.daily_server.specs.Logged.{IsToldOff, AreToldOff}
use Rattle.daily_server.proofs.ToldOnes.{one_more_told}
use Rattle.daily_server.proofs.serving.tell_crowd.Goals as goal

pub loop-away-init : goal.loop-away-init
loop-away-init g c = refl

pub loop-away-preserved : goal.loop-away-preserved
loop-away-preserved g c = one_more_told g.L.Write.contents (IsToldOff g.L.Write.contents c.args.form c.args.moment) c.args.crowd.now c.loop-away.away-index _ (get_or c.args.crowd.now c.loop-away.away-index _) (c.args.log.now, c.args.written.now.calls) (c.loop-away.log, c.loop-away.written.calls) (c.tell_off.new.log, c.tell_off.new.written.calls) c.loop-away-test.true refl c.loop-away.invariant c.tell_off.ensures

pub returns : goal.returns
returns g c = subst (λ crowd. AreToldOff g.L.Write.contents c.args.form c.args.moment crowd (c.args.log.now, c.args.written.now.calls) (c.loop-away.log, c.loop-away.written.calls)) (take_all c.loop-away.away-index c.args.crowd.now (let t = c.loop-away-test.false in omega (arith, t))) c.loop-away.invariant
