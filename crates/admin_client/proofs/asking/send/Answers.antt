use Rattle.std.proofs.Common.{refl}
use Rattle.turns.proofs.Sendings.{taken_further}
use Rattle.admin_client.proofs.asking.send.Goals as goal

pub loop-rest-preserved : goal.loop-rest-preserved
loop-rest-preserved g c = taken_further _ c.loop-rest.rest.now _ _ _ c.in-Ok.count _ c.loop-rest.invariant c.if-count-eq0.false c.in-Ok.ensures.within c.in-Ok.ensures.calls refl
