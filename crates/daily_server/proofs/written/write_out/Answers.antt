use Rattle.std.proofs.Common.{refl}
use Rattle.turns.proofs.Sendings.{taken_none, taken_further}
use Rattle.daily_server.proofs.LogWrites.{has_none, has_more}
use Rattle.daily_server.proofs.written.write_out.Goals as goal

pub loop-rest-init : goal.loop-rest-init
loop-rest-init g c = record { taken = taken_none _ _; has = has_none _ _ }

pub loop-rest-preserved : goal.loop-rest-preserved
loop-rest-preserved g c = record {
  taken = taken_further _ c.loop-rest.rest.now _ _ _ c.in-Ok.count _ c.loop-rest.invariant.taken c.if-count-eq0.false c.in-Ok.ensures.within c.in-Ok.ensures.calls refl;
  has = has_more _ _ _ _ _ _ _ c.loop-rest.invariant.has c.in-Ok.ensures.calls c.in-Ok.ensures.contents;
}
