use Rattle.std.proofs.Common.{arith}
use Rattle.std.proofs.lemmas.List.{get_or_read}
use Rattle.page_alloc.specs.Lives.{ended_at}
use Rattle.page_alloc.proofs.Lives.{changed_more}
use Rattle.page_alloc.proofs.sweep.end_lives.Goals as goal

pub loop-place-preserved : goal.loop-place-preserved
loop-place-preserved c =
    let runs = c.args.runs.now in
    changed_more runs.order.pages.items runs.order.places.items c.loop-place.lives c.args.lives.now (ended_at c.args.generation) runs.starts.retired c.loop-place.place c.index.result.now c.ended.result runs.order.inverse (omega arith) (omega arith) (omega arith) (get_or_read runs.order.pages.items c.loop-place.place c.index.result.now (omega arith) c.index.ensures 0) c.loop-place.invariant c.ended.ensures
