use Rattle.std.proofs.Common.{ap, ◌∙◌, arith}
use Rattle.page_alloc.specs.declared.life.Life.{Life}
use Rattle.page_alloc.specs.Kept.{ended_if_retired}
use Rattle.page_alloc.specs.Runs.{use_of}
use Rattle.page_alloc.proofs.Lives.{begun_and_ended, lives_from_is}
use Rattle.page_alloc.proofs.sweep.settle_lives.Goals as goal

pub returns : goal.returns
returns c =
    let runs = c.args.runs.now in
    let g = c.args.generation in
    lives_from_is g runs.starts c.end_lives.new.lives c.args.lives.now runs.order.places.items (omega arith) (omega (arith, runs.order.inverse.same)) (λ p lt.
    let now = use_of runs.starts runs.order.places.items p in
    c.end_lives.ensures p (omega (arith, lt)) ∙ ap (λ (l : Life). ended_if_retired g l now) (c.begin_lives.ensures p lt) ∙ begun_and_ended g _ now)
