use Rattle.change_plan.proofs.AfterLookUps.{ends_so, second_posts}
use Rattle.change_plan.proofs.plan_move.have_posts.Goals as goal

pub returns-in-Ok-false : goal.returns-in-Ok-false
returns-in-Ok-false g c =
    let L = g.L.ItemLookup in
    let met = g.met.L.ItemLookup in
    let old = c.args.lookup.now in
    let mid = c.has_posts.new.lookup in
    let new = c.has_posts-in-Ok-false.new.lookup in
    let first = c.in-Ok-false.ensures.there in
    record {
      posts = ends_so L.shows L.reads_only L.failed old mid new c.has_posts-in-Ok-false.result (met.reads_again old mid new first.reads_only) (λ fault. met.failed_later old mid new fault first.reads_only) (λ s. met.shows_still old mid s first.reads_only) c.has_posts-in-Ok-false.ensures.there
          (λ s shown posts second. second_posts s c.args.from.now c.args.to.now c.args.item.now c.args.there.now c.board.result c.board_in.result c.in-Ok-false.field-0 posts c.board.ensures c.board_in.ensures c.in-Ok-false.field-0-test (first.gives s shown) second);
    }
