use Rattle.std.proofs.Common.{◌-◌, ◌∙◌, sym}
use Rattle.std.specs.Prelude.{is_some}
use Rattle.host_types.specs.Site.{item_at, post_selector}
use Rattle.change_plan.proofs.LastPosts.{next_below, found_below, none_below}
use Rattle.change_plan.proofs.board_posts.has_some_post.Goals as goal

pub returns-then-number-le1 : goal.returns-then-number-le1
returns-then-number-le1 g c = record {
  there = record {
    gives = λ s shown. sym (none_below (λ n. is_some (item_at s (post_selector c.args.board.now n))) (c.args.cap - c.loop.counter) c.loop.number c.if-number-le1.true) ∙ c.loop.invariant.left s shown;
    reads_only = c.loop.invariant.reads_only;
    failed = tt;
  };
}

pub returns-in-Ok-true : goal.returns-in-Ok-true
returns-in-Ok-true g c =
    let post = c.in-Ok-true.ensures.there in
    record {
      there = record {
        gives = λ s shown.
            let there = post.gives s (g.met.L.ItemLookup.shows_still c.args.lookup.now c.loop.lookup s c.loop.invariant.reads_only shown) in
            sym (found_below (λ n. is_some (item_at s (post_selector c.args.board.now n))) c.args.cap c.loop.counter c.loop.number c.loop-test.true c.if-number-le1.false (sym there ∙ c.in-Ok-true.field-0-test)) ∙ c.loop.invariant.left s shown;
        reads_only = g.met.L.ItemLookup.reads_again c.args.lookup.now c.loop.lookup c.has_post.new.lookup c.loop.invariant.reads_only post.reads_only;
        failed = tt;
      };
    }

pub loop-preserved : goal.loop-preserved
loop-preserved g c =
    let post = c.in-Ok-false.ensures.there in
    record {
      reads_only = g.met.L.ItemLookup.reads_again c.args.lookup.now c.loop.lookup c.has_post.new.lookup c.loop.invariant.reads_only post.reads_only;
      left = λ s shown.
          let there = post.gives s (g.met.L.ItemLookup.shows_still c.args.lookup.now c.loop.lookup s c.loop.invariant.reads_only shown) in
          sym (next_below (λ n. is_some (item_at s (post_selector c.args.board.now n))) c.args.cap c.loop.counter c.loop.number c.loop-test.true c.if-number-le1.false (sym there ∙ c.in-Ok-false.field-0-test)) ∙ c.loop.invariant.left s shown;
    }
