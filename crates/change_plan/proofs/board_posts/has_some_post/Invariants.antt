use Rattle.std.proofs.Common.{◌≡◌, ◌-◌}
use Rattle.host_types.specs.Site.{Site, posts_of, has_any}
use Rattle.change_plan.proofs.board_posts.has_some_post.Given as goal

-- what is left says what all say
abbrev pub invariant-loop : goal.invariant-loop
invariant-loop g l = record {
  reads_only : g.L.ItemLookup.reads_only l.fn.lookup l.lookup;
  left : (s : Site) → g.L.ItemLookup.shows l.fn.lookup s → has_any (posts_of s l.board (l.cap - l.counter, l.number)) ≡ has_any (posts_of s l.board (l.cap, l.next));
}
