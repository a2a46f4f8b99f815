use Rattle.std.proofs.Common.{◌≡◌, ◌≤◌, take}
use Rattle.site_replies.specs.LaterReply.{posts_on}
use Rattle.site_replies.proofs.board_count.posts_on.Given as goal

abbrev pub invariant-loop-change : goal.invariant-loop-change
invariant-loop-change l = record {
  so_far : l.count ≡ posts_on l.board (take l.change-index l.changes);
  few : l.count ≤ l.change-index;
}
