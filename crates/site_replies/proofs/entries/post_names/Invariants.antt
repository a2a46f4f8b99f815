use Rattle.std.proofs.Common.{◌≡◌, ◌-◌, ◌++◌}
use Rattle.site_replies.specs.Reply.{post_names}
use Rattle.site_replies.proofs.entries.post_names.Given as goal

-- the posts so far, and those that are left
abbrev pub invariant-loop : goal.invariant-loop
invariant-loop l = l.names ++ post_names l.board (l.cap - l.counter) l.number ≡ post_names l.board l.cap l.next
