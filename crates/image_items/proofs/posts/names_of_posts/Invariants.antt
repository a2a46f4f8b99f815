use Rattle.std.proofs.Common.{◌≡◌, ◌≤◌, ◌<◌, ◌-◌}
use Rattle.image_items.specs.Posts.{names_of_posts}
use Rattle.image_items.proofs.posts.names_of_posts.Given as goal

-- the names of the posts before this one, from the first on
abbrev pub invariant-loop-number : goal.invariant-loop-number
invariant-loop-number l = (1 ≤ l.first) × (l.first ≤ l.number) × (l.next < l.first → l.number ≡ l.first) × (l.names.items ≡ names_of_posts l.board (l.number - l.first) l.number)
