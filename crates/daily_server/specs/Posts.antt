-- How many posts of one origin come to wait in a minute.
use Rattle.std.specs.Prelude.{◌≡◌, ◌≤◌, ℕ, ◌-◌, Bool, true, false, ◌&&◌, nat_lt, List, [], ◌∷◌, ◌++◌, filter, length}
use Rattle.std.specs.declared.net.ip_addr.IpAddr.{IpAddr}
use Rattle.daily_server.specs.Origins.{Origin, is_same, origin_of}
use Rattle.daily_server.specs.declared.posts.RecentPost.{RecentPost}

-- it came less than a minute before this second
abbrev pub is_recent : ℕ → RecentPost → Bool
is_recent now post = nat_lt (now - post.at) 60

abbrev pub recent : ℕ → List RecentPost → List RecentPost
recent now posts = filter (is_recent now) posts

-- how many of these are of an origin
abbrev pub posts_of : Origin → List RecentPost → ℕ
posts_of origin posts = length (filter (λ post. is_same (origin_of post.from) origin) posts)

-- one more of an address may come to wait: in the last minute fewer came of its origin than this, and fewer than 1,000 in all
abbrev pub may_post : ℕ → ℕ → IpAddr → List RecentPost → Bool
may_post most now from posts = nat_lt (posts_of (origin_of from) (recent now posts)) most && nat_lt (length (recent now posts)) 1000

-- what is noted then: those of the last minute, and behind them this one, where it may
abbrev pub noted : Bool → ℕ → IpAddr → List RecentPost → List RecentPost
noted true now from posts = recent now posts ++ record { from = from; at = now } ∷ []
noted false now from posts = recent now posts

-- of no origin more came in the last minute than may be
abbrev pub IsSparing : ℕ → ℕ → List RecentPost → Type 0
IsSparing most now posts = (origin : Origin) → posts_of origin (recent now posts) ≤ most

-- So it is at first, later on, and behind each post, whether it may or not.
pub record StaysSparing : Type 0 where
  pub at_first : (most now : ℕ) → IsSparing most now []
  pub later_on : (most now later : ℕ) (posts : List RecentPost) → now ≤ later → IsSparing most now posts → IsSparing most later posts
  pub by_post : (most now : ℕ) (from : IpAddr) (posts : List RecentPost) → IsSparing most now posts → IsSparing most now (noted (may_post most now from posts) now from posts)
