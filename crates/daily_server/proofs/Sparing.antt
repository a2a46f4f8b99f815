-- Of no origin more posts come to wait in a minute than may be.
use Rattle.std.proofs.Common.{◌≡◌, ℕ, ◌+◌, ◌-◌, ◌<◌, ◌≤◌, Bool, true, false, not, ◌&&◌, nat_lt, cond, List, [], ◌∷◌, ◌++◌, filter, length, length-append, refl, sym, ap, subst, ◌∙◌, arith}
use Rattle.std.proofs.lemmas.Bool.Decides.{nat_tests}
use Rattle.std.proofs.lemmas.List.Elements.{filter-append}
use Rattle.std.specs.declared.net.ip_addr.IpAddr.{IpAddr}
use Rattle.daily_server.specs.Origins.{Origin, is_same, origin_of}
use Rattle.daily_server.specs.Posts.{is_recent, recent, posts_of, may_post, noted, IsSparing}
use Rattle.daily_server.specs.declared.posts.RecentPost.{RecentPost}
use Rattle.daily_server.proofs.Spread.{same_is}

-- ---- later on

counted_if : (b : Bool) (origin : Origin) (post : RecentPost) (posts : List RecentPost) → is_same (origin_of post.from) origin ≡ b → posts_of origin (post ∷ posts) ≡ cond b 1 0 + posts_of origin posts
counted_if true origin post posts is = let rest = filter (λ (p : RecentPost). is_same (origin_of p.from) origin) posts in
    ap (λ c. length (cond c (post ∷ rest) rest)) is ∙ omega arith
counted_if false origin post posts is = let rest = filter (λ (p : RecentPost). is_same (origin_of p.from) origin) posts in
    ap (λ c. length (cond c (post ∷ rest) rest)) is ∙ omega arith

counted : (origin : Origin) (post : RecentPost) (posts : List RecentPost) → posts_of origin (post ∷ posts) ≡ cond (is_same (origin_of post.from) origin) 1 0 + posts_of origin posts
counted origin post posts = counted_if (is_same (origin_of post.from) origin) origin post posts refl

-- what is recent later was so before
was_recent : (now later at : ℕ) → now ≤ later → nat_lt (later - at) 60 ≡ true → nat_lt (now - at) 60 ≡ true
was_recent now later at order is = grind (arith, nat_tests)

fewer_if : (now_is later_is : Bool) (now later : ℕ) (origin : Origin) (post : RecentPost) (posts : List RecentPost) → (later_is ≡ true → now_is ≡ true) → posts_of origin (recent later posts) ≤ posts_of origin (recent now posts) → posts_of origin (cond later_is (post ∷ recent later posts) (recent later posts)) ≤ posts_of origin (cond now_is (post ∷ recent now posts) (recent now posts))
fewer_if true true now later origin post posts order rest = omega (arith, counted origin post (recent later posts), counted origin post (recent now posts), rest)
fewer_if true false now later origin post posts order rest = omega (arith, counted origin post (recent now posts), rest)
fewer_if false true now later origin post posts order rest = absurd (cc (order refl))
fewer_if false false now later origin post posts order rest = rest

fewer_later : (now later : ℕ) (origin : Origin) (posts : List RecentPost) → now ≤ later → posts_of origin (recent later posts) ≤ posts_of origin (recent now posts)
fewer_later now later origin [] order = omega arith
fewer_later now later origin (p ∷ posts) order = fewer_if (is_recent now p) (is_recent later p) now later origin p posts (was_recent now later p.at order) (fewer_later now later origin posts order)

pub later_sparing : (most now later : ℕ) (posts : List RecentPost) → now ≤ later → IsSparing most now posts → IsSparing most later posts
later_sparing most now later posts order sparing origin = omega (arith, fewer_later now later origin posts order, sparing origin)

-- ---- by a post

recent_again_if : (b : Bool) (now : ℕ) (post : RecentPost) (posts : List RecentPost) → is_recent now post ≡ b → recent now (recent now posts) ≡ recent now posts → recent now (cond b (post ∷ recent now posts) (recent now posts)) ≡ cond b (post ∷ recent now posts) (recent now posts)
recent_again_if true now post posts is again = ap (λ c. cond c (post ∷ recent now (recent now posts)) (recent now (recent now posts))) is ∙ ap (λ l. post ∷ l) again
recent_again_if false now post posts is again = again

recent_again : (now : ℕ) (posts : List RecentPost) → recent now (recent now posts) ≡ recent now posts
recent_again now [] = refl
recent_again now (p ∷ posts) = recent_again_if (is_recent now p) now p posts refl (recent_again now posts)

count_more : (origin : Origin) (posts : List RecentPost) (post : RecentPost) → posts_of origin (posts ++ post ∷ []) ≡ posts_of origin posts + posts_of origin (post ∷ [])
count_more origin posts post = let test = λ (p : RecentPost). is_same (origin_of p.from) origin in
    ap length (filter-append test posts (post ∷ [])) ∙ length-append (filter test posts) (filter test (post ∷ []))

-- this very post is recent, and no other one is in more
one_at_most : (now : ℕ) (from : IpAddr) (origin : Origin) → (b : Bool) → is_same (origin_of from) origin ≡ b → posts_of origin (recent now (record { from = from; at = now } ∷ [])) ≤ cond b 1 0
one_at_most now from origin b is = at_most (is_recent now (record { from = from; at = now })) b is
  where
    at_most : (r : Bool) (b : Bool) → is_same (origin_of from) origin ≡ b → posts_of origin (cond r (record { from = from; at = now } ∷ []) []) ≤ cond b 1 0
    at_most true b is = omega (arith, counted_if b origin (record { from = from; at = now }) [] is)
    at_most false true is = omega arith
    at_most false false is = omega arith

less_than : (count most : ℕ) (other : Bool) → (nat_lt count most && other) ≡ true → count < most
less_than count most true may = grind (arith, nat_tests)
less_than count most false may = grind (arith, nat_tests)

noted_if : (b : Bool) (most now : ℕ) (from : IpAddr) (posts : List RecentPost) (origin : Origin) → is_same (origin_of from) origin ≡ b → may_post most now from posts ≡ true → posts_of origin (recent now posts) ≤ most → posts_of origin (recent now (recent now posts ++ record { from = from; at = now } ∷ [])) ≤ most
noted_if b most now from posts origin is may few =
    let post : RecentPost = record { from = from; at = now } in
    let all : recent now (recent now posts ++ post ∷ []) ≡ recent now posts ++ recent now (post ∷ []) = filter-append (is_recent now) (recent now posts) (post ∷ []) ∙ ap (λ l. l ++ recent now (post ∷ [])) (recent_again now posts) in
    let test = λ (p : RecentPost). is_same (origin_of p.from) origin in
    let sum : posts_of origin (recent now posts ++ recent now (post ∷ [])) ≡ posts_of origin (recent now posts) + posts_of origin (recent now (post ∷ [])) = ap length (filter-append test (recent now posts) (recent now (post ∷ []))) ∙ length-append (filter test (recent now posts)) (filter test (recent now (post ∷ []))) in
    decide b is (one_at_most now from origin b is) (ap (posts_of origin) all ∙ sum)
  where
    decide : (b : Bool) → is_same (origin_of from) origin ≡ b → posts_of origin (recent now (record { from = from; at = now } ∷ [])) ≤ cond b 1 0 → posts_of origin (recent now (recent now posts ++ record { from = from; at = now } ∷ [])) ≡ posts_of origin (recent now posts) + posts_of origin (recent now (record { from = from; at = now } ∷ [])) → posts_of origin (recent now (recent now posts ++ record { from = from; at = now } ∷ [])) ≤ most
    decide true is one total =
        let less : posts_of (origin_of from) (recent now posts) < most = less_than (posts_of (origin_of from) (recent now posts)) most (nat_lt (length (recent now posts)) 1000) may in
        let same : posts_of (origin_of from) (recent now posts) ≡ posts_of origin (recent now posts) = ap (λ o. posts_of o (recent now posts)) (same_is (origin_of from) origin is) in
        omega (arith, one, total, less, same)
    decide false is one total = omega (arith, one, total, few)

noted_sparing_if : (b : Bool) (most now : ℕ) (from : IpAddr) (posts : List RecentPost) → may_post most now from posts ≡ b → IsSparing most now posts → IsSparing most now (noted b now from posts)
noted_sparing_if true most now from posts may sparing origin = noted_if (is_same (origin_of from) origin) most now from posts origin refl may (sparing origin)
noted_sparing_if false most now from posts may sparing origin = subst (λ l. posts_of origin l ≤ most) (sym (recent_again now posts)) (sparing origin)

pub noted_sparing : (most now : ℕ) (from : IpAddr) (posts : List RecentPost) → IsSparing most now posts → IsSparing most now (noted (may_post most now from posts) now from posts)
noted_sparing most now from posts sparing = noted_sparing_if (may_post most now from posts) most now from posts refl sparing
