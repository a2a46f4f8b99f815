-- Posts on a board, counted one after another.
use Rattle.std.proofs.Common.{◌≡◌, ℕ, suc, zero, ◌+◌, ◌<◌, List, [], ◌∷◌, take, length, ap, ◌∙◌, arith}
use Rattle.std.specs.Prelude.{slice_index_or}
use Rattle.host_types.specs.declared.change.Change.{Change}
use Rattle.host_types.specs.AllChanges.{Changes}
use Rattle.site_replies.specs.LaterReply.{one_on, posts_on}

pub one_more : (q : List ℕ) (changes : Changes) (i : ℕ) (d : Change × ℕ) → i < length changes → posts_on q (take (i + 1) changes) ≡ posts_on q (take i changes) + one_on q (slice_index_or changes i d).0
one_more q [] i d within = absurd (omega (arith, within))
one_more q (c ∷ changes) zero d within = omega arith
one_more q (c ∷ changes) (suc i) d within =
    let next : suc i + 1 ≡ suc (i + 1) = omega arith in
    let rest = one_more q changes i d (omega (arith, within)) in
    ap (λ (n : ℕ). posts_on q (take n (c ∷ changes))) next ∙ omega (arith, rest)
