-- The posts of a board, one after another.
use Rattle.std.proofs.Common.{◌≡◌, ℕ, zero, suc, ◌+◌, ◌-◌, ◌<◌, ◌≤◌, Bool, List, [], ◌∷◌, ◌++◌, length, arith, inl, inr, refl}
use Rattle.std.specs.Prelude.{nat_le, filter, map}
use Rattle.std.proofs.lemmas.Bool.{cases_Bool, le-ltb, lt-ltb}
use Rattle.host_types.specs.Site.{post_selector, last_numbers}
use Rattle.site_replies.specs.Reply.{post_names}

abbrev fits : List ℕ → Bool
fits name = nat_le (length name) 255

first_name : (name : List ℕ) (names : List (List ℕ)) → filter fits (name ∷ names) ≡ filter fits (name ∷ []) ++ filter fits names
first_name name names =
    elim (cases_Bool (fits name)) [
      | inl short ↦ rw short refl
      | inr long ↦ rw long refl
    ]

pub next_post : (board : List ℕ) (cap i n : ℕ) → i < cap → 1 < n →
    post_names board (cap - i) n ≡ filter (λ name. nat_le (length name) 255) (post_selector board (n - 1) ∷ []) ++ post_names board (cap - (i + 1)) (n - 1)
next_post board cap i n lt more =
    let k : cap - i ≡ suc (cap - (i + 1)) = omega arith in
    rw (k, lt-ltb 1 n more) (first_name (post_selector board (n - 1)) (map (post_selector board) (last_numbers (cap - (i + 1)) (n - 1))))

pub none_below : (board : List ℕ) (cap n : ℕ) → n ≤ 1 → post_names board cap n ≡ []
none_below board zero n le = refl
none_below board (suc many) n le = rw (le-ltb 1 n le) refl

pub none_left : (board : List ℕ) (cap i n : ℕ) → cap ≤ i → post_names board (cap - i) n ≡ []
none_left board cap i n le =
    let k : cap - i ≡ zero = omega arith in
    rw k refl
