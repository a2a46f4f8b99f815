-- What has the form of a page begins with its head.
use Rattle.std.proofs.Common.{◌≡◌, ◌≤◌, ℕ, zero, suc, ◌*◌, true, List, [], ◌∷◌, length, Option, Some, refl, sym, ap, subst, ◌∙◌, arith}
use Rattle.std.specs.Prelude.{nat_le, ◌&&◌}
use Rattle.std.specs.List.{list_all}
use Rattle.std.proofs.lemmas.Bool.{leb-true, le-leb}
use Rattle.page_store.specs.Reading.{◌>>=◌, where_true}
use Rattle.page_store.specs.Roots.{is_zero}
use Rattle.page_store.specs.Batch.{is_pair, is_key, is_value}
use Rattle.page_store.specs.Pages.{Pair, Child, Place, page_word, head_at, pair_at, child_at, entries_at, entries_of, fits_place, leaf_of, branch_of, are_leaf, are_branch}
use Rattle.page_store.proofs.Fields.{bind_some, test_passed}
use Rattle.tree_nodes.specs.Tree.{leaf_bytes, entry_room}
use Rattle.tree_nodes.specs.PageViews.{least_entry, begins_page, has_head}
use Rattle.tree_nodes.proofs.KeyOrder.{both_true}
use Rattle.tree_nodes.proofs.SizesRead.{pairs_read, children_read, children_size, head_size}

-- a pair takes at least five bytes
pairs_room : (pairs : List Pair) → list_all is_pair pairs ≡ true → length pairs * 5 ≤ leaf_bytes pairs
pairs_room [] all = omega arith
pairs_room (pair ∷ pairs) all =
    let both = both_true (is_pair pair) (list_all is_pair pairs) all in
    let key = both_true (nat_le 1 (length pair.0)) (nat_le (length pair.0) 300) (both_true (is_key pair.0) (is_value pair.1) both.0).0 in
    let one = leb-true 1 (length pair.0) key.0 in
    let more = pairs_room pairs both.1 in
    omega (arith, one, more)

-- a child takes at least six bytes
children_room : (children : List Child) → length children * 6 ≤ children_size children
children_room [] = omega arith
children_room (child ∷ children) = let more = children_room children in omega (arith, more)

-- so many entries of a level fit into so many bytes
abbrev Fit : {E : Type 0} → (List ℕ → Option (E × List ℕ)) → ℕ → Type 0
Fit {E} entry_at level = (n : ℕ) (bytes : List ℕ) (x : List E × List ℕ) → entries_at entry_at n bytes ≡ Some x → n * least_entry level ≤ length bytes

pairs_fit : Fit pair_at zero
pairs_fit n bytes x e =
    let r = pairs_read n bytes x e in
    let room = pairs_room x.0 r.1 in
    omega (arith, r.0, r.2, room)

children_fit : (level : ℕ) → Fit child_at (suc level)
children_fit level n bytes x e =
    let r = children_read n bytes x e in
    let room = children_room x.0 in
    omega (arith, r.0, r.2, room)

headed : {E : Type 0} (entry_at : List ℕ → Option (E × List ℕ)) (place : Place) (bytes : List ℕ) (entries : List E) → Fit entry_at place.level → length bytes ≤ 4096 → entries_of entry_at place bytes ≡ Some entries → has_head place bytes ≡ true
unfolding entries_of
headed entry_at place bytes entries fit size e =
    let h = bind_some (head_at page_word bytes) (λ head. entries_at entry_at head.0.count head.1 >>= λ es. where_true (fits_place place head.0 && list_all is_zero es.1) (Some es.0)) entries e in
    let r = bind_some (entries_at entry_at h.0.0.count h.0.1) (λ es. where_true (fits_place place h.0.0 && list_all is_zero es.1) (Some es.0)) entries h.2 in
    let t = test_passed (fits_place place h.0.0 && list_all is_zero r.0.1) (Some r.0.0) entries r.2 in
    let fits = (both_true (fits_place place h.0.0) (list_all is_zero r.0.1) t.0).0 in
    let rest = head_size page_word bytes h.0 h.1 in
    let room = fit h.0.0.count h.0.1 r.0 r.1 in
    let within : h.0.0.count * least_entry place.level ≤ entry_room = omega (arith, rest, room, size) in
    ap (begins_page place) h.1 ∙ rw (fits, le-leb (h.0.0.count * least_entry place.level) entry_room within) refl

-- A leaf begins with its head.
pub leaf_headed : (place : Place) (low : List ℕ) (high : Option (List ℕ)) (bytes : List ℕ) (pairs : List Pair) → place.level ≡ 0 → length bytes ≤ 4096 → leaf_of place low high bytes ≡ Some pairs → has_head place bytes ≡ true
unfolding leaf_of
leaf_headed place low high bytes pairs level size e =
    let f = bind_some (entries_of pair_at place bytes) (λ ps. where_true (are_leaf low high ps) (Some ps)) pairs e in
    headed pair_at place bytes f.0 (subst (λ (n : ℕ). Fit pair_at n) (sym level) pairs_fit) size f.1

-- A branch begins with its head.
pub branch_headed : (place : Place) (level : ℕ) (low : List ℕ) (high : Option (List ℕ)) (bytes : List ℕ) (children : List Child) → place.level ≡ suc level → length bytes ≤ 4096 → branch_of place low high bytes ≡ Some children → has_head place bytes ≡ true
unfolding branch_of
branch_headed place level low high bytes children is size e =
    let f = bind_some (entries_of child_at place bytes) (λ cs. where_true (are_branch place.pages low high cs) (Some cs)) children e in
    headed child_at place bytes f.0 (subst (λ (n : ℕ). Fit child_at n) (sym is) (children_fit level)) size f.1
