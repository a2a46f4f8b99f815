-- The branches over a level, each of the longest run of nodes that fits a page.
use Rattle.std.proofs.Common.{◌≡◌, ℕ, suc, ◌+◌, ◌-◌, ◌*◌, ◌<◌, ◌≤◌, Bool, true, false, List, ◌++◌, length, Option, refl, sym, ap, subst, ◌∙◌, arith, append_assoc}
use Rattle.std.specs.Prelude.{nat_le, if◌then◌else◌}
use Rattle.std.proofs.lemmas.Bool.{leb-true, leb-false}
use Rattle.page_store.specs.Pages.{Pair}
use Rattle.tree_nodes.specs.Tree.{Tree, Others, branch, none, other, OldPages, pairs_of, row_pairs, pages_of, row_pages, row_owned_nodes, other_count, other_bytes, entry_room}
use Rattle.tree_nodes.specs.Put.{front_others, back_others}
use Rattle.tree_nodes.specs.Valid.{IsValid, IsValidRow, others_high}
use Rattle.tree_nodes.proofs.KeysWithinBounds.{row_lower}
use Rattle.tree_nodes.proofs.LeafSplits.{key_size}
use Rattle.tree_nodes.proofs.BranchSplits.{is_split}
use Rattle.tree_loading.specs.Filled.{branch_room, branches_behind, branches_of}
use Rattle.tree_loading.specs.Full.{AreFull}
use Rattle.tree_loading.proofs.LeavesMade.{no_room_left}

-- the first of these branches, and those behind it
abbrev pub branches_from : List ℕ → Tree → Others → Others
branches_from key tree others = other key (branch tree (front_others branch_room others)) (branches_behind branch_room others)

pub branches_first : (key : List ℕ) (tree : Tree) (others : Others) → branches_of (other key tree others) ≡ branches_from key tree others
branches_first key tree others = rw (no_room_left (6 + length key) (omega arith)) refl

-- ---- their pairs

pub behind_pairs : (old : OldPages) (room : ℕ) (row : Others) → row_pairs old (front_others room row) ++ row_pairs old (branches_behind room row) ≡ row_pairs old row
behind_pairs old room none = refl
behind_pairs old room (other key tree others) = go (nat_le (6 + length key) room) (behind_pairs old (room - (6 + length key)) others) (behind_pairs old branch_room others)
  where
    joined : (xs ys : List Pair) → xs ++ ys ≡ row_pairs old others → (pairs_of old tree ++ xs) ++ ys ≡ pairs_of old tree ++ row_pairs old others
    joined xs ys e = append_assoc (pairs_of old tree) xs ys ∙ ap (λ (l : List Pair). pairs_of old tree ++ l) e

    go : (b : Bool) → row_pairs old (front_others (room - (6 + length key)) others) ++ row_pairs old (branches_behind (room - (6 + length key)) others) ≡ row_pairs old others
        → row_pairs old (front_others branch_room others) ++ row_pairs old (branches_behind branch_room others) ≡ row_pairs old others
        → row_pairs old (if b then other key tree (front_others (room - (6 + length key)) others) else none) ++ row_pairs old (if b then branches_behind (room - (6 + length key)) others else branches_from key tree others)
        ≡ row_pairs old (other key tree others)
    go true here next = joined (row_pairs old (front_others (room - (6 + length key)) others)) (row_pairs old (branches_behind (room - (6 + length key)) others)) here
    go false here next = joined (row_pairs old (front_others branch_room others)) (row_pairs old (branches_behind branch_room others)) next

pub branches_pairs : (old : OldPages) (row : Others) → row_pairs old (branches_of row) ≡ row_pairs old row
branches_pairs old none = refl
branches_pairs old (other key tree others) =
    ap (row_pairs old) (branches_first key tree others) ∙ append_assoc (pairs_of old tree) (row_pairs old (front_others branch_room others)) (row_pairs old (branches_behind branch_room others))
    ∙ ap (λ (l : List Pair). pairs_of old tree ++ l) (behind_pairs old branch_room others)

-- ---- the pages that they name

behind_pages : (room : ℕ) (row : Others) → row_pages (front_others room row) ++ row_pages (branches_behind room row) ≡ row_pages row
behind_pages room none = refl
behind_pages room (other key tree others) = go (nat_le (6 + length key) room) (behind_pages (room - (6 + length key)) others) (behind_pages branch_room others)
  where
    joined : (xs ys : List ℕ) → xs ++ ys ≡ row_pages others → (pages_of tree ++ xs) ++ ys ≡ pages_of tree ++ row_pages others
    joined xs ys e = append_assoc (pages_of tree) xs ys ∙ ap (λ (l : List ℕ). pages_of tree ++ l) e

    go : (b : Bool) → row_pages (front_others (room - (6 + length key)) others) ++ row_pages (branches_behind (room - (6 + length key)) others) ≡ row_pages others
        → row_pages (front_others branch_room others) ++ row_pages (branches_behind branch_room others) ≡ row_pages others
        → row_pages (if b then other key tree (front_others (room - (6 + length key)) others) else none) ++ row_pages (if b then branches_behind (room - (6 + length key)) others else branches_from key tree others)
        ≡ row_pages (other key tree others)
    go true here next = joined (row_pages (front_others (room - (6 + length key)) others)) (row_pages (branches_behind (room - (6 + length key)) others)) here
    go false here next = joined (row_pages (front_others branch_room others)) (row_pages (branches_behind branch_room others)) next

pub branches_pages : (row : Others) → row_pages (branches_of row) ≡ row_pages row
branches_pages none = refl
branches_pages (other key tree others) =
    ap row_pages (branches_first key tree others) ∙ append_assoc (pages_of tree) (row_pages (front_others branch_room others)) (row_pages (branches_behind branch_room others))
    ∙ ap (λ (l : List ℕ). pages_of tree ++ l) (behind_pages branch_room others)

-- ---- how many nodes are owned under them

behind_owned : (room : ℕ) (row : Others) → row_owned_nodes (front_others room row) + row_owned_nodes (branches_behind room row) ≡ row_owned_nodes row + other_count (branches_behind room row)
behind_owned room none = refl
behind_owned room (other key tree others) = go (nat_le (6 + length key) room) (behind_owned (room - (6 + length key)) others) (behind_owned branch_room others)
  where
    go : (b : Bool)
        → row_owned_nodes (front_others (room - (6 + length key)) others) + row_owned_nodes (branches_behind (room - (6 + length key)) others) ≡ row_owned_nodes others + other_count (branches_behind (room - (6 + length key)) others)
        → row_owned_nodes (front_others branch_room others) + row_owned_nodes (branches_behind branch_room others) ≡ row_owned_nodes others + other_count (branches_behind branch_room others)
        → row_owned_nodes (if b then other key tree (front_others (room - (6 + length key)) others) else none) + row_owned_nodes (if b then branches_behind (room - (6 + length key)) others else branches_from key tree others)
        ≡ row_owned_nodes (other key tree others) + other_count (if b then branches_behind (room - (6 + length key)) others else branches_from key tree others)
    go true here next = omega (arith, here)
    go false here next = omega (arith, next)

pub branches_owned : (row : Others) → row_owned_nodes (branches_of row) ≡ row_owned_nodes row + other_count (branches_of row)
branches_owned none = refl
branches_owned (other key tree others) =
    let all = behind_owned branch_room others in
    let first = branches_first key tree others in
    subst (λ (r : Others). row_owned_nodes r ≡ row_owned_nodes (other key tree others) + other_count r) (sym first) (omega (arith, all))

-- ---- their keys, and each branch is valid

behind_high : (room : ℕ) (row : Others) (high : Option (List ℕ)) → others_high (back_others room row) high ≡ others_high (branches_behind room row) high
behind_high room none high = refl
behind_high room (other key tree others) high = go (nat_le (6 + length key) room) (behind_high (room - (6 + length key)) others high)
  where
    go : (b : Bool) → others_high (back_others (room - (6 + length key)) others) high ≡ others_high (branches_behind (room - (6 + length key)) others) high
        → others_high (if b then back_others (room - (6 + length key)) others else other key tree others) high ≡ others_high (if b then branches_behind (room - (6 + length key)) others else branches_from key tree others) high
    go true here = here
    go false here = refl

pub first_branch : (old : OldPages) (level : ℕ) (tree : Tree) (others : Others) (low : List ℕ) (high : Option (List ℕ)) → IsValid old level tree low (others_high others high) → IsValidRow old level others low high
    → IsValid old (suc level) (branch tree (front_others branch_room others)) low (others_high (branches_behind branch_room others) high)
first_branch old level tree others low high first row =
    let s = is_split branch_room others in
    let same = behind_high branch_room others high in
    subst (λ (x : Option (List ℕ)). IsValid old (suc level) (branch tree (front_others branch_room others)) low x) same
    (subst (λ (x : Option (List ℕ)). IsValid old level tree low x) (sym (s.high high)) first, s.valid_front old level low high row, omega (arith, s.small))

pub branches_valid : (old : OldPages) (level room : ℕ) (row : Others) (low : List ℕ) (high : Option (List ℕ)) → IsValidRow old level row low high → IsValidRow old (suc level) (branches_behind room row) low high
branches_valid old level room none low high h = tt
branches_valid old level room (other key tree others) low high h =
    go (nat_le (6 + length key) room) (branches_valid old level (room - (6 + length key)) others key high h.4) (branches_valid old level branch_room others key high h.4)
  where
    go : (b : Bool) → IsValidRow old (suc level) (branches_behind (room - (6 + length key)) others) key high → IsValidRow old (suc level) (branches_behind branch_room others) key high
        → IsValidRow old (suc level) (if b then branches_behind (room - (6 + length key)) others else branches_from key tree others) low high
    go true here next = row_lower old (suc level) (branches_behind (room - (6 + length key)) others) key low high h.0 here
    go false here next = (h.0, h.1, h.2, first_branch old level tree others key high h.3 h.4, next)

-- ---- their number

-- Nodes before these, so many that they take all but so many bytes of a page, are more than twelve where no other fits: so a branch of the longest run that fits has at least four.
behind_count : (old : OldPages) (level room before : ℕ) (row : Others) (low : List ℕ) (high : Option (List ℕ)) → IsValidRow old level row low high → branch_room ≤ room + 306 * before
    → 4 * other_count (branches_behind room row) ≤ other_count row + before
behind_count old level room before none low high h full = omega arith
behind_count old level room before (other key tree others) low high h full =
    go (nat_le (6 + length key) room) refl (λ le. behind_count old level (room - (6 + length key)) (before + 1) others key high h.4 (omega (arith, full, le, key_size key h.2))) (behind_count old level branch_room 0 others key high h.4 (omega arith))
  where
    go : (b : Bool) → nat_le (6 + length key) room ≡ b → (6 + length key ≤ room → 4 * other_count (branches_behind (room - (6 + length key)) others) ≤ other_count others + (before + 1))
        → 4 * other_count (branches_behind branch_room others) ≤ other_count others + 0
        → 4 * other_count (if b then branches_behind (room - (6 + length key)) others else branches_from key tree others) ≤ other_count (other key tree others) + before
    go true is here next = let more = here (leb-true (6 + length key) room is) in omega (arith, more)
    go false is here next = omega (arith, next, full, key_size key h.2, leb-false (6 + length key) room is)

-- a level has at most a quarter, rounded up, of the nodes of the level below
pub a_quarter : (old : OldPages) (level : ℕ) (row : Others) (low : List ℕ) (high : Option (List ℕ)) → IsValidRow old level row low high → 4 * other_count (branches_of row) ≤ other_count row + 3
a_quarter old level none low high h = omega arith
a_quarter old level (other key tree others) low high h =
    let more = behind_count old level branch_room 0 others key high h.4 (omega arith) in
    let count : other_count (branches_of (other key tree others)) ≡ 1 + other_count (branches_behind branch_room others) = ap other_count (branches_first key tree others) in
    omega (arith, more, count)

pub some_branch : (key : List ℕ) (tree : Tree) (others : Others) → 1 ≤ other_count (branches_of (other key tree others))
some_branch key tree others =
    let count : other_count (branches_of (other key tree others)) ≡ 1 + other_count (branches_behind branch_room others) = ap other_count (branches_first key tree others) in
    omega (arith, count)

-- ---- none has room for the next node

-- so many bytes leave no room for one more node, with the first key of these
abbrev LeavesNoRoom : ℕ → Others → Type 0
LeavesNoRoom bytes none = Unit {0}
LeavesNoRoom bytes (other key tree others) = entry_room < bytes + (6 + length key)

no_room : (bytes room : ℕ) (row : Others) → entry_room ≤ bytes + room → LeavesNoRoom (bytes + other_bytes (front_others room row)) (branches_behind room row)
no_room bytes room none h = tt
no_room bytes room (other key tree others) h = go (nat_le (6 + length key) room) refl (λ le. no_room (bytes + (6 + length key)) (room - (6 + length key)) others (omega (arith, h, le)))
  where
    go : (b : Bool) → nat_le (6 + length key) room ≡ b
        → (6 + length key ≤ room → LeavesNoRoom (bytes + (6 + length key) + other_bytes (front_others (room - (6 + length key)) others)) (branches_behind (room - (6 + length key)) others))
        → LeavesNoRoom (bytes + other_bytes (if b then other key tree (front_others (room - (6 + length key)) others) else none)) (if b then branches_behind (room - (6 + length key)) others else branches_from key tree others)
    go true is more =
        let same : bytes + (6 + length key) + other_bytes (front_others (room - (6 + length key)) others) ≡ bytes + ((6 + length key) + other_bytes (front_others (room - (6 + length key)) others)) = omega arith in
        subst (λ (n : ℕ). LeavesNoRoom n (branches_behind (room - (6 + length key)) others)) same (more (leb-true (6 + length key) room is))
    go false is more = let large = leb-false (6 + length key) room is in omega (arith, h, large)

full_before : (key : List ℕ) (tree : Tree) (row others : Others) → LeavesNoRoom (6 + other_bytes row) others → AreFull others → AreFull (other key (branch tree row) others)
full_before key tree row none h k = tt
full_before key tree row (other next sibling others) h k = (h, k)

pub branches_full : (room : ℕ) (row : Others) → AreFull (branches_behind room row)
branches_full room none = tt
branches_full room (other key tree others) = go (nat_le (6 + length key) room) (branches_full (room - (6 + length key)) others) (branches_full branch_room others)
  where
    go : (b : Bool) → AreFull (branches_behind (room - (6 + length key)) others) → AreFull (branches_behind branch_room others) → AreFull (if b then branches_behind (room - (6 + length key)) others else branches_from key tree others)
    go true here next = here
    go false here next = full_before key tree (front_others branch_room others) (branches_behind branch_room others) (no_room 6 branch_room others (omega arith)) next
