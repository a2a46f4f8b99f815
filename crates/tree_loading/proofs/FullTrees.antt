-- At each depth of a filled tree no node has room for the first entry of the next.
use Rattle.std.proofs.Common.{◌≡◌, ℕ, zero, suc, ◌+◌, ◌-◌, Bool, true, false, List, [], ◌∷◌, length, Option, Some, None, refl, sym, ap, subst, ◌∙◌}
use Rattle.std.specs.Prelude.{nat_le, if◌then◌else◌}
use Rattle.page_store.specs.Pages.{Pair}
use Rattle.page_store.specs.Flat.{entry_size}
use Rattle.tree_nodes.specs.Tree.{Tree, Others, none, other, entry_room}
use Rattle.tree_nodes.specs.Put.{front_others}
use Rattle.tree_loading.specs.Filled.{leaves_behind, leaves_of, branch_room, branches_behind, branches_of, root_over, filled}
use Rattle.tree_loading.specs.Full.{AreFull, rows_joined, children_of, level_below}
use Rattle.tree_loading.proofs.LeavesMade.{leaves_from, leaves_first, leaves_full}
use Rattle.tree_loading.proofs.BranchesMade.{branches_from, branches_first, branches_full}

-- ---- the children of the branches over a level are its nodes

children_behind : (room : ℕ) (row : Others) → rows_joined (front_others room row) (children_of (branches_behind room row)) ≡ row
children_behind room none = refl
children_behind room (other key tree others) = go (nat_le (6 + length key) room) (children_behind (room - (6 + length key)) others) (children_behind branch_room others)
  where
    go : (b : Bool) → rows_joined (front_others (room - (6 + length key)) others) (children_of (branches_behind (room - (6 + length key)) others)) ≡ others
        → rows_joined (front_others branch_room others) (children_of (branches_behind branch_room others)) ≡ others
        → rows_joined (if b then other key tree (front_others (room - (6 + length key)) others) else none) (children_of (if b then branches_behind (room - (6 + length key)) others else branches_from key tree others))
        ≡ other key tree others
    go true here next = ap (other key tree) here
    go false here next = ap (other key tree) next

children_branches : (row : Others) → children_of (branches_of row) ≡ row
children_branches none = refl
children_branches (other key tree others) = ap children_of (branches_first key tree others) ∙ ap (other key tree) (children_behind branch_room others)

children_leaves : (room : ℕ) (pairs : List Pair) → children_of (leaves_behind room pairs) ≡ none
children_leaves room [] = refl
children_leaves room (p ∷ ps) = go (nat_le (entry_size p) room) (children_leaves (room - entry_size p) ps) (children_leaves (entry_room - entry_size p) ps)
  where
    go : (b : Bool) → children_of (leaves_behind (room - entry_size p) ps) ≡ none → children_of (leaves_behind (entry_room - entry_size p) ps) ≡ none
        → children_of (if b then leaves_behind (room - entry_size p) ps else leaves_from p ps) ≡ none
    go true here next = here
    go false here next = next

-- ---- each level

abbrev AllFull : Others → Type 0
AllFull row = (depth : ℕ) → AreFull (level_below depth row)

none_full : AllFull none
none_full zero = tt
none_full (suc depth) = none_full depth

leaves_all_full : (pairs : List Pair) → AllFull (leaves_of pairs)
leaves_all_full pairs zero = leaves_full 0 pairs
leaves_all_full pairs (suc depth) = subst (λ (row : Others). AreFull (level_below depth row)) (sym (children_leaves 0 pairs)) (none_full depth)

branches_all_full : (row : Others) → AllFull row → AllFull (branches_of row)
branches_all_full row h zero = branches_full 0 row
branches_all_full row h (suc depth) = subst (λ (below : Others). AreFull (level_below depth below)) (sym (children_branches row)) (h depth)

-- ---- the root

abbrev first_key : Others → List ℕ
first_key none = []
first_key (other key tree others) = key

abbrev some_tree : Tree → Option Tree
some_tree tree = Some tree

same_tree : (a b : Tree) → some_tree a ≡ some_tree b → a ≡ b
same_tree a b e = cc

no_tree_is : {G : Type 0} (tree : Tree) → None ≡ some_tree tree → G
no_tree_is tree e = absurd (cc e)

root_full : (most height : ℕ) (row : Others) (tree : Tree) → AllFull row → (root_over most height row).root ≡ some_tree tree → AllFull (other (first_key row) tree none)
root_full most height none tree h e = no_tree_is tree e
root_full most height (other key root none) tree h e = subst (λ (t : Tree). AllFull (other key t none)) (same_tree root tree e) h
root_full zero height (other key root (other next sibling others)) tree h e = no_tree_is tree e
root_full (suc most) height (other key root (other next sibling others)) tree h e =
    let row = other key root (other next sibling others) in
    subst (λ (k : List ℕ). AllFull (other k tree none)) (ap first_key (branches_first key root (other next sibling others))) (root_full most (suc height) (branches_of row) tree (branches_all_full row h) e)

pub filled_full : (pair : Pair) (pairs : List Pair) (tree : Tree) (depth : ℕ) → (filled (pair ∷ pairs)).root ≡ Some tree → AreFull (level_below depth (other pair.0 tree none))
filled_full pair pairs tree depth e =
    subst (λ (k : List ℕ). AllFull (other k tree none)) (ap first_key (leaves_first pair pairs)) (root_full (length (pair ∷ pairs)) 1 (leaves_of (pair ∷ pairs)) tree (leaves_all_full (pair ∷ pairs)) e) depth
