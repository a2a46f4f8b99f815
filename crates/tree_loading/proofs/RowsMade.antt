-- Levels that are made node by node.
use Rattle.std.proofs.Common.{◌≡◌, ℕ, ◌+◌, ◌-◌, ◌<◌, ◌≤◌, List, [], ◌∷◌, ◌++◌, length, get_or, remove, Option, Some, None, refl, sym, ap, subst, ◌∙◌, arith, append_assoc, append-nil}
use Rattle.std.specs.Prelude.{Vec, Box}
use Rattle.std.specs.declared.alloc.Global.{Global}
use Rattle.std.specs.List.{slice_get}
use Rattle.std.proofs.lemmas.Bool.{le-leb, lt-leb}
use Rattle.page_store.specs.Pages.{Pair, key_of}
use Rattle.page_store.specs.Flat.{entry_size}
use Rattle.tree_nodes.specs.Tree.{Tree, Others, leaf, branch, none, other, other_count, entry_room}
use Rattle.tree_nodes.specs.Put.{front_pairs, front_others}
use Rattle.tree_nodes.specs.NodeView.{tree_of, others_view}
use Rattle.tree_nodes.specs.declared.node.Node.{Node, Leaf, Branch}
use Rattle.tree_nodes.proofs.NodesAsTrees.{Children, tree_branch}
use Rattle.tree_nodes.proofs.FittingEntries.{tree_leaf}
use Rattle.tree_loading.specs.Filled.{branch_room, leaves_behind, leaves_of, branches_behind, branches_of}
use Rattle.tree_loading.specs.Full.{rows_joined}
use Rattle.tree_loading.specs.Rows.{leaf_before, branch_before}
use Rattle.tree_loading.proofs.LeavesMade.{no_room_left}

-- ---- rows that are joined

pub view_joined : (xs ys : Children) → others_view (xs ++ ys) ≡ rows_joined (others_view xs) (others_view ys)
view_joined [] ys = refl
view_joined (x ∷ xs) ys = ap (other x.0 (tree_of x.1)) (view_joined xs ys)

pub view_count : (xs : Children) → other_count (others_view xs) ≡ length xs
view_count [] = refl
view_count (x ∷ xs) = let more = view_count xs in omega (arith, more)

pub joined_assoc : (a b c : Others) → rows_joined (rows_joined a b) c ≡ rows_joined a (rows_joined b c)
joined_assoc none b c = refl
joined_assoc (other key tree a) b c = ap (other key tree) (joined_assoc a b c)

pub joined_none : (a : Others) → rows_joined a none ≡ a
joined_none none = refl
joined_none (other key tree a) = ap (other key tree) (joined_none a)

leaf_joined : (pairs : List Pair) (others : Others) → rows_joined (leaf_before pairs none) others ≡ leaf_before pairs others
leaf_joined [] others = refl
leaf_joined (p ∷ ps) others = refl

branch_joined : (row others : Others) → rows_joined (branch_before row none) others ≡ branch_before row others
branch_joined none others = refl
branch_joined (other key tree row) others = refl

-- ---- a leaf that is filled

pub no_front : (pairs : List Pair) → front_pairs 0 pairs ≡ []
no_front [] = refl
no_front (p ∷ ps) = rw (no_room_left (entry_size p) (omega arith)) refl

pub pair_fits : (row : Others) (here : List Pair) (room : ℕ) (p : Pair) (ps : List Pair) → entry_size p ≤ room
    → rows_joined row (leaf_before ((here ++ p ∷ []) ++ front_pairs (room - entry_size p) ps) (leaves_behind (room - entry_size p) ps)) ≡ rows_joined row (leaf_before (here ++ front_pairs room (p ∷ ps)) (leaves_behind room (p ∷ ps)))
pair_fits row here room p ps le =
    rw (le-leb (entry_size p) room le) (ap (λ (l : List Pair). rows_joined row (leaf_before l (leaves_behind (room - entry_size p) ps))) (append_assoc here (p ∷ []) (front_pairs (room - entry_size p) ps)))

pub pair_begins : (row : Others) (here : List Pair) (room : ℕ) (p : Pair) (ps : List Pair) → room < entry_size p
    → rows_joined (rows_joined row (leaf_before here none)) (leaf_before (p ∷ front_pairs (entry_room - entry_size p) ps) (leaves_behind (entry_room - entry_size p) ps))
    ≡ rows_joined row (leaf_before (here ++ front_pairs room (p ∷ ps)) (leaves_behind room (p ∷ ps)))
pair_begins row here room p ps lt =
    let next = leaf_before (p ∷ front_pairs (entry_room - entry_size p) ps) (leaves_behind (entry_room - entry_size p) ps) in
    rw (lt-leb (entry_size p) room lt, append-nil here) (joined_assoc row (leaf_before here none) next ∙ ap (rows_joined row) (leaf_joined here next))

-- ---- a branch that is filled

pub no_front_others : (row : Others) → front_others 0 row ≡ none
no_front_others none = refl
no_front_others (other key tree others) = rw (no_room_left (6 + length key) (omega arith)) refl

pub node_fits : (row here : Others) (room : ℕ) (key : List ℕ) (tree : Tree) (others : Others) → 6 + length key ≤ room
    → rows_joined row (branch_before (rows_joined (rows_joined here (other key tree none)) (front_others (room - (6 + length key)) others)) (branches_behind (room - (6 + length key)) others))
    ≡ rows_joined row (branch_before (rows_joined here (front_others room (other key tree others))) (branches_behind room (other key tree others)))
node_fits row here room key tree others le =
    rw (le-leb (6 + length key) room le)
    (ap (λ (l : Others). rows_joined row (branch_before l (branches_behind (room - (6 + length key)) others))) (joined_assoc here (other key tree none) (front_others (room - (6 + length key)) others)))

pub node_begins : (row here : Others) (room : ℕ) (key : List ℕ) (tree : Tree) (others : Others) → room < 6 + length key
    → rows_joined (rows_joined row (branch_before here none)) (branch_before (other key tree (front_others branch_room others)) (branches_behind branch_room others))
    ≡ rows_joined row (branch_before (rows_joined here (front_others room (other key tree others))) (branches_behind room (other key tree others)))
node_begins row here room key tree others lt =
    let next = branch_before (other key tree (front_others branch_room others)) (branches_behind branch_room others) in
    rw (lt-leb (6 + length key) room lt, joined_none here) (joined_assoc row (branch_before here none) next ∙ ap (rows_joined row) (branch_joined here next))

-- ---- a node that is added

no_first : (pairs : List Pair) → None ≡ slice_get pairs 0 → pairs ≡ []
no_first [] e = refl
no_first (p ∷ ps) e = absurd (cc e)

pub no_leaf_added : (row : Others) (pairs : List Pair) → None ≡ slice_get pairs 0 → row ≡ rows_joined row (leaf_before pairs none)
no_leaf_added row pairs e = sym (joined_none row) ∙ ap (λ (l : List Pair). rows_joined row (leaf_before l none)) (sym (no_first pairs e))

abbrev some_pair : Pair → Option Pair
some_pair p = Some p

some_is : (x y : Pair) → some_pair x ≡ some_pair y → x ≡ y
some_is x y e = cc

leaf_one : (key : List ℕ) (x : Pair) (pairs : List Pair) → key ≡ x.0 → Some x ≡ slice_get pairs 0 → other key (leaf pairs) none ≡ leaf_before pairs none
leaf_one key x [] k e = absurd (cc e)
leaf_one key x (p ∷ ps) k e = ap (λ (y : List ℕ). other y (leaf (p ∷ ps)) none) (k ∙ ap key_of (some_is x p e))

pub leaf_added : (row new : Children) (v : Vec Pair Global) (key : List ℕ) (x : Pair) → new ≡ row ++ (key, Leaf v) ∷ [] → key ≡ x.0 → Some x ≡ slice_get v.items 0
    → others_view new ≡ rows_joined (others_view row) (leaf_before v.items none)
leaf_added row new v key x n k e =
    ap others_view n ∙ view_joined row ((key, Leaf v) ∷ []) ∙ ap (λ (t : Tree). rows_joined (others_view row) (other key t none)) (tree_leaf v) ∙ ap (rows_joined (others_view row)) (leaf_one key x v.items k e)

pub no_branch_added : (row : Others) (cs : Children) → length cs ≡ 0 → row ≡ rows_joined row (branch_before (others_view cs) none)
no_branch_added row [] e = sym (joined_none row)
no_branch_added row (c ∷ cs) e = absurd (omega (arith, e))

branch_one : (cs : Children) (x : List ℕ × Node) → 0 < length cs → x ≡ get_or cs 0 x → other x.0 (branch (tree_of x.1) (others_view (remove cs 0))) none ≡ branch_before (others_view cs) none
branch_one [] x lt e = absurd (omega (arith, lt))
branch_one (c ∷ cs) x lt e = ap (λ (y : List ℕ × Node). other y.0 (branch (tree_of y.1) (others_view cs)) none) e

pub branch_added : (row new cs : Children) (first : Box Node Global) (rest : Vec (List ℕ × Node) Global) (x : List ℕ × Node) → new ≡ row ++ (x.0, Branch first rest) ∷ [] → 0 < length cs → x ≡ get_or cs 0 x → first.value ≡ x.1 → rest.items ≡ remove cs 0
    → others_view new ≡ rows_joined (others_view row) (branch_before (others_view cs) none)
branch_added row new cs first rest x n lt e v r =
    let whole : tree_of (Branch first rest) ≡ branch (tree_of x.1) (others_view (remove cs 0)) = tree_branch first rest ∙ rw (v, r) refl in
    ap others_view n ∙ view_joined row ((x.0, Branch first rest) ∷ []) ∙ ap (λ (t : Tree). rows_joined (others_view row) (other x.0 t none)) whole ∙ ap (rows_joined (others_view row)) (branch_one cs x lt e)

-- ---- an entry that comes, by what the calls for it leave

pub first_pairs : (row : Others) (here pairs : List Pair) → row ≡ none → here ≡ [] → rows_joined row (leaf_before (here ++ front_pairs 0 pairs) (leaves_behind 0 pairs)) ≡ leaves_of pairs
first_pairs row here pairs r h = rw (r, h, no_front pairs) refl

pub first_nodes : (row here others : Others) → row ≡ none → here ≡ none → rows_joined row (branch_before (rows_joined here (front_others 0 others)) (branches_behind 0 others)) ≡ branches_of others
first_nodes row here others r h = rw (r, h, no_front_others others) refl

pub pair_after : (row closed : Others) (here left now : List Pair) (room size : ℕ) (p : Pair) (ps : List Pair) → closed ≡ rows_joined row (leaf_before here none) → left ≡ [] → now ≡ left ++ p ∷ [] → size ≡ entry_size p → room < size
    → rows_joined closed (leaf_before (now ++ front_pairs (4072 - size) ps) (leaves_behind (4072 - size) ps)) ≡ rows_joined row (leaf_before (here ++ front_pairs room (p ∷ ps)) (leaves_behind room (p ∷ ps)))
pair_after row closed here left now room size p ps c l n s lt = rw (c, n, l, s) (pair_begins row here room p ps (subst (λ (x : ℕ). room < x) s lt))

pub node_within : (row : Others) (here now : Children) (room : ℕ) (slice key : List ℕ) (node : Node) (others : Others) → now ≡ here ++ (key, node) ∷ [] → slice ≡ key → 6 + length slice ≤ room
    → rows_joined row (branch_before (rows_joined (others_view now) (front_others (room - (6 + length slice)) others)) (branches_behind (room - (6 + length slice)) others))
    ≡ rows_joined row (branch_before (rows_joined (others_view here) (front_others room (other key (tree_of node) others))) (branches_behind room (other key (tree_of node) others)))
node_within row here now room slice key node others n s le =
    rw (n, view_joined here ((key, node) ∷ []), s) (node_fits row (others_view here) room key (tree_of node) others (subst (λ (x : List ℕ). 6 + length x ≤ room) s le))

pub node_after : (row closed here : Others) (left now : Children) (room : ℕ) (slice key : List ℕ) (node : Node) (others : Others) → closed ≡ rows_joined row (branch_before here none) → left ≡ [] → now ≡ left ++ (key, node) ∷ [] → slice ≡ key → room < 6 + length slice
    → rows_joined closed (branch_before (rows_joined (others_view now) (front_others 4066 others)) (branches_behind 4066 others))
    ≡ rows_joined row (branch_before (rows_joined here (front_others room (other key (tree_of node) others))) (branches_behind room (other key (tree_of node) others)))
node_after row closed here left now room slice key node others c l n s lt = rw (c, n, l) (node_begins row here room key (tree_of node) others (subst (λ (x : List ℕ). room < 6 + length x) s lt))

pub last_branch : (row here : Others) (room : ℕ) → rows_joined row (branch_before here none) ≡ rows_joined row (branch_before (rows_joined here (front_others room none)) (branches_behind room none))
last_branch row here room = ap (λ (l : Others). rows_joined row (branch_before l none)) (sym (joined_none here))

pub node_comes : (yielded : Children) (key : List ℕ) (node : Node) (others : Others) → rows_joined (others_view yielded) (other key (tree_of node) others) ≡ rows_joined (others_view (yielded ++ (key, node) ∷ [])) others
node_comes yielded key node others = sym (ap (λ (l : Others). rows_joined l others) (view_joined yielded ((key, node) ∷ [])) ∙ joined_assoc (others_view yielded) (other key (tree_of node) none) others)
