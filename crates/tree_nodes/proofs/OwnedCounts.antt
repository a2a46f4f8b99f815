-- How many nodes of a tree are owned, after a put, a delete and a supply.
use Rattle.std.proofs.Common.{◌≡◌, ℕ, zero, suc, ◌+◌, ◌-◌, ◌≤◌, Bool, true, false, List, [], ◌∷◌, take, drop, Option, Some, None, refl, sym, ap, subst, ◌∙◌, arith}
use Rattle.std.specs.Prelude.{nat_le, if◌then◌else◌}
use Rattle.std.specs.BTreeMap.{insert_entry}
use Rattle.common_types.specs.ByteOrder.{byte_cmp}
use Rattle.page_store.specs.Pages.{Pair}
use Rattle.tree_nodes.specs.Tree.{Tree, Others, page, leaf, branch, none, other, OldPages, goes_first, way, row_way, owned_at, row_owned_at, owned_nodes, row_owned_nodes, other_bytes, leaf_bytes, entry_room}
use Rattle.tree_nodes.specs.Splits.{leaf_place, branch_place}
use Rattle.tree_nodes.specs.Put.{Grown, one, two, put, put_row, split_leaf, leaves, take_others, drop_others, branches, split_branch, grown_first, grown_other, rooted}
use Rattle.tree_nodes.specs.Delete.{delete, delete_row, leaf_left, first_left, other_left}
use Rattle.tree_nodes.specs.Supply.{path_depth, row_depth, supplied, row_supplied}
use Rattle.tree_nodes.specs.Valid.{IsValid, IsValidRow, IsOld, IsOneNode, others_high}
use Rattle.tree_nodes.specs.Steps.{RootState, IsValidRoot, needed_under, grown_height, put_under, left_under, delete_under, read_under, where_needed, supply_step, stepped}
use Rattle.tree_nodes.specs.Growth.{owned_under}
use Rattle.tree_nodes.proofs.JoinedPairs.{taken}
use Rattle.tree_nodes.proofs.SupplyKeepsPairs.{some_none, same, less}

-- ---- a put

abbrev grown_nodes : Grown → ℕ
grown_nodes (one tree) = owned_nodes tree
grown_nodes (two tree key next) = owned_nodes tree + owned_nodes next

leaves_nodes : (front back : List Pair) → grown_nodes (leaves front back) ≤ 2
leaves_nodes front [] = omega arith
leaves_nodes front (e ∷ es) = omega arith

split_leaf_nodes : (pairs : List Pair) → grown_nodes (split_leaf pairs) ≤ 2
split_leaf_nodes pairs = go (nat_le (leaf_bytes pairs) entry_room)
  where
    go : (b : Bool) → grown_nodes (if b then one (leaf pairs) else leaves (take (leaf_place pairs) pairs) (drop (leaf_place pairs) pairs)) ≤ 2
    go true = omega arith
    go false = leaves_nodes (take (leaf_place pairs) pairs) (drop (leaf_place pairs) pairs)

parts_nodes : (n : ℕ) (others : Others) → row_owned_nodes (take_others n others) + row_owned_nodes (drop_others n others) ≡ row_owned_nodes others
parts_nodes zero others = omega arith
parts_nodes (suc n) none = refl
parts_nodes (suc n) (other key tree others) = omega (arith, parts_nodes n others)

branches_nodes : (first : Tree) (front back : Others) → grown_nodes (branches first front back) ≤ owned_nodes first + (row_owned_nodes front + row_owned_nodes back) + 2
branches_nodes first front none = omega arith
branches_nodes first front (other key tree others) = omega arith

split_branch_nodes : (first : Tree) (others : Others) → grown_nodes (split_branch first others) ≤ owned_nodes first + row_owned_nodes others + 2
split_branch_nodes first others = go (nat_le (6 + other_bytes others) entry_room)
  where
    go : (b : Bool) → grown_nodes (if b then one (branch first others) else branches first (take_others (branch_place others) others) (drop_others (branch_place others) others)) ≤ owned_nodes first + row_owned_nodes others + 2
    go true = omega arith
    go false = omega (arith, branches_nodes first (take_others (branch_place others) others) (drop_others (branch_place others) others), parts_nodes (branch_place others) others)

grown_first_nodes : (g : Grown) (others : Others) → grown_nodes (grown_first g others) ≤ grown_nodes g + row_owned_nodes others + 2
grown_first_nodes (one tree) others = split_branch_nodes tree others
grown_first_nodes (two tree key next) others = omega (arith, split_branch_nodes tree (other key next others))

grown_other_nodes : (first : List ℕ) (g : Grown) (others : Others) → row_owned_nodes (grown_other first g others) ≡ grown_nodes g + row_owned_nodes others
grown_other_nodes first (one tree) others = refl
grown_other_nodes first (two tree key next) others = omega arith

branch_nodes : (b : Bool) (level : ℕ) (tree : Tree) (others : Others) (key value : List ℕ) → grown_nodes (put key value tree) ≤ owned_nodes tree + suc level → row_owned_nodes (put_row key value others) ≤ row_owned_nodes others + suc level
    → grown_nodes (if b then grown_first (put key value tree) others else split_branch tree (put_row key value others)) ≤ owned_nodes tree + row_owned_nodes others + 1 + suc (suc level)
branch_nodes true level tree others key value child row = omega (arith, grown_first_nodes (put key value tree) others, child)
branch_nodes false level tree others key value child row = omega (arith, split_branch_nodes tree (put_row key value others), row)

other_nodes : (b : Bool) (level : ℕ) (first : List ℕ) (tree : Tree) (others : Others) (key value : List ℕ) → grown_nodes (put key value tree) ≤ owned_nodes tree + suc level → row_owned_nodes (put_row key value others) ≤ row_owned_nodes others + suc level
    → row_owned_nodes (if b then grown_other first (put key value tree) others else other first tree (put_row key value others)) ≤ owned_nodes tree + row_owned_nodes others + suc level
other_nodes true level first tree others key value child row = omega (arith, grown_other_nodes first (put key value tree) others, child)
other_nodes false level first tree others key value child row = omega (arith, row)

mutual
  put_nodes : (tree : Tree) (old : OldPages) (level : ℕ) (low : List ℕ) (high : Option (List ℕ)) (key value : List ℕ) → IsValid old level tree low high → grown_nodes (put key value tree) ≤ owned_nodes tree + suc level
  put_nodes (page n) old level low high key value h = omega arith
  put_nodes (leaf pairs) old level low high key value h = omega (arith, split_leaf_nodes (insert_entry byte_cmp pairs key value))
  put_nodes (branch tree others) old zero low high key value h = absurd h
  put_nodes (branch tree others) old (suc level) low high key value h =
      branch_nodes (goes_first key others) level tree others key value (put_nodes tree old level low (others_high others high) key value h.0) (put_row_nodes others old level low high key value h.1)

  put_row_nodes : (others : Others) (old : OldPages) (level : ℕ) (low : List ℕ) (high : Option (List ℕ)) (key value : List ℕ) → IsValidRow old level others low high → row_owned_nodes (put_row key value others) ≤ row_owned_nodes others + suc level
  put_row_nodes none old level low high key value h = omega arith
  put_row_nodes (other first tree others) old level low high key value h =
      other_nodes (goes_first key others) level first tree others key value (put_nodes tree old level first (others_high others high) key value h.3) (put_row_nodes others old level first high key value h.4)

rooted_nodes : (level height before : ℕ) (g : Grown) → height ≡ suc level → grown_nodes g ≤ before + suc level → owned_nodes (rooted g) ≤ before + grown_height height g
rooted_nodes level height before (one tree) e h = omega (arith, e, h)
rooted_nodes level height before (two tree key next) e h = omega (arith, e, h)

pub put_makes_few : (old : OldPages) (root : Option Tree) (height : ℕ) (key value : List ℕ) → IsValidRoot old root height → owned_under (put_under key value root height).root ≤ owned_under root + (put_under key value root height).height
put_makes_few old None height key value v = omega arith
put_makes_few old (Some tree) height key value v = rooted_nodes v.0 height (owned_nodes tree) (put key value tree) v.1 (put_nodes tree old v.0 [] None key value v.2)

-- ---- a delete

leaf_left_nodes : (pairs : List Pair) → owned_under (leaf_left pairs) ≤ 1
leaf_left_nodes [] = omega arith
leaf_left_nodes (e ∷ es) = omega arith

first_left_nodes : (t : Option Tree) (others : Others) → owned_under (first_left t others) ≤ owned_under t + row_owned_nodes others + 1
first_left_nodes (Some tree) others = omega arith
first_left_nodes None none = omega arith
first_left_nodes None (other key tree others) = omega arith

other_left_nodes : (first : List ℕ) (t : Option Tree) (others : Others) → row_owned_nodes (other_left first t others) ≡ owned_under t + row_owned_nodes others
other_left_nodes first (Some tree) others = refl
other_left_nodes first None others = omega arith

left_branch_nodes : (b : Bool) (tree : Tree) (others : Others) (key : List ℕ) → owned_under (delete key tree) ≤ owned_nodes tree → row_owned_nodes (delete_row key others) ≤ row_owned_nodes others
    → owned_under (if b then first_left (delete key tree) others else Some (branch tree (delete_row key others))) ≤ owned_nodes tree + row_owned_nodes others + 1
left_branch_nodes true tree others key child row = omega (arith, first_left_nodes (delete key tree) others, child)
left_branch_nodes false tree others key child row = omega (arith, row)

left_other_nodes : (b : Bool) (first : List ℕ) (tree : Tree) (others : Others) (key : List ℕ) → owned_under (delete key tree) ≤ owned_nodes tree → row_owned_nodes (delete_row key others) ≤ row_owned_nodes others
    → row_owned_nodes (if b then other_left first (delete key tree) others else other first tree (delete_row key others)) ≤ owned_nodes tree + row_owned_nodes others
left_other_nodes true first tree others key child row = omega (arith, other_left_nodes first (delete key tree) others, child)
left_other_nodes false first tree others key child row = omega (arith, row)

mutual
  delete_nodes : (tree : Tree) (key : List ℕ) → owned_under (delete key tree) ≤ owned_nodes tree
  delete_nodes (page n) key = omega arith
  delete_nodes (leaf pairs) key = leaf_left_nodes (taken key pairs)
  delete_nodes (branch tree others) key = left_branch_nodes (goes_first key others) tree others key (delete_nodes tree key) (delete_row_nodes others key)

  delete_row_nodes : (others : Others) (key : List ℕ) → row_owned_nodes (delete_row key others) ≤ row_owned_nodes others
  delete_row_nodes none key = omega arith
  delete_row_nodes (other first tree others) key = left_other_nodes (goes_first key others) first tree others key (delete_nodes tree key) (delete_row_nodes others key)

left_root : (left : Option Tree) (height : ℕ) → (left_under left height).root ≡ left
left_root None height = refl
left_root (Some tree) height = refl

pub delete_makes_none : (root : Option Tree) (height : ℕ) (key : List ℕ) → owned_under (delete_under key root height).root ≤ owned_under root
delete_makes_none None height key = omega arith
delete_makes_none (Some tree) height key = omega (arith, ap owned_under (left_root (delete key tree) height), delete_nodes tree key)

-- ---- a supply

-- where the top of a tree is no owned node, none is
no_nodes : (tree : Tree) → owned_at 0 tree ≡ 0 → owned_nodes tree ≡ 0
no_nodes (page n) h = refl
no_nodes (leaf pairs) h = absurd (omega (arith, h))
no_nodes (branch tree others) h = absurd (omega (arith, h))

no_row_nodes : (others : Others) → row_owned_at 0 others ≡ 0 → row_owned_nodes others ≡ 0
no_row_nodes none h = refl
no_row_nodes (other key tree others) h = omega (arith, no_nodes tree (omega (arith, h)), no_row_nodes others (omega (arith, h)))

one_node : (tree : Tree) → IsOneNode tree → owned_nodes tree ≡ 1
one_node (page n) h = absurd (omega (arith, h.0))
one_node (leaf pairs) h = refl
one_node (branch tree others) h = let under = h.1 0 in omega (arith, no_nodes tree (omega (arith, under)), no_row_nodes others (omega (arith, under)))

supplied_branch : (b : Bool) (key : List ℕ) (t tree : Tree) (others : Others) (n : ℕ) → (if b then way key tree else row_way key others) ≡ Some n
    → (way key tree ≡ Some n → owned_nodes (supplied key t tree) ≡ owned_nodes tree + owned_nodes t)
    → (row_way key others ≡ Some n → row_owned_nodes (row_supplied key t others) ≡ row_owned_nodes others + owned_nodes t)
    → owned_nodes (if b then branch (supplied key t tree) others else branch tree (row_supplied key t others)) ≡ owned_nodes tree + row_owned_nodes others + 1 + owned_nodes t
supplied_branch true key t tree others n w child row = omega (arith, child w)
supplied_branch false key t tree others n w child row = omega (arith, row w)

supplied_other : (b : Bool) (key : List ℕ) (t : Tree) (first : List ℕ) (tree : Tree) (others : Others) (n : ℕ) → (if b then way key tree else row_way key others) ≡ Some n
    → (way key tree ≡ Some n → owned_nodes (supplied key t tree) ≡ owned_nodes tree + owned_nodes t)
    → (row_way key others ≡ Some n → row_owned_nodes (row_supplied key t others) ≡ row_owned_nodes others + owned_nodes t)
    → row_owned_nodes (if b then other first (supplied key t tree) others else other first tree (row_supplied key t others)) ≡ owned_nodes tree + row_owned_nodes others + owned_nodes t
supplied_other true key t first tree others n w child row = omega (arith, child w)
supplied_other false key t first tree others n w child row = omega (arith, row w)

mutual
  supplied_nodes : (tree : Tree) (key : List ℕ) (t : Tree) (n : ℕ) → way key tree ≡ Some n → owned_nodes (supplied key t tree) ≡ owned_nodes tree + owned_nodes t
  supplied_nodes (page m) key t n w = omega arith
  supplied_nodes (leaf pairs) key t n w = some_none n w
  supplied_nodes (branch tree others) key t n w = supplied_branch (goes_first key others) key t tree others n w (supplied_nodes tree key t n) (row_supplied_nodes others key t n)

  row_supplied_nodes : (others : Others) (key : List ℕ) (t : Tree) (n : ℕ) → row_way key others ≡ Some n → row_owned_nodes (row_supplied key t others) ≡ row_owned_nodes others + owned_nodes t
  row_supplied_nodes none key t n w = some_none n w
  row_supplied_nodes (other first tree others) key t n w = supplied_other (goes_first key others) key t first tree others n w (supplied_nodes tree key t n) (row_supplied_nodes others key t n)

-- the page that a key needs stands at its level, between some keys
pub record StandsAt (old : OldPages) (level n : ℕ) : Type 0 where
  pub low : List ℕ
  pub high : Option (List ℕ)
  pub stands : old.stands level n low high ≡ true

stands_branch : (b : Bool) (old : OldPages) (level : ℕ) (key : List ℕ) (tree : Tree) (others : Others) (n : ℕ) → (if b then way key tree else row_way key others) ≡ Some n
    → (way key tree ≡ Some n → StandsAt old (level - path_depth key tree) n)
    → (row_way key others ≡ Some n → StandsAt old (level - row_depth key others) n)
    → StandsAt old (level - (if b then path_depth key tree else row_depth key others)) n
stands_branch true old level key tree others n w child row = child w
stands_branch false old level key tree others n w child row = row w

at_level : (old : OldPages) (level m n : ℕ) (low : List ℕ) (high : Option (List ℕ)) → m ≡ n → old.stands level m low high ≡ true → StandsAt old (level - 0) n
at_level old level m n low high e h =
    let here : level ≡ level - 0 = omega arith in
    subst (λ (l : ℕ). StandsAt old l n) here (subst (StandsAt old level) e (record { low = low; high = high; stands = h }))

mutual
  path_stands : (tree : Tree) (old : OldPages) (level : ℕ) (low : List ℕ) (high : Option (List ℕ)) (key : List ℕ) (n : ℕ) → IsValid old level tree low high → way key tree ≡ Some n → StandsAt old (level - path_depth key tree) n
  path_stands (page m) old level low high key n h w = at_level old level m n low high (same m n w) h
  path_stands (leaf pairs) old level low high key n h w = some_none n w
  path_stands (branch tree others) old zero low high key n h w = absurd h
  path_stands (branch tree others) old (suc level) low high key n h w =
      subst (λ (l : ℕ). StandsAt old l n) (sym (less level (if goes_first key others then path_depth key tree else row_depth key others)))
      (stands_branch (goes_first key others) old level key tree others n w (path_stands tree old level low (others_high others high) key n h.0) (row_stands others old level low high key n h.1))

  row_stands : (others : Others) (old : OldPages) (level : ℕ) (low : List ℕ) (high : Option (List ℕ)) (key : List ℕ) (n : ℕ) → IsValidRow old level others low high → row_way key others ≡ Some n → StandsAt old (level - row_depth key others) n
  row_stands none old level low high key n h w = some_none n w
  row_stands (other first tree others) old level low high key n h w =
      stands_branch (goes_first key others) old level key tree others n w (path_stands tree old level first (others_high others high) key n h.3) (row_stands others old level first high key n h.4)

supply_root : (old : OldPages) (o : IsOld old) (root : Option Tree) (height : ℕ) (key : List ℕ) (n : ℕ) → IsValidRoot old root height → needed_under key root ≡ Some n
    → owned_under (where_needed old key (Some n) (record { root = root; height = height })).root ≡ owned_under root + 1
supply_root old o None height key n v w = some_none n w
supply_root old o (Some tree) height key n v w =
    let s = path_stands tree old v.0 [] None key n v.2 w in
    let read = o.opens (v.0 - path_depth key tree) n s.low s.high s.stands in
    let level : height - 1 - path_depth key tree ≡ v.0 - path_depth key tree = omega (arith, v.1) in
    let opened : old.opened (height - 1 - path_depth key tree) n ≡ Some read.0 = ap (λ (l : ℕ). old.opened l n) level ∙ read.1 in
    let count : owned_nodes (supplied key read.0 tree) ≡ owned_nodes tree + 1 = omega (arith, supplied_nodes tree key read.0 n w, one_node read.0 read.4) in
    subst (λ (r : Option Tree). owned_under (read_under key r (Some tree) height).root ≡ owned_nodes tree + 1) (sym opened) count

pub supply_makes_one : (old : OldPages) (o : IsOld old) (state : RootState) (key : List ℕ) (n : ℕ) → IsValidRoot old state.root state.height → needed_under key state.root ≡ Some n
    → owned_under (stepped old state (supply_step key)).root ≡ owned_under state.root + 1
supply_makes_one old o state key n v w = subst (λ (need : Option ℕ). owned_under (where_needed old key need state).root ≡ owned_under state.root + 1) (sym w) (supply_root old o state.root state.height key n v w)
