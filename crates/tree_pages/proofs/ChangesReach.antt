-- Puts and deletes keep the pages that are named; a page that is supplied gives its place to those under it.
use Rattle.std.proofs.Common.{◌≡◌, ℕ, zero, suc, ◌+◌, ◌-◌, ◌≤◌, Bool, true, false, List, [], ◌∷◌, ◌++◌, length, Option, Some, None, refl, sym, ap, subst, ◌∙◌, arith, append-nil}
use Rattle.std.specs.Prelude.{if◌then◌else◌}
use Rattle.page_store.specs.Reading.{◌>>=◌}
use Rattle.page_store.specs.Pages.{Child, leaf_of, branch_of}
use Rattle.page_store.specs.Content.{Found, Bounds, place_in, joined, low_of, high_of, fan, walk}
use Rattle.page_store.proofs.Fields.{bind_some}
use Rattle.tree_nodes.specs.Tree.{Tree, Others, page, leaf, branch, none, other, goes_first, way, row_way, pages_of, row_pages}
use Rattle.tree_nodes.specs.Put.{Grown, one, two, put, rooted}
use Rattle.tree_nodes.specs.Delete.{delete}
use Rattle.tree_nodes.specs.Supply.{others_named, branch_named, tree_in, path_depth, supplied, row_supplied}
use Rattle.tree_nodes.specs.Steps.{RootState, supply_step, needed_under, put_under, left_under, delete_under, read_under, where_needed, stepped, IsValidRoot}
use Rattle.tree_nodes.specs.Valid.{grown_pages, left_pages}
use Rattle.tree_nodes.specs.Image.{old_of}
use Rattle.tree_nodes.proofs.NodesAndLevels.{put_pages, delete_pages}
use Rattle.tree_nodes.proofs.WalksWithinBounds.{some_is, children_is, walk_wider, not_below_nothing}
use Rattle.tree_nodes.proofs.PagesOpen.{image_is_old}
use Rattle.tree_nodes.proofs.SupplyKeepsPairs.{supply_tree}
use Rattle.tree_pages.specs.Reached.{times, pages_under, all_under, reached, root_reached}
use Rattle.tree_pages.proofs.Counted.{times_joined}
use Rattle.tree_pages.proofs.FoundTrees.{under_joined, under_is}
use Rattle.tree_pages.proofs.LevelsReached.{no_page, same_page, way_stands, found_at}

-- ---- puts and deletes

rooted_pages : (g : Grown) → pages_of (rooted g) ≡ grown_pages g
rooted_pages (one tree) = refl
rooted_pages (two tree key next) = ap (λ (l : List ℕ). pages_of tree ++ l) (append-nil (pages_of next))

pub put_reaches : (bytes : ℕ → List ℕ) (bounds : Bounds) (root : Option Tree) (height : ℕ) (key value : List ℕ) (m : ℕ) → times m (root_reached bytes bounds (put_under key value root height).root) ≡ times m (root_reached bytes bounds root)
put_reaches bytes bounds None height key value m = refl
put_reaches bytes bounds (Some tree) height key value m = ap (λ (l : List ℕ). times m (all_under bytes bounds l)) (rooted_pages (put key value tree) ∙ put_pages tree key value)

left_reaches : (bytes : ℕ → List ℕ) (bounds : Bounds) (left : Option Tree) (height : ℕ) → root_reached bytes bounds (left_under left height).root ≡ all_under bytes bounds (left_pages left)
left_reaches bytes bounds None height = refl
left_reaches bytes bounds (Some tree) height = refl

pub delete_reaches : (bytes : ℕ → List ℕ) (bounds : Bounds) (root : Option Tree) (height : ℕ) (key : List ℕ) (m : ℕ) → times m (root_reached bytes bounds (delete_under key root height).root) ≡ times m (root_reached bytes bounds root)
delete_reaches bytes bounds None height key m = refl
delete_reaches bytes bounds (Some tree) height key m = ap (times m) (left_reaches bytes bounds (delete key tree) height) ∙ ap (λ (l : List ℕ). times m (all_under bytes bounds l)) (delete_pages tree key)

-- ---- a page

pub page_reaches : (bytes : ℕ → List ℕ) (bounds : Bounds) (level n : ℕ) (found : Found) → walk bytes bounds level n [] None ≡ Some found → (m : ℕ) → times m (root_reached bytes bounds (Some (page n))) ≡ times m found.pages
page_reaches bytes bounds level n found e m = ap (times m) (append-nil (pages_under bytes bounds n) ∙ under_is bytes bounds level n [] None found e)

-- ---- what is named at the end of a key's path

two_reached : (bytes : ℕ → List ℕ) (bounds : Bounds) (xs ys : List ℕ) (m : ℕ) → times m (all_under bytes bounds (xs ++ ys)) ≡ times m (all_under bytes bounds xs) + times m (all_under bytes bounds ys)
two_reached bytes bounds xs ys m = ap (times m) (under_joined bytes bounds xs ys) ∙ times_joined m (all_under bytes bounds xs) (all_under bytes bounds ys)

one_reached : (bytes : ℕ → List ℕ) (bounds : Bounds) (n m : ℕ) → times m (all_under bytes bounds (n ∷ [])) ≡ times m (pages_under bytes bounds n)
one_reached bytes bounds n m = ap (times m) (append-nil (pages_under bytes bounds n))

module _ (bytes : ℕ → List ℕ) (bounds : Bounds) (t : Tree) (n m : ℕ) where
  -- how often a number stands among the pages at and under these
  abbrev count : List ℕ → ℕ
  count ns = times m (all_under bytes bounds ns)

  -- these pages lost the one that is supplied, with those under it, and gained the pages of the tree that stands in its place
  abbrev Replaces : List ℕ → List ℕ → Type 0
  Replaces before after = count before + count (pages_of t) ≡ count after + times m (pages_under bytes bounds n)

  in_first : (first new others : List ℕ) → Replaces first new → Replaces (first ++ others) (new ++ others)
  in_first first new others h =
      let a = two_reached bytes bounds first others m in
      let b = two_reached bytes bounds new others m in
      omega (arith, a, b, h)

  in_others : (first others new : List ℕ) → Replaces others new → Replaces (first ++ others) (first ++ new)
  in_others first others new h =
      let a = two_reached bytes bounds first others m in
      let b = two_reached bytes bounds first new m in
      omega (arith, a, b, h)

mutual
  replaces : (tree : Tree) (bytes : ℕ → List ℕ) (bounds : Bounds) (key : List ℕ) (t : Tree) (n m : ℕ) → way key tree ≡ Some n → Replaces bytes bounds t n m (pages_of tree) (pages_of (supplied key t tree))
  replaces (page k) bytes bounds key t n m w =
      let here = one_reached bytes bounds k m in
      let is = ap (λ (i : ℕ). times m (pages_under bytes bounds i)) (same_page k n w) in
      omega (arith, here, is)
  replaces (leaf pairs) bytes bounds key t n m w = no_page n w
  replaces (branch tree others) bytes bounds key t n m w = go (goes_first key others) w (λ v. replaces tree bytes bounds key t n m v) (λ v. replaces_row others bytes bounds key t n m v)
    where
      go : (b : Bool) → (if b then way key tree else row_way key others) ≡ Some n → (way key tree ≡ Some n → Replaces bytes bounds t n m (pages_of tree) (pages_of (supplied key t tree)))
          → (row_way key others ≡ Some n → Replaces bytes bounds t n m (row_pages others) (row_pages (row_supplied key t others)))
          → Replaces bytes bounds t n m (pages_of (branch tree others)) (pages_of (if b then branch (supplied key t tree) others else branch tree (row_supplied key t others)))
      go true w child row = in_first bytes bounds t n m (pages_of tree) (pages_of (supplied key t tree)) (row_pages others) (child w)
      go false w child row = in_others bytes bounds t n m (pages_of tree) (row_pages others) (row_pages (row_supplied key t others)) (row w)

  replaces_row : (others : Others) (bytes : ℕ → List ℕ) (bounds : Bounds) (key : List ℕ) (t : Tree) (n m : ℕ) → row_way key others ≡ Some n → Replaces bytes bounds t n m (row_pages others) (row_pages (row_supplied key t others))
  replaces_row none bytes bounds key t n m w = no_page n w
  replaces_row (other first tree others) bytes bounds key t n m w = go (goes_first key others) w (λ v. replaces tree bytes bounds key t n m v) (λ v. replaces_row others bytes bounds key t n m v)
    where
      go : (b : Bool) → (if b then way key tree else row_way key others) ≡ Some n → (way key tree ≡ Some n → Replaces bytes bounds t n m (pages_of tree) (pages_of (supplied key t tree)))
          → (row_way key others ≡ Some n → Replaces bytes bounds t n m (row_pages others) (row_pages (row_supplied key t others)))
          → Replaces bytes bounds t n m (row_pages (other first tree others)) (row_pages (if b then other first (supplied key t tree) others else other first tree (row_supplied key t others)))
      go true w child row = in_first bytes bounds t n m (pages_of tree) (pages_of (supplied key t tree)) (row_pages others) (child w)
      go false w child row = in_others bytes bounds t n m (pages_of tree) (row_pages others) (row_pages (row_supplied key t others)) (row w)

-- ---- a page, and what its bytes say

-- what a walk finds under the children of a page is what a branch of them reaches
fan_reaches : (bytes : ℕ → List ℕ) (bounds : Bounds) (level : ℕ) (children : List Child) (low : List ℕ) (high : Option (List ℕ)) (found : Found) (m : ℕ) → fan (walk bytes bounds level) low high children ≡ Some found
    → times m (all_under bytes bounds (row_pages (others_named children))) ≡ times m found.pages
fan_reaches bytes bounds level [] low high found m e = ap (λ (x : Found). times m x.pages) (some_is _ found e)
fan_reaches bytes bounds level (child ∷ children) low high found m e =
    let f = bind_some (walk bytes bounds level child.page (low_of low child.key) (high_of children high)) (λ here. fan (walk bytes bounds level) low high children >>= λ others. Some (joined here others)) found e in
    let g = bind_some (fan (walk bytes bounds level) low high children) (λ others. Some (joined f.0 others)) found f.2 in
    let here = ap (times m) (under_is bytes bounds level child.page (low_of low child.key) (high_of children high) f.0 f.1) in
    let more = fan_reaches bytes bounds level children low high g.0 m g.1 in
    let named = times_joined m (pages_under bytes bounds child.page) (all_under bytes bounds (row_pages (others_named children))) in
    let both = times_joined m f.0.pages g.0.pages in
    let all = ap (λ (x : Found). times m x.pages) (some_is (joined f.0 g.0) found g.2) in
    omega (arith, here, more, named, both, all)

abbrev some_tree : Tree → Option Tree
some_tree t = Some t

tree_is : (s t : Tree) → some_tree s ≡ some_tree t → s ≡ t
tree_is s t h = cc

named_reaches : (bytes : ℕ → List ℕ) (bounds : Bounds) (level : ℕ) (children : List Child) (found : Found) (t : Tree) (m : ℕ) → fan (walk bytes bounds level) [] None children ≡ Some found → branch_named children ≡ Some t
    → times m (reached bytes bounds t) ≡ times m found.pages
named_reaches bytes bounds level [] found t m e is = absurd (cc is)
named_reaches bytes bounds level (child ∷ children) found t m e is =
    ap (λ (s : Tree). times m (reached bytes bounds s)) (sym (tree_is (branch (page child.page) (others_named children)) t is)) ∙ fan_reaches bytes bounds level (child ∷ children) [] None found m e

read_reaches : (bytes : ℕ → List ℕ) (bounds : Bounds) (level n : ℕ) (found : Found) (t : Tree) (m : ℕ) → walk bytes bounds level n [] None ≡ Some found → tree_in bounds level n (bytes n) ≡ Some t
    → times m found.pages ≡ times m (reached bytes bounds t) + times m (n ∷ [])
read_reaches bytes bounds zero n found t m e read =
    let f = bind_some (leaf_of (place_in bounds 0 n) [] None (bytes n)) (λ pairs. Some (record { pages = n ∷ []; pairs = pairs })) found e in
    let g = bind_some (leaf_of (place_in bounds 0 n) [] None (bytes n)) (λ pairs. Some (leaf pairs)) t read in
    let all = ap (λ (x : Found). times m x.pages) (some_is _ found f.2) in
    let nothing = ap (λ (s : Tree). times m (reached bytes bounds s)) (tree_is (leaf g.0) t g.2) in
    omega (arith, all, nothing)
read_reaches bytes bounds (suc level) n found t m e read =
    let f = bind_some (branch_of (place_in bounds (suc level) n) [] None (bytes n)) (λ children. fan (walk bytes bounds level) [] None children >>= λ under. Some (record { pages = n ∷ under.pages; pairs = under.pairs })) found e in
    let g = bind_some (fan (walk bytes bounds level) [] None f.0) (λ under. Some (record { pages = n ∷ under.pages; pairs = under.pairs })) found f.2 in
    let c = bind_some (branch_of (place_in bounds (suc level) n) [] None (bytes n)) branch_named t read in
    let alike : f.0 ≡ c.0 = children_is f.0 c.0 (sym f.1 ∙ c.1) in
    let under = named_reaches bytes bounds level c.0 g.0 t m (ap (fan (walk bytes bounds level) [] None) (sym alike) ∙ g.1) c.2 in
    let all = ap (λ (x : Found). times m x.pages) (some_is _ found g.2) in
    omega (arith, under, all)

-- ---- a supply

supply_reaches : (bytes : ℕ → List ℕ) (bounds : Bounds) → ((n : ℕ) → length (bytes n) ≤ 4096) → (root : Option Tree) (height : ℕ) (key : List ℕ) (n : ℕ) → IsValidRoot (old_of bytes bounds) root height → needed_under key root ≡ Some n → (m : ℕ)
    → times m (root_reached bytes bounds root) ≡ times m (root_reached bytes bounds (where_needed (old_of bytes bounds) key (Some n) (record { root = root; height = height })).root) + times m (n ∷ [])
supply_reaches bytes bounds sizes None height key n v w m = no_page n w
supply_reaches bytes bounds sizes (Some tree) height key n v w m =
    let old = old_of bytes bounds in
    let s = supply_tree tree old (image_is_old bytes bounds sizes) v.0 [] None key n v.2 w in
    let up = v.1 in
    let level : height - 1 - path_depth key tree ≡ v.0 - path_depth key tree = omega (arith, up) in
    let read : old.opened (height - 1 - path_depth key tree) n ≡ Some s.0 = ap (λ (l : ℕ). old.opened l n) level ∙ s.1 in
    let stands = way_stands tree old v.0 [] None key n v.2 w in
    let f = found_at bytes bounds (v.0 - path_depth key tree) n stands.0 stands.1 stands.2 in
    let whole = walk_wider bytes bounds (v.0 - path_depth key tree) n stands.0 [] stands.1 None f.0 (not_below_nothing stands.0) (λ k h. refl) f.1 in
    let under = ap (times m) (under_is bytes bounds (v.0 - path_depth key tree) n stands.0 stands.1 f.0 f.1) in
    let said = read_reaches bytes bounds (v.0 - path_depth key tree) n f.0 s.0 m whole s.1 in
    let both = replaces tree bytes bounds key s.0 n m w in
    subst (λ (r : Option Tree). times m (reached bytes bounds tree) ≡ times m (root_reached bytes bounds (read_under key r (Some tree) height).root) + times m (n ∷ [])) (sym read) (omega (arith, under, said, both))

pub supply_leaves : (bytes : ℕ → List ℕ) (bounds : Bounds) → ((n : ℕ) → length (bytes n) ≤ 4096) → (state : RootState) (key : List ℕ) (n : ℕ) → IsValidRoot (old_of bytes bounds) state.root state.height → needed_under key state.root ≡ Some n → (m : ℕ)
    → times m (root_reached bytes bounds state.root) ≡ times m (root_reached bytes bounds (stepped (old_of bytes bounds) state (supply_step key)).root) + times m (n ∷ [])
supply_leaves bytes bounds sizes state key n v w m =
    subst (λ (need : Option ℕ). times m (root_reached bytes bounds state.root) ≡ times m (root_reached bytes bounds (where_needed (old_of bytes bounds) key need state).root) + times m (n ∷ [])) (sym w)
    (supply_reaches bytes bounds sizes state.root state.height key n v w m)
