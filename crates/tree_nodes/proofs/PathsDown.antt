-- A page that is read on a key's path ends it, or leads one level down.
use Rattle.std.proofs.Common.{◌≡◌, ℕ, zero, suc, ◌+◌, ◌-◌, ◌<◌, Bool, true, false, List, [], ◌∷◌, Option, Some, None, refl, sym, ap, subst, ◌∙◌, arith}
use Rattle.std.specs.Prelude.{IsSome, if◌then◌else◌}
use Rattle.page_store.specs.Reading.{◌>>=◌}
use Rattle.page_store.specs.Pages.{Pair, Child, leaf_of, branch_of}
use Rattle.page_store.specs.Content.{Bounds, place_in}
use Rattle.tree_nodes.specs.Tree.{Tree, Others, page, leaf, branch, none, other, OldPages, goes_first, way, row_way}
use Rattle.tree_nodes.specs.Supply.{others_named, branch_named, tree_in, path_depth, row_depth, supplied, row_supplied}
use Rattle.tree_nodes.specs.Steps.{RootState, needed_under, read_under, where_needed, supply_step, stepped}
use Rattle.tree_nodes.specs.Needs.{needed_level}
use Rattle.tree_nodes.proofs.SupplyKeepsPairs.{some_none}

-- ---- the path through a tree with what was read

-- the first key of a row stays
first_stays : (others : Others) (key : List ℕ) (t : Tree) → goes_first key (row_supplied key t others) ≡ goes_first key others
first_stays none key t = refl
first_stays (other first tree others) key t = go (goes_first key others)
  where
    go : (b : Bool) → goes_first key (if b then other first (supplied key t tree) others else other first tree (row_supplied key t others)) ≡ goes_first key (other first tree others)
    go true = refl
    go false = refl

-- where the path of a key ends after a supply, and how deep
pub record LeadsTo (key : List ℕ) (t before after : Tree) : Type 0 where
  pub way : way key after ≡ way key t
  pub depth : path_depth key after ≡ path_depth key before + path_depth key t

record RowLeadsTo (key : List ℕ) (t : Tree) (before after : Others) : Type 0 where
  way : row_way key after ≡ way key t
  depth : row_depth key after ≡ row_depth key before + path_depth key t

leads_branch : (b : Bool) (key : List ℕ) (t tree : Tree) (others : Others) (n : ℕ) → goes_first key others ≡ b → (if b then way key tree else row_way key others) ≡ Some n
    → (way key tree ≡ Some n → LeadsTo key t tree (supplied key t tree)) → (row_way key others ≡ Some n → RowLeadsTo key t others (row_supplied key t others))
    → LeadsTo key t (branch tree others) (if b then branch (supplied key t tree) others else branch tree (row_supplied key t others))
leads_branch true key t tree others n g w child row =
    let c = child w in
    let deep = c.depth in
    record { way = rw g c.way; depth = rw g (omega (arith, deep)) }
leads_branch false key t tree others n g w child row =
    let c = row w in
    let deep = c.depth in
    let f : goes_first key (row_supplied key t others) ≡ false = first_stays others key t ∙ g in
    record { way = rw f c.way; depth = rw (f, g) (omega (arith, deep)) }

leads_other : (b : Bool) (key : List ℕ) (t : Tree) (first : List ℕ) (tree : Tree) (others : Others) (n : ℕ) → goes_first key others ≡ b → (if b then way key tree else row_way key others) ≡ Some n
    → (way key tree ≡ Some n → LeadsTo key t tree (supplied key t tree)) → (row_way key others ≡ Some n → RowLeadsTo key t others (row_supplied key t others))
    → RowLeadsTo key t (other first tree others) (if b then other first (supplied key t tree) others else other first tree (row_supplied key t others))
leads_other true key t first tree others n g w child row =
    let c = child w in
    record { way = rw g c.way; depth = rw (g, c.depth) refl }
leads_other false key t first tree others n g w child row =
    let c = row w in
    let f : goes_first key (row_supplied key t others) ≡ false = first_stays others key t ∙ g in
    record { way = rw f c.way; depth = rw (f, g, c.depth) refl }

mutual
  leads : (tree : Tree) (key : List ℕ) (t : Tree) (n : ℕ) → way key tree ≡ Some n → LeadsTo key t tree (supplied key t tree)
  leads (page m) key t n w = record { way = refl; depth = omega arith }
  leads (leaf pairs) key t n w = some_none n w
  leads (branch tree others) key t n w = leads_branch (goes_first key others) key t tree others n refl w (leads tree key t n) (row_leads others key t n)

  row_leads : (others : Others) (key : List ℕ) (t : Tree) (n : ℕ) → row_way key others ≡ Some n → RowLeadsTo key t others (row_supplied key t others)
  row_leads none key t n w = some_none n w
  row_leads (other first tree others) key t n w = leads_other (goes_first key others) key t first tree others n refl w (leads tree key t n) (row_leads others key t n)

-- ---- what the bytes of a page say

named_depth : (children : List Child) (key : List ℕ) → row_depth key (others_named children) ≡ 0
named_depth [] key = refl
named_depth (child ∷ children) key = go (goes_first key (others_named children)) (named_depth children key)
  where
    go : (b : Bool) → row_depth key (others_named children) ≡ 0 → (if b then 0 else row_depth key (others_named children)) ≡ 0
    go true more = refl
    go false more = more

-- a leaf, or of a level above 0 a branch over pages
abbrev IsRead : ℕ → List ℕ → Tree → Type 0
IsRead zero key t = way key t ≡ None
IsRead (suc level) key t = path_depth key t ≡ 1

branch_depth : (children : List Child) (key : List ℕ) (b : Bool) → suc (if b then 0 else row_depth key (others_named children)) ≡ 1
branch_depth children key true = refl
branch_depth children key false = ap suc (named_depth children key)

leaf_read : (key : List ℕ) (pairs : Option (List Pair)) (t : Tree) → (pairs >>= λ (ps : List Pair). Some (leaf ps)) ≡ Some t → way key t ≡ None
leaf_read key None t h = absurd (cc h)
leaf_read key (Some pairs) t h = let e : leaf pairs ≡ t = cc h in subst (λ (x : Tree). way key x ≡ None) e refl

named_read : (level : ℕ) (key : List ℕ) (children : List Child) (t : Tree) → branch_named children ≡ Some t → path_depth key t ≡ 1
named_read level key [] t h = absurd (cc h)
named_read level key (child ∷ children) t h =
    let e : branch (page child.page) (others_named children) ≡ t = cc h in
    subst (λ (x : Tree). path_depth key x ≡ 1) e (branch_depth children key (goes_first key (others_named children)))

branch_read : (level : ℕ) (key : List ℕ) (children : Option (List Child)) (t : Tree) → (children >>= branch_named) ≡ Some t → path_depth key t ≡ 1
branch_read level key None t h = absurd (cc h)
branch_read level key (Some children) t h = named_read level key children t h

is_read : (bounds : Bounds) (level n : ℕ) (bytes key : List ℕ) (t : Tree) → tree_in bounds level n bytes ≡ Some t → IsRead level key t
is_read bounds zero n bytes key t h = leaf_read key (leaf_of (place_in bounds 0 n) [] None bytes) t h
is_read bounds (suc level) n bytes key t h = branch_read level key (branch_of (place_in bounds (suc level) n) [] None bytes) t h

-- ---- one level down

lower : (level height depth under : ℕ) (key : List ℕ) (t : Tree) (m : ℕ) → IsRead level key t → way key t ≡ Some m → level ≡ height - 1 - depth → under ≡ depth + path_depth key t → height - 1 - under < level
lower zero height depth under key t m r w e u = absurd (cc (r, w))
lower (suc level) height depth under key t m r w e u = omega (arith, r, e, u)

tree_leads_down : (tree t : Tree) (height level : ℕ) (key : List ℕ) (n m : ℕ) → way key tree ≡ Some n → IsRead level key t → level ≡ height - 1 - path_depth key tree → way key (supplied key t tree) ≡ Some m → height - 1 - path_depth key (supplied key t tree) < level
tree_leads_down tree t height level key n m w r e after =
    let l = leads tree key t n w in
    lower level height (path_depth key tree) (path_depth key (supplied key t tree)) key t m r (sym l.way ∙ after) e l.depth

down : (bounds : Bounds) (bytes : List ℕ) (root : Option Tree) (height level : ℕ) (key : List ℕ) (n m : ℕ) (read : Option Tree) → tree_in bounds level n bytes ≡ read → level ≡ needed_level key (record { root = root; height = height })
    → needed_under key root ≡ Some n → IsSome read → needed_under key (read_under key read root height).root ≡ Some m → needed_level key (read_under key read root height) < level
down bounds bytes root height level key n m None says e w some after = absurd (cc some)
down bounds bytes None height level key n m (Some t) says e w some after = some_none n w
down bounds bytes (Some tree) height level key n m (Some t) says e w some after = tree_leads_down tree t height level key n m w (is_read bounds level n bytes key t says) e after

pub leads_down : (bounds : Bounds) (bytes : List ℕ) (state : RootState) (key : List ℕ) (n m : ℕ) → needed_under key state.root ≡ Some n → IsSome (tree_in bounds (needed_level key state) n bytes)
    → needed_under key (read_under key (tree_in bounds (needed_level key state) n bytes) state.root state.height).root ≡ Some m
    → needed_level key (read_under key (tree_in bounds (needed_level key state) n bytes) state.root state.height) < needed_level key state
leads_down bounds bytes state key n m w some after = down bounds bytes state.root state.height (needed_level key state) key n m (tree_in bounds (needed_level key state) n bytes) refl refl w some after

-- ---- a supply keeps the height

read_height : (key : List ℕ) (read root : Option Tree) (height : ℕ) → (read_under key read root height).height ≡ height
read_height key None root height = refl
read_height key (Some read) None height = refl
read_height key (Some read) (Some tree) height = refl

needed_height : (old : OldPages) (key : List ℕ) (need : Option ℕ) (state : RootState) → (where_needed old key need state).height ≡ state.height
needed_height old key None state = refl
needed_height old key (Some n) state = read_height key (old.opened (needed_level key state) n) state.root state.height

pub supply_height : (old : OldPages) (state : RootState) (key : List ℕ) → (stepped old state (supply_step key)).height ≡ state.height
supply_height old state key = needed_height old key (needed_under key state.root) state
