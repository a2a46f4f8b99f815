-- Any list of puts, deletes and supplies keeps a valid tree, and makes the map that the changes make.
use Rattle.std.proofs.Common.{◌≡◌, ℕ, suc, ◌-◌, true, List, [], ◌∷◌, ◌++◌, Option, Some, None, refl, sym, ap, subst, ◌∙◌, arith, append-nil}
use Rattle.std.specs.Map.{remove_entry}
use Rattle.std.specs.BTreeMap.{insert_entry, is_at}
use Rattle.common_types.specs.ByteOrder.{byte_cmp}
use Rattle.page_store.specs.Keys.{is_between}
use Rattle.page_store.specs.Pages.{Pair}
use Rattle.page_store.specs.Batch.{is_pair}
use Rattle.tree_nodes.specs.Tree.{Tree, OldPages, pairs_of}
use Rattle.tree_nodes.specs.Put.{Grown, one, two, put, rooted}
use Rattle.tree_nodes.specs.Delete.{delete}
use Rattle.tree_nodes.specs.Supply.{path_depth}
use Rattle.tree_nodes.specs.Valid.{IsValidLeaf, IsOld, IsLeft, grown_pairs, left_pairs, rooted_level}
use Rattle.tree_nodes.specs.Steps.{RootState, NodeStep, put_step, delete_step, supply_step, needed_under, grown_height, put_under, left_under, delete_under, read_under, where_owned, where_needed, stepped, after_steps, where_done, changed, after_changes, root_pairs, IsValidRoot, IsStep, AreSteps}
use Rattle.tree_nodes.proofs.KeyOrder.{between_from}
use Rattle.tree_nodes.proofs.WalksWithinBounds.{not_below_nothing}
use Rattle.tree_nodes.proofs.LeafSplits.{pair_size}
use Rattle.tree_nodes.proofs.PutChangesOneKey.{put_tree_pairs, put_tree_valid}
use Rattle.tree_nodes.proofs.DeleteChangesOneKey.{delete_tree_pairs, delete_tree_valid}
use Rattle.tree_nodes.proofs.NodesAndLevels.{rooted_valid}
use Rattle.tree_nodes.proofs.SupplyKeepsPairs.{supply_tree}

-- a state that is valid, with these pairs
abbrev HasPairs : OldPages → RootState → List Pair → Type 0
HasPairs old state pairs = IsValidRoot old state.root state.height × (root_pairs old state.root ≡ pairs)

pub everywhere : (key : List ℕ) → is_between [] None key ≡ true
everywhere key = between_from [] None key (not_below_nothing key) refl

-- ---- a put

rooted_pairs : (old : OldPages) (g : Grown) → pairs_of old (rooted g) ≡ grown_pairs old g
rooted_pairs old (one tree) = refl
rooted_pairs old (two tree key next) = ap (λ (l : List Pair). pairs_of old tree ++ l) (append-nil (pairs_of old next))

height_is : (level height : ℕ) (g : Grown) → height ≡ suc level → grown_height height g ≡ suc (rooted_level level g)
height_is level height (one tree) e = e
height_is level height (two tree key next) e = ap suc e

first_leaf : (pair : Pair) → is_pair pair ≡ true → IsValidLeaf (pair ∷ []) [] None
first_leaf pair p = (rw (everywhere pair.0) refl, rw p refl, tt, (let size = pair_size pair p in omega (arith, size)))

put_holds : (old : OldPages) (o : IsOld old) (root : Option Tree) (height : ℕ) (key value : List ℕ) → is_pair (key, value) ≡ true → IsValidRoot old root height → needed_under key root ≡ None
    → HasPairs old (put_under key value root height) (insert_entry byte_cmp (root_pairs old root) key value)
put_holds old o None height key value p v w = ((0, refl, first_leaf (key, value) p), refl)
put_holds old o (Some tree) height key value p v w = (
  (rooted_level v.0 (put key value tree), height_is v.0 height (put key value tree) v.1, rooted_valid old v.0 (put key value tree) [] None (put_tree_valid tree old v.0 [] None key value v.2 (everywhere key) p)),
  rooted_pairs old (put key value tree) ∙ put_tree_pairs tree old o v.0 [] None key value v.2 w,
)

-- ---- a delete

left_holds : (old : OldPages) (level height : ℕ) (left : Option Tree) (pairs : List Pair) → height ≡ suc level → IsLeft old level left [] None → left_pairs old left ≡ pairs → HasPairs old (left_under left height) pairs
left_holds old level height None pairs e v s = (refl, s)
left_holds old level height (Some tree) pairs e v s = ((level, e, v), s)

delete_holds : (old : OldPages) (o : IsOld old) (root : Option Tree) (height : ℕ) (key : List ℕ) → IsValidRoot old root height → needed_under key root ≡ None
    → HasPairs old (delete_under key root height) (remove_entry (is_at (byte_cmp key)) (root_pairs old root))
delete_holds old o None height key v w = (refl, refl)
delete_holds old o (Some tree) height key v w =
    left_holds old v.0 height (delete key tree) (remove_entry (is_at (byte_cmp key)) (pairs_of old tree)) v.1 (delete_tree_valid tree old o v.0 [] None key v.2) (delete_tree_pairs tree old o v.0 [] None key v.2 w)

-- ---- a supply

supply_holds : (old : OldPages) (o : IsOld old) (root : Option Tree) (height : ℕ) (key : List ℕ) (n : ℕ) → IsValidRoot old root height → needed_under key root ≡ Some n
    → HasPairs old (where_needed old key (Some n) (record { root = root; height = height })) (root_pairs old root)
supply_holds old o None height key n v w = absurd (cc w)
supply_holds old o (Some tree) height key n v w =
    let s = supply_tree tree old o v.0 [] None key n v.2 w in
    let level : height - 1 - path_depth key tree ≡ v.0 - path_depth key tree = omega (arith, v.1) in
    let read : old.opened (height - 1 - path_depth key tree) n ≡ Some s.0 = ap (λ (l : ℕ). old.opened l n) level ∙ s.1 in
    subst (λ (r : Option Tree). HasPairs old (read_under key r (Some tree) height) (pairs_of old tree)) (sym read) ((v.0, v.1, s.2), s.3)

-- ---- a step, and any list of them

put_step_holds : (old : OldPages) (o : IsOld old) (state : RootState) (key value : List ℕ) (need : Option ℕ) → needed_under key state.root ≡ need → is_pair (key, value) ≡ true → IsValidRoot old state.root state.height
    → HasPairs old (where_owned need (put_under key value state.root state.height) state) (where_done need (insert_entry byte_cmp (root_pairs old state.root) key value) (root_pairs old state.root))
put_step_holds old o state key value None w p v = put_holds old o state.root state.height key value p v w
put_step_holds old o state key value (Some n) w p v = (v, refl)

delete_step_holds : (old : OldPages) (o : IsOld old) (state : RootState) (key : List ℕ) (need : Option ℕ) → needed_under key state.root ≡ need → IsValidRoot old state.root state.height
    → HasPairs old (where_owned need (delete_under key state.root state.height) state) (where_done need (remove_entry (is_at (byte_cmp key)) (root_pairs old state.root)) (root_pairs old state.root))
delete_step_holds old o state key None w v = delete_holds old o state.root state.height key v w
delete_step_holds old o state key (Some n) w v = (v, refl)

supply_step_holds : (old : OldPages) (o : IsOld old) (state : RootState) (key : List ℕ) (need : Option ℕ) → needed_under key state.root ≡ need → IsValidRoot old state.root state.height → HasPairs old (where_needed old key need state) (root_pairs old state.root)
supply_step_holds old o state key None w v = (v, refl)
supply_step_holds old o state key (Some n) w v = supply_holds old o state.root state.height key n v w

step_holds : (old : OldPages) (o : IsOld old) (state : RootState) (step : NodeStep) → IsStep step → IsValidRoot old state.root state.height → HasPairs old (stepped old state step) (changed state (root_pairs old state.root) step)
step_holds old o state (put_step key value) s v = put_step_holds old o state key value (needed_under key state.root) refl s v
step_holds old o state (delete_step key) s v = delete_step_holds old o state key (needed_under key state.root) refl v
step_holds old o state (supply_step key) s v = supply_step_holds old o state key (needed_under key state.root) refl v

pub steps_hold : (steps : List NodeStep) (old : OldPages) (o : IsOld old) (state : RootState) → AreSteps steps → IsValidRoot old state.root state.height
    → IsValidRoot old (after_steps old state steps).root (after_steps old state steps).height × (root_pairs old (after_steps old state steps).root ≡ after_changes old state (root_pairs old state.root) steps)
steps_hold [] old o state s v = (v, refl)
steps_hold (step ∷ steps) old o state s v =
    let here = step_holds old o state step s.0 v in
    let more = steps_hold steps old o (stepped old state step) s.1 here.0 in
    (more.0, more.1 ∙ ap (λ (l : List Pair). after_changes old (stepped old state step) l steps) here.1)
