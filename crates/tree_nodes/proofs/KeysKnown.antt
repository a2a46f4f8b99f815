-- Where the nodes on a key's path are owned, the leaf at its end says whether the key has a value.
use Rattle.std.proofs.Common.{◌≡◌, ℕ, zero, suc, Bool, true, false, List, [], ◌∷◌, ◌++◌, Option, Some, None, cond, refl, sym, ap, ◌∙◌, arith}
use Rattle.std.specs.Prelude.{is_some, if◌then◌else◌}
use Rattle.std.specs.BTreeMap.{is_at}
use Rattle.common_types.specs.ByteOrder.{byte_cmp}
use Rattle.page_store.specs.Keys.{precedes}
use Rattle.page_store.specs.Pages.{Pair}
use Rattle.page_store.specs.Batch.{value_at}
use Rattle.tree_nodes.specs.Tree.{Tree, Others, page, leaf, branch, none, other, OldPages, pairs_of, row_pairs, goes_first, way, row_way, place}
use Rattle.tree_nodes.specs.Valid.{IsValid, IsValidRow, IsOld, others_high}
use Rattle.tree_nodes.specs.Steps.{RootState, IsValidRoot, needed_under, root_pairs}
use Rattle.tree_nodes.specs.Keys.{has_key, row_has_key, has_under}
use Rattle.tree_nodes.specs.NodeView.{tree_of, others_view}
use Rattle.tree_nodes.specs.declared.node.Node.{Node}
use Rattle.tree_nodes.proofs.KeyOrder.{not_both, less_is, greater_is}
use Rattle.tree_nodes.proofs.JoinedPairs.{AllKeys, follows}
use Rattle.tree_nodes.proofs.KeysWithinBounds.{within, row_above, first_below}
use Rattle.tree_nodes.proofs.SupplyKeepsPairs.{some_none}
use Rattle.tree_nodes.proofs.NodesAsTrees.{Children, node_at, place_none, place_some, row_step}

-- ---- values of pairs that are joined

value_before : (key : List ℕ) (ys : List Pair) → AllKeys (precedes key) ys → value_at ys key ≡ None
value_before key [] h = refl
value_before key (y ∷ ys) h = rw (less_is key y.0 h.0) (value_before key ys h.1)

value_left : (key : List ℕ) (xs ys : List Pair) → AllKeys (precedes key) ys → value_at (xs ++ ys) key ≡ value_at xs key
value_left key [] ys h = value_before key ys h
value_left key (x ∷ xs) ys h = ap (cond (is_at (byte_cmp key) x.0) (Some x.1)) (value_left key xs ys h)

value_right : (key : List ℕ) (xs ys : List Pair) → AllKeys (follows key) xs → value_at (xs ++ ys) key ≡ value_at ys key
value_right key [] ys h = refl
value_right key (x ∷ xs) ys h = rw (greater_is x.0 key h.0) (value_right key xs ys h.1)

-- ---- a tree and its pairs

knows_branch : (b : Bool) (old : OldPages) (key : List ℕ) (tree : Tree) (others : Others) → goes_first key others ≡ b → (if b then way key tree else row_way key others) ≡ None
    → (goes_first key others ≡ true → AllKeys (precedes key) (row_pairs old others)) → (goes_first key others ≡ false → AllKeys (follows key) (pairs_of old tree))
    → (way key tree ≡ None → has_key key tree ≡ is_some (value_at (pairs_of old tree) key))
    → (goes_first key others ≡ false → row_way key others ≡ None → row_has_key key others ≡ is_some (value_at (row_pairs old others) key))
    → (if b then has_key key tree else row_has_key key others) ≡ is_some (value_at (pairs_of old tree ++ row_pairs old others) key)
knows_branch true old key tree others g w above below child row = child w ∙ ap is_some (sym (value_left key (pairs_of old tree) (row_pairs old others) (above g)))
knows_branch false old key tree others g w above below child row = row g w ∙ ap is_some (sym (value_right key (pairs_of old tree) (row_pairs old others) (below g)))

mutual
  knows : (tree : Tree) (old : OldPages) (o : IsOld old) (level : ℕ) (low : List ℕ) (high : Option (List ℕ)) (key : List ℕ) → IsValid old level tree low high → way key tree ≡ None → has_key key tree ≡ is_some (value_at (pairs_of old tree) key)
  knows (page n) old o level low high key h w = some_none n (sym w)
  knows (leaf pairs) old o level low high key h w = refl
  knows (branch tree others) old o zero low high key h w = absurd h
  knows (branch tree others) old o (suc level) low high key h w =
      knows_branch (goes_first key others) old key tree others refl w
      (row_above others old o level low high key h.1)
      (λ g. first_below others low high key (pairs_of old tree) g (within tree old o level low (others_high others high) h.0))
      (knows tree old o level low (others_high others high) key h.0)
      (row_knows others old o level low high key h.1)

  row_knows : (others : Others) (old : OldPages) (o : IsOld old) (level : ℕ) (low : List ℕ) (high : Option (List ℕ)) (key : List ℕ) → IsValidRow old level others low high → goes_first key others ≡ false → row_way key others ≡ None
      → row_has_key key others ≡ is_some (value_at (row_pairs old others) key)
  row_knows none old o level low high key h f w = not_both true refl f
  row_knows (other first tree others) old o level low high key h f w =
      knows_branch (goes_first key others) old key tree others refl w
      (row_above others old o level first high key h.4)
      (λ g. first_below others first high key (pairs_of old tree) g (within tree old o level first (others_high others high) h.3))
      (knows tree old o level first (others_high others high) key h.3)
      (row_knows others old o level first high key h.4)

knows_root : (old : OldPages) (o : IsOld old) (root : Option Tree) (height : ℕ) (key : List ℕ) → IsValidRoot old root height → needed_under key root ≡ None → has_under key root ≡ is_some (value_at (root_pairs old root) key)
knows_root old o None height key v w = refl
knows_root old o (Some tree) height key v w = knows tree old o v.0 [] None key v.2 w

pub leaf_knows : (old : OldPages) (o : IsOld old) (state : RootState) (key : List ℕ) → IsValidRoot old state.root state.height → needed_under key state.root ≡ None → has_under key state.root ≡ is_some (value_at (root_pairs old state.root) key)
leaf_knows old o state key v w = knows_root old o state.root state.height key v w

-- ---- nodes, as trees

row_has_at : (cs : Children) (key : List ℕ) (i : ℕ) (d : List ℕ × Node) → place key (others_view cs) ≡ suc i → row_has_key key (others_view cs) ≡ has_key key (node_at cs i d)
row_has_at [] key i d h = absurd (omega (arith, h))
row_has_at (c ∷ cs) key zero d h = rw (place_none key (others_view cs) (row_step key c.0 (tree_of c.1) (others_view cs) 0 h)) refl
row_has_at (c ∷ cs) key (suc i) d h =
    let more = row_step key c.0 (tree_of c.1) (others_view cs) (suc i) h in
    rw (place_some key (others_view cs) i more) (row_has_at cs key i d more)

pub has_first : (key : List ℕ) (tree : Tree) (others : Others) → place key others ≡ 0 → has_key key (branch tree others) ≡ has_key key tree
has_first key tree others h = rw (place_none key others h) refl

pub has_other : (key : List ℕ) (tree : Tree) (cs : Children) (i : ℕ) (d : List ℕ × Node) → place key (others_view cs) ≡ suc i → has_key key (branch tree (others_view cs)) ≡ has_key key (node_at cs i d)
has_other key tree cs i d h = rw (place_some key (others_view cs) i h) (row_has_at cs key i d h)
