-- The keys of a tree stand between its bounds.
use Rattle.std.proofs.Common.{◌≡◌, ℕ, zero, suc, true, false, List, Option, Some, refl}
use Rattle.page_store.specs.Keys.{precedes, is_below, is_between}
use Rattle.page_store.specs.Pages.{Pair}
use Rattle.tree_nodes.specs.Tree.{Tree, Others, page, leaf, branch, none, other, OldPages, pairs_of, row_pairs, goes_first}
use Rattle.tree_nodes.specs.Valid.{IsValid, IsValidRow, IsOld, IsUpTo, others_high}
use Rattle.tree_nodes.proofs.KeyOrder.{not_both, not_back, below_below, below_upto, itself, between_parts, upto_key, upto_itself, wider}
use Rattle.tree_nodes.proofs.JoinedPairs.{AllKeys, keys_joined, keys_wider, all_keys, follows}
use Rattle.tree_nodes.proofs.LeafSplits.{loose_leaf}

-- the second child's key is no higher than the bound
pub row_upto : (old : OldPages) (level : ℕ) (others : Others) (low : List ℕ) (high : Option (List ℕ)) → IsValidRow old level others low high → IsUpTo (others_high others high) high
row_upto old level none low high h = upto_itself high
row_upto old level (other key tree others) low high h = upto_key key high h.1

pub keys_out : (low lower : List ℕ) (high higher : Option (List ℕ)) (xs : List Pair) → precedes low lower ≡ false → IsUpTo high higher → AllKeys (is_between low high) xs → AllKeys (is_between lower higher) xs
keys_out low lower high higher xs h k a = keys_wider (is_between low high) (is_between lower higher) (λ key b. wider low lower high higher key h k b) xs a

mutual
  pub within : (tree : Tree) (old : OldPages) (o : IsOld old) (level : ℕ) (low : List ℕ) (high : Option (List ℕ)) → IsValid old level tree low high → AllKeys (is_between low high) (pairs_of old tree)
  within (page n) old o level low high h = all_keys (is_between low high) (old.pairs n) (o.within level n low high h)
  within (leaf pairs) old o zero low high h = (loose_leaf pairs low high h).between
  within (leaf pairs) old o (suc level) low high h = absurd h
  within (branch tree others) old o zero low high h = absurd h
  within (branch tree others) old o (suc level) low high h =
      keys_joined (is_between low high) (pairs_of old tree) (row_pairs old others)
      (keys_out low low (others_high others high) high (pairs_of old tree) (itself low) (row_upto old level others low high h.1) (within tree old o level low (others_high others high) h.0))
      (row_within others old o level low high h.1)

  pub row_within : (others : Others) (old : OldPages) (o : IsOld old) (level : ℕ) (low : List ℕ) (high : Option (List ℕ)) → IsValidRow old level others low high → AllKeys (is_between low high) (row_pairs old others)
  row_within none old o level low high h = tt
  row_within (other key tree others) old o level low high h =
      keys_joined (is_between low high) (pairs_of old tree) (row_pairs old others)
      (keys_out key low (others_high others high) high (pairs_of old tree) (not_back low key h.0) (row_upto old level others key high h.4) (within tree old o level key (others_high others high) h.3))
      (keys_out key low high high (row_pairs old others) (not_back low key h.0) (upto_itself high) (row_within others old o level key high h.4))

keys_above : (key next : List ℕ) (high : Option (List ℕ)) (xs : List Pair) → precedes key next ≡ true → AllKeys (is_between next high) xs → AllKeys (precedes key) xs
keys_above key next high xs h a = keys_wider (is_between next high) (precedes key) (λ k b. below_upto key next k h (between_parts next high k b).0) xs a

-- a key that is below the second child's is below all keys from there on
pub row_above : (others : Others) (old : OldPages) (o : IsOld old) (level : ℕ) (low : List ℕ) (high : Option (List ℕ)) (key : List ℕ) → IsValidRow old level others low high → goes_first key others ≡ true → AllKeys (precedes key) (row_pairs old others)
row_above none old o level low high key h g = tt
row_above (other next tree others) old o level low high key h g =
    keys_joined (precedes key) (pairs_of old tree) (row_pairs old others)
    (keys_above key next (others_high others high) (pairs_of old tree) g (within tree old o level next (others_high others high) h.3))
    (keys_above key next high (row_pairs old others) g (row_within others old o level next high h.4))

-- a key that isn't below the second child's is above all keys of the first
pub first_below : (others : Others) (low : List ℕ) (high : Option (List ℕ)) (key : List ℕ) (xs : List Pair) → goes_first key others ≡ false → AllKeys (is_between low (others_high others high)) xs → AllKeys (follows key) xs
first_below none low high key xs g a = not_both true refl g
first_below (other next tree others) low high key xs g a = keys_wider (is_between low (Some next)) (follows key) (λ k b. below_upto k next key (between_parts low (Some next) k b).1 g) xs a

pub below_first : (others : Others) (high : Option (List ℕ)) (key : List ℕ) → goes_first key others ≡ true → is_below high key ≡ true → is_below (others_high others high) key ≡ true
below_first none high key g h = h
below_first (other next tree others) high key g h = g

-- the row from another lower bound, which is below its first key
pub row_from : (old : OldPages) (level : ℕ) (others : Others) (low from : List ℕ) (high : Option (List ℕ)) → is_below (others_high others high) from ≡ true → IsValidRow old level others low high → IsValidRow old level others from high
row_from old level none low from high b h = tt
row_from old level (other key tree others) low from high b h = (b, h.1, h.2, h.3, h.4)

pub row_lower : (old : OldPages) (level : ℕ) (others : Others) (low lower : List ℕ) (high : Option (List ℕ)) → precedes lower low ≡ true → IsValidRow old level others low high → IsValidRow old level others lower high
row_lower old level none low lower high b h = tt
row_lower old level (other key tree others) low lower high b h = (below_below lower low key b h.0, h.1, h.2, h.3, h.4)
