-- The sizes of pairs that are looked up.
use Rattle.std.proofs.Common.{◌≡◌, ℕ, ◌≤◌, Bool, true, false, List, [], ◌∷◌, length, Option, Some, subst, sym, cond}
use Rattle.std.specs.List.{list_all}
use Rattle.std.specs.Ordering.{is_lt}
use Rattle.std.specs.BTreeMap.{is_at}
use Rattle.common_types.specs.ByteOrder.{byte_cmp}
use Rattle.page_store.specs.Reading.{where_true}
use Rattle.page_store.specs.Pages.{Pair, Place, pair_at, entries_of, leaf_of, are_leaf}
use Rattle.page_store.specs.Batch.{is_pair, value_at, pair_after}
use Rattle.page_store.proofs.Fields.{bind_some, test_passed}
use Rattle.page_store.proofs.DecodedPages.{pair_sizes}
use Rattle.tree_nodes.proofs.KeyOrder.{both_true}
use Rattle.tree_nodes.proofs.SizesRead.{pairs_read, entries_read}
use Rattle.tree_nodes.proofs.WalksWithinBounds.{pairs_is}

pub leaf_pairs : (place : Place) (low : List ℕ) (high : Option (List ℕ)) (bytes : List ℕ) (pairs : List Pair) → leaf_of place low high bytes ≡ Some pairs → list_all is_pair pairs ≡ true
unfolding leaf_of
leaf_pairs place low high bytes pairs e =
    let f = bind_some (entries_of pair_at place bytes) (λ ps. where_true (are_leaf low high ps) (Some ps)) pairs e in
    let t = test_passed (are_leaf low high f.0) (Some f.0) pairs f.2 in
    let r = entries_read pair_at place bytes f.0 f.1 in
    subst (λ (l : List Pair). list_all is_pair l ≡ true) (pairs_is f.0 pairs t.1) (pairs_read r.0 r.1 (f.0, r.2) r.3).1

abbrev some_value : List ℕ → Option (List ℕ)
some_value v = Some v

value_is : (a b : List ℕ) → some_value a ≡ some_value b → a ≡ b
value_is a b e = cc

pub value_size : (pairs : List Pair) (key v : List ℕ) → list_all is_pair pairs ≡ true → Some v ≡ value_at pairs key → length v ≤ 1024
value_size [] key v h e = absurd (cc e)
value_size (p ∷ ps) key v h e =
    let b = both_true (is_pair p) (list_all is_pair ps) h in
    here (is_at (byte_cmp key) p.0) e (pair_sizes p b.0).1 (λ later. value_size ps key v b.1 later)
  where
    here : (t : Bool) → Some v ≡ cond t (Some p.1) (value_at ps key) → length p.1 ≤ 1024 → (Some v ≡ value_at ps key → length v ≤ 1024) → length v ≤ 1024
    here true e size later = let same = value_is v p.1 e in subst (λ (l : List ℕ). length l ≤ 1024) (sym same) size
    here false e size later = later e

abbrev some_pair : Pair → Option Pair
some_pair p = Some p

pair_is : (a b : Pair) → some_pair a ≡ some_pair b → a ≡ b
pair_is a b e = cc

pub after_sizes : (pairs : List Pair) (key : List ℕ) (p : Pair) → list_all is_pair pairs ≡ true → Some p ≡ pair_after pairs key → (length p.0 ≤ 300) × (length p.1 ≤ 1024)
after_sizes [] key p h e = absurd (cc e)
after_sizes (q ∷ qs) key p h e =
    let b = both_true (is_pair q) (list_all is_pair qs) h in
    here (is_lt (byte_cmp key q.0)) e (pair_sizes q b.0) (λ later. after_sizes qs key p b.1 later)
  where
    here : (t : Bool) → Some p ≡ cond t (Some q) (pair_after qs key) → (length q.0 ≤ 300) × (length q.1 ≤ 1024) → (Some p ≡ pair_after qs key → (length p.0 ≤ 300) × (length p.1 ≤ 1024)) → (length p.0 ≤ 300) × (length p.1 ≤ 1024)
    here true e size later = let same = pair_is p q e in subst (λ (x : Pair). (length x.0 ≤ 300) × (length x.1 ≤ 1024)) (sym same) size
    here false e size later = later e
