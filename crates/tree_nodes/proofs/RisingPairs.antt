-- Pairs whose keys rise, after a pair is put or taken, and in two parts.
use Rattle.std.proofs.Common.{◌≡◌, ℕ, Bool, true, false, List, [], ◌∷◌, ◌++◌, map, cond, Ordering, refl, sym, ap, ◌∙◌}
use Rattle.std.specs.List.{list_all}
use Rattle.std.specs.Ordering.{match_ordering}
use Rattle.std.specs.declared.cmp.Ordering.TheVariants.{Less, Equal, Greater}
use Rattle.std.specs.BTreeMap.{insert_entry, is_at}
use Rattle.std.proofs.lemmas.List.Folds.{list_all-append}
use Rattle.common_types.specs.ByteOrder.{byte_cmp}
use Rattle.page_store.specs.Keys.{precedes, rises}
use Rattle.page_store.specs.Pages.{Pair, key_of}
use Rattle.page_store.specs.Batch.{is_pair, is_key, is_value}
use Rattle.tree_nodes.proofs.KeyOrder.{both_true, below_below, greater_gives}
use Rattle.tree_nodes.proofs.JoinedPairs.{AllKeys, keys_wider, taken}
use Rattle.std.specs.Ordering.{is_lt}

-- keys that are above a lower one, and rise
abbrev pub Above : List ℕ → List Pair → Type 0
Above k pairs = rises (k ∷ map key_of pairs) ≡ true

abbrev pub Rises : List Pair → Type 0
Rises pairs = rises (map key_of pairs) ≡ true

pub tail_rises : (k : List ℕ) (pairs : List Pair) → Above k pairs → Rises pairs
tail_rises k [] h = refl
tail_rises k (e ∷ es) h = (both_true (precedes k e.0) (rises (e.0 ∷ map key_of es)) h).1

pub above_all : (k : List ℕ) (pairs : List Pair) → Above k pairs → AllKeys (precedes k) pairs
above_all k [] h = tt
above_all k (e ∷ es) h =
    let b = both_true (precedes k e.0) (rises (e.0 ∷ map key_of es)) h in
    (b.0, keys_wider (precedes e.0) (precedes k) (λ key l. below_below k e.0 key b.0 l) es (above_all e.0 es b.1))

pub above_from : (k : List ℕ) (pairs : List Pair) → AllKeys (precedes k) pairs → Rises pairs → Above k pairs
above_from k [] h r = refl
above_from k (e ∷ es) h r = rw (h.0, r) refl

-- ---- two parts

pub keys_front : (p : List ℕ → Bool) (xs ys : List Pair) → AllKeys p (xs ++ ys) → AllKeys p xs
keys_front p [] ys h = tt
keys_front p (x ∷ xs) ys h = (h.0, keys_front p xs ys h.1)

pub keys_back : (p : List ℕ → Bool) (xs ys : List Pair) → AllKeys p (xs ++ ys) → AllKeys p ys
keys_back p [] ys h = h
keys_back p (x ∷ xs) ys h = keys_back p xs ys h.1

pub rises_front : (xs ys : List Pair) → Rises (xs ++ ys) → Rises xs
rises_front [] ys h = refl
rises_front (x ∷ xs) ys h = above_from x.0 xs (keys_front (precedes x.0) xs ys (above_all x.0 (xs ++ ys) h)) (rises_front xs ys (tail_rises x.0 (xs ++ ys) h))

pub rises_back : (xs ys : List Pair) → Rises (xs ++ ys) → Rises ys
rises_back [] ys h = h
rises_back (x ∷ xs) ys h = rises_back xs ys (tail_rises x.0 (xs ++ ys) h)

abbrev pub precedes_it : List ℕ → List ℕ → Bool
precedes_it key k = precedes k key

pub front_below : (xs : List Pair) (e : Pair) (es : List Pair) → Rises (xs ++ e ∷ es) → AllKeys (precedes_it e.0) xs
front_below [] e es h = tt
front_below (x ∷ xs) e es h = ((keys_back (precedes x.0) xs (e ∷ es) (above_all x.0 (xs ++ e ∷ es) h)).0, front_below xs e es (tail_rises x.0 (xs ++ e ∷ es) h))

pub all_front : (xs ys : List Pair) → list_all is_pair (xs ++ ys) ≡ true → list_all is_pair xs ≡ true
all_front xs ys h = (both_true (list_all is_pair xs) (list_all is_pair ys) (sym (list_all-append is_pair xs ys) ∙ h)).0

pub all_back : (xs ys : List Pair) → list_all is_pair (xs ++ ys) ≡ true → list_all is_pair ys ≡ true
all_back xs ys h = (both_true (list_all is_pair xs) (list_all is_pair ys) (sym (list_all-append is_pair xs ys) ∙ h)).1

-- ---- a pair put

pub put_keys : (p : List ℕ → Bool) (pairs : List Pair) (key value : List ℕ) → p key ≡ true → AllKeys p pairs → AllKeys p (insert_entry byte_cmp pairs key value)
put_keys p [] key value k h = (k, tt)
put_keys p (e ∷ es) key value k h = go (byte_cmp key e.0) (put_keys p es key value k h.1)
  where
    go : (o : Ordering) → AllKeys p (insert_entry byte_cmp es key value) → AllKeys p (match_ordering o ((key, value) ∷ e ∷ es) ((e.0, value) ∷ es) (e ∷ insert_entry byte_cmp es key value))
    go Less more = (k, h)
    go Equal more = (h.0, h.1)
    go Greater more = (h.0, more)

pub put_rises : (pairs : List Pair) (key value : List ℕ) → Rises pairs → Rises (insert_entry byte_cmp pairs key value)
put_rises [] key value h = refl
put_rises (e ∷ es) key value h = go (byte_cmp key e.0) refl (put_rises es key value (tail_rises e.0 es h))
  where
    go : (o : Ordering) → byte_cmp key e.0 ≡ o → Rises (insert_entry byte_cmp es key value) → Rises (match_ordering o ((key, value) ∷ e ∷ es) ((e.0, value) ∷ es) (e ∷ insert_entry byte_cmp es key value))
    go Less is more = rw (ap is_lt is) h
    go Equal is more = h
    go Greater is more = above_from e.0 (insert_entry byte_cmp es key value) (put_keys (precedes e.0) es key value (greater_gives key e.0 is) (above_all e.0 es h)) more

pub put_pairs : (pairs : List Pair) (key value : List ℕ) → list_all is_pair pairs ≡ true → is_pair (key, value) ≡ true → list_all is_pair (insert_entry byte_cmp pairs key value) ≡ true
put_pairs [] key value h p = rw p refl
put_pairs (e ∷ es) key value h p = go (byte_cmp key e.0) (put_pairs es key value (both_true (is_pair e) (list_all is_pair es) h).1 p)
  where
    both : (is_pair e ≡ true) × (list_all is_pair es ≡ true)
    both = both_true (is_pair e) (list_all is_pair es) h

    key_is : is_key e.0 ≡ true
    key_is = (both_true (is_key e.0) (is_value e.1) both.0).0

    value_is : is_value value ≡ true
    value_is = (both_true (is_key key) (is_value value) p).1

    go : (o : Ordering) → list_all is_pair (insert_entry byte_cmp es key value) ≡ true → list_all is_pair (match_ordering o ((key, value) ∷ e ∷ es) ((e.0, value) ∷ es) (e ∷ insert_entry byte_cmp es key value)) ≡ true
    go Less more = rw p h
    go Equal more = rw (key_is, value_is, both.1) refl
    go Greater more = rw both.0 more

-- ---- a pair taken

pub take_keys : (p : List ℕ → Bool) (pairs : List Pair) (key : List ℕ) → AllKeys p pairs → AllKeys p (taken key pairs)
take_keys p [] key h = tt
take_keys p (e ∷ es) key h = go (is_at (byte_cmp key) e.0) (take_keys p es key h.1)
  where
    go : (b : Bool) → AllKeys p (taken key es) → AllKeys p (cond b es (e ∷ taken key es))
    go true more = h.1
    go false more = (h.0, more)

pub take_rises : (pairs : List Pair) (key : List ℕ) → Rises pairs → Rises (taken key pairs)
take_rises [] key h = refl
take_rises (e ∷ es) key h = go (is_at (byte_cmp key) e.0) (take_rises es key (tail_rises e.0 es h))
  where
    go : (b : Bool) → Rises (taken key es) → Rises (cond b es (e ∷ taken key es))
    go true more = tail_rises e.0 es h
    go false more = above_from e.0 (taken key es) (take_keys (precedes e.0) es key (above_all e.0 es h)) more

pub take_pairs : (pairs : List Pair) (key : List ℕ) → list_all is_pair pairs ≡ true → list_all is_pair (taken key pairs) ≡ true
take_pairs [] key h = refl
take_pairs (e ∷ es) key h = go (is_at (byte_cmp key) e.0) (take_pairs es key (both_true (is_pair e) (list_all is_pair es) h).1)
  where
    both : (is_pair e ≡ true) × (list_all is_pair es ≡ true)
    both = both_true (is_pair e) (list_all is_pair es) h

    go : (b : Bool) → list_all is_pair (taken key es) ≡ true → list_all is_pair (cond b es (e ∷ taken key es)) ≡ true
    go true more = both.1
    go false more = rw both.0 more
