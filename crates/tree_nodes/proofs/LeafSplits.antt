-- A leaf after a pair is put or taken, and split in two.
use Rattle.std.proofs.Common.{◌≡◌, ℕ, ◌+◌, ◌-◌, ◌<◌, ◌≤◌, Bool, true, false, List, [], ◌∷◌, ◌++◌, map, length, take, drop, cond, Option, Some, Ordering, refl, sym, ap, subst, ◌∙◌, arith, append-nil}
use Rattle.std.specs.Prelude.{nat_le, if◌then◌else◌}
use Rattle.std.specs.List.{list_all}
use Rattle.std.specs.Ordering.{match_ordering}
use Rattle.std.specs.declared.cmp.Ordering.TheVariants.{Less, Equal, Greater}
use Rattle.std.specs.BTreeMap.{insert_entry, is_at}
use Rattle.std.proofs.lemmas.Bool.{leb-true, leb-false}
use Rattle.std.proofs.lemmas.List.{take-append-drop}
use Rattle.common_types.specs.ByteOrder.{byte_cmp}
use Rattle.page_store.specs.Keys.{precedes, rises, is_between}
use Rattle.page_store.specs.Pages.{Pair, key_of, are_leaf}
use Rattle.page_store.specs.Batch.{is_pair, is_key, is_value}
use Rattle.page_store.specs.Flat.{entry_size}
use Rattle.tree_nodes.specs.Tree.{leaf, OldPages, leaf_bytes, entry_room}
use Rattle.tree_nodes.specs.Splits.{leaf_place}
use Rattle.tree_nodes.specs.declared.splitting.TheConstants.{FRONT_OF_LEAF}
use Rattle.tree_nodes.specs.Put.{one, front_pairs, back_pairs, leaves, split_leaf}
use Rattle.tree_nodes.specs.Delete.{leaf_left}
use Rattle.tree_nodes.specs.Valid.{IsFilledLeaf, IsValidLeaf, IsGrown, grown_pairs, IsLeft, left_pairs}
use Rattle.tree_nodes.proofs.SplitPlaces.{leaf_front, leaf_back}
use Rattle.tree_nodes.proofs.KeyOrder.{both_true, not_back, upto_below, itself, between_parts, between_from}
use Rattle.tree_nodes.proofs.JoinedPairs.{AllKeys, keys_all, all_keys, taken}
use Rattle.tree_nodes.proofs.RisingPairs.{Rises, above_all, keys_front, keys_back, rises_front, rises_back, precedes_it, front_below, all_front, all_back, put_keys, put_rises, put_pairs, take_keys, take_rises, take_pairs}

-- the greatest size of a key, a value and an entry
pub key_size : (key : List ℕ) → is_key key ≡ true → length key ≤ 300
key_size key h = leb-true (length key) 300 (both_true (nat_le 1 (length key)) (nat_le (length key) 300) h).1

value_size : (value : List ℕ) → is_value value ≡ true → length value ≤ 1024
unfolding is_value
value_size value h = leb-true (length value) 1024 h

pub pair_size : (pair : Pair) → is_pair pair ≡ true → entry_size pair ≤ 1328
pair_size pair h =
    let b = both_true (is_key pair.0) (is_value pair.1) h in
    omega (arith, key_size pair.0 b.0, value_size pair.1 b.1)

pub pair_key : (pair : Pair) → is_pair pair ≡ true → is_key pair.0 ≡ true
pair_key pair h = (both_true (is_key pair.0) (is_value pair.1) h).0

-- ---- the two parts of a split

pub split_joins : (room : ℕ) (pairs : List Pair) → front_pairs room pairs ++ back_pairs room pairs ≡ pairs
split_joins room [] = refl
split_joins room (e ∷ es) = go (nat_le (entry_size e) room) (split_joins (room - entry_size e) es)
  where
    go : (b : Bool) → front_pairs (room - entry_size e) es ++ back_pairs (room - entry_size e) es ≡ es
        → (if b then e ∷ front_pairs (room - entry_size e) es else []) ++ (if b then back_pairs (room - entry_size e) es else e ∷ es) ≡ e ∷ es
    go true more = ap (λ (l : List Pair). e ∷ l) more
    go false more = refl

pub front_bytes : (room : ℕ) (pairs : List Pair) → leaf_bytes (front_pairs room pairs) ≤ room
front_bytes room [] = omega arith
front_bytes room (e ∷ es) = go (nat_le (entry_size e) room) refl (front_bytes (room - entry_size e) es)
  where
    go : (b : Bool) → nat_le (entry_size e) room ≡ b → leaf_bytes (front_pairs (room - entry_size e) es) ≤ room - entry_size e
        → leaf_bytes (if b then e ∷ front_pairs (room - entry_size e) es else []) ≤ room
    go true is more = omega (arith, more, leb-true (entry_size e) room is)
    go false is more = omega arith

-- the first of the second part is too large for what is left of the room
abbrev pub IsOver : ℕ → List Pair → List Pair → Type 0
IsOver room front [] = Unit {0}
IsOver room front (e ∷ es) = room < leaf_bytes front + entry_size e

pub over_more : (room : ℕ) (e : Pair) (front back : List Pair) → entry_size e ≤ room → IsOver (room - entry_size e) front back → IsOver room (e ∷ front) back
over_more room e front [] le h = tt
over_more room e front (f ∷ fs) le h = omega (arith, le, h)

pub back_over : (room : ℕ) (pairs : List Pair) → IsOver room (front_pairs room pairs) (back_pairs room pairs)
back_over room [] = tt
back_over room (e ∷ es) = go (nat_le (entry_size e) room) refl (back_over (room - entry_size e) es)
  where
    go : (b : Bool) → nat_le (entry_size e) room ≡ b → IsOver (room - entry_size e) (front_pairs (room - entry_size e) es) (back_pairs (room - entry_size e) es)
        → IsOver room (if b then e ∷ front_pairs (room - entry_size e) es else []) (if b then back_pairs (room - entry_size e) es else e ∷ es)
    go true is more = over_more room e (front_pairs (room - entry_size e) es) (back_pairs (room - entry_size e) es) (leb-true (entry_size e) room is) more
    go false is more = omega (arith, leb-false (entry_size e) room is)

-- of the parts that are made
pub front_small : (pairs : List Pair) → leaf_bytes (take (leaf_place pairs) pairs) ≤ FRONT_OF_LEAF
front_small pairs = subst (λ (l : List Pair). leaf_bytes l ≤ FRONT_OF_LEAF) (sym (leaf_front pairs)) (front_bytes FRONT_OF_LEAF pairs)

pub back_large : (pairs : List Pair) → IsOver FRONT_OF_LEAF (take (leaf_place pairs) pairs) (drop (leaf_place pairs) pairs)
back_large pairs =
    subst (λ (l : List Pair). IsOver FRONT_OF_LEAF l (drop (leaf_place pairs) pairs)) (sym (leaf_front pairs))
    (subst (λ (l : List Pair). IsOver FRONT_OF_LEAF (front_pairs FRONT_OF_LEAF pairs) l) (sym (leaf_back pairs)) (back_over FRONT_OF_LEAF pairs))

pub bytes_joined : (xs ys : List Pair) → leaf_bytes (xs ++ ys) ≡ leaf_bytes xs + leaf_bytes ys
bytes_joined [] ys = omega arith
bytes_joined (x ∷ xs) ys = let more = bytes_joined xs ys in omega (arith, more)

-- ---- a split leaf

-- what a leaf has, but for the size of its page
pub record IsLoose (pairs : List Pair) (low : List ℕ) (high : Option (List ℕ)) : Type 0 where
  pub rising : Rises pairs
  pub between : AllKeys (is_between low high) pairs
  pub each : list_all is_pair pairs ≡ true
  pub filled : IsFilledLeaf pairs

pub leaf_from : (pairs : List Pair) (low : List ℕ) (high : Option (List ℕ)) → Rises pairs → AllKeys (is_between low high) pairs → are_leaf low high pairs ≡ true
leaf_from pairs low high r k = rw (r, keys_all (is_between low high) pairs k) refl

pub valid_leaf : (pairs : List Pair) (low : List ℕ) (high : Option (List ℕ)) → IsLoose pairs low high → leaf_bytes pairs ≤ entry_room → IsValidLeaf pairs low high
valid_leaf pairs low high l size = (leaf_from pairs low high l.rising l.between, l.each, l.filled, size)

pub loose_leaf : (pairs : List Pair) (low : List ℕ) (high : Option (List ℕ)) → IsValidLeaf pairs low high → IsLoose pairs low high
loose_leaf pairs low high h =
    let b = both_true (rises (map key_of pairs)) (list_all (is_between low high) (map key_of pairs)) h.0 in
    record { rising = b.0; between = all_keys (is_between low high) pairs b.1; each = h.1; filled = h.2 }

-- the first key from which on the second part begins is above the lower bound
above_low : (low : List ℕ) (high : Option (List ℕ)) (front : List Pair) (e : Pair) → IsFilledLeaf front → AllKeys (is_between low high) front → AllKeys (precedes_it e.0) front → precedes low e.0 ≡ true
above_low low high [] e f b h = absurd f
above_low low high (x ∷ xs) e f b h = upto_below low x.0 e.0 (between_parts low high x.0 b.0).0 h.0

pub filled : (room : ℕ) (front : List Pair) (e : Pair) → entry_size e ≤ room → room < leaf_bytes front + entry_size e → IsFilledLeaf front
filled room [] e small over = absurd (omega (arith, small, over))
filled room (x ∷ xs) e small over = tt

split_low : (low : List ℕ) (high : Option (List ℕ)) (e : Pair) (xs : List Pair) → AllKeys (precedes_it e.0) xs → AllKeys (is_between low high) xs → AllKeys (is_between low (Some e.0)) xs
split_low low high e [] h b = tt
split_low low high e (x ∷ xs) h b = (between_from low (Some e.0) x.0 (between_parts low high x.0 b.0).0 h.0, split_low low high e xs h.1 b.1)

split_high : (low : List ℕ) (high : Option (List ℕ)) (key : List ℕ) (xs : List Pair) → AllKeys (precedes key) xs → AllKeys (is_between low high) xs → AllKeys (is_between key high) xs
split_high low high key [] h b = tt
split_high low high key (x ∷ xs) h b = (between_from key high x.0 (not_back key x.0 h.0) (between_parts low high x.0 b.0).1, split_high low high key xs h.1 b.1)

leaves_valid : (old : OldPages) (room : ℕ) (front back : List Pair) (low : List ℕ) (high : Option (List ℕ)) → IsLoose (front ++ back) low high → 2000 ≤ room → room ≤ 2744 → leaf_bytes front ≤ room → leaf_bytes (front ++ back) ≤ room + room + 1
    → room < leaf_bytes (front ++ back) → IsOver room front back → IsGrown old 0 (leaves front back) low high
leaves_valid old room front [] low high l from to small total large over = absurd (omega (arith, small, large, ap leaf_bytes (append-nil front)))
leaves_valid old room front (e ∷ es) low high l from to small total large over =
    let each = all_back front (e ∷ es) l.each in
    let first = (both_true (is_pair e) (list_all is_pair es) each).0 in
    let size = pair_size e first in
    let some = filled room front e (omega (arith, size, from)) over in
    let low_front = keys_front (is_between low high) front (e ∷ es) l.between in
    let low_back = keys_back (is_between low high) front (e ∷ es) l.between in
    let below = front_below front e es l.rising in
    let rising = rises_back front (e ∷ es) l.rising in (
      above_low low high front e some low_front below,
      (between_parts low high e.0 low_back.0).1,
      pair_key e first,
      valid_leaf front low (Some e.0) (record { rising = rises_front front (e ∷ es) l.rising; between = split_low low high e front below low_front; each = all_front front (e ∷ es) l.each; filled = some }) (omega (arith, small, to)),
      valid_leaf (e ∷ es) e.0 high (record { rising = rising; between = (between_from e.0 high e.0 (itself e.0) (between_parts low high e.0 low_back.0).1, split_high low high e.0 es (above_all e.0 es rising) low_back.1); each = each; filled = tt })
          (omega (arith, total, over, size, to, bytes_joined front (e ∷ es))),
    )

pub split_leaf_valid : (old : OldPages) (pairs : List Pair) (low : List ℕ) (high : Option (List ℕ)) → IsLoose pairs low high → leaf_bytes pairs ≤ entry_room + 1328 → IsGrown old 0 (split_leaf pairs) low high
split_leaf_valid old pairs low high l size = go (nat_le (leaf_bytes pairs) entry_room) refl
  where
    joined : take (leaf_place pairs) pairs ++ drop (leaf_place pairs) pairs ≡ pairs
    joined = take-append-drop (leaf_place pairs) pairs

    go : (b : Bool) → nat_le (leaf_bytes pairs) entry_room ≡ b → IsGrown old 0 (if b then one (leaf pairs) else leaves (take (leaf_place pairs) pairs) (drop (leaf_place pairs) pairs)) low high
    go true is = valid_leaf pairs low high l (leb-true (leaf_bytes pairs) entry_room is)
    go false is =
        let large = leb-false (leaf_bytes pairs) entry_room is in
        let bytes = ap leaf_bytes joined in
        leaves_valid old FRONT_OF_LEAF (take (leaf_place pairs) pairs) (drop (leaf_place pairs) pairs) low high (subst (λ (x : List Pair). IsLoose x low high) (sym joined) l)
        (omega arith) (omega arith) (front_small pairs) (omega (arith, bytes, size)) (omega (arith, bytes, large)) (back_large pairs)

pub leaves_pairs : (old : OldPages) (front back : List Pair) → grown_pairs old (leaves front back) ≡ front ++ back
leaves_pairs old front [] = sym (append-nil front)
leaves_pairs old front (e ∷ es) = refl

pub split_leaf_pairs : (old : OldPages) (pairs : List Pair) → grown_pairs old (split_leaf pairs) ≡ pairs
split_leaf_pairs old pairs = go (nat_le (leaf_bytes pairs) entry_room)
  where
    go : (b : Bool) → grown_pairs old (if b then one (leaf pairs) else leaves (take (leaf_place pairs) pairs) (drop (leaf_place pairs) pairs)) ≡ pairs
    go true = refl
    go false = leaves_pairs old (take (leaf_place pairs) pairs) (drop (leaf_place pairs) pairs) ∙ take-append-drop (leaf_place pairs) pairs

-- ---- a pair put into a leaf

put_bytes : (pairs : List Pair) (key value : List ℕ) → leaf_bytes (insert_entry byte_cmp pairs key value) ≤ leaf_bytes pairs + entry_size (key, value)
put_bytes [] key value = omega arith
put_bytes (e ∷ es) key value = go (byte_cmp key e.0) (put_bytes es key value)
  where
    go : (o : Ordering) → leaf_bytes (insert_entry byte_cmp es key value) ≤ leaf_bytes es + entry_size (key, value)
        → leaf_bytes (match_ordering o ((key, value) ∷ e ∷ es) ((e.0, value) ∷ es) (e ∷ insert_entry byte_cmp es key value)) ≤ leaf_bytes (e ∷ es) + entry_size (key, value)
    go Less more = omega arith
    go Equal more = omega arith
    go Greater more = omega (arith, more)

put_filled : (pairs : List Pair) (key value : List ℕ) → IsFilledLeaf (insert_entry byte_cmp pairs key value)
put_filled [] key value = tt
put_filled (e ∷ es) key value = go (byte_cmp key e.0)
  where
    go : (o : Ordering) → IsFilledLeaf (match_ordering o ((key, value) ∷ e ∷ es) ((e.0, value) ∷ es) (e ∷ insert_entry byte_cmp es key value))
    go Less = tt
    go Equal = tt
    go Greater = tt

pub put_leaf_valid : (old : OldPages) (pairs : List Pair) (low : List ℕ) (high : Option (List ℕ)) (key value : List ℕ) → IsValidLeaf pairs low high → is_between low high key ≡ true → is_pair (key, value) ≡ true
    → IsGrown old 0 (split_leaf (insert_entry byte_cmp pairs key value)) low high
put_leaf_valid old pairs low high key value h b p =
    let l = loose_leaf pairs low high h in
    split_leaf_valid old (insert_entry byte_cmp pairs key value) low high
    (record { rising = put_rises pairs key value l.rising; between = put_keys (is_between low high) pairs key value b l.between; each = put_pairs pairs key value l.each p; filled = put_filled pairs key value })
    (omega (arith, h.3, put_bytes pairs key value, pair_size (key, value) p))

-- ---- a pair taken from a leaf

take_bytes : (pairs : List Pair) (key : List ℕ) → leaf_bytes (taken key pairs) ≤ leaf_bytes pairs
take_bytes [] key = omega arith
take_bytes (e ∷ es) key = go (is_at (byte_cmp key) e.0) (take_bytes es key)
  where
    go : (b : Bool) → leaf_bytes (taken key es) ≤ leaf_bytes es → leaf_bytes (cond b es (e ∷ taken key es)) ≤ leaf_bytes (e ∷ es)
    go true more = omega arith
    go false more = omega (arith, more)

left_valid : (old : OldPages) (pairs : List Pair) (low : List ℕ) (high : Option (List ℕ)) → Rises pairs → AllKeys (is_between low high) pairs → list_all is_pair pairs ≡ true → leaf_bytes pairs ≤ entry_room
    → IsLeft old 0 (leaf_left pairs) low high
left_valid old [] low high r b e s = tt
left_valid old (x ∷ xs) low high r b e s = valid_leaf (x ∷ xs) low high (record { rising = r; between = b; each = e; filled = tt }) s

pub delete_leaf_valid : (old : OldPages) (pairs : List Pair) (low : List ℕ) (high : Option (List ℕ)) (key : List ℕ) → IsValidLeaf pairs low high → IsLeft old 0 (leaf_left (taken key pairs)) low high
delete_leaf_valid old pairs low high key h =
    let l = loose_leaf pairs low high h in
    left_valid old (taken key pairs) low high (take_rises pairs key l.rising) (take_keys (is_between low high) pairs key l.between) (take_pairs pairs key l.each) (omega (arith, h.3, take_bytes pairs key))

pub left_leaf_pairs : (old : OldPages) (pairs : List Pair) → left_pairs old (leaf_left pairs) ≡ pairs
left_leaf_pairs old [] = refl
left_leaf_pairs old (x ∷ xs) = refl
