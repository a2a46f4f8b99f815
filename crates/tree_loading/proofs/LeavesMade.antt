-- The leaves of pairs, each of the longest run that fits a page.
use Rattle.std.proofs.Common.{◌≡◌, ℕ, suc, ◌+◌, ◌-◌, ◌<◌, ◌≤◌, Bool, true, false, List, [], ◌∷◌, ◌++◌, length, Option, None, refl, sym, ap, subst, ◌∙◌, arith}
use Rattle.std.specs.Prelude.{nat_le, if◌then◌else◌}
use Rattle.std.specs.List.{list_all}
use Rattle.std.proofs.lemmas.Bool.{leb-true, leb-false, lt-leb}
use Rattle.page_store.specs.Keys.{precedes, is_below, is_between}
use Rattle.page_store.specs.Pages.{Pair}
use Rattle.page_store.specs.Batch.{is_pair}
use Rattle.page_store.specs.Flat.{entry_size}
use Rattle.tree_nodes.specs.Tree.{Others, page, leaf, branch, none, other, OldPages, row_pairs, row_pages, row_owned_nodes, other_count, entry_room, leaf_bytes}
use Rattle.tree_nodes.specs.Put.{front_pairs, back_pairs}
use Rattle.tree_nodes.specs.Valid.{IsValidLeaf, IsValidRow, others_high}
use Rattle.tree_nodes.proofs.KeyOrder.{both_true, not_back, upto_below, between_from, itself}
use Rattle.tree_nodes.proofs.JoinedPairs.{AllKeys}
use Rattle.tree_nodes.proofs.RisingPairs.{Above, Rises, tail_rises, above_all, above_from, rises_front, all_front}
use Rattle.tree_nodes.proofs.LeafSplits.{split_joins, front_bytes, valid_leaf, pair_size, pair_key}
use Rattle.tree_loading.specs.Filled.{leaves_behind, leaves_of}
use Rattle.tree_loading.specs.Full.{AreFull}

-- the first of these leaves, and those behind it
abbrev pub leaves_from : Pair → List Pair → Others
leaves_from pair pairs = other pair.0 (leaf (pair ∷ front_pairs (entry_room - entry_size pair) pairs)) (leaves_behind (entry_room - entry_size pair) pairs)

pub no_room_left : (size : ℕ) → 0 < size → nat_le size 0 ≡ false
no_room_left size some = lt-leb size 0 some

pub leaves_first : (pair : Pair) (pairs : List Pair) → leaves_of (pair ∷ pairs) ≡ leaves_from pair pairs
leaves_first pair pairs = rw (no_room_left (entry_size pair) (omega arith)) refl

-- ---- their pairs

pub behind_pairs : (old : OldPages) (room : ℕ) (pairs : List Pair) → front_pairs room pairs ++ row_pairs old (leaves_behind room pairs) ≡ pairs
behind_pairs old room [] = refl
behind_pairs old room (p ∷ ps) = go (nat_le (entry_size p) room) (behind_pairs old (room - entry_size p) ps) (behind_pairs old (entry_room - entry_size p) ps)
  where
    go : (b : Bool) → front_pairs (room - entry_size p) ps ++ row_pairs old (leaves_behind (room - entry_size p) ps) ≡ ps
        → front_pairs (entry_room - entry_size p) ps ++ row_pairs old (leaves_behind (entry_room - entry_size p) ps) ≡ ps
        → (if b then p ∷ front_pairs (room - entry_size p) ps else []) ++ row_pairs old (if b then leaves_behind (room - entry_size p) ps else leaves_from p ps) ≡ p ∷ ps
    go true here next = ap (λ (l : List Pair). p ∷ l) here
    go false here next = ap (λ (l : List Pair). p ∷ l) next

pub leaves_pairs : (old : OldPages) (pairs : List Pair) → row_pairs old (leaves_of pairs) ≡ pairs
leaves_pairs old [] = refl
leaves_pairs old (p ∷ ps) = ap (row_pairs old) (leaves_first p ps) ∙ ap (λ (l : List Pair). p ∷ l) (behind_pairs old (entry_room - entry_size p) ps)

-- ---- their number, and that all are owned

pub behind_count : (room : ℕ) (pairs : List Pair) → other_count (leaves_behind room pairs) ≤ length pairs
behind_count room [] = omega arith
behind_count room (p ∷ ps) = go (nat_le (entry_size p) room) (behind_count (room - entry_size p) ps) (behind_count (entry_room - entry_size p) ps)
  where
    go : (b : Bool) → other_count (leaves_behind (room - entry_size p) ps) ≤ length ps → other_count (leaves_behind (entry_room - entry_size p) ps) ≤ length ps
        → other_count (if b then leaves_behind (room - entry_size p) ps else leaves_from p ps) ≤ suc (length ps)
    go true here next = omega (arith, here)
    go false here next = omega (arith, next)

pub behind_owned : (room : ℕ) (pairs : List Pair) → row_owned_nodes (leaves_behind room pairs) ≡ other_count (leaves_behind room pairs)
behind_owned room [] = refl
behind_owned room (p ∷ ps) = go (nat_le (entry_size p) room) (behind_owned (room - entry_size p) ps) (behind_owned (entry_room - entry_size p) ps)
  where
    go : (b : Bool) → row_owned_nodes (leaves_behind (room - entry_size p) ps) ≡ other_count (leaves_behind (room - entry_size p) ps)
        → row_owned_nodes (leaves_behind (entry_room - entry_size p) ps) ≡ other_count (leaves_behind (entry_room - entry_size p) ps)
        → row_owned_nodes (if b then leaves_behind (room - entry_size p) ps else leaves_from p ps) ≡ other_count (if b then leaves_behind (room - entry_size p) ps else leaves_from p ps)
    go true here next = here
    go false here next = ap (λ (n : ℕ). 1 + n) next

pub behind_pages : (room : ℕ) (pairs : List Pair) → row_pages (leaves_behind room pairs) ≡ []
behind_pages room [] = refl
behind_pages room (p ∷ ps) = go (nat_le (entry_size p) room) (behind_pages (room - entry_size p) ps) (behind_pages (entry_room - entry_size p) ps)
  where
    go : (b : Bool) → row_pages (leaves_behind (room - entry_size p) ps) ≡ [] → row_pages (leaves_behind (entry_room - entry_size p) ps) ≡ []
        → row_pages (if b then leaves_behind (room - entry_size p) ps else leaves_from p ps) ≡ []
    go true here next = here
    go false here next = next

-- ---- their keys

-- all pairs but the first are above what was below it
above_next : (key : List ℕ) (p : Pair) (ps : List Pair) → Above key (p ∷ ps) → Above key ps
above_next key p ps h = above_from key ps (above_all key (p ∷ ps) h).1 (tail_rises p.0 ps (tail_rises key (p ∷ ps) h))

-- what is below all pairs is below the first key of the leaves behind
below_leaves : (key : List ℕ) (room : ℕ) (pairs : List Pair) → Above key pairs → is_below (others_high (leaves_behind room pairs) None) key ≡ true
below_leaves key room [] h = refl
below_leaves key room (p ∷ ps) h = go (nat_le (entry_size p) room) (below_leaves key (room - entry_size p) ps (above_next key p ps h))
  where
    go : (b : Bool) → is_below (others_high (leaves_behind (room - entry_size p) ps) None) key ≡ true → is_below (others_high (if b then leaves_behind (room - entry_size p) ps else leaves_from p ps) None) key ≡ true
    go true here = here
    go false here = (above_all key (p ∷ ps) h).0

front_below_leaves : (room : ℕ) (pairs : List Pair) → Rises pairs → AllKeys (is_below (others_high (leaves_behind room pairs) None)) (front_pairs room pairs)
front_below_leaves room [] h = tt
front_below_leaves room (p ∷ ps) h = go (nat_le (entry_size p) room) (below_leaves p.0 (room - entry_size p) ps h) (front_below_leaves (room - entry_size p) ps (tail_rises p.0 ps h))
  where
    go : (b : Bool) → is_below (others_high (leaves_behind (room - entry_size p) ps) None) p.0 ≡ true → AllKeys (is_below (others_high (leaves_behind (room - entry_size p) ps) None)) (front_pairs (room - entry_size p) ps)
        → AllKeys (is_below (others_high (if b then leaves_behind (room - entry_size p) ps else leaves_from p ps) None)) (if b then p ∷ front_pairs (room - entry_size p) ps else [])
    go true first more = (first, more)
    go false first more = tt

both_bounds : (low key : List ℕ) (high : Option (List ℕ)) (xs : List Pair) → precedes key low ≡ false → AllKeys (precedes key) xs → AllKeys (is_below high) xs → AllKeys (is_between low high) xs
both_bounds low key high [] l h k = tt
both_bounds low key high (x ∷ xs) l h k = (between_from low high x.0 (not_back low x.0 (upto_below low key x.0 l h.0)) k.0, both_bounds low key high xs l h.1 k.1)

-- ---- each leaf is valid

pub first_leaf : (low : List ℕ) (p : Pair) (ps : List Pair) → precedes p.0 low ≡ false → Rises (p ∷ ps) → list_all is_pair (p ∷ ps) ≡ true
    → IsValidLeaf (p ∷ front_pairs (entry_room - entry_size p) ps) low (others_high (leaves_behind (entry_room - entry_size p) ps) None)
first_leaf low p ps l r each =
    let room = entry_room - entry_size p in
    let front = front_pairs room ps in
    let back = back_pairs room ps in
    let high = others_high (leaves_behind room ps) None in
    let joined = sym (split_joins room ps) in
    let rising = rises_front (p ∷ front) back (subst (λ (l : List Pair). Rises (p ∷ l)) joined r) in
    let first = (both_true (is_pair p) (list_all is_pair ps) each).0 in
    valid_leaf (p ∷ front) low high
    (record {
      rising = rising;
      between = (between_from low high p.0 l (below_leaves p.0 room ps r), both_bounds low p.0 high front l (above_all p.0 front rising) (front_below_leaves room ps (tail_rises p.0 ps r)));
      each = all_front (p ∷ front) back (subst (λ (l : List Pair). list_all is_pair (p ∷ l) ≡ true) joined each);
      filled = tt;
    })
    (omega (arith, front_bytes room ps, pair_size p first))

pub leaves_valid : (old : OldPages) (low : List ℕ) (room : ℕ) (pairs : List Pair) → Above low pairs → list_all is_pair pairs ≡ true → IsValidRow old 0 (leaves_behind room pairs) low None
leaves_valid old low room [] h each = tt
leaves_valid old low room (p ∷ ps) h each =
    go (nat_le (entry_size p) room) (leaves_valid old low (room - entry_size p) ps (above_next low p ps h) parts.1) (leaves_valid old p.0 (entry_room - entry_size p) ps (tail_rises low (p ∷ ps) h) parts.1)
  where
    parts : (is_pair p ≡ true) × (list_all is_pair ps ≡ true)
    parts = both_true (is_pair p) (list_all is_pair ps) each

    go : (b : Bool) → IsValidRow old 0 (leaves_behind (room - entry_size p) ps) low None → IsValidRow old 0 (leaves_behind (entry_room - entry_size p) ps) p.0 None
        → IsValidRow old 0 (if b then leaves_behind (room - entry_size p) ps else leaves_from p ps) low None
    go true here next = here
    go false here next = ((above_all low (p ∷ ps) h).0, refl, pair_key p parts.0, first_leaf p.0 p ps (itself p.0) (tail_rises low (p ∷ ps) h) each, next)

-- ---- none has room for the next pair

-- so many bytes leave no room for the first pair of these leaves
abbrev LeavesNoRoom : ℕ → Others → Type 0
LeavesNoRoom bytes none = Unit {0}
LeavesNoRoom bytes (other key (leaf (e ∷ es)) others) = entry_room < bytes + entry_size e
LeavesNoRoom bytes (other key tree others) = ⊥

no_room : (bytes room : ℕ) (pairs : List Pair) → entry_room ≤ bytes + room → LeavesNoRoom (bytes + leaf_bytes (front_pairs room pairs)) (leaves_behind room pairs)
no_room bytes room [] h = tt
no_room bytes room (p ∷ ps) h = go (nat_le (entry_size p) room) refl (λ le. no_room (bytes + entry_size p) (room - entry_size p) ps (omega (arith, h, le)))
  where
    go : (b : Bool) → nat_le (entry_size p) room ≡ b
        → (entry_size p ≤ room → LeavesNoRoom (bytes + entry_size p + leaf_bytes (front_pairs (room - entry_size p) ps)) (leaves_behind (room - entry_size p) ps))
        → LeavesNoRoom (bytes + leaf_bytes (if b then p ∷ front_pairs (room - entry_size p) ps else [])) (if b then leaves_behind (room - entry_size p) ps else leaves_from p ps)
    go true is more =
        let same : bytes + entry_size p + leaf_bytes (front_pairs (room - entry_size p) ps) ≡ bytes + (entry_size p + leaf_bytes (front_pairs (room - entry_size p) ps)) = omega arith in
        subst (λ (n : ℕ). LeavesNoRoom n (leaves_behind (room - entry_size p) ps)) same (more (leb-true (entry_size p) room is))
    go false is more = let large = leb-false (entry_size p) room is in omega (arith, h, large)

full_before : (key : List ℕ) (pairs : List Pair) (others : Others) → LeavesNoRoom (leaf_bytes pairs) others → AreFull others → AreFull (other key (leaf pairs) others)
full_before key pairs none h k = tt
full_before key pairs (other next (page n) others) h k = absurd h
full_before key pairs (other next (leaf []) others) h k = absurd h
full_before key pairs (other next (leaf (e ∷ es)) others) h k = (h, k)
full_before key pairs (other next (branch first row) others) h k = absurd h

pub leaves_full : (room : ℕ) (pairs : List Pair) → AreFull (leaves_behind room pairs)
leaves_full room [] = tt
leaves_full room (p ∷ ps) = go (nat_le (entry_size p) room) (leaves_full (room - entry_size p) ps) (leaves_full (entry_room - entry_size p) ps)
  where
    go : (b : Bool) → AreFull (leaves_behind (room - entry_size p) ps) → AreFull (leaves_behind (entry_room - entry_size p) ps) → AreFull (if b then leaves_behind (room - entry_size p) ps else leaves_from p ps)
    go true here next = here
    go false here next =
        full_before p.0 (p ∷ front_pairs (entry_room - entry_size p) ps) (leaves_behind (entry_room - entry_size p) ps) (no_room (entry_size p) (entry_room - entry_size p) ps (omega arith)) next
