-- How many nodes, levels and entries come with a put and a delete, and which pages stay.
use Rattle.std.proofs.Common.{◌≡◌, ℕ, zero, suc, ◌+◌, ◌*◌, ◌≤◌, Bool, true, false, List, [], ◌∷◌, ◌++◌, take, drop, Option, Some, None, refl, sym, ap, ◌∙◌, arith, append_assoc, append-nil}
use Rattle.std.specs.Prelude.{nat_le, if◌then◌else◌}
use Rattle.std.specs.BTreeMap.{insert_entry}
use Rattle.std.proofs.lemmas.Bool.{le-leb}
use Rattle.common_types.specs.ByteOrder.{byte_cmp}
use Rattle.page_store.specs.Keys.{precedes, is_below, is_between}
use Rattle.page_store.specs.Pages.{Pair}
use Rattle.page_store.specs.Batch.{is_pair}
use Rattle.tree_nodes.specs.Tree.{Tree, Others, page, leaf, branch, none, other, OldPages, pages_of, row_pages, owned_at, row_owned_at, goes_first, other_bytes, other_count, leaf_bytes, entry_room}
use Rattle.tree_nodes.specs.Splits.{leaf_place, branch_place}
use Rattle.tree_nodes.specs.Put.{Grown, one, two, put, put_row, split_leaf, leaves, take_others, drop_others, branches, split_branch, grown_first, grown_other, rooted}
use Rattle.tree_nodes.specs.Delete.{delete, delete_row, leaf_left, first_left, other_left}
use Rattle.tree_nodes.specs.Valid.{IsValid, IsValidRow, IsGrown, others_high, grown_pages, grown_owned_at, left_pages, left_owned_at, rooted_level, GainsOneEntry, GainsNoEntry}
use Rattle.tree_nodes.proofs.KeyOrder.{between_parts, between_from}
use Rattle.tree_nodes.proofs.JoinedPairs.{taken}
use Rattle.tree_nodes.proofs.KeysWithinBounds.{below_first}
use Rattle.tree_nodes.proofs.LeafSplits.{key_size}
use Rattle.tree_nodes.proofs.BranchSplits.{is_parted}
use Rattle.tree_nodes.proofs.PutChangesOneKey.{put_row_valid, put_tree_valid}

-- ---- pages that a put keeps

leaves_pages : (front back : List Pair) → grown_pages (leaves front back) ≡ []
leaves_pages front [] = refl
leaves_pages front (e ∷ es) = refl

split_leaf_pages : (pairs : List Pair) → grown_pages (split_leaf pairs) ≡ []
split_leaf_pages pairs = go (nat_le (leaf_bytes pairs) entry_room)
  where
    go : (b : Bool) → grown_pages (if b then one (leaf pairs) else leaves (take (leaf_place pairs) pairs) (drop (leaf_place pairs) pairs)) ≡ []
    go true = refl
    go false = leaves_pages (take (leaf_place pairs) pairs) (drop (leaf_place pairs) pairs)

branches_pages : (first : Tree) (front back : Others) → grown_pages (branches first front back) ≡ pages_of first ++ (row_pages front ++ row_pages back)
branches_pages first front none = ap (λ (l : List ℕ). pages_of first ++ l) (sym (append-nil (row_pages front)))
branches_pages first front (other key tree others) = append_assoc (pages_of first) (row_pages front) (pages_of tree ++ row_pages others)

split_branch_pages : (first : Tree) (others : Others) → grown_pages (split_branch first others) ≡ pages_of first ++ row_pages others
split_branch_pages first others = go (nat_le (6 + other_bytes others) entry_room)
  where
    go : (b : Bool) → grown_pages (if b then one (branch first others) else branches first (take_others (branch_place others) others) (drop_others (branch_place others) others)) ≡ pages_of first ++ row_pages others
    go true = refl
    go false = branches_pages first (take_others (branch_place others) others) (drop_others (branch_place others) others) ∙ ap (λ (l : List ℕ). pages_of first ++ l) (is_parted others).pages

grown_first_pages : (g : Grown) (others : Others) → grown_pages (grown_first g others) ≡ grown_pages g ++ row_pages others
grown_first_pages (one tree) others = split_branch_pages tree others
grown_first_pages (two tree key next) others = split_branch_pages tree (other key next others) ∙ sym (append_assoc (pages_of tree) (pages_of next) (row_pages others))

grown_other_pages : (first : List ℕ) (g : Grown) (others : Others) → row_pages (grown_other first g others) ≡ grown_pages g ++ row_pages others
grown_other_pages first (one tree) others = refl
grown_other_pages first (two tree key next) others = sym (append_assoc (pages_of tree) (pages_of next) (row_pages others))

branch_pages : (b : Bool) (tree : Tree) (others : Others) (key value : List ℕ) → grown_pages (put key value tree) ≡ pages_of tree → row_pages (put_row key value others) ≡ row_pages others
    → grown_pages (if b then grown_first (put key value tree) others else split_branch tree (put_row key value others)) ≡ pages_of tree ++ row_pages others
branch_pages true tree others key value child row = grown_first_pages (put key value tree) others ∙ ap (λ (l : List ℕ). l ++ row_pages others) child
branch_pages false tree others key value child row = split_branch_pages tree (put_row key value others) ∙ ap (λ (l : List ℕ). pages_of tree ++ l) row

other_pages : (b : Bool) (first : List ℕ) (tree : Tree) (others : Others) (key value : List ℕ) → grown_pages (put key value tree) ≡ pages_of tree → row_pages (put_row key value others) ≡ row_pages others
    → row_pages (if b then grown_other first (put key value tree) others else other first tree (put_row key value others)) ≡ pages_of tree ++ row_pages others
other_pages true first tree others key value child row = grown_other_pages first (put key value tree) others ∙ ap (λ (l : List ℕ). l ++ row_pages others) child
other_pages false first tree others key value child row = ap (λ (l : List ℕ). pages_of tree ++ l) row

mutual
  pub put_pages : (tree : Tree) (key value : List ℕ) → grown_pages (put key value tree) ≡ pages_of tree
  put_pages (page n) key value = refl
  put_pages (leaf pairs) key value = split_leaf_pages (insert_entry byte_cmp pairs key value)
  put_pages (branch tree others) key value = branch_pages (goes_first key others) tree others key value (put_pages tree key value) (put_row_pages others key value)

  put_row_pages : (others : Others) (key value : List ℕ) → row_pages (put_row key value others) ≡ row_pages others
  put_row_pages none key value = refl
  put_row_pages (other first tree others) key value = other_pages (goes_first key others) first tree others key value (put_pages tree key value) (put_row_pages others key value)

-- ---- nodes that a put makes

leaves_owned : (front back : List Pair) (depth : ℕ) → grown_owned_at depth (leaves front back) ≤ owned_at depth (leaf front) + 1
leaves_owned front [] depth = omega arith
leaves_owned front (e ∷ es) zero = omega arith
leaves_owned front (e ∷ es) (suc depth) = omega arith

leaf_alike : (a b : List Pair) (depth : ℕ) → owned_at depth (leaf a) ≡ owned_at depth (leaf b)
leaf_alike a b zero = refl
leaf_alike a b (suc depth) = refl

split_leaf_owned : (before pairs : List Pair) (depth : ℕ) → grown_owned_at depth (split_leaf pairs) ≤ owned_at depth (leaf before) + 1
split_leaf_owned before pairs depth = go (nat_le (leaf_bytes pairs) entry_room)
  where
    go : (b : Bool) → grown_owned_at depth (if b then one (leaf pairs) else leaves (take (leaf_place pairs) pairs) (drop (leaf_place pairs) pairs)) ≤ owned_at depth (leaf before) + 1
    go true = let e = leaf_alike pairs before depth in omega (arith, e)
    go false =
        let e = leaf_alike (take (leaf_place pairs) pairs) before depth in
        omega (arith, e, leaves_owned (take (leaf_place pairs) pairs) (drop (leaf_place pairs) pairs) depth)

branches_owned : (first : Tree) (front back : Others) (depth : ℕ) → grown_owned_at (suc depth) (branches first front back) ≡ owned_at depth first + (row_owned_at depth front + row_owned_at depth back)
branches_owned first front none depth = omega arith
branches_owned first front (other key tree others) depth = omega arith

branches_owned_here : (first : Tree) (front back : Others) → grown_owned_at 0 (branches first front back) ≤ 2
branches_owned_here first front none = omega arith
branches_owned_here first front (other key tree others) = omega arith

split_branch_owned : (first : Tree) (others : Others) (depth : ℕ) → grown_owned_at (suc depth) (split_branch first others) ≡ owned_at depth first + row_owned_at depth others
split_branch_owned first others depth = go (nat_le (6 + other_bytes others) entry_room)
  where
    go : (b : Bool) → grown_owned_at (suc depth) (if b then one (branch first others) else branches first (take_others (branch_place others) others) (drop_others (branch_place others) others)) ≡ owned_at depth first + row_owned_at depth others
    go true = refl
    go false = omega (arith, branches_owned first (take_others (branch_place others) others) (drop_others (branch_place others) others) depth, (is_parted others).owned depth)

split_branch_owned_here : (first : Tree) (others : Others) → grown_owned_at 0 (split_branch first others) ≤ 2
split_branch_owned_here first others = go (nat_le (6 + other_bytes others) entry_room)
  where
    go : (b : Bool) → grown_owned_at 0 (if b then one (branch first others) else branches first (take_others (branch_place others) others) (drop_others (branch_place others) others)) ≤ 2
    go true = omega arith
    go false = branches_owned_here first (take_others (branch_place others) others) (drop_others (branch_place others) others)

grown_first_owned : (g : Grown) (others : Others) (depth : ℕ) → grown_owned_at (suc depth) (grown_first g others) ≡ grown_owned_at depth g + row_owned_at depth others
grown_first_owned (one tree) others depth = split_branch_owned tree others depth
grown_first_owned (two tree key next) others depth = omega (arith, split_branch_owned tree (other key next others) depth)

grown_first_owned_here : (g : Grown) (others : Others) → grown_owned_at 0 (grown_first g others) ≤ 2
grown_first_owned_here (one tree) others = split_branch_owned_here tree others
grown_first_owned_here (two tree key next) others = split_branch_owned_here tree (other key next others)

grown_other_owned : (first : List ℕ) (g : Grown) (others : Others) (depth : ℕ) → row_owned_at depth (grown_other first g others) ≡ grown_owned_at depth g + row_owned_at depth others
grown_other_owned first (one tree) others depth = refl
grown_other_owned first (two tree key next) others depth = omega arith

branch_owned_here : (b : Bool) (tree : Tree) (others : Others) (key value : List ℕ) → grown_owned_at 0 (if b then grown_first (put key value tree) others else split_branch tree (put_row key value others)) ≤ 2
branch_owned_here true tree others key value = grown_first_owned_here (put key value tree) others
branch_owned_here false tree others key value = split_branch_owned_here tree (put_row key value others)

branch_owned : (b : Bool) (tree : Tree) (others : Others) (key value : List ℕ) (depth : ℕ) → grown_owned_at depth (put key value tree) ≤ owned_at depth tree + 1 → row_owned_at depth (put_row key value others) ≤ row_owned_at depth others + 1
    → grown_owned_at (suc depth) (if b then grown_first (put key value tree) others else split_branch tree (put_row key value others)) ≤ owned_at depth tree + row_owned_at depth others + 1
branch_owned true tree others key value depth child row = omega (arith, grown_first_owned (put key value tree) others depth, child)
branch_owned false tree others key value depth child row = omega (arith, split_branch_owned tree (put_row key value others) depth, row)

other_owned : (b : Bool) (first : List ℕ) (tree : Tree) (others : Others) (key value : List ℕ) (depth : ℕ) → grown_owned_at depth (put key value tree) ≤ owned_at depth tree + 1 → row_owned_at depth (put_row key value others) ≤ row_owned_at depth others + 1
    → row_owned_at depth (if b then grown_other first (put key value tree) others else other first tree (put_row key value others)) ≤ owned_at depth tree + row_owned_at depth others + 1
other_owned true first tree others key value depth child row = omega (arith, grown_other_owned first (put key value tree) others depth, child)
other_owned false first tree others key value depth child row = omega (arith, row)

mutual
  pub put_owned : (tree : Tree) (key value : List ℕ) (depth : ℕ) → grown_owned_at depth (put key value tree) ≤ owned_at depth tree + 1
  put_owned (page n) key value depth = omega arith
  put_owned (leaf pairs) key value depth = split_leaf_owned pairs (insert_entry byte_cmp pairs key value) depth
  put_owned (branch tree others) key value zero = branch_owned_here (goes_first key others) tree others key value
  put_owned (branch tree others) key value (suc depth) = branch_owned (goes_first key others) tree others key value depth (put_owned tree key value depth) (put_row_owned others key value depth)

  put_row_owned : (others : Others) (key value : List ℕ) (depth : ℕ) → row_owned_at depth (put_row key value others) ≤ row_owned_at depth others + 1
  put_row_owned none key value depth = omega arith
  put_row_owned (other first tree others) key value depth = other_owned (goes_first key others) first tree others key value depth (put_owned tree key value depth) (put_row_owned others key value depth)

-- ---- the root

pub rooted_valid : (old : OldPages) (level : ℕ) (g : Grown) (low : List ℕ) (high : Option (List ℕ)) → IsGrown old level g low high → IsValid old (rooted_level level g) (rooted g) low high
rooted_valid old level (one tree) low high h = h
rooted_valid old level (two tree key next) low high h = (h.3, (h.0, h.1, h.2, h.4, tt), omega (arith, key_size key h.2))

row_bytes : (others : Others) (old : OldPages) (level : ℕ) (low : List ℕ) (high : Option (List ℕ)) → IsValidRow old level others low high → other_bytes others ≤ 306 * other_count others
row_bytes none old level low high h = omega arith
row_bytes (other key tree others) old level low high h = omega (arith, key_size key h.2, row_bytes others old level key high h.4)

grown_other_count : (first : List ℕ) (g : Grown) (others : Others) → other_count (grown_other first g others) ≤ other_count others + 2
grown_other_count first (one tree) others = omega arith
grown_other_count first (two tree key next) others = omega arith

put_row_count : (others : Others) (key value : List ℕ) → other_count (put_row key value others) ≤ other_count others + 1
put_row_count none key value = omega arith
put_row_count (other first tree others) key value = go (goes_first key others) (put_row_count others key value)
  where
    go : (b : Bool) → other_count (put_row key value others) ≤ other_count others + 1 → other_count (if b then grown_other first (put key value tree) others else other first tree (put_row key value others)) ≤ other_count (other first tree others) + 1
    go true more = omega (arith, grown_other_count first (put key value tree) others)
    go false more = omega (arith, more)

whole_branch : (before : Others) (tree : Tree) (others : Others) → other_count others ≤ other_count before + 1 → 6 + other_bytes others ≤ entry_room → GainsOneEntry before (split_branch tree others)
whole_branch before tree others count size = rw (le-leb (6 + other_bytes others) entry_room size) count

small_first : (old : OldPages) (level : ℕ) (g : Grown) (others : Others) (low : List ℕ) (high : Option (List ℕ)) → IsGrown old level g low (others_high others high) → IsValidRow old level others low high → other_count others ≤ 12 → GainsOneEntry others (grown_first g others)
small_first old level (one tree) others low high h r count = whole_branch others tree others (omega arith) (omega (arith, count, row_bytes others old level low high r))
small_first old level (two tree key next) others low high h r count = whole_branch others tree (other key next others) (omega arith) (omega (arith, count, row_bytes others old level low high r, key_size key h.2))

-- a put over a branch of at most 13 entries leaves one branch
pub small_branch : (old : OldPages) (level : ℕ) (tree : Tree) (others : Others) (low : List ℕ) (high : Option (List ℕ)) (key value : List ℕ) → IsValid old (suc level) (branch tree others) low high → is_between low high key ≡ true → is_pair (key, value) ≡ true
    → other_count others ≤ 12 → GainsOneEntry others (put key value (branch tree others))
small_branch old level tree others low high key value h b p count = go (goes_first key others) refl
  where
    parts : (precedes key low ≡ false) × (is_below high key ≡ true)
    parts = between_parts low high key b

    go : (t : Bool) → goes_first key others ≡ t → GainsOneEntry others (if t then grown_first (put key value tree) others else split_branch tree (put_row key value others))
    go true g = small_first old level (put key value tree) others low high (put_tree_valid tree old level low (others_high others high) key value h.0 (between_from low (others_high others high) key parts.0 (below_first others high key g parts.1)) p) h.1 count
    go false g =
        let after = put_row_valid others old level low high key value h.1 g parts.1 p in
        let counted = put_row_count others key value in
        whole_branch others tree (put_row key value others) counted (omega (arith, count, counted, row_bytes (put_row key value others) old level low high after.0))

-- ---- deletes

left_leaf_pages : (pairs : List Pair) → left_pages (leaf_left pairs) ≡ []
left_leaf_pages [] = refl
left_leaf_pages (e ∷ es) = refl

first_left_pages : (t : Option Tree) (others : Others) → left_pages (first_left t others) ≡ left_pages t ++ row_pages others
first_left_pages (Some tree) others = refl
first_left_pages None none = refl
first_left_pages None (other key tree others) = refl

other_left_pages : (first : List ℕ) (t : Option Tree) (others : Others) → row_pages (other_left first t others) ≡ left_pages t ++ row_pages others
other_left_pages first (Some tree) others = refl
other_left_pages first None others = refl

left_branch_pages : (b : Bool) (tree : Tree) (others : Others) (key : List ℕ) → left_pages (delete key tree) ≡ pages_of tree → row_pages (delete_row key others) ≡ row_pages others
    → left_pages (if b then first_left (delete key tree) others else Some (branch tree (delete_row key others))) ≡ pages_of tree ++ row_pages others
left_branch_pages true tree others key child row = first_left_pages (delete key tree) others ∙ ap (λ (l : List ℕ). l ++ row_pages others) child
left_branch_pages false tree others key child row = ap (λ (l : List ℕ). pages_of tree ++ l) row

left_other_pages : (b : Bool) (first : List ℕ) (tree : Tree) (others : Others) (key : List ℕ) → left_pages (delete key tree) ≡ pages_of tree → row_pages (delete_row key others) ≡ row_pages others
    → row_pages (if b then other_left first (delete key tree) others else other first tree (delete_row key others)) ≡ pages_of tree ++ row_pages others
left_other_pages true first tree others key child row = other_left_pages first (delete key tree) others ∙ ap (λ (l : List ℕ). l ++ row_pages others) child
left_other_pages false first tree others key child row = ap (λ (l : List ℕ). pages_of tree ++ l) row

mutual
  pub delete_pages : (tree : Tree) (key : List ℕ) → left_pages (delete key tree) ≡ pages_of tree
  delete_pages (page n) key = refl
  delete_pages (leaf pairs) key = left_leaf_pages (taken key pairs)
  delete_pages (branch tree others) key = left_branch_pages (goes_first key others) tree others key (delete_pages tree key) (delete_row_pages others key)

  delete_row_pages : (others : Others) (key : List ℕ) → row_pages (delete_row key others) ≡ row_pages others
  delete_row_pages none key = refl
  delete_row_pages (other first tree others) key = left_other_pages (goes_first key others) first tree others key (delete_pages tree key) (delete_row_pages others key)

left_leaf_owned : (before pairs : List Pair) (depth : ℕ) → left_owned_at depth (leaf_left pairs) ≤ owned_at depth (leaf before)
left_leaf_owned before [] depth = omega arith
left_leaf_owned before (e ∷ es) depth = let same = leaf_alike (e ∷ es) before depth in omega (arith, same)

first_left_owned : (t : Option Tree) (others : Others) (depth : ℕ) → left_owned_at (suc depth) (first_left t others) ≡ left_owned_at depth t + row_owned_at depth others
first_left_owned (Some tree) others depth = refl
first_left_owned None none depth = omega arith
first_left_owned None (other key tree others) depth = omega arith

first_left_owned_here : (t : Option Tree) (others : Others) → left_owned_at 0 (first_left t others) ≤ 1
first_left_owned_here (Some tree) others = omega arith
first_left_owned_here None none = omega arith
first_left_owned_here None (other key tree others) = omega arith

other_left_owned : (first : List ℕ) (t : Option Tree) (others : Others) (depth : ℕ) → row_owned_at depth (other_left first t others) ≡ left_owned_at depth t + row_owned_at depth others
other_left_owned first (Some tree) others depth = refl
other_left_owned first None others depth = omega arith

left_branch_owned_here : (b : Bool) (tree : Tree) (others : Others) (key : List ℕ) → left_owned_at 0 (if b then first_left (delete key tree) others else Some (branch tree (delete_row key others))) ≤ 1
left_branch_owned_here true tree others key = first_left_owned_here (delete key tree) others
left_branch_owned_here false tree others key = omega arith

left_branch_owned : (b : Bool) (tree : Tree) (others : Others) (key : List ℕ) (depth : ℕ) → left_owned_at depth (delete key tree) ≤ owned_at depth tree → row_owned_at depth (delete_row key others) ≤ row_owned_at depth others
    → left_owned_at (suc depth) (if b then first_left (delete key tree) others else Some (branch tree (delete_row key others))) ≤ owned_at depth tree + row_owned_at depth others
left_branch_owned true tree others key depth child row = omega (arith, first_left_owned (delete key tree) others depth, child)
left_branch_owned false tree others key depth child row = omega (arith, row)

left_other_owned : (b : Bool) (first : List ℕ) (tree : Tree) (others : Others) (key : List ℕ) (depth : ℕ) → left_owned_at depth (delete key tree) ≤ owned_at depth tree → row_owned_at depth (delete_row key others) ≤ row_owned_at depth others
    → row_owned_at depth (if b then other_left first (delete key tree) others else other first tree (delete_row key others)) ≤ owned_at depth tree + row_owned_at depth others
left_other_owned true first tree others key depth child row = omega (arith, other_left_owned first (delete key tree) others depth, child)
left_other_owned false first tree others key depth child row = omega (arith, row)

mutual
  pub delete_owned : (tree : Tree) (key : List ℕ) (depth : ℕ) → left_owned_at depth (delete key tree) ≤ owned_at depth tree
  delete_owned (page n) key depth = omega arith
  delete_owned (leaf pairs) key depth = left_leaf_owned pairs (taken key pairs) depth
  delete_owned (branch tree others) key zero = left_branch_owned_here (goes_first key others) tree others key
  delete_owned (branch tree others) key (suc depth) = left_branch_owned (goes_first key others) tree others key depth (delete_owned tree key depth) (delete_row_owned others key depth)

  delete_row_owned : (others : Others) (key : List ℕ) (depth : ℕ) → row_owned_at depth (delete_row key others) ≤ row_owned_at depth others
  delete_row_owned none key depth = omega arith
  delete_row_owned (other first tree others) key depth = left_other_owned (goes_first key others) first tree others key depth (delete_owned tree key depth) (delete_row_owned others key depth)

other_left_count : (first : List ℕ) (t : Option Tree) (others : Others) → other_count (other_left first t others) ≤ other_count others + 1
other_left_count first (Some tree) others = omega arith
other_left_count first None others = omega arith

delete_row_count : (others : Others) (key : List ℕ) → other_count (delete_row key others) ≤ other_count others
delete_row_count none key = omega arith
delete_row_count (other first tree others) key = go (goes_first key others) (delete_row_count others key)
  where
    go : (b : Bool) → other_count (delete_row key others) ≤ other_count others → other_count (if b then other_left first (delete key tree) others else other first tree (delete_row key others)) ≤ other_count (other first tree others)
    go true more = omega (arith, other_left_count first (delete key tree) others)
    go false more = omega (arith, more)

first_left_count : (t : Option Tree) (others : Others) → GainsNoEntry others (first_left t others)
first_left_count (Some tree) others = omega arith
first_left_count None none = tt
first_left_count None (other key tree others) = omega arith

-- a branch gains no entry by a delete
pub delete_count : (tree : Tree) (others : Others) (key : List ℕ) → GainsNoEntry others (delete key (branch tree others))
delete_count tree others key = go (goes_first key others)
  where
    go : (b : Bool) → GainsNoEntry others (if b then first_left (delete key tree) others else Some (branch tree (delete_row key others)))
    go true = first_left_count (delete key tree) others
    go false = delete_row_count others key
