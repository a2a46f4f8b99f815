-- A pair put into a tree.
use Rattle.std.proofs.Common.{◌≡◌, ℕ, zero, suc, ◌+◌, ◌≤◌, Bool, true, false, List, ◌++◌, Option, Some, None, refl, sym, ap, subst, ◌∙◌, arith, append_assoc}
use Rattle.std.specs.Prelude.{if◌then◌else◌}
use Rattle.std.specs.BTreeMap.{insert_entry}
use Rattle.common_types.specs.ByteOrder.{byte_cmp}
use Rattle.page_store.specs.Keys.{precedes, is_below, is_between}
use Rattle.page_store.specs.Pages.{Pair}
use Rattle.page_store.specs.Batch.{is_key, is_pair}
use Rattle.tree_nodes.specs.Tree.{Tree, Others, page, leaf, branch, none, other, OldPages, pairs_of, row_pairs, goes_first, way, row_way, other_bytes, entry_room}
use Rattle.tree_nodes.specs.Put.{Grown, one, two, put, put_row, split_branch, grown_first, grown_other}
use Rattle.tree_nodes.specs.Valid.{IsValid, IsValidRow, IsGrown, IsOld, grown_pairs, others_high}
use Rattle.tree_nodes.proofs.KeyOrder.{not_both, between_parts, between_from}
use Rattle.tree_nodes.proofs.JoinedPairs.{put_left, put_right}
use Rattle.tree_nodes.proofs.KeysWithinBounds.{row_upto, within, row_above, first_below, below_first, row_from}
use Rattle.tree_nodes.proofs.BranchSplits.{split_branch_valid, split_branch_pairs}
use Rattle.tree_nodes.proofs.LeafSplits.{key_size, split_leaf_pairs, put_leaf_valid}

abbrev some : ℕ → Option ℕ
some n = Some n

some_none : (n : ℕ) → some n ≡ None → ⊥
some_none n h = cc h

-- ---- the pairs

grown_first_pairs : (old : OldPages) (g : Grown) (others : Others) → grown_pairs old (grown_first g others) ≡ grown_pairs old g ++ row_pairs old others
grown_first_pairs old (one tree) others = split_branch_pairs old tree others
grown_first_pairs old (two tree key next) others = split_branch_pairs old tree (other key next others) ∙ sym (append_assoc (pairs_of old tree) (pairs_of old next) (row_pairs old others))

grown_other_pairs : (old : OldPages) (first : List ℕ) (g : Grown) (others : Others) → row_pairs old (grown_other first g others) ≡ grown_pairs old g ++ row_pairs old others
grown_other_pairs old first (one tree) others = refl
grown_other_pairs old first (two tree key next) others = sym (append_assoc (pairs_of old tree) (pairs_of old next) (row_pairs old others))

abbrev with_pair : List ℕ → List ℕ → List Pair → List Pair
with_pair key value pairs = insert_entry byte_cmp pairs key value

-- a branch, where its child and its row do as they should
branch_pairs : (old : OldPages) (o : IsOld old) (level : ℕ) (tree : Tree) (others : Others) (low : List ℕ) (high : Option (List ℕ)) (key value : List ℕ) → IsValid old level tree low (others_high others high) → IsValidRow old level others low high
    → (b : Bool) → goes_first key others ≡ b → (if b then way key tree else row_way key others) ≡ None
    → (goes_first key others ≡ true → way key tree ≡ None → grown_pairs old (put key value tree) ≡ with_pair key value (pairs_of old tree))
    → (goes_first key others ≡ false → row_way key others ≡ None → row_pairs old (put_row key value others) ≡ with_pair key value (row_pairs old others))
    → grown_pairs old (if b then grown_first (put key value tree) others else split_branch tree (put_row key value others)) ≡ with_pair key value (pairs_of old tree ++ row_pairs old others)
branch_pairs old o level tree others low high key value s r true g w child row =
    grown_first_pairs old (put key value tree) others ∙ ap (λ (l : List Pair). l ++ row_pairs old others) (child g w)
    ∙ sym (put_left key value (pairs_of old tree) (row_pairs old others) (row_above others old o level low high key r g))
branch_pairs old o level tree others low high key value s r false g w child row =
    split_branch_pairs old tree (put_row key value others) ∙ ap (λ (l : List Pair). pairs_of old tree ++ l) (row g w)
    ∙ sym (put_right key value (pairs_of old tree) (row_pairs old others) (first_below others low high key (pairs_of old tree) g (within tree old o level low (others_high others high) s)))

other_pairs : (old : OldPages) (o : IsOld old) (level : ℕ) (first : List ℕ) (tree : Tree) (others : Others) (high : Option (List ℕ)) (key value : List ℕ) → IsValid old level tree first (others_high others high) → IsValidRow old level others first high
    → (b : Bool) → goes_first key others ≡ b → (if b then way key tree else row_way key others) ≡ None
    → (goes_first key others ≡ true → way key tree ≡ None → grown_pairs old (put key value tree) ≡ with_pair key value (pairs_of old tree))
    → (goes_first key others ≡ false → row_way key others ≡ None → row_pairs old (put_row key value others) ≡ with_pair key value (row_pairs old others))
    → row_pairs old (if b then grown_other first (put key value tree) others else other first tree (put_row key value others)) ≡ with_pair key value (pairs_of old tree ++ row_pairs old others)
other_pairs old o level first tree others high key value s r true g w child row =
    grown_other_pairs old first (put key value tree) others ∙ ap (λ (l : List Pair). l ++ row_pairs old others) (child g w)
    ∙ sym (put_left key value (pairs_of old tree) (row_pairs old others) (row_above others old o level first high key r g))
other_pairs old o level first tree others high key value s r false g w child row =
    ap (λ (l : List Pair). pairs_of old tree ++ l) (row g w)
    ∙ sym (put_right key value (pairs_of old tree) (row_pairs old others) (first_below others first high key (pairs_of old tree) g (within tree old o level first (others_high others high) s)))

mutual
  pub put_tree_pairs : (tree : Tree) (old : OldPages) (o : IsOld old) (level : ℕ) (low : List ℕ) (high : Option (List ℕ)) (key value : List ℕ) → IsValid old level tree low high → way key tree ≡ None
      → grown_pairs old (put key value tree) ≡ with_pair key value (pairs_of old tree)
  put_tree_pairs (page n) old o level low high key value h w = absurd (some_none n w)
  put_tree_pairs (leaf pairs) old o level low high key value h w = split_leaf_pairs old (with_pair key value pairs)
  put_tree_pairs (branch tree others) old o zero low high key value h w = absurd h
  put_tree_pairs (branch tree others) old o (suc level) low high key value h w =
      branch_pairs old o level tree others low high key value h.0 h.1 (goes_first key others) refl w
      (λ g v. put_tree_pairs tree old o level low (others_high others high) key value h.0 v)
      (λ g v. put_row_pairs others old o level low high key value h.1 g v)

  pub put_row_pairs : (others : Others) (old : OldPages) (o : IsOld old) (level : ℕ) (low : List ℕ) (high : Option (List ℕ)) (key value : List ℕ) → IsValidRow old level others low high → goes_first key others ≡ false → row_way key others ≡ None
      → row_pairs old (put_row key value others) ≡ with_pair key value (row_pairs old others)
  put_row_pairs none old o level low high key value h f w = not_both true refl f
  put_row_pairs (other first tree others) old o level low high key value h f w =
      other_pairs old o level first tree others high key value h.3 h.4 (goes_first key others) refl w
      (λ g v. put_tree_pairs tree old o level first (others_high others high) key value h.3 v)
      (λ g v. put_row_pairs others old o level first high key value h.4 g v)

-- ---- order and sizes

grown_first_valid : (old : OldPages) (level : ℕ) (g : Grown) (others : Others) (low : List ℕ) (high : Option (List ℕ)) → IsGrown old level g low (others_high others high) → IsValidRow old level others low high → 6 + other_bytes others ≤ entry_room
    → IsGrown old (suc level) (grown_first g others) low high
grown_first_valid old level (one tree) others low high h r size = split_branch_valid old level tree others low high h r (omega (arith, size))
grown_first_valid old level (two tree key next) others low high h r size =
    split_branch_valid old level tree (other key next others) low high h.3 (h.0, row_upto old level others low high r key h.1, h.2, h.4, row_from old level others low key high h.1 r) (omega (arith, size, key_size key h.2))

-- a row that is valid, and at most one entry longer
abbrev pub IsGrownRow : OldPages → ℕ → Others → Others → List ℕ → Option (List ℕ) → Type 0
IsGrownRow old level before after low high = IsValidRow old level after low high × (other_bytes after ≤ other_bytes before + 306)

grown_other_valid : (old : OldPages) (level : ℕ) (first : List ℕ) (before : Tree) (g : Grown) (others : Others) (low : List ℕ) (high : Option (List ℕ)) → precedes low first ≡ true → is_below high first ≡ true → is_key first ≡ true
    → IsGrown old level g first (others_high others high) → IsValidRow old level others first high → IsGrownRow old level (other first before others) (grown_other first g others) low high
grown_other_valid old level first before (one tree) others low high a b c h r = ((a, b, c, h, r), omega arith)
grown_other_valid old level first before (two tree key next) others low high a b c h r =
    ((a, b, c, h.3, (h.0, row_upto old level others first high r key h.1, h.2, h.4, row_from old level others first key high h.1 r)), omega (arith, key_size key h.2))

-- the first key of a row stays
grown_other_high : (first : List ℕ) (g : Grown) (others : Others) (high : Option (List ℕ)) → others_high (grown_other first g others) high ≡ Some first
grown_other_high first (one tree) others high = refl
grown_other_high first (two tree key next) others high = refl

put_row_high : (others : Others) (key value : List ℕ) (high : Option (List ℕ)) → others_high (put_row key value others) high ≡ others_high others high
put_row_high none key value high = refl
put_row_high (other first tree others) key value high = go (goes_first key others)
  where
    go : (b : Bool) → others_high (if b then grown_other first (put key value tree) others else other first tree (put_row key value others)) high ≡ Some first
    go true = grown_other_high first (put key value tree) others high
    go false = refl

branch_valid : (old : OldPages) (level : ℕ) (tree : Tree) (others : Others) (low : List ℕ) (high : Option (List ℕ)) (key value : List ℕ) → IsValid old level tree low (others_high others high) → IsValidRow old level others low high
    → 6 + other_bytes others ≤ entry_room → (b : Bool) → goes_first key others ≡ b
    → (goes_first key others ≡ true → IsGrown old level (put key value tree) low (others_high others high))
    → (goes_first key others ≡ false → IsGrownRow old level others (put_row key value others) low high)
    → IsGrown old (suc level) (if b then grown_first (put key value tree) others else split_branch tree (put_row key value others)) low high
branch_valid old level tree others low high key value s r size true g child row = grown_first_valid old level (put key value tree) others low high (child g) r size
branch_valid old level tree others low high key value s r size false g child row =
    let after = row g in
    split_branch_valid old level tree (put_row key value others) low high (subst (λ (x : Option (List ℕ)). IsValid old level tree low x) (sym (put_row_high others key value high)) s) after.0 (omega (arith, size, after.1))

other_valid : (old : OldPages) (level : ℕ) (first : List ℕ) (tree : Tree) (others : Others) (low : List ℕ) (high : Option (List ℕ)) (key value : List ℕ) → precedes low first ≡ true → is_below high first ≡ true → is_key first ≡ true
    → IsValid old level tree first (others_high others high) → IsValidRow old level others first high → (b : Bool) → goes_first key others ≡ b
    → (goes_first key others ≡ true → IsGrown old level (put key value tree) first (others_high others high))
    → (goes_first key others ≡ false → IsGrownRow old level others (put_row key value others) first high)
    → IsGrownRow old level (other first tree others) (if b then grown_other first (put key value tree) others else other first tree (put_row key value others)) low high
other_valid old level first tree others low high key value a b c s r true g child row = grown_other_valid old level first tree (put key value tree) others low high a b c (child g) r
other_valid old level first tree others low high key value a b c s r false g child row =
    let after = row g in
    ((a, b, c, subst (λ (x : Option (List ℕ)). IsValid old level tree first x) (sym (put_row_high others key value high)) s, after.0), omega (arith, after.1))

mutual
  pub put_tree_valid : (tree : Tree) (old : OldPages) (level : ℕ) (low : List ℕ) (high : Option (List ℕ)) (key value : List ℕ) → IsValid old level tree low high → is_between low high key ≡ true → is_pair (key, value) ≡ true
      → IsGrown old level (put key value tree) low high
  put_tree_valid (page n) old level low high key value h b p = h
  put_tree_valid (leaf pairs) old zero low high key value h b p = put_leaf_valid old pairs low high key value h b p
  put_tree_valid (leaf pairs) old (suc level) low high key value h b p = absurd h
  put_tree_valid (branch tree others) old zero low high key value h b p = absurd h
  put_tree_valid (branch tree others) old (suc level) low high key value h b p =
      let parts = between_parts low high key b in
      branch_valid old level tree others low high key value h.0 h.1 h.2 (goes_first key others) refl
      (λ g. put_tree_valid tree old level low (others_high others high) key value h.0 (between_from low (others_high others high) key parts.0 (below_first others high key g parts.1)) p)
      (λ g. put_row_valid others old level low high key value h.1 g parts.1 p)

  pub put_row_valid : (others : Others) (old : OldPages) (level : ℕ) (low : List ℕ) (high : Option (List ℕ)) (key value : List ℕ) → IsValidRow old level others low high → goes_first key others ≡ false → is_below high key ≡ true → is_pair (key, value) ≡ true
      → IsGrownRow old level others (put_row key value others) low high
  put_row_valid none old level low high key value h f b p = not_both true refl f
  put_row_valid (other first tree others) old level low high key value h f b p =
      other_valid old level first tree others low high key value h.0 h.1 h.2 h.3 h.4 (goes_first key others) refl
      (λ g. put_tree_valid tree old level first (others_high others high) key value h.3 (between_from first (others_high others high) key f (below_first others high key g b)) p)
      (λ g. put_row_valid others old level first high key value h.4 g b p)
