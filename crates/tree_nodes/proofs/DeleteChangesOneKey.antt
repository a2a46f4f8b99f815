-- A key deleted from a tree.
use Rattle.std.proofs.Common.{◌≡◌, ℕ, zero, suc, ◌+◌, ◌≤◌, Bool, true, false, List, ◌++◌, Option, Some, None, refl, sym, ap, ◌∙◌, arith}
use Rattle.std.specs.Prelude.{if◌then◌else◌}
use Rattle.page_store.specs.Keys.{precedes, is_below}
use Rattle.page_store.specs.Pages.{Pair}
use Rattle.page_store.specs.Batch.{is_key}
use Rattle.tree_nodes.specs.Tree.{Tree, Others, page, leaf, branch, none, other, OldPages, pairs_of, row_pairs, goes_first, way, row_way, other_bytes, entry_room}
use Rattle.tree_nodes.specs.Delete.{delete, delete_row, first_left, other_left}
use Rattle.tree_nodes.specs.Valid.{IsValid, IsValidRow, IsLeft, IsOld, IsUpTo, left_pairs, others_high}
use Rattle.tree_nodes.proofs.KeyOrder.{not_both, not_back, itself, upto_key, upto_itself, upto_below}
use Rattle.tree_nodes.proofs.JoinedPairs.{taken, take_left, take_right}
use Rattle.tree_nodes.proofs.KeysWithinBounds.{within, row_above, first_below, row_lower, keys_out}
use Rattle.tree_nodes.proofs.LeafSplits.{delete_leaf_valid, left_leaf_pairs, loose_leaf, valid_leaf}

abbrev some : ℕ → Option ℕ
some n = Some n

some_none : (n : ℕ) → some n ≡ None → ⊥
some_none n h = cc h

-- ---- the pairs

first_left_pairs : (old : OldPages) (t : Option Tree) (others : Others) → left_pairs old (first_left t others) ≡ left_pairs old t ++ row_pairs old others
first_left_pairs old (Some tree) others = refl
first_left_pairs old None none = refl
first_left_pairs old None (other key tree others) = refl

other_left_pairs : (old : OldPages) (first : List ℕ) (t : Option Tree) (others : Others) → row_pairs old (other_left first t others) ≡ left_pairs old t ++ row_pairs old others
other_left_pairs old first (Some tree) others = refl
other_left_pairs old first None others = refl

branch_pairs : (old : OldPages) (o : IsOld old) (level : ℕ) (tree : Tree) (others : Others) (low : List ℕ) (high : Option (List ℕ)) (key : List ℕ) → IsValid old level tree low (others_high others high) → IsValidRow old level others low high
    → (b : Bool) → goes_first key others ≡ b → (if b then way key tree else row_way key others) ≡ None
    → (way key tree ≡ None → left_pairs old (delete key tree) ≡ taken key (pairs_of old tree))
    → (goes_first key others ≡ false → row_way key others ≡ None → row_pairs old (delete_row key others) ≡ taken key (row_pairs old others))
    → left_pairs old (if b then first_left (delete key tree) others else Some (branch tree (delete_row key others))) ≡ taken key (pairs_of old tree ++ row_pairs old others)
branch_pairs old o level tree others low high key s r true g w child row =
    first_left_pairs old (delete key tree) others ∙ ap (λ (l : List Pair). l ++ row_pairs old others) (child w)
    ∙ sym (take_left key (pairs_of old tree) (row_pairs old others) (row_above others old o level low high key r g))
branch_pairs old o level tree others low high key s r false g w child row =
    ap (λ (l : List Pair). pairs_of old tree ++ l) (row g w)
    ∙ sym (take_right key (pairs_of old tree) (row_pairs old others) (first_below others low high key (pairs_of old tree) g (within tree old o level low (others_high others high) s)))

other_pairs : (old : OldPages) (o : IsOld old) (level : ℕ) (first : List ℕ) (tree : Tree) (others : Others) (high : Option (List ℕ)) (key : List ℕ) → IsValid old level tree first (others_high others high) → IsValidRow old level others first high
    → (b : Bool) → goes_first key others ≡ b → (if b then way key tree else row_way key others) ≡ None
    → (way key tree ≡ None → left_pairs old (delete key tree) ≡ taken key (pairs_of old tree))
    → (goes_first key others ≡ false → row_way key others ≡ None → row_pairs old (delete_row key others) ≡ taken key (row_pairs old others))
    → row_pairs old (if b then other_left first (delete key tree) others else other first tree (delete_row key others)) ≡ taken key (pairs_of old tree ++ row_pairs old others)
other_pairs old o level first tree others high key s r true g w child row =
    other_left_pairs old first (delete key tree) others ∙ ap (λ (l : List Pair). l ++ row_pairs old others) (child w)
    ∙ sym (take_left key (pairs_of old tree) (row_pairs old others) (row_above others old o level first high key r g))
other_pairs old o level first tree others high key s r false g w child row =
    ap (λ (l : List Pair). pairs_of old tree ++ l) (row g w)
    ∙ sym (take_right key (pairs_of old tree) (row_pairs old others) (first_below others first high key (pairs_of old tree) g (within tree old o level first (others_high others high) s)))

mutual
  pub delete_tree_pairs : (tree : Tree) (old : OldPages) (o : IsOld old) (level : ℕ) (low : List ℕ) (high : Option (List ℕ)) (key : List ℕ) → IsValid old level tree low high → way key tree ≡ None
      → left_pairs old (delete key tree) ≡ taken key (pairs_of old tree)
  delete_tree_pairs (page n) old o level low high key h w = absurd (some_none n w)
  delete_tree_pairs (leaf pairs) old o level low high key h w = left_leaf_pairs old (taken key pairs)
  delete_tree_pairs (branch tree others) old o zero low high key h w = absurd h
  delete_tree_pairs (branch tree others) old o (suc level) low high key h w =
      branch_pairs old o level tree others low high key h.0 h.1 (goes_first key others) refl w
      (λ v. delete_tree_pairs tree old o level low (others_high others high) key h.0 v)
      (λ g v. delete_row_pairs others old o level low high key h.1 g v)

  pub delete_row_pairs : (others : Others) (old : OldPages) (o : IsOld old) (level : ℕ) (low : List ℕ) (high : Option (List ℕ)) (key : List ℕ) → IsValidRow old level others low high → goes_first key others ≡ false → row_way key others ≡ None
      → row_pairs old (delete_row key others) ≡ taken key (row_pairs old others)
  delete_row_pairs none old o level low high key h f w = not_both true refl f
  delete_row_pairs (other first tree others) old o level low high key h f w =
      other_pairs old o level first tree others high key h.3 h.4 (goes_first key others) refl w
      (λ v. delete_tree_pairs tree old o level first (others_high others high) key h.3 v)
      (λ g v. delete_row_pairs others old o level first high key h.4 g v)

-- ---- wider bounds

high_upto : (others : Others) (high higher : Option (List ℕ)) → IsUpTo high higher → IsUpTo (others_high others high) (others_high others higher)
high_upto none high higher k = k
high_upto (other key tree others) high higher k = upto_itself (Some key)

mutual
  pub widen : (tree : Tree) (old : OldPages) (o : IsOld old) (level : ℕ) (low lower : List ℕ) (high higher : Option (List ℕ)) → precedes low lower ≡ false → IsUpTo high higher → IsValid old level tree low high → IsValid old level tree lower higher
  widen (page n) old o level low lower high higher a b h = o.widens level n low lower high higher a b h
  widen (leaf pairs) old o zero low lower high higher a b h =
      let l = loose_leaf pairs low high h in
      valid_leaf pairs lower higher (record { rising = l.rising; between = keys_out low lower high higher pairs a b l.between; each = l.each; filled = l.filled }) h.3
  widen (leaf pairs) old o (suc level) low lower high higher a b h = absurd h
  widen (branch tree others) old o zero low lower high higher a b h = absurd h
  widen (branch tree others) old o (suc level) low lower high higher a b h =
      (widen tree old o level low lower (others_high others high) (others_high others higher) a (high_upto others high higher b) h.0, widen_row others old o level low lower high higher a b h.1, h.2)

  pub widen_row : (others : Others) (old : OldPages) (o : IsOld old) (level : ℕ) (low lower : List ℕ) (high higher : Option (List ℕ)) → precedes low lower ≡ false → IsUpTo high higher → IsValidRow old level others low high → IsValidRow old level others lower higher
  widen_row none old o level low lower high higher a b h = tt
  widen_row (other key tree others) old o level low lower high higher a b h = (
    upto_below lower low key a h.0,
    b key h.1,
    h.2,
    widen tree old o level key key (others_high others high) (others_high others higher) (itself key) (high_upto others high higher b) h.3,
    widen_row others old o level key key high higher (itself key) b h.4,
  )

-- ---- order and sizes

-- the first key of a row is below the second
first_is_below : (old : OldPages) (level : ℕ) (others : Others) (first : List ℕ) (high : Option (List ℕ)) → is_below high first ≡ true → IsValidRow old level others first high → is_below (others_high others high) first ≡ true
first_is_below old level none first high b h = b
first_is_below old level (other next tree others) first high b h = h.0

other_left_upto : (old : OldPages) (level : ℕ) (first : List ℕ) (t : Option Tree) (others : Others) (high : Option (List ℕ)) → is_below high first ≡ true → IsValidRow old level others first high → IsUpTo (Some first) (others_high (other_left first t others) high)
other_left_upto old level first (Some tree) others high b h = upto_itself (Some first)
other_left_upto old level first None others high b h = upto_key first (others_high others high) (first_is_below old level others first high b h)

-- the bound of the first child rises, where the second goes
delete_row_upto : (others : Others) (old : OldPages) (level : ℕ) (low : List ℕ) (high : Option (List ℕ)) (key : List ℕ) → IsValidRow old level others low high → IsUpTo (others_high others high) (others_high (delete_row key others) high)
delete_row_upto none old level low high key h = upto_itself high
delete_row_upto (other first tree others) old level low high key h = go (goes_first key others)
  where
    go : (b : Bool) → IsUpTo (Some first) (others_high (if b then other_left first (delete key tree) others else other first tree (delete_row key others)) high)
    go true = other_left_upto old level first (delete key tree) others high h.1 h.4
    go false = upto_itself (Some first)

abbrev IsLeftRow : OldPages → ℕ → Others → Others → List ℕ → Option (List ℕ) → Type 0
IsLeftRow old level before after low high = IsValidRow old level after low high × (other_bytes after ≤ other_bytes before)

first_left_valid : (old : OldPages) (o : IsOld old) (level : ℕ) (t : Option Tree) (others : Others) (low : List ℕ) (high : Option (List ℕ)) → IsLeft old level t low (others_high others high) → IsValidRow old level others low high → 6 + other_bytes others ≤ entry_room
    → IsLeft old (suc level) (first_left t others) low high
first_left_valid old o level (Some tree) others low high h r size = (h, r, size)
first_left_valid old o level None none low high h r size = tt
first_left_valid old o level None (other key tree others) low high h r size =
    (widen tree old o level key low (others_high others high) (others_high others high) (not_back low key r.0) (upto_itself (others_high others high)) r.3, row_lower old level others key low high r.0 r.4, omega (arith, size))

other_left_valid : (old : OldPages) (level : ℕ) (first : List ℕ) (before : Tree) (t : Option Tree) (others : Others) (low : List ℕ) (high : Option (List ℕ)) → precedes low first ≡ true → is_below high first ≡ true → is_key first ≡ true
    → IsLeft old level t first (others_high others high) → IsValidRow old level others first high → IsLeftRow old level (other first before others) (other_left first t others) low high
other_left_valid old level first before (Some tree) others low high a b c h r = ((a, b, c, h, r), omega arith)
other_left_valid old level first before None others low high a b c h r = (row_lower old level others first low high a r, omega arith)

branch_valid : (old : OldPages) (o : IsOld old) (level : ℕ) (tree : Tree) (others : Others) (low : List ℕ) (high : Option (List ℕ)) (key : List ℕ) → IsValid old level tree low (others_high others high) → IsValidRow old level others low high
    → 6 + other_bytes others ≤ entry_room → (b : Bool) → IsLeft old level (delete key tree) low (others_high others high) → IsLeftRow old level others (delete_row key others) low high
    → IsLeft old (suc level) (if b then first_left (delete key tree) others else Some (branch tree (delete_row key others))) low high
branch_valid old o level tree others low high key s r size true child row = first_left_valid old o level (delete key tree) others low high child r size
branch_valid old o level tree others low high key s r size false child row =
    (widen tree old o level low low (others_high others high) (others_high (delete_row key others) high) (itself low) (delete_row_upto others old level low high key r) s, row.0, omega (arith, size, row.1))

other_valid : (old : OldPages) (o : IsOld old) (level : ℕ) (first : List ℕ) (tree : Tree) (others : Others) (low : List ℕ) (high : Option (List ℕ)) (key : List ℕ) → precedes low first ≡ true → is_below high first ≡ true → is_key first ≡ true
    → IsValid old level tree first (others_high others high) → IsValidRow old level others first high → (b : Bool) → IsLeft old level (delete key tree) first (others_high others high) → IsLeftRow old level others (delete_row key others) first high
    → IsLeftRow old level (other first tree others) (if b then other_left first (delete key tree) others else other first tree (delete_row key others)) low high
other_valid old o level first tree others low high key a b c s r true child row = other_left_valid old level first tree (delete key tree) others low high a b c child r
other_valid old o level first tree others low high key a b c s r false child row = (
  (a, b, c, widen tree old o level first first (others_high others high) (others_high (delete_row key others) high) (itself first) (delete_row_upto others old level first high key r) s, row.0),
  omega (arith, row.1),
)

mutual
  pub delete_tree_valid : (tree : Tree) (old : OldPages) (o : IsOld old) (level : ℕ) (low : List ℕ) (high : Option (List ℕ)) (key : List ℕ) → IsValid old level tree low high → IsLeft old level (delete key tree) low high
  delete_tree_valid (page n) old o level low high key h = h
  delete_tree_valid (leaf pairs) old o zero low high key h = delete_leaf_valid old pairs low high key h
  delete_tree_valid (leaf pairs) old o (suc level) low high key h = absurd h
  delete_tree_valid (branch tree others) old o zero low high key h = absurd h
  delete_tree_valid (branch tree others) old o (suc level) low high key h =
      branch_valid old o level tree others low high key h.0 h.1 h.2 (goes_first key others) (delete_tree_valid tree old o level low (others_high others high) key h.0) (delete_row_valid others old o level low high key h.1)

  pub delete_row_valid : (others : Others) (old : OldPages) (o : IsOld old) (level : ℕ) (low : List ℕ) (high : Option (List ℕ)) (key : List ℕ) → IsValidRow old level others low high → IsLeftRow old level others (delete_row key others) low high
  delete_row_valid none old o level low high key h = (tt, omega arith)
  delete_row_valid (other first tree others) old o level low high key h =
      other_valid old o level first tree others low high key h.0 h.1 h.2 h.3 h.4 (goes_first key others) (delete_tree_valid tree old o level first (others_high others high) key h.3) (delete_row_valid others old o level first high key h.4)
