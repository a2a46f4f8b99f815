-- A page on the way to a key, replaced by what it says.
use Rattle.std.proofs.Common.{◌≡◌, ℕ, zero, suc, ◌+◌, ◌-◌, ◌≤◌, Bool, true, false, List, ◌++◌, Option, Some, None, refl, sym, ap, subst, ◌∙◌, arith}
use Rattle.std.specs.Prelude.{if◌then◌else◌}
use Rattle.page_store.specs.Pages.{Pair}
use Rattle.tree_nodes.specs.Tree.{Tree, Others, page, leaf, branch, none, other, OldPages, pairs_of, row_pairs, owned_at, row_owned_at, goes_first, way, row_way, other_bytes, entry_room}
use Rattle.tree_nodes.specs.Supply.{path_depth, row_depth, supplied, row_supplied, one_at}
use Rattle.tree_nodes.specs.Valid.{IsValid, IsValidRow, IsOld, IsOneNode, others_high}
use Rattle.tree_nodes.proofs.KeyOrder.{not_both}

abbrev pub some : ℕ → Option ℕ
some n = Some n

pub some_none : {G : Type 0} (n : ℕ) → None ≡ some n → G
some_none n h = absurd (cc h)

pub same : (n m : ℕ) → some n ≡ some m → n ≡ m
same n m h = cc

-- the page that is on the way opens, and the tree with what it says is as valid, has the same pairs and one owned node more
abbrev pub Supplies : OldPages → ℕ → List ℕ → ℕ → Tree → List ℕ → Option (List ℕ) → Type 0
Supplies old level key n tree low high =
    (t : Tree) × (old.opened (level - path_depth key tree) n ≡ Some t) × IsValid old level (supplied key t tree) low high × (pairs_of old (supplied key t tree) ≡ pairs_of old tree)
    × ((depth : ℕ) → owned_at depth (supplied key t tree) ≡ owned_at depth tree + one_at depth (path_depth key tree))

abbrev RowSupplies : OldPages → ℕ → List ℕ → ℕ → Others → List ℕ → Option (List ℕ) → Type 0
RowSupplies old level key n others low high =
    (t : Tree) × (old.opened (level - row_depth key others) n ≡ Some t) × IsValidRow old level (row_supplied key t others) low high × (row_pairs old (row_supplied key t others) ≡ row_pairs old others)
    × ((depth : ℕ) → row_owned_at depth (row_supplied key t others) ≡ row_owned_at depth others + one_at depth (row_depth key others))

row_high : (others : Others) (key : List ℕ) (t : Tree) (high : Option (List ℕ)) → others_high (row_supplied key t others) high ≡ others_high others high
row_high none key t high = refl
row_high (other first tree others) key t high = go (goes_first key others)
  where
    go : (b : Bool) → others_high (if b then other first (supplied key t tree) others else other first tree (row_supplied key t others)) high ≡ Some first
    go true = refl
    go false = refl

row_bytes : (others : Others) (key : List ℕ) (t : Tree) → other_bytes (row_supplied key t others) ≡ other_bytes others
row_bytes none key t = refl
row_bytes (other first tree others) key t = go (goes_first key others) (row_bytes others key t)
  where
    go : (b : Bool) → other_bytes (row_supplied key t others) ≡ other_bytes others → other_bytes (if b then other first (supplied key t tree) others else other first tree (row_supplied key t others)) ≡ other_bytes (other first tree others)
    go true more = refl
    go false more = omega (arith, more)

pub less : (level depth : ℕ) → suc level - suc depth ≡ level - depth
less level depth = omega arith

opened_node : (t : Tree) → IsOneNode t → (depth : ℕ) → owned_at depth t ≡ 0 + one_at depth 0
opened_node t h zero = omega (arith, h.0)
opened_node t h (suc depth) = omega (arith, h.1 depth)

first_owned : (tree new : Tree) (others : Others) (d : ℕ) → ((depth : ℕ) → owned_at depth new ≡ owned_at depth tree + one_at depth d) → (depth : ℕ) → owned_at depth (branch new others) ≡ owned_at depth (branch tree others) + one_at depth (suc d)
first_owned tree new others d h zero = refl
first_owned tree new others d h (suc depth) = omega (arith, h depth)

other_owned : (tree : Tree) (others new : Others) (d : ℕ) → ((depth : ℕ) → row_owned_at depth new ≡ row_owned_at depth others + one_at depth d) → (depth : ℕ) → owned_at depth (branch tree new) ≡ owned_at depth (branch tree others) + one_at depth (suc d)
other_owned tree others new d h zero = refl
other_owned tree others new d h (suc depth) = omega (arith, h depth)

branch_step : (old : OldPages) (level : ℕ) (key : List ℕ) (n : ℕ) (tree : Tree) (others : Others) (low : List ℕ) (high : Option (List ℕ))
    → IsValid old level tree low (others_high others high) → IsValidRow old level others low high → 6 + other_bytes others ≤ entry_room
    → (b : Bool) → goes_first key others ≡ b → (if b then way key tree else row_way key others) ≡ Some n
    → (way key tree ≡ Some n → Supplies old level key n tree low (others_high others high))
    → (goes_first key others ≡ false → row_way key others ≡ Some n → RowSupplies old level key n others low high)
    → (t : Tree) × (old.opened (suc level - suc (if b then path_depth key tree else row_depth key others)) n ≡ Some t)
    × IsValid old (suc level) (if b then branch (supplied key t tree) others else branch tree (row_supplied key t others)) low high
    × (pairs_of old (if b then branch (supplied key t tree) others else branch tree (row_supplied key t others)) ≡ pairs_of old tree ++ row_pairs old others)
    × ((depth : ℕ) → owned_at depth (if b then branch (supplied key t tree) others else branch tree (row_supplied key t others)) ≡ owned_at depth (branch tree others) + one_at depth (suc (if b then path_depth key tree else row_depth key others)))
branch_step old level key n tree others low high v r size true g w child row =
    let c = child w in (
      c.0,
      ap (λ (l : ℕ). old.opened l n) (less level (path_depth key tree)) ∙ c.1,
      (c.2, r, size),
      ap (λ (l : List Pair). l ++ row_pairs old others) c.3,
      first_owned tree (supplied key c.0 tree) others (path_depth key tree) c.4,
    )
branch_step old level key n tree others low high v r size false g w child row =
    let c = row g w in (
      c.0,
      ap (λ (l : ℕ). old.opened l n) (less level (row_depth key others)) ∙ c.1,
      (subst (λ (h : Option (List ℕ)). IsValid old level tree low h) (sym (row_high others key c.0 high)) v, c.2, omega (arith, size, row_bytes others key c.0)),
      ap (λ (l : List Pair). pairs_of old tree ++ l) c.3,
      other_owned tree others (row_supplied key c.0 others) (row_depth key others) c.4,
    )

row_step : (old : OldPages) (level : ℕ) (key : List ℕ) (n : ℕ) (first : List ℕ) (tree : Tree) (others : Others) (low : List ℕ) (high : Option (List ℕ))
    → IsValidRow old level (other first tree others) low high
    → (b : Bool) → goes_first key others ≡ b → (if b then way key tree else row_way key others) ≡ Some n
    → (way key tree ≡ Some n → Supplies old level key n tree first (others_high others high))
    → (goes_first key others ≡ false → row_way key others ≡ Some n → RowSupplies old level key n others first high)
    → (t : Tree) × (old.opened (level - (if b then path_depth key tree else row_depth key others)) n ≡ Some t)
    × IsValidRow old level (if b then other first (supplied key t tree) others else other first tree (row_supplied key t others)) low high
    × (row_pairs old (if b then other first (supplied key t tree) others else other first tree (row_supplied key t others)) ≡ pairs_of old tree ++ row_pairs old others)
    × ((depth : ℕ) → row_owned_at depth (if b then other first (supplied key t tree) others else other first tree (row_supplied key t others))
    ≡ row_owned_at depth (other first tree others) + one_at depth (if b then path_depth key tree else row_depth key others))
row_step old level key n first tree others low high r true g w child row =
    let c = child w in (
      c.0,
      c.1,
      (r.0, r.1, r.2, c.2, r.4),
      ap (λ (l : List Pair). l ++ row_pairs old others) c.3,
      λ depth. omega (arith, c.4 depth),
    )
row_step old level key n first tree others low high r false g w child row =
    let c = row g w in (
      c.0,
      c.1,
      (r.0, r.1, r.2, subst (λ (h : Option (List ℕ)). IsValid old level tree first h) (sym (row_high others key c.0 high)) r.3, c.2),
      ap (λ (l : List Pair). pairs_of old tree ++ l) c.3,
      λ depth. omega (arith, c.4 depth),
    )

page_supplies : (old : OldPages) (o : IsOld old) (level m n : ℕ) (low : List ℕ) (high : Option (List ℕ)) (key : List ℕ) → old.stands level m low high ≡ true → m ≡ n → Supplies old level key n (page m) low high
page_supplies old o level m n low high key h e =
    let f = o.opens level m low high h in
    let here : level - 0 ≡ level = omega arith in
    (f.0, ap (λ (k : ℕ). old.opened (level - 0) k) (sym e) ∙ ap (λ (l : ℕ). old.opened l m) here ∙ f.1, f.2, f.3, opened_node f.0 f.4)

mutual
  pub supply_tree : (tree : Tree) (old : OldPages) (o : IsOld old) (level : ℕ) (low : List ℕ) (high : Option (List ℕ)) (key : List ℕ) (n : ℕ) → IsValid old level tree low high → way key tree ≡ Some n → Supplies old level key n tree low high
  supply_tree (page m) old o level low high key n h w = page_supplies old o level m n low high key h (same m n w)
  supply_tree (leaf pairs) old o level low high key n h w = some_none n w
  supply_tree (branch tree others) old o zero low high key n h w = absurd h
  supply_tree (branch tree others) old o (suc level) low high key n h w =
      branch_step old level key n tree others low high h.0 h.1 h.2 (goes_first key others) refl w
      (λ v. supply_tree tree old o level low (others_high others high) key n h.0 v)
      (λ g v. supply_row others old o level low high key n h.1 g v)

  supply_row : (others : Others) (old : OldPages) (o : IsOld old) (level : ℕ) (low : List ℕ) (high : Option (List ℕ)) (key : List ℕ) (n : ℕ) → IsValidRow old level others low high → goes_first key others ≡ false → row_way key others ≡ Some n
      → RowSupplies old level key n others low high
  supply_row none old o level low high key n h f w = not_both true refl f
  supply_row (other first tree others) old o level low high key n h f w =
      row_step old level key n first tree others low high h (goes_first key others) refl w
      (λ v. supply_tree tree old o level first (others_high others high) key n h.3 v)
      (λ g v. supply_row others old o level first high key n h.4 g v)
