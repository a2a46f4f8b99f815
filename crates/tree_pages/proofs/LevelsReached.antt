-- Which levels the pages of a walk have.
use Rattle.std.proofs.Common.{◌≡◌, ℕ, zero, suc, ◌-◌, ◌≤◌, Bool, true, false, List, [], ◌∷◌, ◌++◌, Option, Some, None, sym, subst, arith}
use Rattle.std.specs.Prelude.{if◌then◌else◌}
use Rattle.page_store.specs.Reading.{◌>>=◌}
use Rattle.page_store.specs.Pages.{Child, leaf_of, branch_of, head_at, page_word}
use Rattle.page_store.specs.Content.{Found, Bounds, place_in, joined, low_of, high_of, fan, walk}
use Rattle.page_store.proofs.Fields.{bind_some}
use Rattle.tree_nodes.specs.Tree.{Tree, Others, page, leaf, branch, none, other, OldPages, goes_first, way, row_way}
use Rattle.tree_nodes.specs.Supply.{path_depth, row_depth}
use Rattle.tree_nodes.specs.Valid.{IsValid, IsValidRow, others_high}
use Rattle.tree_nodes.specs.Needs.{needed_level}
use Rattle.tree_nodes.specs.Steps.{RootState, needed_under, depth_under, IsValidRoot}
use Rattle.tree_nodes.specs.Image.{head_level, old_of}
use Rattle.tree_nodes.proofs.WalksWithinBounds.{some_is, is_found, walk_level}
use Rattle.tree_pages.specs.Reached.{times}
use Rattle.tree_pages.proofs.Counted.{in_joined, first_or_later}

-- ---- the pages of a walk

-- the level that a page says
abbrev level_at : (ℕ → List ℕ) → ℕ → ℕ
level_at bytes m = head_level (head_at page_word (bytes m))

-- each of these pages is of a level, or of a lower one
abbrev NoneAbove : (ℕ → List ℕ) → ℕ → List ℕ → Type 0
NoneAbove bytes level ns = (m : ℕ) → 1 ≤ times m ns → level_at bytes m ≤ level

no_pages : (bytes : ℕ → List ℕ) (level : ℕ) → NoneAbove bytes level []
no_pages bytes level m h = absurd (omega (arith, h))

page_first : (bytes : ℕ → List ℕ) (level n : ℕ) (ns : List ℕ) → level_at bytes n ≤ level → NoneAbove bytes level ns → NoneAbove bytes level (n ∷ ns)
page_first bytes level n ns here later m h = first_or_later m n ns h (λ is. subst (λ (k : ℕ). level_at bytes k ≤ level) (sym is) here) (λ some. later m some)

both_below : (bytes : ℕ → List ℕ) (level : ℕ) (xs ys : List ℕ) → NoneAbove bytes level xs → NoneAbove bytes level ys → NoneAbove bytes level (xs ++ ys)
both_below bytes level xs ys a b m h = in_joined m xs ys h (a m) (b m)

one_up : (bytes : ℕ → List ℕ) (level : ℕ) (ns : List ℕ) → NoneAbove bytes level ns → NoneAbove bytes (suc level) ns
one_up bytes level ns a m h = let low = a m h in omega (arith, low)

abbrev FindsBelow : (ℕ → List ℕ) → ℕ → (ℕ → List ℕ → Option (List ℕ) → Option Found) → Type 0
FindsBelow bytes level u = (n : ℕ) (low : List ℕ) (high : Option (List ℕ)) (found : Found) → u n low high ≡ Some found → NoneAbove bytes level found.pages

fan_below : (bytes : ℕ → List ℕ) (level : ℕ) (u : ℕ → List ℕ → Option (List ℕ) → Option Found) → FindsBelow bytes level u → (children : List Child) (low : List ℕ) (high : Option (List ℕ)) (found : Found) → fan u low high children ≡ Some found
    → NoneAbove bytes level found.pages
fan_below bytes level u w [] low high found e = subst (λ (x : Found). NoneAbove bytes level x.pages) (some_is _ found e) (no_pages bytes level)
fan_below bytes level u w (child ∷ children) low high found e =
    let f = bind_some (u child.page (low_of low child.key) (high_of children high)) (λ here. fan u low high children >>= λ others. Some (joined here others)) found e in
    let g = bind_some (fan u low high children) (λ others. Some (joined f.0 others)) found f.2 in
    subst (λ (x : Found). NoneAbove bytes level x.pages) (some_is (joined f.0 g.0) found g.2)
    (both_below bytes level f.0.pages g.0.pages (w child.page (low_of low child.key) (high_of children high) f.0 f.1) (fan_below bytes level u w children low high g.0 g.1))

pub walk_below : (bytes : ℕ → List ℕ) (bounds : Bounds) (level n : ℕ) (low : List ℕ) (high : Option (List ℕ)) (found : Found) → walk bytes bounds level n low high ≡ Some found
    → (m : ℕ) → 1 ≤ times m found.pages → head_level (head_at page_word (bytes m)) ≤ level
walk_below bytes bounds zero n low high found e =
    let f = bind_some (leaf_of (place_in bounds 0 n) low high (bytes n)) (λ pairs. Some (record { pages = n ∷ []; pairs = pairs })) found e in
    let here = walk_level bytes bounds 0 n low high found e in
    subst (λ (x : Found). NoneAbove bytes 0 x.pages) (some_is _ found f.2) (page_first bytes 0 n [] (omega (arith, here)) (no_pages bytes 0))
walk_below bytes bounds (suc level) n low high found e =
    let f = bind_some (branch_of (place_in bounds (suc level) n) low high (bytes n)) (λ children. fan (walk bytes bounds level) low high children >>= λ under. Some (record { pages = n ∷ under.pages; pairs = under.pairs })) found e in
    let g = bind_some (fan (walk bytes bounds level) low high f.0) (λ under. Some (record { pages = n ∷ under.pages; pairs = under.pairs })) found f.2 in
    let here = walk_level bytes bounds (suc level) n low high found e in
    let under = fan_below bytes level (walk bytes bounds level) (λ k l h x i. walk_below bytes bounds level k l h x i) f.0 low high g.0 g.1 in
    subst (λ (x : Found). NoneAbove bytes (suc level) x.pages) (some_is _ found g.2) (page_first bytes (suc level) n g.0.pages (omega (arith, here)) (one_up bytes level g.0.pages under))

-- ---- the page that a key needs

-- between which keys the page at the end of a key's path stands
abbrev pub Stands : OldPages → ℕ → ℕ → Type 0
Stands old level n = (low : List ℕ) × (high : Option (List ℕ)) × (old.stands level n low high ≡ true)

abbrev pub some_page : ℕ → Option ℕ
some_page n = Some n

pub no_page : {G : Type 0} (n : ℕ) → None ≡ some_page n → G
no_page n h = absurd (cc h)

pub same_page : (m n : ℕ) → some_page m ≡ some_page n → m ≡ n
same_page m n h = cc

page_stands : (old : OldPages) (level m n : ℕ) (low : List ℕ) (high : Option (List ℕ)) → old.stands level m low high ≡ true → some_page m ≡ some_page n → Stands old (level - 0) n
page_stands old level m n low high v w =
    let is : m ≡ n = same_page m n w in
    let here : level ≡ level - 0 = omega arith in
    (low, high, subst (λ (k : ℕ). old.stands (level - 0) k low high ≡ true) is (subst (λ (l : ℕ). old.stands l m low high ≡ true) here v))

one_less : (old : OldPages) (level depth n : ℕ) → Stands old (level - depth) n → Stands old (suc level - suc depth) n
one_less old level depth n s = let less : level - depth ≡ suc level - suc depth = omega arith in subst (λ (l : ℕ). Stands old l n) less s

mutual
  pub way_stands : (tree : Tree) (old : OldPages) (level : ℕ) (low : List ℕ) (high : Option (List ℕ)) (key : List ℕ) (n : ℕ) → IsValid old level tree low high → way key tree ≡ Some n → Stands old (level - path_depth key tree) n
  way_stands (page m) old level low high key n v w = page_stands old level m n low high v w
  way_stands (leaf pairs) old level low high key n v w = no_page n w
  way_stands (branch tree others) old zero low high key n v w = absurd v
  way_stands (branch tree others) old (suc level) low high key n v w =
      go (goes_first key others) w (λ h. way_stands tree old level low (others_high others high) key n v.0 h) (λ h. row_stands others old level low high key n v.1 h)
    where
      go : (b : Bool) → (if b then way key tree else row_way key others) ≡ Some n → (way key tree ≡ Some n → Stands old (level - path_depth key tree) n) → (row_way key others ≡ Some n → Stands old (level - row_depth key others) n)
          → Stands old (suc level - suc (if b then path_depth key tree else row_depth key others)) n
      go true w child row = one_less old level (path_depth key tree) n (child w)
      go false w child row = one_less old level (row_depth key others) n (row w)

  row_stands : (others : Others) (old : OldPages) (level : ℕ) (low : List ℕ) (high : Option (List ℕ)) (key : List ℕ) (n : ℕ) → IsValidRow old level others low high → row_way key others ≡ Some n → Stands old (level - row_depth key others) n
  row_stands none old level low high key n v w = no_page n w
  row_stands (other first tree others) old level low high key n v w =
      go (goes_first key others) w (λ h. way_stands tree old level first (others_high others high) key n v.3 h) (λ h. row_stands others old level first high key n v.4 h)
    where
      go : (b : Bool) → (if b then way key tree else row_way key others) ≡ Some n → (way key tree ≡ Some n → Stands old (level - path_depth key tree) n) → (row_way key others ≡ Some n → Stands old (level - row_depth key others) n)
          → Stands old (level - (if b then path_depth key tree else row_depth key others)) n
      go true w child row = child w
      go false w child row = row w

-- what a walk finds where a page stands
pub found_at : (bytes : ℕ → List ℕ) (bounds : Bounds) (level n : ℕ) (low : List ℕ) (high : Option (List ℕ)) → (old_of bytes bounds).stands level n low high ≡ true → (found : Found) × (walk bytes bounds level n low high ≡ Some found)
found_at bytes bounds level n low high h = is_found (walk bytes bounds level n low high) h

needed_level_at : (bytes : ℕ → List ℕ) (bounds : Bounds) (root : Option Tree) (height : ℕ) (key : List ℕ) (n : ℕ) → IsValidRoot (old_of bytes bounds) root height → needed_under key root ≡ Some n → level_at bytes n ≡ height - 1 - depth_under key root
needed_level_at bytes bounds None height key n v w = no_page n w
needed_level_at bytes bounds (Some tree) height key n v w =
    let s = way_stands tree (old_of bytes bounds) v.0 [] None key n v.2 w in
    let f = found_at bytes bounds (v.0 - path_depth key tree) n s.0 s.1 s.2 in
    let here = walk_level bytes bounds (v.0 - path_depth key tree) n s.0 s.1 f.0 f.1 in
    let up = v.1 in
    omega (arith, here, up)

pub needed_page_level : (bytes : ℕ → List ℕ) (bounds : Bounds) (state : RootState) (key : List ℕ) (n : ℕ) → IsValidRoot (old_of bytes bounds) state.root state.height → needed_under key state.root ≡ Some n
    → head_level (head_at page_word (bytes n)) ≡ needed_level key state
needed_page_level bytes bounds state key n v w = needed_level_at bytes bounds state.root state.height key n v w
