-- A walk that names a page finds what a walk finds.
use Rattle.std.proofs.Common.{◌≡◌, ◌≢◌, ℕ, zero, suc, ◌-◌, Bool, true, false, List, [], ◌∷◌, ◌++◌, length, Option, Some, None, refl, sym, ap, subst, ◌∙◌, arith, inl, inr}
use Rattle.std.specs.Prelude.{◌&&◌, ◌==◌, ◌⊎◌, not, nat_le, nat_lt, Result, Ok, Err}
use Rattle.std.proofs.lemmas.Bool.{ne_eqb}
use Rattle.page_store.specs.Reading.{where_true}
use Rattle.page_store.specs.Pages.{Child, leaf_of, branch_of}
use Rattle.page_store.specs.Content.{Found, Bounds, fan, walk, joined, nothing_found, low_of, high_of, place_in, tree_of, tree_found, are_distinct, is_among}
use Rattle.page_store.specs.declared.slot.Slot.{Slot}
use Rattle.page_store.proofs.Fields.{bind_some, bind_again, test_passed}
use Rattle.tree_nodes.proofs.KeyOrder.{both_true}
use Rattle.cow_tree.specs.NamedWalks.{◌>>=◌, or_name, read_or_name, fan_or_name, walk_or_name, root_or_name, tree_or_name, found_or_none}
use Rattle.cow_tree.proofs.NamedPages.{are_new, new_both, new_are_distinct, distinct_are_new}

abbrev some : Found → Option Found
some x = Some x

some_is : (x y : Found) → some x ≡ some y → x ≡ y
some_is x y e = cc

abbrev bounds_under : Slot → Bounds
bounds_under slot = record { pages = slot.root.pages; seal = slot.seal }

abbrev ok : Found → Result Found ℕ
ok x = Ok x

ok_is : (x y : Found) → ok x ≡ ok y → x ≡ y
ok_is x y e = cc

-- ---- steps

-- the value of a step that gave one
bind_ok : {A B : Type 0} (r : Result A ℕ) (f : A → Result B ℕ) (y : B) → (r >>= f) ≡ Ok y → (x : A) × (r ≡ Ok x) × (f x ≡ Ok y)
bind_ok (Ok x) f y e = (x, refl, e)
bind_ok (Err page) f y e = absurd cc

pub after_ok : {A B : Type 0} (r : Result A ℕ) (f : A → Result B ℕ) (x : A) (y : Result B ℕ) → r ≡ Ok x → f x ≡ y → (r >>= f) ≡ y
after_ok (Ok z) f x y e h = let s : z ≡ x = cc in ap f s ∙ h
after_ok (Err page) f x y e h = absurd cc

pub after_err : {A B : Type 0} (r : Result A ℕ) (f : A → Result B ℕ) (page : ℕ) → r ≡ Err page → (r >>= f) ≡ Err page
after_err (Ok x) f page e = absurd cc
after_err (Err n) f page e = let s : n ≡ page = cc in rw s refl

-- what is named has its form, and is new
read_ok : {A : Type 0} (page : ℕ) (reached : List ℕ) (form : Option A) (x : A) → read_or_name page reached form ≡ Ok x → (is_among page reached ≡ false) × (form ≡ Some x)
read_ok {A = A} page reached form x e = at (is_among page reached) form e
  where
    at : (b : Bool) (form : Option A) → or_name page (where_true (not b) form) ≡ Ok x → (b ≡ false) × (form ≡ Some x)
    at true form e = absurd cc
    at false (Some y) e = (refl, cc)
    at false None e = absurd cc

ok_read : {A : Type 0} (page : ℕ) (reached : List ℕ) (form : Option A) (x : A) → is_among page reached ≡ false → form ≡ Some x → read_or_name page reached form ≡ Ok x
ok_read page reached form x new is = rw (new, is) refl

-- ---- what a walk finds, this one finds, where the pages are new

abbrev Walks : Type 0
Walks = ℕ → List ℕ → Option (List ℕ) → Option Found

abbrev NamingWalks : Type 0
NamingWalks = ℕ → List ℕ → Option (List ℕ) → List ℕ → Result Found ℕ

abbrev with_page : ℕ → Found → Found
with_page page under = record { pages = page ∷ under.pages; pairs = under.pairs }

not_is : (b : Bool) → not b ≡ true → b ≡ false
not_is true h = absurd (cc h)
not_is false h = refl

both : (a b : Bool) → a ≡ true → b ≡ true → (a && b) ≡ true
both true b h k = k
both false b h k = absurd (cc h)

abbrev FindsToo : Walks → NamingWalks → Type 0
FindsToo u w = (page : ℕ) (low : List ℕ) (high : Option (List ℕ)) (reached : List ℕ) (found : Found) → u page low high ≡ Some found → are_new reached found.pages ≡ true → w page low high reached ≡ Ok found

fan_finds : (u : Walks) (w : NamingWalks) → FindsToo u w → (children : List Child) (low : List ℕ) (high : Option (List ℕ)) (reached : List ℕ) (found : Found) → fan u low high children ≡ Some found → are_new reached found.pages ≡ true
    → fan_or_name w low high children reached ≡ Ok found
fan_finds u w h [] low high reached found e new = ap (λ (x : Found). ok x) (some_is nothing_found found e)
fan_finds u w h (child ∷ children) low high reached found e new =
    let f = bind_some (u child.page (low_of low child.key) (high_of children high)) _ found e in
    let g = bind_some (fan u low high children) _ found f.2 in
    let is = some_is (joined f.0 g.0) found g.2 in
    let all : are_new reached (f.0.pages ++ g.0.pages) ≡ true = ap (λ (x : Found). are_new reached x.pages) is ∙ new in
    let b = both_true (are_new reached f.0.pages) (are_new (reached ++ f.0.pages) g.0.pages) (sym (new_both reached f.0.pages g.0.pages) ∙ all) in
    after_ok (w child.page (low_of low child.key) (high_of children high) reached) _ f.0 (Ok found) (h child.page (low_of low child.key) (high_of children high) reached f.0 f.1 b.0)
    (after_ok (fan_or_name w low high children (reached ++ f.0.pages)) _ g.0 (Ok found) (fan_finds u w h children low high (reached ++ f.0.pages) g.0 g.1 b.1) (ap (λ (x : Found). ok x) is))

pub walk_finds : (a : ℕ → List ℕ) (bounds : Bounds) (level page : ℕ) (low : List ℕ) (high : Option (List ℕ)) (reached : List ℕ) (found : Found) → walk a bounds level page low high ≡ Some found → are_new reached found.pages ≡ true
    → walk_or_name a bounds level page low high reached ≡ Ok found
walk_finds a bounds zero page low high reached found e new =
    let f = bind_some (leaf_of (place_in bounds 0 page) low high (a page)) _ found e in
    let is = some_is (record { pages = page ∷ []; pairs = f.0 }) found f.2 in
    let all : are_new reached (page ∷ []) ≡ true = ap (λ (x : Found). are_new reached x.pages) is ∙ new in
    let b = both_true (not (is_among page reached)) true all in
    after_ok (read_or_name page reached (leaf_of (place_in bounds 0 page) low high (a page))) _ f.0 (Ok found) (ok_read page reached _ f.0 (not_is (is_among page reached) b.0) f.1) (ap (λ (x : Found). ok x) is)
walk_finds a bounds (suc level) page low high reached found e new =
    let f = bind_some (branch_of (place_in bounds (suc level) page) low high (a page)) _ found e in
    let g = bind_some (fan (walk a bounds level) low high f.0) _ found f.2 in
    let is = some_is (with_page page g.0) found g.2 in
    let all : are_new reached (page ∷ g.0.pages) ≡ true = ap (λ (x : Found). are_new reached x.pages) is ∙ new in
    let b = both_true (not (is_among page reached)) (are_new (reached ++ page ∷ []) g.0.pages) all in
    after_ok (read_or_name page reached (branch_of (place_in bounds (suc level) page) low high (a page))) _ f.0 (Ok found) (ok_read page reached _ f.0 (not_is (is_among page reached) b.0) f.1)
    (after_ok (fan_or_name (walk_or_name a bounds level) low high f.0 (reached ++ page ∷ [])) _ g.0 (Ok found)
    (fan_finds (walk a bounds level) (walk_or_name a bounds level) (λ p l h r x i n. walk_finds a bounds level p l h r x i n) f.0 low high (reached ++ page ∷ []) g.0 g.1 b.1) (ap (λ (x : Found). ok x) is))

-- ---- what this one finds, a walk finds, and the pages are new

abbrev IsFound : Walks → NamingWalks → Type 0
IsFound u w = (page : ℕ) (low : List ℕ) (high : Option (List ℕ)) (reached : List ℕ) (found : Found) → w page low high reached ≡ Ok found → (u page low high ≡ Some found) × (are_new reached found.pages ≡ true)

fan_found : (u : Walks) (w : NamingWalks) → IsFound u w → (children : List Child) (low : List ℕ) (high : Option (List ℕ)) (reached : List ℕ) (found : Found) → fan_or_name w low high children reached ≡ Ok found
    → (fan u low high children ≡ Some found) × (are_new reached found.pages ≡ true)
fan_found u w h [] low high reached found e =
    let is = ok_is nothing_found found e in
    (ap (λ (x : Found). some x) is, subst (λ (x : Found). are_new reached x.pages ≡ true) is refl)
fan_found u w h (child ∷ children) low high reached found e =
    let f = bind_ok (w child.page (low_of low child.key) (high_of children high) reached) _ found e in
    let g = bind_ok (fan_or_name w low high children (reached ++ f.0.pages)) _ found f.2 in
    let is = ok_is (joined f.0 g.0) found g.2 in
    let one = h child.page (low_of low child.key) (high_of children high) reached f.0 f.1 in
    let others = fan_found u w h children low high (reached ++ f.0.pages) g.0 g.1 in
    let all = new_both reached f.0.pages g.0.pages ∙ both (are_new reached f.0.pages) (are_new (reached ++ f.0.pages) g.0.pages) one.1 others.1 in (
      bind_again (u child.page (low_of low child.key) (high_of children high)) _ f.0 (Some found) one.0 (bind_again (fan u low high children) _ g.0 (Some found) others.0 (ap (λ (x : Found). some x) is)),
      subst (λ (x : Found). are_new reached x.pages ≡ true) is all,
    )

pub walk_found : (a : ℕ → List ℕ) (bounds : Bounds) (level page : ℕ) (low : List ℕ) (high : Option (List ℕ)) (reached : List ℕ) (found : Found) → walk_or_name a bounds level page low high reached ≡ Ok found
    → (walk a bounds level page low high ≡ Some found) × (are_new reached found.pages ≡ true)
walk_found a bounds zero page low high reached found e =
    let f = bind_ok (read_or_name page reached (leaf_of (place_in bounds 0 page) low high (a page))) _ found e in
    let r = read_ok page reached (leaf_of (place_in bounds 0 page) low high (a page)) f.0 f.1 in
    let is = ok_is (record { pages = page ∷ []; pairs = f.0 }) found f.2 in (
      bind_again (leaf_of (place_in bounds 0 page) low high (a page)) _ f.0 (Some found) r.1 (ap (λ (x : Found). some x) is),
      subst (λ (x : Found). are_new reached x.pages ≡ true) is (both (not (is_among page reached)) true (ap not r.0) refl),
    )
walk_found a bounds (suc level) page low high reached found e =
    let f = bind_ok (read_or_name page reached (branch_of (place_in bounds (suc level) page) low high (a page))) _ found e in
    let g = bind_ok (fan_or_name (walk_or_name a bounds level) low high f.0 (reached ++ page ∷ [])) _ found f.2 in
    let r = read_ok page reached (branch_of (place_in bounds (suc level) page) low high (a page)) f.0 f.1 in
    let under = fan_found (walk a bounds level) (walk_or_name a bounds level) (λ p l h s x i. walk_found a bounds level p l h s x i) f.0 low high (reached ++ page ∷ []) g.0 g.1 in
    let is = ok_is (with_page page g.0) found g.2 in (
      bind_again (branch_of (place_in bounds (suc level) page) low high (a page)) _ f.0 (Some found) r.1 (bind_again (fan (walk a bounds level) low high f.0) _ g.0 (Some found) under.0 (ap (λ (x : Found). some x) is)),
      subst (λ (x : Found). are_new reached x.pages ≡ true) is (both (not (is_among page reached)) (are_new (reached ++ page ∷ []) g.0.pages) (ap not r.0) under.1),
    )

-- ---- the tree of a root

root_finds : (number : ℕ) (a : ℕ → List ℕ) (bounds : Bounds) (height page : ℕ) (reached : List ℕ) (found : Found) → tree_of a bounds height page ≡ Some found → are_new reached found.pages ≡ true → root_or_name number a bounds height page reached ≡ Ok found
root_finds number a bounds zero page reached found e new = let t = test_passed (page == 0) (Some nothing_found) found e in rw t.0 (ap (λ (x : Found). ok x) (some_is nothing_found found t.1))
root_finds number a bounds (suc level) page reached found e new =
    let t = test_passed (nat_le level 15 && (nat_le 2 page && nat_lt page bounds.pages)) (walk a bounds level page [] None) found e in
    after_ok (or_name number (where_true (nat_le level 15 && (nat_le 2 page && nat_lt page bounds.pages)) (Some page))) _ page (Ok found) (rw t.0 refl) (walk_finds a bounds level page [] None reached found t.1 new)

root_found : (number : ℕ) (a : ℕ → List ℕ) (bounds : Bounds) (height page : ℕ) (reached : List ℕ) (found : Found) → root_or_name number a bounds height page reached ≡ Ok found → (tree_of a bounds height page ≡ Some found) × (are_new reached found.pages ≡ true)
root_found number a bounds zero page reached found e = at (page == 0) e
  where
    at : (b : Bool) → or_name number (where_true b (Some nothing_found)) ≡ Ok found → (where_true b (Some nothing_found) ≡ Some found) × (are_new reached found.pages ≡ true)
    at true e = let is = ok_is nothing_found found e in (ap (λ (x : Found). some x) is, subst (λ (x : Found). are_new reached x.pages ≡ true) is refl)
    at false e = absurd cc
root_found number a bounds (suc level) page reached found e = at (nat_le level 15 && (nat_le 2 page && nat_lt page bounds.pages)) e
  where
    at : (b : Bool) → (or_name number (where_true b (Some page)) >>= λ root. walk_or_name a bounds level root [] None reached) ≡ Ok found → (where_true b (walk a bounds level page [] None) ≡ Some found) × (are_new reached found.pages ≡ true)
    at true e = walk_found a bounds level page [] None reached found e
    at false e = absurd cc

-- ---- the tree under a slot

tree_finds : (slot : Slot) (a : ℕ → List ℕ) (found : Found) → tree_found slot a ≡ Some found → tree_or_name slot a ≡ Ok found
unfolding tree_found tree_or_name
tree_finds slot a found e =
    let f = bind_some (tree_of a (bounds_under slot) slot.root.height slot.root.tree) _ found e in
    let t = test_passed (are_distinct f.0.pages && (length f.0.pairs == slot.root.keys)) (Some f.0) found f.2 in
    let b = both_true (are_distinct f.0.pages) (length f.0.pairs == slot.root.keys) t.0 in
    after_ok (root_or_name slot.number a (bounds_under slot) slot.root.height slot.root.tree []) _ f.0 (Ok found)
    (root_finds slot.number a (bounds_under slot) slot.root.height slot.root.tree [] f.0 f.1 (distinct_are_new f.0.pages b.0)) (rw b.1 (ap (λ (x : Found). ok x) (some_is f.0 found t.1)))

is_tree : (slot : Slot) (a : ℕ → List ℕ) (found : Found) → tree_or_name slot a ≡ Ok found → tree_found slot a ≡ Some found
unfolding tree_found tree_or_name
is_tree slot a found e =
    let f = bind_ok (root_or_name slot.number a (bounds_under slot) slot.root.height slot.root.tree []) _ found e in
    let r = root_found slot.number a (bounds_under slot) slot.root.height slot.root.tree [] f.0 f.1 in
    let k = keys (length f.0.pairs == slot.root.keys) f.0 f.2 in
    bind_again (tree_of a (bounds_under slot) slot.root.height slot.root.tree) _ f.0 (Some found) r.0 (rw (new_are_distinct [] f.0.pages r.1, k.0) (ap (λ (x : Found). some x) k.1))
  where
    keys : (b : Bool) (x : Found) → or_name slot.number (where_true b (Some x)) ≡ Ok found → (b ≡ true) × (x ≡ found)
    keys true x e = (refl, ok_is x found e)
    keys false x e = absurd cc

pub same_trees : (slot : Slot) (a : ℕ → List ℕ) → found_or_none (tree_or_name slot a) ≡ tree_found slot a
same_trees slot a = at (tree_or_name slot a) refl
  where
    none : (r : Option Found) (page : ℕ) → tree_found slot a ≡ r → tree_or_name slot a ≡ Err page → None ≡ r
    none None page e is = refl
    none (Some found) page e is = absurd (cc (tree_finds slot a found e, is))

    at : (r : Result Found ℕ) → tree_or_name slot a ≡ r → found_or_none r ≡ tree_found slot a
    at (Ok found) e = sym (is_tree slot a found e)
    at (Err page) e = none (tree_found slot a) page refl e

-- ---- the page that is named

read_named : {A : Type 0} (page : ℕ) (reached : List ℕ) (form : Option A) → (is_among page reached ≡ true) ⊎ (form ≡ None) → read_or_name page reached form ≡ Err page
read_named page reached form (inl e) = rw e refl
read_named {A = A} page reached form (inr e) = at (is_among page reached) form e
  where
    at : (b : Bool) (form : Option A) → form ≡ None → or_name page (where_true (not b) form) ≡ Err page
    at true form e = refl
    at false None e = refl
    at false (Some x) e = absurd cc

-- a page that isn't a branch of its level
pub branch_named : (a : ℕ → List ℕ) (bounds : Bounds) (level page : ℕ) (low : List ℕ) (high : Option (List ℕ)) (reached : List ℕ) → level ≢ 0 → branch_of (place_in bounds level page) low high (a page) ≡ None → walk_or_name a bounds level page low high reached ≡ Err page
branch_named a bounds zero page low high reached ne e = absurd (ne refl)
branch_named a bounds (suc level) page low high reached ne e = after_err (read_or_name page reached (branch_of (place_in bounds (suc level) page) low high (a page))) _ page (read_named page reached _ (inr e))

-- what the children of a branch name, the branch names
pub under_named : (a : ℕ → List ℕ) (bounds : Bounds) (level page : ℕ) (low : List ℕ) (high : Option (List ℕ)) (reached : List ℕ) (children : List Child) (wrong : ℕ) → level ≢ 0 → is_among page reached ≡ false → branch_of (place_in bounds level page) low high (a page) ≡ Some children
    → fan_or_name (walk_or_name a bounds (level - 1)) low high children (reached ++ page ∷ []) ≡ Err wrong → walk_or_name a bounds level page low high reached ≡ Err wrong
under_named a bounds zero page low high reached children wrong ne new e h = absurd (ne refl)
under_named a bounds (suc level) page low high reached children wrong ne new e h =
    let less : suc level - 1 ≡ level = omega arith in
    let under = subst (λ (n : ℕ). fan_or_name (walk_or_name a bounds n) low high children (reached ++ page ∷ []) ≡ Err wrong) less h in
    after_ok (read_or_name page reached (branch_of (place_in bounds (suc level) page) low high (a page))) _ children (Err wrong) (ok_read page reached _ children new e)
    (after_err (fan_or_name (walk_or_name a bounds level) low high children (reached ++ page ∷ [])) _ wrong under)

-- what a child names, the children from it on name
pub child_named : (w : NamingWalks) (low : List ℕ) (high : Option (List ℕ)) (reached : List ℕ) (child : Child) (rest : List Child) (wrong : ℕ) → w child.page (low_of low child.key) (high_of rest high) reached ≡ Err wrong → fan_or_name w low high (child ∷ rest) reached ≡ Err wrong
child_named w low high reached child rest wrong h = after_err (w child.page (low_of low child.key) (high_of rest high) reached) _ wrong h

-- what the others name after a child that is right, the children from it on name
pub rest_named : (w : NamingWalks) (low : List ℕ) (high : Option (List ℕ)) (reached : List ℕ) (child : Child) (rest : List Child) (here : Found) (wrong : ℕ) → w child.page (low_of low child.key) (high_of rest high) reached ≡ Ok here
    → fan_or_name w low high rest (reached ++ here.pages) ≡ Err wrong → fan_or_name w low high (child ∷ rest) reached ≡ Err wrong
rest_named w low high reached child rest here wrong right h =
    after_ok (w child.page (low_of low child.key) (high_of rest high) reached) _ here (Err wrong) right (after_err (fan_or_name w low high rest (reached ++ here.pages)) _ wrong h)

pub tree_named : (slot : Slot) (a : ℕ → List ℕ) (wrong : ℕ) → root_or_name slot.number a (bounds_under slot) slot.root.height slot.root.tree [] ≡ Err wrong → tree_or_name slot a ≡ Err wrong
unfolding tree_or_name
tree_named slot a wrong h = after_err (root_or_name slot.number a (bounds_under slot) slot.root.height slot.root.tree []) _ wrong h

-- another count of pairs
pub count_named : (slot : Slot) (a : ℕ → List ℕ) (found : Found) → tree_of a (bounds_under slot) slot.root.height slot.root.tree ≡ Some found → are_distinct found.pages ≡ true → (length found.pairs ≡ slot.root.keys → ⊥) → tree_or_name slot a ≡ Err slot.number
unfolding tree_or_name
count_named slot a found e apart differ =
    after_ok (root_or_name slot.number a (bounds_under slot) slot.root.height slot.root.tree []) _ found (Err slot.number)
    (root_finds slot.number a (bounds_under slot) slot.root.height slot.root.tree [] found e (distinct_are_new found.pages apart)) (rw (ne_eqb (length found.pairs) slot.root.keys differ) refl)
