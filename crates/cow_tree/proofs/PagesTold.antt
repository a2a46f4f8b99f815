-- What is read of a page of a tree by its head alone.
use Rattle.std.proofs.Common.{◌≡◌, ℕ, zero, suc, ◌-◌, ◌<◌, ◌≤◌, Bool, true, false, List, [], ◌∷◌, length, map, Option, Some, None, refl, sym, ap, subst, ◌∙◌, arith}
use Rattle.std.specs.Prelude.{IfSome, IfOk, IfErr, Result, Ok, Err, nat_lt}
use Rattle.std.proofs.lemmas.Bool.{ltb-true, lt-ltb, le-leb}
use Rattle.std.specs.List.{list_all}
use Rattle.page_store.specs.Keys.{rises, is_between}
use Rattle.page_store.specs.Reading.{◌>>=◌, where_true}
use Rattle.page_store.specs.Pages.{Pair, Child, Place, key_of, child_key, starts_empty, pair_at, child_at, leaf_of, branch_of, are_leaf, entries_of}
use Rattle.page_store.specs.Batch.{value_at, pair_after}
use Rattle.page_store.specs.Content.{Found, Bounds, place_in, fan, walk}
use Rattle.page_store.proofs.Fields.{bind_some, test_passed}
use Rattle.tree_nodes.specs.PageViews.{entries_by_head, has_head}
use Rattle.tree_nodes.proofs.KeyOrder.{both_true}
use Rattle.tree_nodes.proofs.PageForm.{leaf_told, branch_told}
use Rattle.tree_nodes.proofs.PageHeads.{leaf_headed, branch_headed}
use Rattle.tree_nodes.proofs.WalksWithinBounds.{some_is, pairs_is}
use Rattle.cow_tree.specs.Ways.{pages_around, is_page_or_none, are_inside, around_in, begins_leaf, IsOnWay, AnswersBy}
use Rattle.cow_tree.specs.declared.page_fault.PageFault.{PageFault}
use Rattle.cow_tree.specs.declared.page_fault.PageFault.TheVariants.{Damaged}
use Rattle.cow_tree.proofs.FilledWalks.{leaf_filled, filled_some}
use Rattle.cow_tree.proofs.OnTheWay.{branch_way, branch_keys, no_page, around_inside}
use Rattle.cow_tree.proofs.Pages.{names_inside}

-- ---- pages of an image of so many

inside_next : (pages : ℕ) (next : Option ℕ) → is_page_or_none pages next ≡ true → IfSome next (λ page. page < pages)
inside_next pages None t = tt
inside_next pages (Some page) t = ltb-true page pages t

next_inside : (pages : ℕ) (next : Option ℕ) → IfSome next (λ page. page < pages) → is_page_or_none pages next ≡ true
next_inside pages None t = refl
next_inside pages (Some page) t = lt-ltb page pages t

pub inside_told : (pages : ℕ) (around : ℕ × Option ℕ) → are_inside pages around ≡ true → (around.0 < pages) × IfSome around.1 (λ page. page < pages)
inside_told pages around t =
    let both = both_true (nat_lt around.0 pages) (is_page_or_none pages around.1) t in
    (ltb-true around.0 pages both.0, inside_next pages around.1 both.1)

told_inside : (pages : ℕ) (around : ℕ × Option ℕ) → around.0 < pages → IfSome around.1 (λ page. page < pages) → are_inside pages around ≡ true
told_inside pages around here next = rw (lt-ltb around.0 pages here, next_inside pages around.1 next) refl

-- ---- what a leaf's page begins with

pub begins_there : (place : Place) (bytes : List ℕ) (pairs : List Pair) → has_head place bytes ≡ true → entries_by_head pair_at bytes ≡ pairs → 1 ≤ length pairs → begins_leaf place bytes ≡ true
begins_there place bytes pairs head same some = rw (head, same, le-leb 1 (length pairs) some) refl

pub begins_nowhere : (place : Place) (bytes : List ℕ) → has_head place bytes ≡ false → begins_leaf place bytes ≡ false
begins_nowhere place bytes head = rw head refl

pub begins_empty : (place : Place) (bytes : List ℕ) → has_head place bytes ≡ true → entries_by_head pair_at bytes ≡ [] → begins_leaf place bytes ≡ false
begins_empty place bytes head none = rw (head, none) refl

leaf_rises : (place : Place) (low : List ℕ) (high : Option (List ℕ)) (bytes : List ℕ) (pairs : List Pair) → leaf_of place low high bytes ≡ Some pairs → rises (map key_of pairs) ≡ true
unfolding leaf_of
leaf_rises place low high bytes pairs e =
    let f = bind_some (entries_of pair_at place bytes) (λ ps. where_true (are_leaf low high ps) (Some ps)) pairs e in
    let t = test_passed (are_leaf low high f.0) (Some f.0) pairs f.2 in
    let rise = (both_true (rises (map key_of f.0)) (list_all (is_between low high) (map key_of f.0)) t.0).0 in
    subst (λ (ps : List Pair). rises (map key_of ps) ≡ true) (pairs_is f.0 pairs t.1) rise

-- bytes that say which pages are around a key begin with the head of their page
pub head_shown : (place : Place) (key bytes : List ℕ) (r : Result (ℕ × Option ℕ) PageFault) → IfOk r (λ around. around_in place key bytes ≡ Some around) → IfOk r (λ around. has_head place bytes ≡ true)
head_shown place key bytes (Ok around) read =
    let f = bind_some (where_true (has_head place bytes) (pages_around key (entries_by_head child_at bytes))) (λ x. where_true (are_inside place.pages x) (Some x)) around read in
    (test_passed (has_head place bytes) (pages_around key (entries_by_head child_at bytes)) f.0 f.1).0
head_shown place key bytes (Err e) read = tt

module _ (a : ℕ → List ℕ) (bounds : Bounds) (page : ℕ) (found : Found) where
  -- ---- a leaf

  -- where a walk found something there is a leaf, and its pairs are those that were found
  pub leaf_walked : walk a bounds 0 page [] None ≡ Some found → (pairs : List Pair) × (leaf_of (place_in bounds 0 page) [] None (a page) ≡ Some pairs) × (pairs ≡ found.pairs)
  leaf_walked e =
      let f = bind_some (leaf_of (place_in bounds 0 page) [] None (a page)) (λ pairs. Some (record { pages = page ∷ []; pairs = pairs })) found e in
      (f.0, f.1, ap (λ (x : Found). x.pairs) (some_is (record { pages = page ∷ []; pairs = f.0 }) found f.2))

  pub pairs_told : (bytes : List ℕ) → a page ≡ bytes → walk a bounds 0 page [] None ≡ Some found → entries_by_head pair_at bytes ≡ found.pairs
  pairs_told bytes is e =
      let l = leaf_walked e in
      ap (entries_by_head pair_at) (sym is) ∙ leaf_told (place_in bounds 0 page) [] None (a page) l.0 l.1 ∙ l.2

  pub leaf_head_told : (bytes : List ℕ) → a page ≡ bytes → length bytes ≤ 4096 → walk a bounds 0 page [] None ≡ Some found → has_head (place_in bounds 0 page) bytes ≡ true
  leaf_head_told bytes is size e =
      let l = leaf_walked e in
      leaf_headed (place_in bounds 0 page) [] None bytes l.0 refl size (ap (leaf_of (place_in bounds 0 page) [] None) (sym is) ∙ l.1)

  -- the keys of its pairs rise
  pub pairs_rise : (bytes : List ℕ) → a page ≡ bytes → walk a bounds 0 page [] None ≡ Some found → rises (map key_of (entries_by_head pair_at bytes)) ≡ true
  pairs_rise bytes is e =
      let l = leaf_walked e in
      subst (λ (ps : List Pair). rises (map key_of ps) ≡ true) (l.2 ∙ sym (pairs_told bytes is e)) (leaf_rises (place_in bounds 0 page) [] None (a page) l.0 l.1)

  -- what looking a value up there answers
  pub value_answered : (bytes : List ℕ) → a page ≡ bytes → length bytes ≤ 4096 → walk a bounds 0 page [] None ≡ Some found → (key : List ℕ) (shown : Option ℕ → Option (List ℕ)) (r : Result (Option ℕ) PageFault)
      → IfOk r (λ x. shown x ≡ value_at (entries_by_head pair_at bytes) key) → IfErr r (λ e. (e ≡ Damaged page) × (has_head (place_in bounds 0 page) bytes ≡ false)) → AnswersBy r (λ x. shown x ≡ value_at found.pairs key)
  value_answered bytes is size e key shown (Ok x) value fault = value ∙ ap (λ (l : List Pair). value_at l key) (pairs_told bytes is e)
  value_answered bytes is size e key shown (Err f) value fault = let both = sym fault.1 ∙ leaf_head_told bytes is size e in absurd (cc both)

  pub leaf_begins_told : (bytes : List ℕ) → a page ≡ bytes → length bytes ≤ 4096 → walk a bounds 0 page [] None ≡ Some found → begins_leaf (place_in bounds 0 page) bytes ≡ true
  leaf_begins_told bytes is size e =
      let l = leaf_walked e in
      let same : entries_by_head pair_at bytes ≡ l.0 = ap (entries_by_head pair_at) (sym is) ∙ leaf_told (place_in bounds 0 page) [] None (a page) l.0 l.1 in
      let some = filled_some l.0 (leaf_filled (place_in bounds 0 page) [] None (a page) l.0 l.1) in
      begins_there (place_in bounds 0 page) bytes l.0 (leaf_head_told bytes is size e) same some

  -- what looking the next pair up there answers
  pub pair_answered : (bytes : List ℕ) → a page ≡ bytes → length bytes ≤ 4096 → walk a bounds 0 page [] None ≡ Some found → (key : List ℕ) (shown : Option (ℕ × ℕ) → Option Pair) (r : Result (Option (ℕ × ℕ)) PageFault)
      → IfOk r (λ x. shown x ≡ pair_after (entries_by_head pair_at bytes) key) → IfErr r (λ e. (e ≡ Damaged page) × (begins_leaf (place_in bounds 0 page) bytes ≡ false)) → AnswersBy r (λ x. shown x ≡ pair_after found.pairs key)
  pair_answered bytes is size e key shown (Ok x) pair fault = pair ∙ ap (λ (l : List Pair). pair_after l key) (pairs_told bytes is e)
  pair_answered bytes is size e key shown (Err f) pair fault = let both = sym fault.1 ∙ leaf_begins_told bytes is size e in absurd (cc both)

  -- ---- a branch

  pub branch_walked : (level : ℕ) → 0 < level → walk a bounds level page [] None ≡ Some found → (children : List Child) × (branch_of (place_in bounds level page) [] None (a page) ≡ Some children)
  branch_walked zero some e = absurd (omega (arith, some))
  branch_walked (suc level) some e =
      let f = bind_some (branch_of (place_in bounds (suc level) page) [] None (a page)) (λ children. fan (walk a bounds level) [] None children >>= λ under. Some (record { pages = page ∷ under.pages; pairs = under.pairs })) found e in
      (f.0, f.1)

  module _ (level : ℕ) (some : 0 < level) (e : walk a bounds level page [] None ≡ Some found) (key : List ℕ) (bytes : List ℕ) (children : List Child) (is : a page ≡ bytes) (answered : children ≡ entries_by_head child_at bytes) where
    there : branch_of (place_in bounds level page) [] None (a page) ≡ Some children
    there =
        let b = branch_walked level some e in
        let same : children ≡ b.0 = answered ∙ ap (entries_by_head child_at) (sym is) ∙ branch_told (place_in bounds level page) [] None (a page) b.0 b.1 in
        subst (λ (cs : List Child). branch_of (place_in bounds level page) [] None (a page) ≡ Some cs) (sym same) b.1

    -- the pages around a key are on its way
    pub way_told : (around : ℕ × Option ℕ) → pages_around key children ≡ Some around → IsOnWay a bounds (level - 1) key found around
    way_told around is = branch_way a bounds level page key children found around some there e is

    -- there are such pages
    pub around_there : None ≡ pages_around key children → ⊥
    around_there none = no_page key children (branch_keys (place_in bounds level page) [] None (a page) children there).0 none

    -- they are pages of the image
    pub around_within : (around : ℕ × Option ℕ) → Some around ≡ pages_around key children → (around.0 < bounds.pages) × IfSome around.1 (λ page. page < bounds.pages)
    around_within around around_is = around_inside bounds.pages key children around (names_inside (place_in bounds level page) [] None (a page) children there) around_is

  module _ (level : ℕ) (some : 0 < level) (e : walk a bounds level page [] None ≡ Some found) (key : List ℕ) (bytes : List ℕ) (is : a page ≡ bytes) (size : length bytes ≤ 4096) where
    pub branch_head_told : has_head (place_in bounds level page) bytes ≡ true
    branch_head_told =
        let b = branch_walked level some e in
        branch_headed (place_in bounds level page) (level - 1) [] None bytes b.0 (omega (arith, some)) size (ap (branch_of (place_in bounds level page) [] None) (sym is) ∙ b.1)

    -- the keys of its children rise from the empty one on
    pub children_rise : (starts_empty (map child_key (entries_by_head child_at bytes)) ≡ true) × (rises (map child_key (entries_by_head child_at bytes)) ≡ true)
    children_rise =
        let b = branch_walked level some e in
        let same : entries_by_head child_at bytes ≡ b.0 = ap (entries_by_head child_at) (sym is) ∙ branch_told (place_in bounds level page) [] None (a page) b.0 b.1 in
        subst (λ (cs : List Child). (starts_empty (map child_key cs) ≡ true) × (rises (map child_key cs) ≡ true)) (sym same) (branch_keys (place_in bounds level page) [] None (a page) b.0 b.1)

    -- the pages around a key are pages of the image
    pub around_is_inside : (around : ℕ × Option ℕ) → Some around ≡ pages_around key (entries_by_head child_at bytes) → are_inside bounds.pages around ≡ false → ⊥
    around_is_inside around r out =
        let within = around_within level some e key bytes (entries_by_head child_at bytes) is refl around r in
        let inside = told_inside bounds.pages around within.0 within.1 in
        absurd (cc (inside, out))

    -- what the bytes of the page say is on its way
    pub around_told : (around : ℕ × Option ℕ) → around_in (place_in bounds level page) key bytes ≡ Some around → IsOnWay a bounds (level - 1) key found around
    around_told around read =
        let f = bind_some (where_true (has_head (place_in bounds level page) bytes) (pages_around key (entries_by_head child_at bytes))) (λ x. where_true (are_inside bounds.pages x) (Some x)) around read in
        let t = test_passed (has_head (place_in bounds level page) bytes) (pages_around key (entries_by_head child_at bytes)) f.0 f.1 in
        let u = test_passed (are_inside bounds.pages f.0) (Some f.0) around f.2 in
        way_told level some e key bytes (entries_by_head child_at bytes) is refl around (t.1 ∙ u.1)

    -- they say something
    pub around_said : around_in (place_in bounds level page) key bytes ≡ None → ⊥
    around_said none = go (pages_around key (entries_by_head child_at bytes)) refl (subst (λ (b : Bool). (where_true b (pages_around key (entries_by_head child_at bytes)) >>= λ x. where_true (are_inside bounds.pages x) (Some x)) ≡ None) branch_head_told none)
      where
        go : (r : Option (ℕ × Option ℕ)) → r ≡ pages_around key (entries_by_head child_at bytes) → (r >>= λ x. where_true (are_inside bounds.pages x) (Some x)) ≡ None → ⊥
        go None r n = around_there level some e key bytes (entries_by_head child_at bytes) is refl r
        go (Some around) r n =
            let within = around_within level some e key bytes (entries_by_head child_at bytes) is refl around r in
            let inside = told_inside bounds.pages around within.0 within.1 in
            let some : Some around ≡ None = subst (λ (b : Bool). where_true b (Some around) ≡ None) inside n in
            absurd (cc some)

    -- what reading along it answers
    pub around_answered : (r : Result (ℕ × Option ℕ) PageFault) → IfOk r (λ around. around_in (place_in bounds level page) key bytes ≡ Some around) → IfErr r (λ e. (e ≡ Damaged page) × (around_in (place_in bounds level page) key bytes ≡ None)) → AnswersBy r (IsOnWay a bounds (level - 1) key found)
    around_answered (Ok around) read fault = around_told around read
    around_answered (Err f) read fault = absurd (around_said fault.1)
