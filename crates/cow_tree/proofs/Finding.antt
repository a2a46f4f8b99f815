-- What stands under a slot, by a walk of its tree.
use Rattle.std.proofs.Common.{◌≡◌, ℕ, zero, suc, ◌<◌, ◌≤◌, Bool, true, false, List, [], ◌∷◌, length, Option, Some, None, refl, sym, ap, subst, ◌∙◌, arith, inl, inr}
use Rattle.std.specs.Prelude.{◌&&◌, ◌==◌, nat_le, nat_lt, Err}
use Rattle.std.specs.List.{list_all}
use Rattle.std.proofs.lemmas.Bool.{cases_Bool, eq-eqb, ne_eqb, leb-true, ltb-true}
use Rattle.std.proofs.lemmas.List.{length-replicate}
use Rattle.page_alloc.specs.declared.life.Life.TheVariants.{Never}
use Rattle.page_alloc.specs.LedgerState.{LedgerState, is_alive}
use Rattle.page_alloc.specs.Calls.{fresh}
use Rattle.page_store.specs.Reading.{◌>>=◌, where_true}
use Rattle.page_store.specs.Pages.{Child, is_inside, leaf_of, branch_of}
use Rattle.page_store.specs.Content.{Found, Bounds, fan, walk, joined, nothing_found, low_of, high_of, place_in, tree_of, tree_found, are_distinct}
use Rattle.page_store.specs.declared.slot.Slot.{Slot}
use Rattle.page_store.proofs.Fields.{bind_some, bind_again, test_passed}
use Rattle.tree_nodes.proofs.KeyOrder.{both_true}
use Rattle.cow_tree.specs.Walks.{IsWalked, IsBroken, TellsWalk}
use Rattle.cow_tree.specs.Opening.{bounds_under, IsReached, Finds}
use Rattle.cow_tree.specs.declared.page_fault.PageFault.{PageFault}
use Rattle.cow_tree.specs.declared.page_fault.PageFault.TheVariants.{Device, Damaged}
use Rattle.cow_tree.proofs.Pages.{names_inside}
use Rattle.cow_tree.proofs.Reaching.{AreWithin, within_both, fresh_are_distinct, fresh_few, distinct_are_fresh, alive_exactly}

abbrev some : Found → Option Found
some x = Some x

some_is : (x y : Found) → some x ≡ some y → x ≡ y
some_is x y e = cc

-- ---- all pages of a tree are pages of its image

abbrev FindsWithin : ℕ → (ℕ → List ℕ → Option (List ℕ) → Option Found) → Type 0
FindsWithin pages u = (page : ℕ) (low : List ℕ) (high : Option (List ℕ)) (found : Found) → 2 ≤ page → page < pages → u page low high ≡ Some found → AreWithin pages found.pages

inside_is : (pages : ℕ) (child : Child) → is_inside pages child ≡ true → (2 ≤ child.page) × (child.page < pages)
inside_is pages child h = let b = both_true (nat_le 2 child.page) (nat_lt child.page pages) h in (leb-true 2 child.page b.0, ltb-true child.page pages b.1)

fan_within : (pages : ℕ) (u : ℕ → List ℕ → Option (List ℕ) → Option Found) → FindsWithin pages u → (children : List Child) (low : List ℕ) (high : Option (List ℕ)) (found : Found) → list_all (is_inside pages) children ≡ true
    → fan u low high children ≡ Some found → AreWithin pages found.pages
fan_within pages u w [] low high found inside e = subst (λ (x : Found). AreWithin pages x.pages) (some_is nothing_found found e) tt
fan_within pages u w (child ∷ children) low high found inside e =
    let b = both_true (is_inside pages child) (list_all (is_inside pages) children) inside in
    let i = inside_is pages child b.0 in
    let f = bind_some (u child.page (low_of low child.key) (high_of children high)) (λ here. fan u low high children >>= λ others. Some (joined here others)) found e in
    let g = bind_some (fan u low high children) (λ others. Some (joined f.0 others)) found f.2 in
    subst (λ (x : Found). AreWithin pages x.pages) (some_is (joined f.0 g.0) found g.2)
    (within_both pages f.0.pages g.0.pages (w child.page (low_of low child.key) (high_of children high) f.0 i.0 i.1 f.1) (fan_within pages u w children low high g.0 b.1 g.1))

walk_inside : (a : ℕ → List ℕ) (bounds : Bounds) (level page : ℕ) (low : List ℕ) (high : Option (List ℕ)) (found : Found) → 2 ≤ page → page < bounds.pages → walk a bounds level page low high ≡ Some found → AreWithin bounds.pages found.pages
walk_inside a bounds zero page low high found least most e =
    let f = bind_some (leaf_of (place_in bounds 0 page) low high (a page)) (λ pairs. Some (record { pages = page ∷ []; pairs = pairs })) found e in
    subst (λ (x : Found). AreWithin bounds.pages x.pages) (some_is _ found f.2) (least, most, tt)
walk_inside a bounds (suc level) page low high found least most e =
    let f = bind_some (branch_of (place_in bounds (suc level) page) low high (a page)) (λ children. fan (walk a bounds level) low high children >>= λ under. Some (record { pages = page ∷ under.pages; pairs = under.pairs })) found e in
    let g = bind_some (fan (walk a bounds level) low high f.0) (λ under. Some (record { pages = page ∷ under.pages; pairs = under.pairs })) found f.2 in
    let inside = names_inside (place_in bounds (suc level) page) low high (a page) f.0 f.1 in
    subst (λ (x : Found). AreWithin bounds.pages x.pages) (some_is _ found g.2)
    (least, most, fan_within bounds.pages (walk a bounds level) (λ p lo hi x l m i. walk_inside a bounds level p lo hi x l m i) f.0 low high g.0 inside g.1)

pub tree_inside : (a : ℕ → List ℕ) (bounds : Bounds) (height page : ℕ) (found : Found) → tree_of a bounds height page ≡ Some found → AreWithin bounds.pages found.pages
tree_inside a bounds zero page found e =
    let t = test_passed (page == 0) (Some nothing_found) found e in
    subst (λ (x : Found). AreWithin bounds.pages x.pages) (some_is nothing_found found t.1) tt
tree_inside a bounds (suc level) page found e =
    let t = test_passed (nat_le level 15 && (nat_le 2 page && nat_lt page bounds.pages)) (walk a bounds level page [] None) found e in
    let b = both_true (nat_le level 15) (nat_le 2 page && nat_lt page bounds.pages) t.0 in
    let d = both_true (nat_le 2 page) (nat_lt page bounds.pages) b.1 in
    walk_inside a bounds level page [] None found (leb-true 2 page d.0) (ltb-true page bounds.pages d.1) t.1

-- ---- the tree under a slot

found_tested : (slot : Slot) (a : ℕ → List ℕ) (found : Found) (t : Bool) → tree_of a (bounds_under slot) slot.root.height slot.root.tree ≡ Some found → are_distinct found.pages && (length found.pairs == slot.root.keys) ≡ t
    → tree_found slot a ≡ where_true t (Some found)
unfolding tree_found
found_tested slot a found t e is =
    bind_again (tree_of a (bounds_under slot) slot.root.height slot.root.tree) (λ x. where_true (are_distinct x.pages && (length x.pairs == slot.root.keys)) (Some x)) found _ e (ap (λ (b : Bool). where_true b (Some found)) is)

no_tree : (slot : Slot) (a : ℕ → List ℕ) → tree_of a (bounds_under slot) slot.root.height slot.root.tree ≡ None → tree_found slot a ≡ None
unfolding tree_found
no_tree slot a e = rw e refl

both : (a b : Bool) → a ≡ true → b ≡ true → (a && b) ≡ true
both true b h k = k
both false b h k = absurd (cc h)

second_false : (a b : Bool) → b ≡ false → (a && b) ≡ false
second_false true b h = h
second_false false b h = refl

first_false : (a b : Bool) → a ≡ false → (a && b) ≡ false
first_false true b h = absurd (cc h)
first_false false b h = refl

module _ (slot : Slot) (a : ℕ → List ℕ) (new : LedgerState) where
  abbrev tree : Option Found
  tree = tree_of a (bounds_under slot) slot.root.height slot.root.tree

  abbrev first : LedgerState
  first = fresh slot.root.pages slot.seal

  pub exact : (count : ℕ) → slot.root.pages ≤ 65536 → (w : IsWalked tree first new count) → count ≡ length w.found.pairs
  exact count small w =
      let few = fresh_few first w.found.pages w.fresh in
      let size = length-replicate slot.root.pages Never in
      omega (arith, w.pairs, w.most, few, size, small)

  pub is_reached : (count : ℕ) → slot.root.pages ≤ 65536 → IsWalked tree first new count → count ≡ slot.root.keys → IsReached (tree_found slot a) slot new
  is_reached count small w same =
      let keys : length w.found.pairs ≡ slot.root.keys = sym (exact count small w) ∙ same in
      record {
        found = w.found;
        is = found_tested slot a w.found true w.is (both (are_distinct w.found.pages) (length w.found.pairs == slot.root.keys) (fresh_are_distinct first w.found.pages w.fresh) (eq-eqb (length w.found.pairs) slot.root.keys keys));
        ledger_is = w.held;
        alive = λ n. ap (λ (s : LedgerState). is_alive s n) w.held ∙ alive_exactly slot.root.pages slot.seal w.found.pages n w.fresh;
        keys = sym keys;
      }

  pub keys_differ : (count : ℕ) → slot.root.pages ≤ 65536 → IsWalked tree first new count → (count ≡ slot.root.keys → ⊥) → tree_found slot a ≡ None
  keys_differ count small w differ =
      found_tested slot a w.found false w.is (second_false (are_distinct w.found.pages) (length w.found.pairs == slot.root.keys) (ne_eqb (length w.found.pairs) slot.root.keys (λ e. differ (exact count small w ∙ e))))

  pub is_damaged : IsBroken tree first → tree_found slot a ≡ None
  is_damaged b = go tree refl
    where
      go : (r : Option Found) → tree ≡ r → tree_found slot a ≡ None
      go None e = no_tree slot a e
      go (Some found) e =
          found_tested slot a found false e (first_false (are_distinct found.pages) (length found.pairs == slot.root.keys)
          (elim (cases_Bool (are_distinct found.pages)) [
            | inl t ↦ let f = b.each found e in let d = distinct_are_fresh slot.root.pages slot.seal found.pages (tree_inside a (bounds_under slot) slot.root.height slot.root.tree found e) t in absurd (cc (f, d))
            | inr f ↦ f
          ]))

  pub finds_fault : (T : Type 0) (e : PageFault) → TellsWalk tree first new (Err e) → Finds {T = T} (tree_found slot a) slot new (Err e)
  finds_fault T Device h = tt
  finds_fault T (Damaged page) h = is_damaged h
