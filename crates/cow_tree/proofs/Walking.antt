-- What a walk found so far, and what it found at its end.
use Rattle.std.proofs.Common.{◌≡◌, ◌≢◌, ℕ, zero, suc, ◌+◌, ◌-◌, ◌^◌, min, ◌≤◌, Bool, true, false, List, [], ◌∷◌, ◌++◌, length, Option, Some, None, refl, sym, ap, subst, ◌∙◌, arith, append_assoc, length-append}
use Rattle.std.specs.Prelude.{◌&&◌, Result, Ok, Err}
use Rattle.std.proofs.lemmas.List.{append-nil}
use Rattle.page_alloc.specs.LedgerState.{LedgerState, is_free}
use Rattle.page_alloc.specs.Calls.{holding}
use Rattle.page_store.specs.Reading.{◌>>=◌}
use Rattle.page_store.specs.Pages.{Pair, Child, leaf_of, branch_of}
use Rattle.page_store.proofs.Fields.{bind_some}
use Rattle.page_store.specs.Content.{Found, Bounds, fan, walk, joined, nothing_found, low_of, high_of, place_in}
use Rattle.cow_tree.specs.Reached.{are_fresh, holding_all}
use Rattle.cow_tree.specs.Walks.{IsWalked, IsBroken, IsWalkedTo, with_front, TellsWalk}
use Rattle.cow_tree.specs.declared.page_fault.PageFault.{PageFault}
use Rattle.cow_tree.specs.declared.page_fault.PageFault.TheVariants.{Device, Damaged}
use Rattle.cow_tree.proofs.Reaching.{fresh_both, held_both}

abbrev some : Found → Option Found
some x = Some x

some_is : (x y : Found) → some x ≡ some y → x ≡ y
some_is x y e = cc

join_twice : (a b : Found) (r : Option Found) → with_front a (r >>= λ x. Some (joined b x)) ≡ with_front (joined a b) r
join_twice a b (Some x) = ap (λ (f : Found). some f) (λ i. record { pages = sym (append_assoc a.pages b.pages x.pages) i; pairs = sym (append_assoc a.pairs b.pairs x.pairs) i })
join_twice a b None = refl

both : (a b : Bool) → a ≡ true → b ≡ true → (a && b) ≡ true
both true b h k = k
both false b h k = absurd (cc h)

second_false : (a b : Bool) → b ≡ false → (a && b) ≡ false
second_false true b h = h
second_false false b h = refl

first_false : (a b : Bool) → a ≡ false → (a && b) ≡ false
first_false true b h = absurd (cc h)
first_false false b h = refl

-- ---- children one after another

module _ (under : ℕ → List ℕ → Option (List ℕ) → Option Found) (low : List ℕ) (high : Option (List ℕ)) (children : List Child) (old : LedgerState) where
  pub start : IsWalkedTo (fan under low high) children children old old 0
  start = record { front = nothing_found; is = nothing (fan under low high children); fresh = refl; held = refl; pairs = refl; most = omega arith }
    where
      nothing : (r : Option Found) → r ≡ with_front nothing_found r
      nothing (Some x) = refl
      nothing None = refl

  next : (child : Child) (rest : List Child) (front found : Found) → under child.page (low_of low child.key) (high_of rest high) ≡ Some found → with_front front (fan under low high (child ∷ rest)) ≡ with_front (joined front found) (fan under low high rest)
  next child rest front found e = rw e (join_twice front found (fan under low high rest))

  -- one child more
  pub go_on : (count more : ℕ) (now new : LedgerState) (child : Child) (rest : List Child) → IsWalkedTo (fan under low high) children (child ∷ rest) old now count
      → IsWalked (under child.page (low_of low child.key) (high_of rest high)) now new more → IsWalkedTo (fan under low high) children rest old new (min (count + more) (2 ^ 64 - 1))
  go_on count more now new child rest so_far one = record {
    front = joined so_far.front one.found;
    is = so_far.is ∙ next child rest so_far.front one.found one.is;
    fresh = fresh_both old so_far.front.pages one.found.pages ∙ both _ _ so_far.fresh (subst (λ (s : LedgerState). are_fresh s one.found.pages ≡ true) so_far.held one.fresh);
    held = one.held ∙ ap (λ (s : LedgerState). holding_all s one.found.pages) so_far.held ∙ sym (held_both old so_far.front.pages one.found.pages);
    pairs = omega (arith, so_far.pairs, one.pairs, length-append so_far.front.pairs one.found.pairs);
    most = omega (arith, so_far.most, one.most, length-append so_far.front.pairs one.found.pairs, length-append so_far.front.pages one.found.pages);
  }

  broken_front : (front : Found) (r : Option Found) → ((x : Found) → r ≡ Some x → are_fresh old (front.pages ++ x.pages) ≡ false) → IsBroken (with_front front r) old
  broken_front front (Some x) h = record { each = λ found e. subst (λ (f : Found). are_fresh old f.pages ≡ false) (some_is (joined front x) found e) (h x refl) }
  broken_front front None h = record { each = λ found e. absurd (cc e) }

  -- one child is broken
  pub breaks : (count : ℕ) (now : LedgerState) (child : Child) (rest : List Child) → IsWalkedTo (fan under low high) children (child ∷ rest) old now count
      → IsBroken (under child.page (low_of low child.key) (high_of rest high)) now → IsBroken (fan under low high children) old
  breaks count now child rest so_far one =
      subst (λ (r : Option Found). IsBroken r old) (sym so_far.is)
      (at (under child.page (low_of low child.key) (high_of rest high)) (fan under low high rest) one)
    where
      fresh_false : (x y : Found) → are_fresh now x.pages ≡ false → are_fresh old (so_far.front.pages ++ (x.pages ++ y.pages)) ≡ false
      fresh_false x y h =
          fresh_both old so_far.front.pages (x.pages ++ y.pages)
          ∙ second_false _ _ (subst (λ (s : LedgerState). are_fresh s (x.pages ++ y.pages) ≡ false) so_far.held (fresh_both now x.pages y.pages ∙ first_false _ _ h))

      at : (r s : Option Found) → IsBroken r now → IsBroken (with_front so_far.front (r >>= λ here. s >>= λ others. Some (joined here others))) old
      at None s h = record { each = λ found e. absurd (cc e) }
      at (Some x) None h = record { each = λ found e. absurd (cc e) }
      at (Some x) (Some y) h = record { each = λ found e. subst (λ (f : Found). are_fresh old f.pages ≡ false) (some_is (joined so_far.front (joined x y)) found e) (fresh_false x y (h.each x refl)) }

  -- a child answered a fault
  pub breaks_off : (e : PageFault) (count : ℕ) (now new end : LedgerState) (child : Child) (rest : List Child) → IsWalkedTo (fan under low high) children (child ∷ rest) old now count
      → TellsWalk (under child.page (low_of low child.key) (high_of rest high)) now new (Err e) → TellsWalk (fan under low high children) old end (Err e)
  breaks_off Device count now new end child rest so_far one = tt
  breaks_off (Damaged page) count now new end child rest so_far one = breaks count now child rest so_far one

  -- all children are walked
  pub ends : (count : ℕ) (now : LedgerState) → IsWalkedTo (fan under low high) children [] old now count → IsWalked (fan under low high children) old now count
  ends count now so_far = record {
    found = so_far.front;
    is = so_far.is ∙ ap (λ (f : Found). some f) (λ i. record { pages = append-nil so_far.front.pages i; pairs = append-nil so_far.front.pairs i });
    fresh = so_far.fresh;
    held = so_far.held;
    pairs = so_far.pairs;
    most = so_far.most;
  }

-- ---- a page, and what is under it

none_is : (found : Found) → None ≡ some found → ⊥
none_is found e = cc e

pub nothing_broken : (what : Option Found) (old : LedgerState) → what ≡ None → IsBroken what old
nothing_broken what old is = record { each = λ found e. absurd (none_is found (sym is ∙ e)) }

pub leaf_walked : (a : ℕ → List ℕ) (bounds : Bounds) (page : ℕ) (low : List ℕ) (high : Option (List ℕ)) (old new : LedgerState) (pairs : List Pair) (count : ℕ) → is_free old page ≡ true → new ≡ holding page old → leaf_of (place_in bounds 0 page) low high (a page) ≡ Some pairs
    → count ≡ length pairs → count ≤ 65535 → IsWalked (walk a bounds 0 page low high) old new count
leaf_walked a bounds page low high old new pairs count free held e is most = record {
  found = record { pages = page ∷ []; pairs = pairs };
  is = rw e refl;
  fresh = both (is_free old page) true free refl;
  held = held;
  pairs = omega (arith, is, most);
  most = omega (arith, is, most);
}

pub leaf_none : (a : ℕ → List ℕ) (bounds : Bounds) (page : ℕ) (low : List ℕ) (high : Option (List ℕ)) (old : LedgerState) → leaf_of (place_in bounds 0 page) low high (a page) ≡ None → IsBroken (walk a bounds 0 page low high) old
leaf_none a bounds page low high old e = nothing_broken (walk a bounds 0 page low high) old (rw e refl)

abbrev with_page : ℕ → Found → Found
with_page page under = record { pages = page ∷ under.pages; pairs = under.pairs }

abbrev branch_found : (ℕ → List ℕ) → Bounds → ℕ → ℕ → List ℕ → Option (List ℕ) → List Child → Option Found
branch_found a bounds level page low high children = fan (walk a bounds level) low high children >>= λ under. Some (with_page page under)

first_page : (a : ℕ → List ℕ) (bounds : Bounds) (level page : ℕ) (low : List ℕ) (high : Option (List ℕ)) (found : Found) → walk a bounds level page low high ≡ Some found → (rest : List ℕ) × (found.pages ≡ page ∷ rest)
first_page a bounds zero page low high found e =
    let f = bind_some (leaf_of (place_in bounds 0 page) low high (a page)) (λ pairs. Some (record { pages = page ∷ []; pairs = pairs })) found e in
    ([], ap (λ (x : Found). x.pages) (sym (some_is _ found f.2)))
first_page a bounds (suc level) page low high found e =
    let f = bind_some (branch_of (place_in bounds (suc level) page) low high (a page)) (branch_found a bounds level page low high) found e in
    let g = bind_some (fan (walk a bounds level) low high f.0) (λ under. Some (with_page page under)) found f.2 in
    (g.0.pages, ap (λ (x : Found). x.pages) (sym (some_is (with_page page g.0) found g.2)))

-- a page that was reached before
pub reached_broken : (a : ℕ → List ℕ) (bounds : Bounds) (level page : ℕ) (low : List ℕ) (high : Option (List ℕ)) (old : LedgerState) → is_free old page ≡ false → IsBroken (walk a bounds level page low high) old
reached_broken a bounds level page low high old reached = record {
  each = λ found e.
      let p = first_page a bounds level page low high found e in
      subst (λ (ns : List ℕ). are_fresh old ns ≡ false) (sym p.1) (first_false (is_free old page) (are_fresh (holding page old) p.0) reached);
}

module _ (a : ℕ → List ℕ) (bounds : Bounds) (level page : ℕ) (low : List ℕ) (high : Option (List ℕ)) (old now : LedgerState) (free : is_free old page ≡ true) (held : now ≡ holding page old) where
  pub branch_walked : (children : List Child) (new : LedgerState) (count : ℕ) → branch_of (place_in bounds (suc level) page) low high (a page) ≡ Some children → IsWalked (fan (walk a bounds level) low high children) now new count
      → IsWalked (walk a bounds (suc level) page low high) old new count
  branch_walked children new count e w = record {
    found = with_page page w.found;
    is = rw (e, w.is) refl;
    fresh = both (is_free old page) (are_fresh (holding page old) w.found.pages) free (subst (λ (s : LedgerState). are_fresh s w.found.pages ≡ true) held w.fresh);
    held = w.held ∙ ap (λ (s : LedgerState). holding_all s w.found.pages) held;
    pairs = w.pairs;
    most = omega (arith, w.most);
  }

  pub branch_broken : (children : List Child) → branch_of (place_in bounds (suc level) page) low high (a page) ≡ Some children → IsBroken (fan (walk a bounds level) low high children) now → IsBroken (walk a bounds (suc level) page low high) old
  branch_broken children e b = record {
    each = λ found h.
        let k : branch_found a bounds level page low high children ≡ Some found = sym (rw e refl) ∙ h in
        let g = bind_some (fan (walk a bounds level) low high children) (λ under. Some (with_page page under)) found k in
        subst (λ (x : Found). are_fresh old x.pages ≡ false) (some_is (with_page page g.0) found g.2)
        (second_false (is_free old page) (are_fresh (holding page old) g.0.pages) (subst (λ (s : LedgerState). are_fresh s g.0.pages ≡ false) held (b.each g.0 g.1)));
  }

pub branch_none : (a : ℕ → List ℕ) (bounds : Bounds) (level page : ℕ) (low : List ℕ) (high : Option (List ℕ)) (old : LedgerState) → branch_of (place_in bounds (suc level) page) low high (a page) ≡ None → IsBroken (walk a bounds (suc level) page low high) old
branch_none a bounds level page low high old e = nothing_broken (walk a bounds (suc level) page low high) old (rw e refl)

-- a page that isn't a branch of its level
pub no_branch : (a : ℕ → List ℕ) (bounds : Bounds) (level page : ℕ) (low : List ℕ) (high : Option (List ℕ)) (old : LedgerState) → level ≢ 0 → branch_of (place_in bounds level page) low high (a page) ≡ None → IsBroken (walk a bounds level page low high) old
no_branch a bounds zero page low high old ne e = absurd (ne refl)
no_branch a bounds (suc level) page low high old ne e = branch_none a bounds level page low high old e

-- what is known of a branch's children is known of the branch
pub tells_branch : (r : Result ℕ PageFault) (a : ℕ → List ℕ) (bounds : Bounds) (level page : ℕ) (low : List ℕ) (high : Option (List ℕ)) (old now new : LedgerState) (children : List Child) → level ≢ 0 → is_free old page ≡ true → now ≡ holding page old
    → branch_of (place_in bounds level page) low high (a page) ≡ Some children → TellsWalk (fan (walk a bounds (level - 1)) low high children) now new r → TellsWalk (walk a bounds level page low high) old new r
tells_branch r a bounds zero page low high old now new children ne free held e h = absurd (ne refl)
tells_branch (Ok count) a bounds (suc level) page low high old now new children ne free held e h =
    let less : suc level - 1 ≡ level = omega arith in
    branch_walked a bounds level page low high old now free held children new count e (subst (λ (n : ℕ). IsWalked (fan (walk a bounds n) low high children) now new count) less h)
tells_branch (Err Device) a bounds (suc level) page low high old now new children ne free held e h = tt
tells_branch (Err (Damaged p)) a bounds (suc level) page low high old now new children ne free held e h =
    let less : suc level - 1 ≡ level = omega arith in
    branch_broken a bounds level page low high old now free held children e (subst (λ (n : ℕ). IsBroken (fan (walk a bounds n) low high children) now) less h)

-- the child that a step of a loop walks, by the bytes as they were at first
pub at_child : (P : Option Found → Type 0) (a b : ℕ → List ℕ) (bounds : Bounds) (level page : ℕ) (low low_is : List ℕ) (high high_is : Option (List ℕ)) → a ≡ b → low ≡ low_is → high ≡ high_is → P (walk a bounds level page low high)
    → P (walk b bounds level page low_is high_is)
at_child P a b bounds level page low low_is high high_is same is_low is_high h =
    subst (λ (x : ℕ → List ℕ). P (walk x bounds level page low_is high_is)) same
    (subst (λ (x : List ℕ). P (walk a bounds level page x high_is)) is_low
    (subst (λ (x : Option (List ℕ)). P (walk a bounds level page low x)) is_high h))
