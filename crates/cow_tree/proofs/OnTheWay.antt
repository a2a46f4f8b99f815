-- Where the value of a key and the pair after it stand.
use Rattle.std.proofs.Common.{◌≡◌, ℕ, zero, suc, ◌-◌, ◌<◌, Bool, true, false, List, [], ◌∷◌, ◌++◌, map, drop, Option, Some, None, refl, sym, ap, subst, ◌∙◌, cond, arith}
use Rattle.std.specs.Prelude.{◌&&◌, nat_le, nat_lt, IfSome}
use Rattle.std.specs.Option.{option_or}
use Rattle.std.specs.Ordering.{is_eq, is_lt}
use Rattle.std.specs.List.{list_all}
use Rattle.std.specs.BTreeMap.{is_at}
use Rattle.std.proofs.lemmas.Bool.{ltb-true}
use Rattle.std.proofs.lemmas.List.{append-nil}
use Rattle.std.proofs.lemmas.List.Folds.{find-append}
use Rattle.common_types.specs.ByteOrder.{byte_cmp}
use Rattle.page_store.specs.Reading.{◌>>=◌, where_true}
use Rattle.page_store.specs.Keys.{precedes, rises, is_between}
use Rattle.page_store.specs.Pages.{Pair, Child, Place, child_key, child_at, entries_of, branch_of, are_branch, starts_empty, is_inside}
use Rattle.page_store.specs.Batch.{value_at, pair_after}
use Rattle.page_store.specs.Content.{Found, Bounds, place_in, joined, nothing_found, low_of, high_of, fan, walk}
use Rattle.page_store.proofs.Fields.{bind_some, test_passed}
use Rattle.tree_nodes.specs.Valid.{IsFilledLeaf}
use Rattle.tree_nodes.proofs.KeyOrder.{both_true, by_bool, less_is, greater_is, not_back, below_below, below_upto, between_parts}
use Rattle.tree_nodes.proofs.JoinedPairs.{AllKeys, keys_joined, keys_wider, follows}
use Rattle.tree_nodes.proofs.WalksWithinBounds.{some_is, children_is, walk_wider, walk_within, not_below_nothing}
use Rattle.cow_tree.specs.Ways.{pages_around, IsNext, IsOnWay}
use Rattle.cow_tree.specs.KeptLeaves.{IsPart}
use Rattle.cow_tree.proofs.FilledWalks.{walk_filled}
use Rattle.cow_tree.proofs.Runs.{part_again, front_part, back_part, under_part}

-- ---- look-ups in pairs that are joined

no_value_above : (key : List ℕ) (ys : List Pair) → AllKeys (precedes key) ys → value_at ys key ≡ None
no_value_above key [] h = refl
no_value_above key (y ∷ ys) h = ap (λ (b : Bool). cond b (Some y.1) (value_at ys key)) (ap is_eq (less_is key y.0 h.0)) ∙ no_value_above key ys h.1

value_left : (key : List ℕ) (xs ys : List Pair) → AllKeys (precedes key) ys → value_at (xs ++ ys) key ≡ value_at xs key
value_left key [] ys h = no_value_above key ys h
value_left key (x ∷ xs) ys h = ap (λ (o : Option (List ℕ)). cond (is_at (byte_cmp key) x.0) (Some x.1) o) (value_left key xs ys h)

value_right : (key : List ℕ) (xs ys : List Pair) → AllKeys (follows key) xs → value_at (xs ++ ys) key ≡ value_at ys key
value_right key [] ys h = refl
value_right key (x ∷ xs) ys h = ap (λ (b : Bool). cond b (Some x.1) (value_at (xs ++ ys) key)) (ap is_eq (greater_is x.0 key h.0)) ∙ value_right key xs ys h.1

pub after_right : (key : List ℕ) (xs ys : List Pair) → AllKeys (follows key) xs → pair_after (xs ++ ys) key ≡ pair_after ys key
after_right key [] ys h = refl
after_right key (x ∷ xs) ys h = ap (λ (b : Bool). cond b (Some x) (pair_after (xs ++ ys) key)) (not_back x.0 key h.0) ∙ after_right key xs ys h.1

pub after_both : (key : List ℕ) (xs ys : List Pair) → pair_after (xs ++ ys) key ≡ option_or (pair_after xs key) (pair_after ys key)
after_both key xs ys = find-append (λ e. is_lt (byte_cmp key e.0)) xs ys

or_none : (o : Option Pair) → o ≡ option_or o None
or_none None = refl
or_none (Some p) = refl

-- the first of pairs that are all above a key
first_above : (key : List ℕ) (xs : List Pair) → IsFilledLeaf xs → AllKeys (precedes key) xs → (p : Pair) × (pair_after xs key ≡ Some p)
first_above key [] f h = absurd f
first_above key (x ∷ xs) f h = (x, ap (λ (b : Bool). cond b (Some x) (pair_after xs key)) h.0)

abbrev some_pair : Pair → Option Pair
some_pair q = Some q

none_pair : (q : Pair) → None ≡ some_pair q → ⊥
none_pair q e = cc e

abbrev some_around : ℕ × Option ℕ → Option (ℕ × Option ℕ)
some_around x = Some x

around_is : (x y : ℕ × Option ℕ) → some_around x ≡ some_around y → x ≡ y
around_is x y e = cc

-- ---- the pairs under children

left_above : (p q : List ℕ → Bool) (xs ys : List Pair) → AllKeys p (xs ++ ys) → AllKeys p xs
left_above p q [] ys h = tt
left_above p q (x ∷ xs) ys h = (h.0, left_above p q xs ys h.1)

pub low_is : (low from key : List ℕ) → precedes from key ≡ true → low_of low key ≡ key
low_is low from [] h = let n = not_below_nothing from in absurd (cc (n, h))
low_is low from (b ∷ bs) h = refl

rises_lower : (from key : List ℕ) (keys : List (List ℕ)) → precedes from key ≡ true → rises (key ∷ keys) ≡ true → rises (from ∷ keys) ≡ true
rises_lower from key [] h r = refl
rises_lower from key (k ∷ ks) h r = let b = both_true (precedes key k) (rises (k ∷ ks)) r in rw (below_below from key k h b.0) b.1

-- the next pair of a part of a tree
next_in : (a : ℕ → List ℕ) (bounds : Bounds) (level : ℕ) (key : List ℕ) (sibling : Option ℕ) (part whole : Found) (rest : Option Pair) → IsPart part whole → IsNext a bounds level key sibling part rest → IsNext a bounds level key sibling whole rest
next_in a bounds level key None part whole rest p n = n
next_in a bounds level key (Some page) part whole rest p n = (n.0, n.1, part_again n.0 part whole n.2 p, n.3, n.4)

module _ (a : ℕ → List ℕ) (bounds : Bounds) (level : ℕ) where
  -- a key below the first child's is below all keys
  pub fan_above : (children : List Child) (key low : List ℕ) (high : Option (List ℕ)) (under : Found) → rises (key ∷ map child_key children) ≡ true → fan (walk a bounds level) low high children ≡ Some under → AllKeys (precedes key) under.pairs
  fan_above [] key low high under r e = subst (λ (x : Found). AllKeys (precedes key) x.pairs) (some_is nothing_found under e) tt
  fan_above (child ∷ children) key low high under r e =
      let b = both_true (precedes key child.key) (rises (child.key ∷ map child_key children)) r in
      let f = bind_some (walk a bounds level child.page (low_of low child.key) (high_of children high)) (λ here. fan (walk a bounds level) low high children >>= λ others. Some (joined here others)) under e in
      let g = bind_some (fan (walk a bounds level) low high children) (λ others. Some (joined f.0 others)) under f.2 in
      let within = walk_within a bounds level child.page (low_of low child.key) (high_of children high) f.0 f.1 in
      let lo = low_is low key child.key b.0 in
      subst (λ (x : Found). AllKeys (precedes key) x.pairs) (some_is (joined f.0 g.0) under g.2)
      (keys_joined (precedes key) f.0.pairs g.0.pairs
      (keys_wider (is_between (low_of low child.key) (high_of children high)) (precedes key) (λ k w. below_upto key child.key k b.0 (subst (λ (l : List ℕ). precedes k l ≡ false) lo (between_parts (low_of low child.key) (high_of children high) k w).0)) f.0.pairs within)
      (fan_above children key low high g.0 (rises_lower key child.key (map child_key children) b.0 b.1) g.1))

  unbound : (page : ℕ) (low : List ℕ) (high : Option (List ℕ)) (found : Found) → walk a bounds level page low high ≡ Some found → walk a bounds level page [] None ≡ Some found
  unbound page low high found e = walk_wider a bounds level page low [] high None found (not_below_nothing low) (λ key h. refl) e

  -- the sibling after the way
  next_is : (key low : List ℕ) (high : Option (List ℕ)) (next : Child) (children : List Child) (under : Found) → precedes key next.key ≡ true → rises (map child_key (next ∷ children)) ≡ true → fan (walk a bounds level) low high (next ∷ children) ≡ Some under
      → IsNext a bounds level key (Some next.page) under (pair_after under.pairs key)
  next_is key low high next children under less r e =
      let f = bind_some (walk a bounds level next.page (low_of low next.key) (high_of children high)) (λ here. fan (walk a bounds level) low high children >>= λ others. Some (joined here others)) under e in
      let g = bind_some (fan (walk a bounds level) low high children) (λ others. Some (joined f.0 others)) under f.2 in
      let pairs : f.0.pairs ++ g.0.pairs ≡ under.pairs = ap (λ (x : Found). x.pairs) (some_is (joined f.0 g.0) under g.2) in
      let above = fan_above (next ∷ children) key low high under (rw less r) e in
      let p = first_above key f.0.pairs (walk_filled a bounds level next.page (low_of low next.key) (high_of children high) f.0 f.1) (left_above (precedes key) (precedes key) f.0.pairs g.0.pairs (subst (λ (l : List Pair). AllKeys (precedes key) l) (sym pairs) above)) in
      let whole : pair_after under.pairs key ≡ Some p.0 = ap (λ (l : List Pair). pair_after l key) (sym pairs) ∙ after_both key f.0.pairs g.0.pairs ∙ ap (λ (o : Option Pair). option_or o (pair_after g.0.pairs key)) p.1 in
      (f.0, unbound next.page (low_of low next.key) (high_of children high) f.0 f.1, subst (λ (x : Found). IsPart f.0 x) (some_is (joined f.0 g.0) under g.2) (front_part f.0 g.0), p.1 ∙ sym whole, λ none. none_pair p.0 (sym none ∙ whole))

  pub way : (children : List Child) (key low : List ℕ) (high : Option (List ℕ)) (under : Found) (around : ℕ × Option ℕ) → rises (map child_key children) ≡ true → fan (walk a bounds level) low high children ≡ Some under → pages_around key children ≡ Some around
      → IsOnWay a bounds level key under around
  way [] key low high under around r e w = absurd (cc w)
  way (child ∷ []) key low high under around r e w =
      let f = bind_some (walk a bounds level child.page (low_of low child.key) high) (λ here. Some nothing_found >>= λ others. Some (joined here others)) under e in
      let pairs : f.0.pairs ++ [] ≡ under.pairs = ap (λ (x : Found). x.pairs) (some_is (joined f.0 nothing_found) under f.2) in
      let same : under.pairs ≡ f.0.pairs = sym pairs ∙ append-nil f.0.pairs in
      subst (λ (x : ℕ × Option ℕ). IsOnWay a bounds level key under x) (around_is (child.page, None) around w) (record {
        here = f.0;
        here_is = unbound child.page (low_of low child.key) high f.0 f.1;
        part = subst (λ (x : Found). IsPart f.0 x) (some_is (joined f.0 nothing_found) under f.2) (front_part f.0 nothing_found);
        value = ap (λ (l : List Pair). value_at l key) same;
        rest = None;
        after = ap (λ (l : List Pair). pair_after l key) same ∙ or_none (pair_after f.0.pairs key);
        next = refl;
      })
  way (child ∷ next ∷ children) key low high under around r e w =
      let b = both_true (precedes child.key next.key) (rises (next.key ∷ map child_key children)) r in
      let f = bind_some (walk a bounds level child.page (low_of low child.key) (Some next.key)) (λ here. fan (walk a bounds level) low high (next ∷ children) >>= λ others. Some (joined here others)) under e in
      let g = bind_some (fan (walk a bounds level) low high (next ∷ children)) (λ others. Some (joined f.0 others)) under f.2 in
      let pairs : f.0.pairs ++ g.0.pairs ≡ under.pairs = ap (λ (x : Found). x.pairs) (some_is (joined f.0 g.0) under g.2) in
      let later = subst (λ (x : Found). IsPart g.0 x) (some_is (joined f.0 g.0) under g.2) (back_part f.0 g.0) in
      by_bool (precedes key next.key)
      (λ less.
      let above = fan_above (next ∷ children) key low high g.0 (rw less b.1) g.1 in
      let w1 : Some (child.page, Some next.page) ≡ Some around = rw less at w in
      subst (λ (x : ℕ × Option ℕ). IsOnWay a bounds level key under x) (around_is (child.page, Some next.page) around w1) (record {
        here = f.0;
        here_is = unbound child.page (low_of low child.key) (Some next.key) f.0 f.1;
        part = subst (λ (x : Found). IsPart f.0 x) (some_is (joined f.0 g.0) under g.2) (front_part f.0 g.0);
        value = ap (λ (l : List Pair). value_at l key) (sym pairs) ∙ value_left key f.0.pairs g.0.pairs above;
        rest = pair_after g.0.pairs key;
        after = ap (λ (l : List Pair). pair_after l key) (sym pairs) ∙ after_both key f.0.pairs g.0.pairs;
        next = next_in a bounds level key (Some next.page) g.0 under (pair_after g.0.pairs key) later (next_is key low high next children g.0 less b.1 g.1);
      }))
      (λ most.
      let w1 : pages_around key (next ∷ children) ≡ Some around = rw most at w in
      let within = walk_within a bounds level child.page (low_of low child.key) (Some next.key) f.0 f.1 in
      let below = keys_wider (is_between (low_of low child.key) (Some next.key)) (follows key) (λ k h. below_upto k next.key key (between_parts (low_of low child.key) (Some next.key) k h).1 most) f.0.pairs within in
      let more = way (next ∷ children) key low high g.0 around b.1 g.1 w1 in
      record {
        here = more.here;
        here_is = more.here_is;
        part = part_again more.here g.0 under more.part later;
        value = ap (λ (l : List Pair). value_at l key) (sym pairs) ∙ value_right key f.0.pairs g.0.pairs below ∙ more.value;
        rest = more.rest;
        after = ap (λ (l : List Pair). pair_after l key) (sym pairs) ∙ after_right key f.0.pairs g.0.pairs below ∙ more.after;
        next = next_in a bounds level key around.1 g.0 under more.rest later more.next;
      })

-- ---- a branch

pub branch_keys : (place : Place) (low : List ℕ) (high : Option (List ℕ)) (bytes : List ℕ) (children : List Child) → branch_of place low high bytes ≡ Some children → (starts_empty (map child_key children) ≡ true) × (rises (map child_key children) ≡ true)
unfolding branch_of
branch_keys place low high bytes children e =
    let f = bind_some (entries_of child_at place bytes) (λ cs. where_true (are_branch place.pages low high cs) (Some cs)) children e in
    let t = test_passed (are_branch place.pages low high f.0) (Some f.0) children f.2 in
    let x = both_true (starts_empty (map child_key f.0)) (rises (map child_key f.0) && (list_all (is_between low high) (drop 1 (map child_key f.0)) && list_all (is_inside place.pages) f.0)) t.0 in
    let y = both_true (rises (map child_key f.0)) (list_all (is_between low high) (drop 1 (map child_key f.0)) && list_all (is_inside place.pages) f.0) x.1 in
    subst (λ (cs : List Child). (starts_empty (map child_key cs) ≡ true) × (rises (map child_key cs) ≡ true)) (children_is f.0 children t.1) (x.0, y.0)

-- the children of a branch where a walk found something
branch_under : (a : ℕ → List ℕ) (bounds : Bounds) (level page : ℕ) (found : Found) → walk a bounds (suc level) page [] None ≡ Some found
    → (children : List Child) × (under : Found) × (branch_of (place_in bounds (suc level) page) [] None (a page) ≡ Some children) × (fan (walk a bounds level) [] None children ≡ Some under) × (record { pages = page ∷ under.pages; pairs = under.pairs } ≡ found)
branch_under a bounds level page found e =
    let f = bind_some (branch_of (place_in bounds (suc level) page) [] None (a page)) (λ children. fan (walk a bounds level) [] None children >>= λ under. Some (record { pages = page ∷ under.pages; pairs = under.pairs })) found e in
    let g = bind_some (fan (walk a bounds level) [] None f.0) (λ under. Some (record { pages = page ∷ under.pages; pairs = under.pairs })) found f.2 in
    (f.0, g.0, f.1, g.1, some_is _ found g.2)

abbrev some_children : List Child → Option (List Child)
some_children cs = Some cs

same_children : (r : Option (List Child)) (xs ys : List Child) → r ≡ some_children xs → r ≡ some_children ys → xs ≡ ys
same_children r xs ys e h = children_is xs ys (sym e ∙ h)

-- what stands under a page is on the way to what stands at and under it
at_page : (a : ℕ → List ℕ) (bounds : Bounds) (level page : ℕ) (key : List ℕ) (under : Found) (around : ℕ × Option ℕ) → IsOnWay a bounds level key under around → IsOnWay a bounds level key (record { pages = page ∷ under.pages; pairs = under.pairs }) around
at_page a bounds level page key under around w =
    let part = under_part page under in
    record {
      here = w.here;
      here_is = w.here_is;
      part = part_again w.here under (record { pages = page ∷ under.pages; pairs = under.pairs }) w.part part;
      value = w.value;
      rest = w.rest;
      after = w.after;
      next = next_in a bounds level key around.1 under (record { pages = page ∷ under.pages; pairs = under.pairs }) w.rest part w.next;
    }

pub branch_way : (a : ℕ → List ℕ) (bounds : Bounds) (level page : ℕ) (key : List ℕ) (children : List Child) (found : Found) (around : ℕ × Option ℕ) → 0 < level → branch_of (place_in bounds level page) [] None (a page) ≡ Some children
    → walk a bounds level page [] None ≡ Some found → pages_around key children ≡ Some around → IsOnWay a bounds (level - 1) key found around
branch_way a bounds zero page key children found around some e w p = absurd (omega (arith, some))
branch_way a bounds (suc level) page key children found around some e w p =
    let u = branch_under a bounds level page found w in
    let same : u.0 ≡ children = same_children (branch_of (place_in bounds (suc level) page) [] None (a page)) u.0 children u.2 e in
    let less : level ≡ suc level - 1 = omega arith in
    subst (λ (n : ℕ). IsOnWay a bounds n key found around) less
    (subst (λ (x : Found). IsOnWay a bounds level key x around) u.4
    (at_page a bounds level page key u.1 around
    (way a bounds level u.0 key [] None u.1 around (branch_keys (place_in bounds (suc level) page) [] None (a page) u.0 u.2).1 u.3 (ap (pages_around key) same ∙ p))))

-- where a walk found something there is a branch
pub no_branch_there : (a : ℕ → List ℕ) (bounds : Bounds) (level page : ℕ) (found : Found) → 0 < level → branch_of (place_in bounds level page) [] None (a page) ≡ None → walk a bounds level page [] None ≡ Some found → ⊥
no_branch_there a bounds zero page found some e w = absurd (omega (arith, some))
no_branch_there a bounds (suc level) page found some e w = let u = branch_under a bounds level page found w in none_children u.0 (sym e ∙ u.2)
  where
    none_children : (cs : List Child) → None ≡ some_children cs → ⊥
    none_children cs e = cc e

none_around : (x : ℕ × Option ℕ) → None ≡ some_around x → ⊥
none_around x e = cc e

always_around : (key : List ℕ) (child : Child) (children : List Child) → (x : ℕ × Option ℕ) × (pages_around key (child ∷ children) ≡ some_around x)
always_around key child [] = ((child.page, None), refl)
always_around key child (next ∷ children) =
    by_bool (precedes key next.key) (λ less. ((child.page, Some next.page), rw less refl)) (λ most. let more = always_around key next children in (more.0, rw most more.1))

pub no_page : (key : List ℕ) (children : List Child) → starts_empty (map child_key children) ≡ true → None ≡ pages_around key children → ⊥
no_page key [] s e = cc s
no_page key (child ∷ children) s e = let x = always_around key child children in none_around x.0 (e ∙ x.1)

-- a branch has a page for each key
pub page_there : (place : Place) (low : List ℕ) (high : Option (List ℕ)) (bytes key : List ℕ) (children : List Child) → branch_of place low high bytes ≡ Some children → None ≡ pages_around key children → ⊥
page_there place low high bytes key children e n = no_page key children (branch_keys place low high bytes children e).0 n

below : (pages : ℕ) (child : Child) → is_inside pages child ≡ true → child.page < pages
below pages child h = ltb-true child.page pages (both_true (nat_le 2 child.page) (nat_lt child.page pages) h).1

-- the pages around a key are pages of the image
pub around_inside : (pages : ℕ) (key : List ℕ) (children : List Child) (around : ℕ × Option ℕ) → list_all (is_inside pages) children ≡ true → Some around ≡ pages_around key children → (around.0 < pages) × IfSome around.1 (λ page. page < pages)
around_inside pages key [] around inside e = absurd (cc e)
around_inside pages key (child ∷ []) around inside e =
    let b = both_true (is_inside pages child) true inside in
    subst (λ (x : ℕ × Option ℕ). (x.0 < pages) × IfSome x.1 (λ page. page < pages)) (sym (around_is around (child.page, None) e)) (below pages child b.0, tt)
around_inside pages key (child ∷ next ∷ children) around inside e =
    let b = both_true (is_inside pages child) (list_all (is_inside pages) (next ∷ children)) inside in
    let n = both_true (is_inside pages next) (list_all (is_inside pages) children) b.1 in
    by_bool (precedes key next.key)
    (λ less.
    let w : Some around ≡ Some (child.page, Some next.page) = rw less at e in
    subst (λ (x : ℕ × Option ℕ). (x.0 < pages) × IfSome x.1 (λ page. page < pages)) (sym (around_is around (child.page, Some next.page) w)) (below pages child b.0, below pages next n.0))
    (λ most. let w : Some around ≡ pages_around key (next ∷ children) = rw most at e in around_inside pages key (next ∷ children) around b.1 w)
