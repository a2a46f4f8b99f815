-- Where the entries of pages are found, and what is kept of that.
use Rattle.std.proofs.Common.{◌≡◌, ◌≢◌, ℕ, zero, suc, ◌+◌, ◌≤◌, ◌<◌, ◌⊎◌, inl, inr, true, false, List, [], ◌∷◌, length, drop, Option, Some, None, refl, sym, ap, subst, ◌∙◌, arith, length-drop, length-set, get_or-set_same, get_or-set_other, eqb-true, eq-eqb, slice_index_or, slice_set}
use Rattle.std.specs.Prelude.{slice_get, option_map, nat_eq, nat_lt, map, IfSome}
use Rattle.page_store.specs.Pages.{Pair, Child, key_of, child_key, pair_at, child_at}
use Rattle.tree_nodes.specs.PageViews.{in_row, then_more, pairs_in, children_in, entries_by_head}
use Rattle.tree_nodes.proofs.KeyOrder.{by_bool}
use Rattle.std.proofs.lemmas.Bool.{ltb-true, ltb-false}
use Rattle.cow_tree.proofs.LeafPlaces.{out_of_page as pairs_out}
use Rattle.cow_tree.proofs.ChildPlaces.{out_of_page as children_out}
use Rattle.cow_tree.specs.KeptPlaces.{entry_from, key_from, AreFoundAt, AreFoundSoFar, ArePlaces, HasSoManyEntries, IsKeptOf, AreKeptOf}
use Rattle.cow_tree.specs.declared.kept_places.PagePlaces.{PagePlaces}

-- ---- bytes

no_pair : (bytes : List ℕ) → length bytes ≡ 0 → pair_at bytes ≡ None
unfolding pair_at
no_pair [] none = refl
no_pair (b ∷ bs) none = absurd (omega (arith, none))

no_child : (bytes : List ℕ) → length bytes ≡ 0 → child_at bytes ≡ None
unfolding child_at
no_child [] none = refl
no_child (b ∷ bs) none = absurd (omega (arith, none))

pub no_pair_past : (bytes : List ℕ) (at : ℕ) → (length bytes < at) ⊎ (length bytes < length bytes) → entry_from pair_at bytes at ≡ None
no_pair_past bytes at (inl behind) = ap (option_map (λ e. e.0)) (no_pair (drop at bytes) (omega (arith, behind, length-drop at bytes)))
no_pair_past bytes at (inr never) = absurd (omega (arith, never))

pub no_child_past : (bytes : List ℕ) (at : ℕ) → (length bytes < at) ⊎ (length bytes < length bytes) → entry_from child_at bytes at ≡ None
no_child_past bytes at (inl behind) = ap (option_map (λ e. e.0)) (no_child (drop at bytes) (omega (arith, behind, length-drop at bytes)))
no_child_past bytes at (inr never) = absurd (omega (arith, never))

pub no_key_past : (level : ℕ) (bytes : List ℕ) (at : ℕ) → (length bytes < at) ⊎ (length bytes < length bytes) → key_from level bytes at ≡ None
no_key_past zero bytes at past = ap (option_map key_of) (no_pair_past bytes at past)
no_key_past (suc level) bytes at past = ap (option_map child_key) (no_child_past bytes at past)

-- the first of some entries is the one at their place
pub row_first : {E : Type 0} (entry_at : List ℕ → Option (E × List ℕ)) (n : ℕ) (bytes : List ℕ) (e : E) (es : List E) → in_row entry_at n bytes ≡ e ∷ es → option_map (λ x. x.0) (entry_at bytes) ≡ Some e
row_first entry_at zero bytes e es is = absurd (cc is)
row_first {E = E} entry_at (suc n) bytes e es is = go (entry_at bytes) is
  where
    go : (r : Option (E × List ℕ)) → then_more (in_row entry_at n) r ≡ e ∷ es → option_map (λ x. x.0) r ≡ Some e
    go None is = absurd (cc is)
    go (Some x) is = ap first is
      where
        first : List E → Option E
        first [] = None
        first (y ∷ ys) = Some y

-- a place of which entries are read lies within the page
no_more : {E : Type 0} (e : E) (es : List E) → [] ≡ e ∷ es → ⊥
no_more e es is = cc is

pub pair_inside : (bytes : List ℕ) (at left : ℕ) (p : Pair) (ps : List Pair) → pairs_in left (drop at bytes) ≡ p ∷ ps → at ≤ length bytes
pair_inside bytes at left p ps is =
    by_bool (nat_lt (length bytes) at) (λ past. absurd (no_more p ps (sym (pairs_out bytes at left (inl (ltb-true (length bytes) at past))) ∙ is))) (λ no. let h = ltb-false (length bytes) at no in omega (arith, h))

pub child_inside : (bytes : List ℕ) (at left : ℕ) (c : Child) (cs : List Child) → children_in left (drop at bytes) ≡ c ∷ cs → at ≤ length bytes
child_inside bytes at left c cs is =
    by_bool (nat_lt (length bytes) at) (λ past. absurd (no_more c cs (sym (children_out bytes at left (inl (ltb-true (length bytes) at past))) ∙ is))) (λ no. let h = ltb-false (length bytes) at no in omega (arith, h))

-- ---- placing entries one after another

at_drop : {E : Type 0} (all : List E) (n : ℕ) (e : E) (es : List E) → e ∷ es ≡ drop n all → (slice_get all n ≡ Some e) × (es ≡ drop (suc n) all) × (n < length all)
at_drop [] zero e es is = absurd (cc is)
at_drop [] (suc n) e es is = absurd (cc is)
at_drop {E = E} (x ∷ xs) zero e es is = (ap first (sym is), ap rest is, omega arith)
  where
    first : List E → Option E
    first [] = None
    first (y ∷ ys) = Some y

    rest : List E → List E
    rest [] = []
    rest (y ∷ ys) = ys
at_drop (x ∷ xs) (suc n) e es is = let h = at_drop xs n e es is in (h.0, h.1, omega (arith, h.2))

module _ {E : Type 0} (found_at : ℕ → Option E) (all : List E) where
  pub placed_none : (at : List ℕ) → AreFoundSoFar found_at all all 0 at
  placed_none at = record { few = omega arith; inside = omega arith; each = λ i less. absurd (omega (arith, less)); rest = refl }

  pub placed_more : (left : List E) (placed : ℕ) (at : List ℕ) (e : E) (es : List E) (here : ℕ) → placed < length at → AreFoundSoFar found_at all left placed at → left ≡ e ∷ es → found_at here ≡ Some e → AreFoundSoFar found_at all es (placed + 1) (slice_set at placed here)
  placed_more left placed at e es here room so is found =
      let d = at_drop all placed e es (sym is ∙ so.rest) in
      let more : placed + 1 ≡ suc placed = omega arith in
      record {
        few = omega (arith, room, length-set at placed here);
        inside = omega (arith, d.2);
        each = λ i less.
            by_bool (nat_eq i placed)
            (λ same.
            let i_is = eqb-true i placed same in
            subst (λ (j : ℕ). found_at (slice_index_or (slice_set at placed here) j 0) ≡ slice_get all j) (sym i_is)
            (ap found_at (get_or-set_same at placed here 0 room) ∙ found ∙ sym d.0))
            (λ other.
            let ne : i ≢ placed = λ e. let t = eq-eqb i placed e in absurd (cc (t, other)) in
            ap found_at (get_or-set_other at placed i here 0 ne) ∙ so.each i (omega (arith, less, ne)));
        rest = subst (λ (n : ℕ). es ≡ drop n all) (sym more) d.1;
      }

  pub placed_all : (left : List E) (placed : ℕ) (at : List ℕ) → AreFoundSoFar found_at all left placed at → left ≡ [] → AreFoundAt found_at all placed at
  placed_all left placed at so none =
      let size : length (drop placed all) ≡ 0 = ap length (sym so.rest ∙ none) in
      let inside = so.inside in
      record { many = omega (arith, size, length-drop placed all, inside); few = so.few; each = so.each }

-- ---- the keys of entries

map_get : {E : Type 0} (f : E → List ℕ) (all : List E) (i : ℕ) → option_map f (slice_get all i) ≡ slice_get (map f all) i
map_get f [] i = refl
map_get f (x ∷ xs) zero = refl
map_get f (x ∷ xs) (suc i) = map_get f xs i

map_long : {E : Type 0} (f : E → List ℕ) (all : List E) → length (map f all) ≡ length all
map_long f [] = refl
map_long f (x ∷ xs) = let h = map_long f xs in omega (arith, h)

pub keys_found : {E : Type 0} (found_at : ℕ → Option E) (f : E → List ℕ) (all : List E) (count : ℕ) (at : List ℕ) → AreFoundAt found_at all count at → AreFoundAt (λ p. option_map f (found_at p)) (map f all) count at
keys_found found_at f all count at are = record {
  many = map_long f all ∙ are.many;
  few = are.few;
  each = λ i less. ap (option_map f) (are.each i less) ∙ map_get f all i;
}

-- ---- what is kept of pages

module _ (view : ℕ → List ℕ) where
  pub kept_more : (pages : List PagePlaces) (k : ℕ) (kept : PagePlaces) → k < length pages → AreKeptOf view pages → IsKeptOf view kept → AreKeptOf view (slice_set pages k kept)
  kept_more pages k kept room are is n other less =
      by_bool (nat_eq n k)
      (λ same.
      let n_is = eqb-true n k same in
      subst (λ (x : PagePlaces). IsKeptOf view x) (sym (ap (λ j. slice_index_or (slice_set pages k kept) j other) n_is ∙ get_or-set_same pages k kept other room)) is)
      (λ else.
      let ne : n ≢ k = λ e. let t = eq-eqb n k e in absurd (cc (t, else)) in
      subst (λ (x : PagePlaces). IsKeptOf view x) (sym (get_or-set_other pages k n kept other ne)) (are n other (omega (arith, less, length-set pages k kept))))

  -- where nothing is kept
  pub nothing_kept : (pages : List PagePlaces) → ((n : ℕ) (other : PagePlaces) → n < length pages → (slice_index_or pages n other).count ≡ 0) → AreKeptOf view pages
  nothing_kept pages none n other less some = let zero_is = none n other less in absurd (omega (arith, some, zero_is))

-- ---- the places of a page

pub if_some_then : (r : Option ℕ) (P Q : ℕ → Type 0) → ((n : ℕ) → P n → Q n) → IfSome r P → IfSome r Q
if_some_then None P Q f h = tt
if_some_then (Some n) P Q f h = f n h

pub leaf_placed : (level : ℕ) (bytes : List ℕ) (count n : ℕ) (at : List ℕ) → level ≡ 0 → AreFoundAt (entry_from pair_at bytes) (pairs_in count (drop 24 bytes)) n at → HasSoManyEntries level bytes count → ArePlaces level bytes n at
leaf_placed zero bytes count n at is are has = record {
  pairs = λ leaf. subst (λ (l : List Pair). AreFoundAt (entry_from pair_at bytes) l n at) has are;
  children = λ some. absurd (omega (arith, some));
}
leaf_placed (suc level) bytes count n at is are has = absurd (omega (arith, is))

pub branch_placed : (level : ℕ) (bytes : List ℕ) (count n : ℕ) (at : List ℕ) → 0 < level → AreFoundAt (entry_from child_at bytes) (children_in count (drop 24 bytes)) n at → HasSoManyEntries level bytes count → ArePlaces level bytes n at
branch_placed zero bytes count n at some are has = absurd (omega (arith, some))
branch_placed (suc level) bytes count n at some are has = record {
  pairs = λ leaf. absurd (omega (arith, leaf));
  children = λ positive. subst (λ (l : List Child). AreFoundAt (entry_from child_at bytes) l n at) has are;
}

pub has_children : (level : ℕ) (bytes : List ℕ) (count : ℕ) → 0 < level → children_in count (drop 24 bytes) ≡ entries_by_head child_at bytes → HasSoManyEntries level bytes count
has_children zero bytes count some has = absurd (omega (arith, some))
has_children (suc level) bytes count some has = has
