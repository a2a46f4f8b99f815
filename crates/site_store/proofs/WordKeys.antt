-- The keys of a word, one after another, are those of the items that have it.
use Rattle.std.proofs.Common.{◌≡◌, ℕ, suc, Bool, true, false, cond, List, [], ◌∷◌, ◌++◌, length, drop, Option, Some, None, refl, ap, sym, ◌∙◌}
use Rattle.std.specs.Prelude.{IsTrue, nat_eq, is_some}
use Rattle.std.specs.List.{starts_with}
use Rattle.std.specs.Option.{option_map}
use Rattle.std.specs.FinMap.{is_sorted}
use Rattle.std.proofs.lemmas.Bool.{and_parts}
use Rattle.std.proofs.Props.{props}
use mathlib.Core.Logic.{∥∥₁_elim}
use Rattle.host_types.specs.Items.{is_selector}
use Rattle.host_types.specs.Site.{Site, byte_cmp, item_at}
use Rattle.host_types.specs.Words.{words_of, is_among}
use Rattle.host_types.specs.declared.item.Item.{Item}
use Rattle.site_records.specs.Keys.{word_key}
use Rattle.page_store.specs.StoreState.{StoreState}
use Rattle.site_records.specs.Layout.{LayoutPair, Pairs, layout, has_word, value_at}
use Rattle.site_records.specs.LayoutLaws.{is_sorted-layout}
use Rattle.site_records.proofs.ChunkLaws.{words_law}
use Rattle.site_store.specs.Represented.{RepresentedBy}
use Rattle.site_store.specs.Walking.{IsInvalid}
use Rattle.site_store.specs.WordWalks.{is_with, items_with, next_with, named_by}
use Rattle.site_store.proofs.FoundItems.{kept_sorted}
use Rattle.site_store.proofs.KeyFronts.{same_front, same_start, front_and_rest, start_front, past_front}
use Rattle.site_store.proofs.KeptEntries.{sorted_kept, kept_in, kept_there}
use Rattle.site_store.proofs.RisingKeys.{is_below, found, next_of, clash, is_next, none_next, nothing_next, this_next}

-- what all keys of a word begin with
abbrev front_of : List ℕ → List ℕ
front_of word = 87 ∷ length word ∷ word

same_order : (word q r : List ℕ) → is_below (word_key word q) (word_key word r) ≡ is_below q r
same_order word q r = same_front (front_of word) q r

-- ---- the selector that a key names

-- A key names a selector of the scope.
pub record IsNamed (scope word key r : List ℕ) : Type 0 where
  pub key_is : key ≡ word_key word r
  pub within : starts_with nat_eq r scope ≡ true

pub named : (scope word key r : List ℕ) → named_by scope word key ≡ Some r → IsNamed scope word key r
named scope word key r is =
    elim (starts_with nat_eq key (word_key word scope)) as (λ b. starts_with nat_eq key (word_key word scope) ≡ b → cond b (Some (drop (suc (suc (length word))) key)) None ≡ Some r → IsNamed scope word key r) [
      | true ↦ λ b some.
          let rest : drop (suc (suc (length word))) key ≡ r = cc some in
          let whole : key ≡ word_key word r = front_and_rest (front_of word) key (start_front (front_of word) scope key b) ∙ ap (λ (l : List ℕ). front_of word ++ l) rest in
          record {
            key_is = whole;
            within = sym (same_start (front_of word) r scope) ∙ ap (λ (k : List ℕ). starts_with nat_eq k (word_key word scope)) (sym whole) ∙ b;
          }
      | false ↦ λ b none. absurd (cc none)
    ] refl is

unnamed : (scope word key : List ℕ) → named_by scope word key ≡ None → starts_with nat_eq key (word_key word scope) ≡ false
unnamed scope word key is =
    elim (starts_with nat_eq key (word_key word scope)) as (λ b. cond b (Some (drop (suc (suc (length word))) key)) None ≡ None → b ≡ false) [
      | true ↦ λ some. absurd (cc some)
      | false ↦ λ none. refl
    ] is

-- ---- what stands at the keys

-- an item that has a word, from the value of their key
pub record HasIt (o : Option Item) (word value : List ℕ) : Type 0 where
  pub item : Item
  pub stands : o ≡ Some item
  pub has : is_among (words_of item) word ≡ true
  pub empty : value ≡ []

of_value : (o : Option Item) (word value : List ℕ) → cond (has_word o word) (Some []) None ≡ Some value → HasIt o word value
of_value None word value is = absurd (cc is)
of_value (Some item) word value is =
    elim (is_among (words_of item) word) as (λ b. is_among (words_of item) word ≡ b → cond b (Some []) None ≡ Some value → HasIt (Some item) word value) [
      | true ↦ λ b some. record { item = item; stands = refl; has = b; empty = cc some }
      | false ↦ λ b none. absurd (cc none)
    ] refl is

key_value : (s : Site) (scope word r : List ℕ) (item : Item) → IsTrue (is_sorted byte_cmp s.items) → found (items_with s scope word) r ≡ Some item → found (layout s) (word_key word r) ≡ Some []
key_value s scope word r item sorted stands =
    let there = kept_in (is_with scope word) s.items r item sorted stands in
    let parts = and_parts (starts_with nat_eq r scope) (is_among (words_of item) word) there.1 in
    words_law s word r sorted ∙ ap (λ (o : Option Item). cond (has_word o word) (Some []) None) there.0 ∙ ap (λ (b : Bool). cond b (Some []) None) parts.1

begins : (s : Site) (scope word r : List ℕ) (item : Item) → IsTrue (is_sorted byte_cmp s.items) → found (items_with s scope word) r ≡ Some item → starts_with nat_eq r scope ≡ true
begins s scope word r item sorted stands = (and_parts (starts_with nat_eq r scope) (is_among (words_of item) word) (kept_in (is_with scope word) s.items r item sorted stands).1).0

-- ---- the next key

none_after : (s : Site) (scope word q : List ℕ) → IsTrue (is_sorted byte_cmp s.items) → next_of (layout s) (word_key word q) ≡ None → next_of (items_with s scope word) q ≡ None
none_after s scope word q sorted none =
    nothing_next (items_with s scope word) q (sorted_kept (is_with scope word) s.items sorted) (λ r item stands. sym (same_order word q r) ∙ none_next (layout s) (word_key word q) (word_key word r) [] none (key_value s scope word r item sorted stands))

other_after : (s : Site) (scope word q : List ℕ) (p : LayoutPair) → IsTrue (is_sorted byte_cmp s.items) → starts_with nat_eq q scope ≡ true → next_of (layout s) (word_key word q) ≡ Some p → named_by scope word p.0 ≡ None → next_of (items_with s scope word) q ≡ None
other_after s scope word q p sorted within some other =
    let next = is_next (layout s) (word_key word q) p (is_sorted-layout s) some in
    nothing_next (items_with s scope word) q (sorted_kept (is_with scope word) s.items sorted) (λ r item stands.
    elim (is_below q r) as (λ b. is_below q r ≡ b → b ≡ false) [
      | true ↦ λ over.
          let above = next.least (word_key word r) [] (key_value s scope word r item sorted stands) (same_order word q r ∙ over) in
          let past : starts_with nat_eq (word_key word r) (word_key word scope) ≡ false = past_front (word_key word scope) (word_key word q) p.0 (word_key word r) (same_start (front_of word) q scope ∙ within) next.above (unnamed scope word p.0 other) above in
          absurd (clash (starts_with nat_eq r scope) (begins s scope word r item sorted stands) (sym (same_start (front_of word) r scope) ∙ past))
      | false ↦ λ _. refl
    ] refl)

-- An item stands at the selector that the next key names, and it is the next that has the word.
pub record IsNextWith (s : Site) (scope word q r : List ℕ) : Type 0 where
  pub item : Item
  pub stands : item_at s r ≡ Some item
  pub is_next : next_of (items_with s scope word) q ≡ Some (r, item)

this_after : (s : Site) (scope word q r : List ℕ) (p : LayoutPair) → IsTrue (is_sorted byte_cmp s.items) → next_of (layout s) (word_key word q) ≡ Some p → named_by scope word p.0 ≡ Some r → IsNextWith s scope word q r
this_after s scope word q r p sorted some is =
    let next = is_next (layout s) (word_key word q) p (is_sorted-layout s) some in
    let name = named scope word p.0 r is in
    let there = of_value (item_at s r) word p.1 (sym (words_law s word r sorted) ∙ ap (found (layout s)) (sym name.key_is) ∙ next.stands) in
    let passes : is_with scope word (r, there.item) ≡ true = rw (name.within, there.has) refl in
    let above : is_below q r ≡ true = sym (same_order word q r) ∙ ap (is_below (word_key word q)) (sym name.key_is) ∙ next.above in
    record {
      item = there.item;
      stands = there.stands;
      is_next = this_next (items_with s scope word) q r there.item (sorted_kept (is_with scope word) s.items sorted) above (kept_there (is_with scope word) s.items r there.item there.stands passes) (λ t x stands over.
          sym (same_order word t r) ∙ ap (is_below (word_key word t)) (sym name.key_is) ∙ next.least (word_key word t) [] (key_value s scope word t x sorted stands) (same_order word q t ∙ over));
    }

-- ---- the same of pairs that are kept

pub word_there : {A : Type 0} (f : A → List ℕ) (there : Option A) (h : StoreState) (s : Site) (word selector key : List ℕ) → RepresentedBy h s → key ≡ word_key word selector → option_map f there ≡ value_at h.pairs key → is_some there ≡ has_word (item_at s selector) word
word_there f there h s word selector key kept is value =
    same there (has_word (item_at s selector) word) (value ∙ ap (value_at h.pairs) is ∙ ap (λ (ps : Pairs). value_at ps (word_key word selector)) kept.all ∙ words_law s word selector (kept_sorted s kept.valid))
  where
    same : (a : Option _) (b : Bool) → option_map f a ≡ cond b (Some []) None → is_some a ≡ b
    same None true e = absurd (cc e)
    same None false e = refl
    same (Some x) true e = refl
    same (Some x) false e = absurd (cc e)

next_kept : (h : StoreState) (s : Site) (word q key : List ℕ) (o : Option LayoutPair) → RepresentedBy h s → key ≡ word_key word q → o ≡ next_of h.pairs key → next_of (layout s) (word_key word q) ≡ o
next_kept h s word q key o kept is e = ap (λ (ps : Pairs). next_of ps (word_key word q)) (sym kept.all) ∙ ap (next_of h.pairs) (sym is) ∙ sym e

pub walked_off : (h : StoreState) (s : Site) (scope word q key : List ℕ) → RepresentedBy h s → key ≡ word_key word q → None ≡ next_of h.pairs key → None ≡ next_with s scope word q
walked_off h s scope word q key kept is none = ap (option_map (λ e. e.0)) (sym (none_after s scope word q (kept_sorted s kept.valid) (next_kept h s word q key None kept is none)))

pub walked_on : (h : StoreState) (s : Site) (scope word q key : List ℕ) (p : LayoutPair) → RepresentedBy h s → starts_with nat_eq q scope ≡ true → key ≡ word_key word q → Some p ≡ next_of h.pairs key → named_by scope word p.0 ≡ next_with s scope word q
walked_on h s scope word q key p kept within is some =
    let sorted = kept_sorted s kept.valid in
    let next : next_of (layout s) (word_key word q) ≡ Some p = next_kept h s word q key (Some p) kept is some in
    elim (named_by scope word p.0) as (λ o. named_by scope word p.0 ≡ o → o ≡ next_with s scope word q) [
      | None ↦ λ e. ap (option_map (λ e. e.0)) (sym (other_after s scope word q p sorted within next e))
      | Some r ↦ λ e. ap (option_map (λ e. e.0)) (sym (this_after s scope word q r p sorted next e).is_next)
    ] refl

-- the name in a key is a selector's
pub walked_well : (h : StoreState) (s : Site) (scope word q key : List ℕ) (p : LayoutPair) → RepresentedBy h s → key ≡ word_key word q → Some p ≡ next_of h.pairs key → IsInvalid (named_by scope word p.0) → ⊥
walked_well h s scope word q key p kept is some bad =
    elim (named_by scope word p.0) as (λ o. named_by scope word p.0 ≡ o → IsInvalid o → ⊥) [
      | None ↦ λ e none. none
      | Some r ↦ λ e refused.
          let after = this_after s scope word q r p (kept_sorted s kept.valid) (next_kept h s word q key (Some p) kept is some) e in
          let prop : IsProp (IsTrue (is_selector r)) = hlevel props in
          clash (is_selector r) (∥∥₁_elim kept.valid prop (λ site. (site.each r after.item after.stands).name)) refused
    ] refl bad
