-- The items of a site that is kept, one after another.
use Rattle.std.proofs.Common.{◌≡◌, ℕ, Bool, true, false, List, [], ◌∷◌, cond, Option, Some, None, Result, Ok, Err, refl, ap, sym, subst, ◌∙◌}
use Rattle.std.specs.Prelude.{IsTrue, ◌==◌, nat_lt, nat_le, length, IfErr}
use Rattle.std.specs.Option.{option_map}
use Rattle.std.specs.Ordering.{is_lt, ordering_then}
use Rattle.std.specs.declared.cmp.Ordering.TheVariants.{Less, Equal, Greater}
use Rattle.std.specs.FinMap.{is_sorted}
use Rattle.std.proofs.lemmas.Bool.{eqb-true, and_parts, leb-true, le-ltb}
use Rattle.std.proofs.Props.{props}
use mathlib.Core.Logic.{∥∥₁_elim}
use Rattle.host_types.specs.Items.{is_selector}
use Rattle.host_types.specs.Card.{card_of}
use Rattle.host_types.specs.declared.card.Card.{Card}
use Rattle.host_types.specs.Names.{name_of, is_field}
use Rattle.common_types.specs.declared.refused.Refused.{Refused}
use Rattle.host_types.specs.Site.{Site, IsSite, IsMenuIn, byte_cmp, item_at, item_after}
use Rattle.host_types.specs.declared.item.Item.{Item}
use Rattle.page_store.specs.StoreState.{StoreState}
use Rattle.site_records.specs.Keys.{item_key}
use Rattle.site_records.specs.Records.{item_bytes}
use Rattle.site_records.specs.Layout.{LayoutPair, Pairs, layout}
use Rattle.site_records.specs.LayoutLaws.{record_in-layout, is_sorted-layout}
use Rattle.site_store.specs.Represented.{RepresentedBy}
use Rattle.site_store.specs.StoreReads.{NoneFailed, IsSiteReadFault, IsQuickFault}
use Rattle.site_store.specs.Walking.{Entry, first_of, recorded_by, IsInvalid, selector_after, card_after}
use Rattle.site_store.specs.declared.fault.SiteOpenFault.{SiteOpenFault}
use Rattle.site_store.specs.declared.fault.SiteOpenFault.TheVariants.{BadRecord, Keeper, Memory}
use Rattle.site_store.proofs.FoundItems.{kept_sorted}
use Rattle.site_store.proofs.RisingKeys.{is_below, found, next_of, clash, is_next, none_next, nothing_next, this_next, first_entry}

-- ---- records among the pairs

of_value : (o : Option Item) (v : List ℕ) → option_map item_bytes o ≡ Some v → (item : Item) × (o ≡ Some item)
of_value None v e = absurd (cc e)
of_value (Some item) v e = (item, refl)

-- a key that is above that of a record and is of no record, is above those of all
other_above : (t : ℕ) (rest q r : List ℕ) → (t == 73) ≡ false → is_below (73 ∷ q) (t ∷ rest) ≡ true → is_below (73 ∷ r) (t ∷ rest) ≡ true
other_above t rest q r other h = by (nat_lt 73 t) (73 == t) h (λ e. clash (t == 73) (ap (λ (n : ℕ). n == 73) (sym (eqb-true 73 t e))) other)
  where
    by : (b c : Bool) → is_lt (ordering_then (cond b Less (cond c Equal Greater)) (byte_cmp q rest)) ≡ true → (c ≡ true → ⊥) → is_lt (ordering_then (cond b Less (cond c Equal Greater)) (byte_cmp r rest)) ≡ true
    by true c over differs = refl
    by false true over differs = absurd (differs refl)
    by false false over differs = absurd (cc over)

unrecorded : (key q r : List ℕ) → recorded_by key ≡ None → is_below (item_key q) key ≡ true → is_below (item_key r) key ≡ true
unrecorded [] q r none h = absurd (cc h)
unrecorded (t ∷ rest) q r none h =
    elim (t == 73) as (λ b. (t == 73) ≡ b → cond b (Some rest) None ≡ None → is_below (item_key r) (t ∷ rest) ≡ true) [
      | true ↦ λ e some. absurd (cc some)
      | false ↦ λ e _. other_above t rest q r e h
    ] refl none

-- the key of a record
recorded_key : (key r : List ℕ) → recorded_by key ≡ Some r → key ≡ item_key r
recorded_key [] r some = absurd (cc some)
recorded_key (t ∷ rest) r some =
    elim (t == 73) as (λ b. (t == 73) ≡ b → cond b (Some rest) None ≡ Some r → t ∷ rest ≡ item_key r) [
      | true ↦ λ e same. let behind : rest ≡ r = cc same in λ i. eqb-true t 73 e i ∷ behind i
      | false ↦ λ e none. absurd (cc none)
    ] refl some

-- ---- the item that stands next

record_value : (s : Site) (r : List ℕ) (item : Item) → IsTrue (is_sorted byte_cmp s.items) → item_at s r ≡ Some item → found (layout s) (item_key r) ≡ Some (item_bytes item)
record_value s r item sorted stands = record_in-layout s r sorted ∙ ap (option_map item_bytes) stands

none_after : (s : Site) (q : List ℕ) → IsTrue (is_sorted byte_cmp s.items) → next_of (layout s) (item_key q) ≡ None → item_after s q ≡ None
none_after s q sorted none = nothing_next s.items q sorted (λ r item stands. none_next (layout s) (item_key q) (item_key r) (item_bytes item) none (record_value s r item sorted stands))

other_after : (s : Site) (q : List ℕ) (p : LayoutPair) → IsTrue (is_sorted byte_cmp s.items) → next_of (layout s) (item_key q) ≡ Some p → recorded_by p.0 ≡ None → item_after s q ≡ None
other_after s q p sorted some other =
    let next = is_next (layout s) (item_key q) p (is_sorted-layout s) some in
    nothing_next s.items q sorted (λ r item stands.
    elim (is_below q r) as (λ b. is_below q r ≡ b → b ≡ false) [
      | true ↦ λ over. absurd (clash (is_below (item_key r) p.0) (unrecorded p.0 q r other next.above) (next.least (item_key r) (item_bytes item) (record_value s r item sorted stands) over))
      | false ↦ λ _. refl
    ] refl)

-- An item stands at a selector, and is the first above another.
pub record IsAfter (s : Site) (q r : List ℕ) : Type 0 where
  pub item : Item
  pub stands : item_at s r ≡ Some item
  pub is_next : item_after s q ≡ Some (r, item)

this_after : (s : Site) (q r : List ℕ) (p : LayoutPair) → IsTrue (is_sorted byte_cmp s.items) → next_of (layout s) (item_key q) ≡ Some p → recorded_by p.0 ≡ Some r → IsAfter s q r
this_after s q r p sorted some record_is =
    let next = is_next (layout s) (item_key q) p (is_sorted-layout s) some in
    let key : p.0 ≡ item_key r = recorded_key p.0 r record_is in
    let value : option_map item_bytes (item_at s r) ≡ Some p.1 = sym (record_in-layout s r sorted) ∙ ap (found (layout s)) (sym key) ∙ next.stands in
    let there = of_value (item_at s r) p.1 value in
    let above : is_below q r ≡ true = ap (is_below (item_key q)) (sym key) ∙ next.above in
    record {
      item = there.0;
      stands = there.1;
      is_next = this_next s.items q r there.0 sorted above there.1 (λ t x stands over. ap (is_below (item_key t)) (sym key) ∙ next.least (item_key t) (item_bytes x) (record_value s t x sorted stands) over);
    }

-- ---- the same of pairs that are kept

next_kept : (h : StoreState) (s : Site) (q key : List ℕ) (o : Option LayoutPair) → RepresentedBy h s → key ≡ item_key q → o ≡ next_of h.pairs key → next_of (layout s) (item_key q) ≡ o
next_kept h s q key o kept is e = ap (λ (ps : Pairs). next_of ps (item_key q)) (sym kept.all) ∙ ap (next_of h.pairs) (sym is) ∙ sym e

pub walked_off : (h : StoreState) (s : Site) (q key : List ℕ) → RepresentedBy h s → key ≡ item_key q → None ≡ next_of h.pairs key → None ≡ selector_after s q
walked_off h s q key kept is none = ap (option_map (λ e. e.0)) (sym (none_after s q (kept_sorted s kept.valid) (next_kept h s q key None kept is none)))

pub walked_on : (h : StoreState) (s : Site) (q key : List ℕ) (p : LayoutPair) → RepresentedBy h s → key ≡ item_key q → Some p ≡ next_of h.pairs key → recorded_by p.0 ≡ selector_after s q
walked_on h s q key p kept is some =
    let sorted = kept_sorted s kept.valid in
    let next : next_of (layout s) (item_key q) ≡ Some p = next_kept h s q key (Some p) kept is some in
    elim (recorded_by p.0) as (λ o. recorded_by p.0 ≡ o → o ≡ selector_after s q) [
      | None ↦ λ e. ap (option_map (λ e. e.0)) (sym (other_after s q p sorted next e))
      | Some r ↦ λ e. ap (option_map (λ e. e.0)) (sym (this_after s q r p sorted next e).is_next)
    ] refl

-- the name of a record's key is a selector's
pub walked_well : (h : StoreState) (s : Site) (q key : List ℕ) (p : LayoutPair) → RepresentedBy h s → key ≡ item_key q → Some p ≡ next_of h.pairs key → IsInvalid (recorded_by p.0) → ⊥
walked_well h s q key p kept is some bad =
    elim (recorded_by p.0) as (λ o. recorded_by p.0 ≡ o → IsInvalid o → ⊥) [
      | None ↦ λ e none. none
      | Some r ↦ λ e refused.
          let after = this_after s q r p (kept_sorted s kept.valid) (next_kept h s q key (Some p) kept is some) e in
          let prop : IsProp (IsTrue (is_selector r)) = hlevel props in
          clash (is_selector r) (∥∥₁_elim kept.valid prop (λ site. (site.each r after.item after.stands).name)) refused
    ] refl bad

-- names that are refused are no selectors
pub refused_name : (name : List ℕ) (e : Refused) → Err e ≡ name_of is_field 255 name → is_selector name ≡ false
refused_name name e refused =
    elim (is_selector name) as (λ b. is_selector name ≡ b → b ≡ false) [
      | true ↦ λ t.
          let parts = and_parts (nat_le (length name) 255) (is_field name) t in
          let short : nat_lt 255 (length name) ≡ false = le-ltb 255 (length name) (leb-true (length name) 255 parts.0) in
          let good : name_of is_field 255 name ≡ Ok name = rw (short, parts.1) refl in
          let no : Err e ≡ Ok name = refused ∙ good in
          absurd (cc no)
      | false ↦ λ _. refl
    ] refl

pub bad_faults : {X : Type 0} {P : Type 0} → (r : Result X SiteOpenFault) (a b : StoreState) → NoneFailed a b → IfErr r (λ e. (e ≡ BadRecord) × P) → (IsTrue a.honest → (s : Site) → RepresentedBy a s → P → ⊥) → IfErr r (IsQuickFault a b)
bad_faults (Ok x) a b none h never = tt
bad_faults (Err e) a b none h never = subst (IsQuickFault a b) (sym h.0) (none, λ honest s kept. never honest s kept h.1)

-- where no memory is taken
pub quick_read : (a b : StoreState) (fault : SiteOpenFault) → IsQuickFault a b fault → IsSiteReadFault a b fault
quick_read a b BadRecord h = (h.0, λ honest known. h.1 honest known.0 known.1)
quick_read a b (Keeper fault) h = h
quick_read a b Memory h = absurd h

-- ---- the first item of all

no_top : (s : Site) → item_at s [] ≡ None → ∥ IsSite s ∥₁ → ⊥
no_top s none site = let prop : IsProp ⊥ = hlevel props in ∥∥₁_elim site prop (λ x. subst IsMenuIn none x.top)

-- A site that is kept has an item at the empty selector.
pub has_top : (s : Site) → ∥ IsSite s ∥₁ → (item : Item) × (item_at s [] ≡ Some item)
has_top s site =
    elim (item_at s []) as (λ o. item_at s [] ≡ o → (item : Item) × (item_at s [] ≡ Some item)) [
      | None ↦ λ e. absurd (no_top s e site)
      | Some item ↦ λ e. (item, e)
    ] refl

pub first_card : (s : Site) (item : Item) → ∥ IsSite s ∥₁ → item_at s [] ≡ Some item → Some ([], card_of item) ≡ card_after s None
first_card s item site stands = ap (λ (es : List Entry). option_map (λ e. (e.0, card_of e.1)) (first_of es)) (sym (first_entry s.items item (kept_sorted s site) stands))

pub next_stands : (s : Site) (q r : List ℕ) → ∥ IsSite s ∥₁ → Some r ≡ selector_after s q → IsAfter s q r
next_stands s q r site is =
    elim (item_after s q) as (λ o. item_after s q ≡ o → Some r ≡ option_map (λ e. e.0) o → IsAfter s q r) [
      | None ↦ λ e none. absurd (cc none)
      | Some p ↦ λ e some.
          let same : p.0 ≡ r = cc some in
          let here = (is_next s.items q p (kept_sorted s site) e).stands in
          record { item = p.1; stands = ap (item_at s) (sym same) ∙ here; is_next = e ∙ (λ i. Some (same i, p.1)) }
    ] refl is

pub next_card_is : (s : Site) (q r : List ℕ) (n : IsAfter s q r) → Some (r, card_of n.item) ≡ card_after s (Some q)
next_card_is s q r n = ap (option_map (λ e. (e.0, card_of e.1))) (sym n.is_next)

pub no_card_after : (s : Site) (q : List ℕ) → None ≡ selector_after s q → None ≡ card_after s (Some q)
no_card_after s q none =
    elim (item_after s q) as (λ (o : Option Entry). None ≡ option_map {U = List ℕ} (λ e. e.0) o → None ≡ option_map {U = List ℕ × Card} (λ e. (e.0, card_of e.1)) o) [
      | None ↦ λ _. refl
      | Some p ↦ λ some. absurd (cc some)
    ] none
