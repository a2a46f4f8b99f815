-- The site whose items the keys of a layout name is the site of that layout.
use Rattle.std.proofs.Common.{◌≡◌, ℕ, ◌-◌, ◌≤◌, Bool, true, false, cond, List, [], ◌∷◌, length, take, drop, Option, Some, None, Err, Ok, refl, ap, sym, ◌∙◌, arith}
use Rattle.std.specs.Prelude.{IsTrue, IsSome, ◌==◌, nat_lt, nat_le}
use Rattle.std.proofs.lemmas.Bool.{and_parts, leb-true, le-ltb}
use Rattle.std.specs.Option.{option_map}
use Rattle.std.specs.BTreeMap.{is_at}
use Rattle.std.specs.FinMap.{is_sorted}
use Rattle.std.proofs.Props.{props}
use mathlib.Core.Logic.{∥∥₁_elim}
use Rattle.host_types.specs.Names.{is_field, name_of}
use Rattle.common_types.specs.declared.refused.Refused.{Refused}
use Rattle.host_types.specs.Items.{is_selector}
use Rattle.host_types.specs.Site.{Site, IsSite, byte_cmp, item_at, with_item}
use Rattle.host_types.specs.SiteLaws.{item_at-with_item, is_sorted-insert_entry, same_pairs}
use Rattle.host_types.specs.declared.item.Item.{Item}
use Rattle.page_store.specs.Pages.{Pair}
use Rattle.page_store.specs.StoreState.{StoreState}
use Rattle.page_store.specs.declared.banner.Banner.{Banner}
use Rattle.site_records.specs.Keys.{item_key}
use Rattle.site_records.specs.Records.{item_bytes}
use Rattle.site_records.specs.Layout.{layout, value_at}
use Rattle.site_records.specs.LayoutLaws.{record_in-layout, is_at-Decides, at_itself}
use Rattle.site_store.specs.Represented.{RepresentedBy}
use Rattle.site_store.specs.Opening.{site_under, with_any, with_named, with_all_named, IsLayoutOf}
use Rattle.site_store.proofs.FoundItems.{kept_sorted}

-- ---- what stands at a selector

-- the same stands there
abbrev Alike : Site → Site → List ℕ → Type 0
Alike s from q = item_at s q ≡ item_at from q

after_put : (from s : Site) (selector : List ℕ) (item : Item) (q : List ℕ) → item_at from selector ≡ Some item → Alike s from q → Alike (with_item s selector item) from q
after_put from s selector item q is alike =
    item_at-with_item s selector item q
    ∙ elim (is_at (byte_cmp q) selector) as (λ b. is_at (byte_cmp q) selector ≡ b → cond b (Some item) (item_at s q) ≡ item_at from q) [
      | true ↦ λ t. sym is ∙ ap (item_at from) (sym ((is_at-Decides q selector).0 t))
      | false ↦ λ t. alike
    ] refl

stays_any : (from s : Site) (selector : List ℕ) (o : Option Item) (q : List ℕ) → item_at from selector ≡ o → Alike s from q → Alike (with_any s selector o) from q
stays_any from s selector None q is alike = alike
stays_any from s selector (Some item) q is alike = after_put from s selector item q is alike

stays_named : (from s : Site) (key q : List ℕ) → Alike s from q → Alike (with_named from s key) from q
stays_named from s [] q alike = alike
stays_named from s (tag ∷ selector) q alike =
    elim (tag == 73) as (λ b. Alike (cond b (with_any s selector (item_at from selector)) s) from q) [
      | true ↦ stays_any from s selector (item_at from selector) q refl alike
      | false ↦ alike
    ]

stays_all : (from s : Site) (ps : List Pair) (q : List ℕ) → Alike s from q → Alike (with_all_named from s ps) from q
stays_all from s [] q alike = alike
stays_all from s (p ∷ ps) q alike = stays_all from (with_named from s p.0) ps q (stays_named from s p.0 q alike)

-- once its key has come, an item is there
comes : (from s : Site) (key q : List ℕ) (item : Item) → key ≡ item_key q → item_at from q ≡ Some item → Alike (with_named from s key) from q
comes from s key q item is some =
    ap (λ (k : List ℕ). item_at (with_named from s k) q) is
    ∙ ap (λ (o : Option Item). item_at (with_any s q o) q) some
    ∙ item_at-with_item s q item q
    ∙ ap (λ (b : Bool). cond b (Some item) (item_at s q)) (at_itself q)
    ∙ sym some

comes_all : (from s : Site) (ps : List Pair) (q : List ℕ) (item : Item) → IsSome (value_at ps (item_key q)) → item_at from q ≡ Some item → Alike (with_all_named from s ps) from q
comes_all from s [] q item has some = absurd cc
comes_all from s (p ∷ ps) q item has some =
    elim (is_at (byte_cmp (item_key q)) p.0) as (λ b. is_at (byte_cmp (item_key q)) p.0 ≡ b → IsSome (cond b (Some p.1) (value_at ps (item_key q))) → Alike (with_all_named from s (p ∷ ps)) from q) [
      | true ↦ λ t _. stays_all from (with_named from s p.0) ps q (comes from s p.0 q item (sym ((is_at-Decides (item_key q) p.0).0 t)) some)
      | false ↦ λ t more. comes_all from (with_named from s p.0) ps q item more some
    ] refl has

has_record : (s : Site) (q : List ℕ) (item : Item) → IsTrue (is_sorted byte_cmp s.items) → item_at s q ≡ Some item → IsSome (value_at (layout s) (item_key q))
has_record s q item sorted some =
    let value : value_at (layout s) (item_key q) ≡ Some (item_bytes item) = record_in-layout s q sorted ∙ ap (option_map item_bytes) some in
    rw value refl

all_alike : (s : Site) (b : Banner) (q : List ℕ) → IsTrue (is_sorted byte_cmp s.items) → Alike (with_all_named s (site_under b) (layout s)) s q
all_alike s b q sorted =
    elim (item_at s q) as (λ o. item_at s q ≡ o → Alike (with_all_named s (site_under b) (layout s)) s q) [
      | None ↦ λ e. stays_all s (site_under b) (layout s) q (sym e)
      | Some item ↦ λ e. comes_all s (site_under b) (layout s) q item (has_record s q item sorted e) e
    ] refl

-- ---- order, and the names of the site

abbrev InOrder : Site → Type 0
InOrder s = IsTrue (is_sorted byte_cmp s.items)

order_any : (s : Site) (selector : List ℕ) (o : Option Item) → InOrder s → InOrder (with_any s selector o)
order_any s selector None h = h
order_any s selector (Some item) h = is_sorted-insert_entry s.items selector item h

order_named : (from s : Site) (key : List ℕ) → InOrder s → InOrder (with_named from s key)
order_named from s [] h = h
order_named from s (tag ∷ selector) h =
    elim (tag == 73) as (λ b. InOrder (cond b (with_any s selector (item_at from selector)) s)) [
      | true ↦ order_any s selector (item_at from selector) h
      | false ↦ h
    ]

order_all : (from s : Site) (ps : List Pair) → InOrder s → InOrder (with_all_named from s ps)
order_all from s [] h = h
order_all from s (p ∷ ps) h = order_all from (with_named from s p.0) ps (order_named from s p.0 h)

-- other items under the same names
abbrev IsOf : Site → Site → Type 0
IsOf s t = t ≡ record s { items = t.items }

names_any : (s : Site) (selector : List ℕ) (o : Option Item) → IsOf s (with_any s selector o)
names_any s selector None = refl
names_any s selector (Some item) = refl

names_named : (from s : Site) (key : List ℕ) → IsOf s (with_named from s key)
names_named from s [] = refl
names_named from s (tag ∷ selector) =
    elim (tag == 73) as (λ b. IsOf s (cond b (with_any s selector (item_at from selector)) s)) [
      | true ↦ names_any s selector (item_at from selector)
      | false ↦ refl
    ]

names_all : (from s : Site) (ps : List Pair) → IsOf s (with_all_named from s ps)
names_all from s [] = refl
names_all from s (p ∷ ps) =
    let behind = names_all from (with_named from s p.0) ps in
    let first = names_named from s p.0 in
    behind ∙ ap (λ (t : Site). record t { items = (with_all_named from (with_named from s p.0) ps).items }) first

-- ---- the site that is kept

pub named_whole : (s : Site) (b : Banner) → InOrder s → b.host ≡ s.host → b.port ≡ s.port → b.admin ≡ s.admin → with_all_named s (site_under b) (layout s) ≡ s
named_whole s b sorted host port admin =
    let found = with_all_named s (site_under b) (layout s) in
    let items : found.items ≡ s.items = same_pairs found.items s.items (order_all s (site_under b) (layout s) refl) sorted (λ q. all_alike s b q sorted) in
    names_all s (site_under b) (layout s) ∙ (λ i. record { items = items i; host = host i; port = port i; admin = admin i })

-- A site that is read so from all pairs is the one that is kept, so its layout are all pairs.
pub kept_named : (h : StoreState) (s m : Site) (pairs : List Pair) → RepresentedBy h s → pairs ≡ h.pairs → m ≡ with_all_named s (site_under h.banner) pairs → m ≡ s
kept_named h s m pairs kept all is =
    is ∙ ap (with_all_named s (site_under h.banner)) (all ∙ kept.all) ∙ named_whole s h.banner (kept_sorted s kept.valid) kept.host kept.port kept.admin

pub not_kept : (h : StoreState) (s m : Site) (pairs : List Pair) → RepresentedBy h s → pairs ≡ h.pairs → m ≡ with_all_named s (site_under h.banner) pairs → (IsLayoutOf pairs m → ⊥) → ⊥
not_kept h s m pairs kept all is bad =
    let same : m ≡ s = kept_named h s m pairs kept all is in
    let none : IsProp ⊥ = hlevel props in
    ∥∥₁_elim kept.valid none (λ site. bad (site_at same site, all ∙ kept.all ∙ ap layout (sym same)))
  where
    site_at : m ≡ s → IsSite s → IsSite m
    site_at same site = rw same site

-- ---- a key that names no selector

pub no_name : (s : Site) (q : List ℕ) → ∥ IsSite s ∥₁ → is_selector q ≡ false → item_at s q ≡ None
no_name s q site bad =
    elim (item_at s q) as (λ o. item_at s q ≡ o → o ≡ None) [
      | None ↦ λ e. refl
      | Some item ↦ λ e. absurd (let none : IsProp ⊥ = hlevel props in ∥∥₁_elim site none (λ h. let name : is_selector q ≡ true = (h.each q item e).name in absurd (cc (sym bad ∙ name))))
    ] refl

-- bytes that are refused as a selector are none
no_selector : (q : List ℕ) (e : Refused) → name_of is_field 255 q ≡ Err e → is_selector q ≡ false
no_selector q e is =
    elim (is_selector q) as (λ b. is_selector q ≡ b → b ≡ false) [
      | true ↦ λ t.
          let parts = and_parts (nat_le (length q) 255) (is_field q) t in
          let size : length q ≤ 255 = leb-true (length q) 255 parts.0 in
          let short : nat_lt 255 (length q) ≡ false = le-ltb 255 (length q) size in
          let name : name_of is_field 255 q ≡ Ok q = rw (short, parts.1) refl in
          absurd (cc (sym is ∙ name))
      | false ↦ λ t. refl
    ] refl

taken : (xs : List ℕ) → take (length xs) xs ≡ xs
taken [] = refl
taken (x ∷ xs) = ap (λ l. x ∷ l) (taken xs)

pub not_named : (h : StoreState) (s m : Site) (key : List ℕ) (e : Refused) → RepresentedBy h s → name_of is_field 255 (take (length key - 1) (drop 1 key)) ≡ Err e → m ≡ with_named s m key
not_named h s m [] e kept is = refl
not_named h s m (tag ∷ q) e kept is =
    let size : length (tag ∷ q) - 1 ≡ length q = omega arith in
    let rest : take (length (tag ∷ q) - 1) q ≡ q = ap (λ n. take n q) size ∙ taken q in
    let bad : is_selector q ≡ false = no_selector q e (ap (name_of is_field 255) (sym rest) ∙ is) in
    let none : with_any m q (item_at s q) ≡ m = ap (with_any m q) (no_name s q kept.valid bad) in
    elim (tag == 73) as (λ b. m ≡ cond b (with_any m q (item_at s q)) m) [
      | true ↦ sym none
      | false ↦ refl
    ]
