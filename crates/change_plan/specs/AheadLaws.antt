-- A site as it will stand once a plan is made.
use Rattle.std.proofs.Common.{◌≡◌, ℕ, Bool, true, false, cond, List, [], ◌∷◌, Option, Some, None, refl, sym, ap, subst, ◌∙◌, arith}
use Rattle.std.specs.Prelude.{IsTrue, bytes_eq, fold, All, IfSome}
use Rattle.std.specs.Map.{lookup}
use Rattle.std.specs.BTreeMap.{is_at}
use Rattle.std.specs.FinMap.{is_sorted}
use Rattle.std.proofs.lemmas.List.Elements.{All-head, All-tail}
use Rattle.std.proofs.lemmas.Map.Text.{is_eq-slice_cmp}
use Rattle.std.proofs.Props.{props}
use mathlib.Core.Logic.{∥∥₁_elim}
use Rattle.host_types.specs.Site.{Site, IsSite, byte_cmp, item_at}
use Rattle.host_types.specs.SiteLaws.{item_at-with_item, item_at-without_item, is_sorted-insert_entry, is_sorted-remove_entry}
use Rattle.host_types.specs.Standing.{limits_at}
use Rattle.host_types.specs.declared.item.Item.{Item}
use Rattle.change_plan.specs.LookUps.{HasNoLongNames}
use Rattle.change_plan.specs.Plans.{with_host, with_admin, planned}
use Rattle.change_plan.specs.AllPlans.{later_at, last_at, ShowsAhead}
use Rattle.change_plan.specs.Replacements.{replaced_at, replaced, all_replaced, IsFit, AreFit}
use Rattle.change_plan.specs.declared.replacement.Replacement.{Replacement}
use Rattle.change_plan.specs.declared.plan.Plan.{Plan}

-- ---- valid sites

pub sorted_site : (s : Site) → ∥ IsSite s ∥₁ → IsTrue (is_sorted byte_cmp s.items)
sorted_site s site = let prop : IsProp (IsTrue (is_sorted byte_cmp s.items)) = hlevel props in ∥∥₁_elim site prop (λ h. h.sorted)

pub short_names : (s : Site) → ∥ IsSite s ∥₁ → HasNoLongNames s
short_names s site q long =
    elim (item_at s q) as (λ o. item_at s q ≡ o → o ≡ None) [
      | None ↦ λ e. refl
      | Some item ↦ λ e. absurd (let none : IsProp ⊥ = hlevel props in ∥∥₁_elim site none (λ h. let short = (limits_at s q item h e).name in omega (arith, long, short)))
    ] refl

-- ---- names

items_under_host : (s : Site) (host : Option (List ℕ × ℕ)) → (with_host s host).items ≡ s.items
items_under_host s None = refl
items_under_host s (Some name) = refl

items_under_admin : (s : Site) (admin : Option (List ℕ)) → (with_admin s admin).items ≡ s.items
items_under_admin s None = refl
items_under_admin s (Some name) = refl

-- the names that a plan sets leave the items
pub planned_items : (s : Site) (p : Plan) → (planned s p).items ≡ (all_replaced s p.replacements.items).items
planned_items s p = items_under_admin (with_host (all_replaced s p.replacements.items) p.host) p.admin ∙ items_under_host (all_replaced s p.replacements.items) p.host

-- ---- replacements

pub sorted_replacement : (t : Site) (selector : List ℕ) (item : Option Item) → IsTrue (is_sorted byte_cmp t.items) → IsTrue (is_sorted byte_cmp (replaced_at t selector item).items)
sorted_replacement t selector None h = is_sorted-remove_entry t.items selector h
sorted_replacement t selector (Some item) h = is_sorted-insert_entry t.items selector item h

pub sorted_replacements : (t : Site) (rs : List Replacement) → IsTrue (is_sorted byte_cmp t.items) → IsTrue (is_sorted byte_cmp (all_replaced t rs).items)
sorted_replacements t [] h = h
sorted_replacements t (r ∷ rs) h = sorted_replacements (replaced t r) rs (sorted_replacement t r.selector r.after h)

pub replaced_stands : (s : Site) (r : Replacement) (q : List ℕ) → IsTrue (is_sorted byte_cmp s.items) → item_at (replaced s r) q ≡ cond (bytes_eq q r.selector) r.after (item_at s q)
replaced_stands s r q sorted = at r.after ∙ ap (λ (b : Bool). cond b r.after (item_at s q)) (is_eq-slice_cmp q r.selector)
  where
    at : (new : Option Item) → item_at (replaced_at s r.selector new) q ≡ cond (is_at (byte_cmp q) r.selector) new (item_at s q)
    at None = item_at-without_item s r.selector q sorted
    at (Some item) = item_at-with_item s r.selector item q

-- what is replaced, or else what stands
abbrev pub after_or : Option Replacement → Option Item → Option Item
after_or None stands = stands
after_or (Some r) stands = r.after

stands_after : (rs : List Replacement) (t : Site) (found : Option Replacement) (stands : Option Item) (q : List ℕ) → IsTrue (is_sorted byte_cmp t.items) → item_at t q ≡ after_or found stands → item_at (all_replaced t rs) q ≡ after_or (fold (later_at q) found rs) stands
stands_after [] t found stands q sorted h = h
stands_after (r ∷ rs) t found stands q sorted h =
    stands_after rs (replaced t r) (later_at q found r) stands q (sorted_replacement t r.selector r.after sorted)
    (replaced_stands t r q sorted ∙ elim (bytes_eq q r.selector) as (λ b. cond b r.after (item_at t q) ≡ after_or (cond b (Some r) found) stands) [
      | true ↦ refl
      | false ↦ h
    ])

-- What stands at a selector once a plan is made: what its last replacement there puts, or else what stood.
pub stands_ahead : (s : Site) (p : Plan) (q : List ℕ) → ∥ IsSite s ∥₁ → item_at (planned s p) q ≡ after_or (last_at p.replacements.items q) (item_at s q)
stands_ahead s p q site = ap (lookup (is_at (byte_cmp q))) (planned_items s p) ∙ stands_after p.replacements.items s None (item_at s q) q (sorted_site s site) refl

later_keeps : (P : Replacement → Type 0) (q : List ℕ) (found : Option Replacement) (r : Replacement) → IfSome found P → P r → IfSome (later_at q found r) P
later_keeps P q found r h p = elim (bytes_eq q r.selector) as (λ b. IfSome (cond b (Some r) found) P) [ true ↦ p | false ↦ h ]

last_keeps : (P : Replacement → Type 0) (q : List ℕ) (rs : List Replacement) (found : Option Replacement) → IfSome found P → All P rs → IfSome (fold (later_at q) found rs) P
last_keeps P q [] found h all = h
last_keeps P q (r ∷ rs) found h all = last_keeps P q rs (later_at q found r) (later_keeps P q found r h (All-head P r rs all)) (All-tail P r rs all)

-- what holds of all replacements holds of the last at a selector
pub last_has : (P : Replacement → Type 0) (q : List ℕ) (rs : List Replacement) → All P rs → IfSome (last_at rs q) P
last_has P q rs all = last_keeps P q rs None tt all

-- ---- look-ups ahead

-- what a plan leads to, by its last replacement there
pub found_there : {L : Type 0} (shows : L → Site → Type 0) (l : L) (p : Plan) (t : Site) (q : List ℕ) (rs : List Replacement) (found : Option Replacement) → rs ≡ p.replacements.items → found ≡ last_at rs q → (shown : ShowsAhead shows l p t) → item_at t q ≡ after_or found (item_at shown.0 q)
found_there shows l p t q rs found all is shown =
    ap (λ (u : Site). item_at u q) shown.2
    ∙ stands_ahead shown.0 p q shown.1.1
    ∙ ap (λ (o : Option Replacement). after_or o (item_at shown.0 q)) (sym (is ∙ ap (λ (l : List Replacement). last_at l q) all))

if_some_prop : (fits : Item → Type 0) → ((item : Item) → IsProp (fits item)) → (o : Option Item) → IsProp (IfSome o fits)
if_some_prop fits prop None x y = refl
if_some_prop fits prop (Some item) x y = prop item x y

-- what is planned there is fit
pub fit_there : (fits : Item → Type 0) → ((item : Item) → IsProp (fits item)) → (rs : List Replacement) (q : List ℕ) (r : Replacement) → Some r ≡ last_at rs q → ∥ AreFit fits rs ∥₁ → IfSome r.after fits
fit_there fits prop rs q r is fit = ∥∥₁_elim fit (if_some_prop fits prop r.after) (λ all. (subst (λ (o : Option Replacement). IfSome o (IsFit fits)) (sym is) (last_has (IsFit fits) q rs all)).1)

pub shows_still : {L : Type 0} (shows : L → Site → Type 0) (reads_only : L → L → Type 0) → ((a b : L) (s : Site) → reads_only a b → shows a s → shows b s)
    → (a b : L) (p q : Plan) (t : Site) → q ≡ p → reads_only a b → ShowsAhead shows a p t → ShowsAhead shows b q t
shows_still shows reads_only still a b p q t same read shown =
    (shown.0, (still a b shown.0 read shown.1.0, shown.1.1), shown.2 ∙ ap (planned shown.0) (sym same), shown.3)
