-- Entries whose keys rise, and the first of them above a key.
use Rattle.std.proofs.Common.{◌≡◌, ℕ, Bool, true, false, List, [], ◌∷◌, cond, Option, Some, None, Ordering, refl, ap, sym, subst, ◌∙◌}
use Rattle.std.specs.Prelude.{filter}
use Rattle.std.specs.List.{find}
use Rattle.std.specs.Map.{lookup}
use Rattle.std.specs.BTreeMap.{is_at}
use Rattle.std.specs.FinMap.Entries.{below_all, is_sorted}
use Rattle.std.specs.Ordering.{is_lt, is_eq, ordering_reverse}
use Rattle.std.specs.declared.cmp.Ordering.TheVariants.{Less, Equal, Greater}
use Rattle.std.proofs.lemmas.Bool.{and_parts}
use Rattle.std.proofs.lemmas.Cmp.{nat_list_cmp_total}
use Rattle.host_types.specs.Site.{byte_cmp}
use Rattle.site_records.specs.LayoutLaws.{is_at-Decides, at_itself, not_at}

-- one key stands below another
abbrev pub is_below : List ℕ → List ℕ → Bool
is_below a b = is_lt (byte_cmp a b)

-- what stands at a key
abbrev pub found : {X : Type 0} → List (List ℕ × X) → List ℕ → Option X
found es q = lookup (is_at (byte_cmp q)) es

-- the first entry above a key
abbrev pub next_of : {X : Type 0} → List (List ℕ × X) → List ℕ → Option (List ℕ × X)
next_of es k = find (λ e. is_below k e.0) es

-- the entries above a key
abbrev pub rest_of : {X : Type 0} → List (List ℕ × X) → List ℕ → List (List ℕ × X)
rest_of es k = filter (λ e. is_below k e.0) es

-- ---- the order

pub less : (a b : List ℕ) → is_below a b ≡ true → byte_cmp a b ≡ Less
less a b h = by (byte_cmp a b) h
  where
    by : (o : Ordering) → is_lt o ≡ true → o ≡ Less
    by Less h = refl
    by Equal h = absurd (cc h)
    by Greater h = absurd (cc h)

pub below_trans : (a b c : List ℕ) → is_below a b ≡ true → is_below b c ≡ true → is_below a c ≡ true
below_trans a b c h k = ap is_lt (nat_list_cmp_total.trans a b c (less a b h) (less b c k))

pub not_above : (a b : List ℕ) → is_below a b ≡ true → is_below b a ≡ false
not_above a b h = ap is_lt (nat_list_cmp_total.antisymm b a ∙ ap ordering_reverse (less a b h))

pub clash : (b : Bool) → b ≡ true → b ≡ false → ⊥
clash b t f = let e : true ≡ false = sym t ∙ f in cc e

pub not_itself : (a : List ℕ) → is_below a a ≡ false
not_itself a = by (byte_cmp a a) (at_itself a)
  where
    by : (o : Ordering) → is_eq o ≡ true → is_lt o ≡ false
    by Less h = absurd (cc h)
    by Equal h = refl
    by Greater h = refl

-- neither is below the other
pub same_key : (a b : List ℕ) → is_below a b ≡ false → is_below b a ≡ false → a ≡ b
same_key a b h k = (is_at-Decides a b).0 (by (byte_cmp a b) h (sym (ap is_lt (nat_list_cmp_total.antisymm b a)) ∙ k))
  where
    by : (o : Ordering) → is_lt o ≡ false → is_lt (ordering_reverse o) ≡ false → is_eq o ≡ true
    by Less h k = absurd (cc h)
    by Equal h k = refl
    by Greater h k = absurd (cc k)

-- a key that isn't above one that another is above, stands below the other
pub below_later : (a b c : List ℕ) → is_below a b ≡ false → is_below a c ≡ true → is_below b c ≡ true
below_later a b c h k =
    elim (is_below b a) as (λ t. is_below b a ≡ t → is_below b c ≡ true) [
      | true ↦ λ t. below_trans b a c t k
      | false ↦ λ t. subst (λ (x : List ℕ). is_below x c ≡ true) (same_key a b h t) k
    ] refl

-- ---- what stands there

pub found_below : {X : Type 0} → (k : List ℕ) (es : List (List ℕ × X)) (q : List ℕ) (x : X) → below_all byte_cmp k es ≡ true → found es q ≡ Some x → is_below k q ≡ true
found_below k [] q x below stands = absurd (cc stands)
found_below {X} k (e ∷ es) q x below stands =
    let parts = and_parts (is_below k e.0) (below_all byte_cmp k es) below in
    elim (is_at (byte_cmp q) e.0) as (λ t. is_at (byte_cmp q) e.0 ≡ t → cond t (Some e.1) (found es q) ≡ Some x → is_below k q ≡ true) [
      | true ↦ λ t _. subst (λ (y : List ℕ). is_below k y ≡ true) (sym ((is_at-Decides q e.0).0 t)) parts.0
      | false ↦ λ t more. found_below k es q x parts.1 more
    ] refl stands

-- where nothing is above a key, nothing stands above it
pub none_next : {X : Type 0} → (es : List (List ℕ × X)) (k q : List ℕ) (x : X) → next_of es k ≡ None → found es q ≡ Some x → is_below k q ≡ false
none_next [] k q x none stands = absurd (cc stands)
none_next (e ∷ es) k q x none stands =
    elim (is_below k e.0) as (λ b. is_below k e.0 ≡ b → cond b (Some e) (next_of es k) ≡ None → is_below k q ≡ false) [
      | true ↦ λ b some. absurd (cc some)
      | false ↦ λ b more.
          elim (is_at (byte_cmp q) e.0) as (λ t. is_at (byte_cmp q) e.0 ≡ t → cond t (Some e.1) (found es q) ≡ Some x → is_below k q ≡ false) [
            | true ↦ λ t _. subst (λ (y : List ℕ). is_below k y ≡ false) (sym ((is_at-Decides q e.0).0 t)) b
            | false ↦ λ t there. none_next es k q x more there
          ] refl stands
    ] refl none

-- The first entry above a key: it stands there, and nothing stands between.
pub record IsNext {X : Type 0} (es : List (List ℕ × X)) (k : List ℕ) (p : List ℕ × X) : Type 0 where
  pub above : is_below k p.0 ≡ true
  pub stands : found es p.0 ≡ Some p.1
  pub least : (q : List ℕ) (x : X) → found es q ≡ Some x → is_below k q ≡ true → is_below q p.0 ≡ false

some_is : {A : Type 0} (x y : A) → Some x ≡ Some y → x ≡ y
some_is x y e = cc e

pub is_next : {X : Type 0} → (es : List (List ℕ × X)) (k : List ℕ) (p : List ℕ × X) → is_sorted byte_cmp es ≡ true → next_of es k ≡ Some p → IsNext es k p
is_next [] k p sorted some = absurd (cc some)
is_next {X} (e ∷ es) k p sorted some =
    let parts = and_parts (below_all byte_cmp e.0 es) (is_sorted byte_cmp es) sorted in
    elim (is_below k e.0) as (λ b. is_below k e.0 ≡ b → cond b (Some e) (next_of es k) ≡ Some p → IsNext (e ∷ es) k p) [
      | true ↦ λ b here. subst (λ (y : List ℕ × X). IsNext (e ∷ es) k y) (some_is e p here) (record {
        above = b;
        stands = ap (λ (t : Bool). cond t (Some e.1) (found es e.0)) (at_itself e.0);
        least = λ q x stands over. first_least e es k parts.0 q x stands;
      })
      | false ↦ λ b more.
          let next = is_next es k p parts.1 more in
          record {
            above = next.above;
            stands = ap (λ (t : Bool). cond t (Some e.1) (found es p.0)) (not_at p.0 e.0 (λ same. clash (is_below k p.0) next.above (ap (is_below k) same ∙ b))) ∙ next.stands;
            least = λ q x stands over. later_least e es k p b next q x stands over;
          }
    ] refl some
  where
    first_least : (e : List ℕ × X) (es : List (List ℕ × X)) (k : List ℕ) → below_all byte_cmp e.0 es ≡ true → (q : List ℕ) (x : X) → found (e ∷ es) q ≡ Some x → is_below q e.0 ≡ false
    first_least e es k below q x stands =
        elim (is_at (byte_cmp q) e.0) as (λ t. is_at (byte_cmp q) e.0 ≡ t → cond t (Some e.1) (found es q) ≡ Some x → is_below q e.0 ≡ false) [
          | true ↦ λ t _. subst (λ (y : List ℕ). is_below y e.0 ≡ false) (sym ((is_at-Decides q e.0).0 t)) (not_itself e.0)
          | false ↦ λ t there. not_above e.0 q (found_below e.0 es q x below there)
        ] refl stands

    later_least : (e : List ℕ × X) (es : List (List ℕ × X)) (k : List ℕ) (p : List ℕ × X) → is_below k e.0 ≡ false → IsNext es k p → (q : List ℕ) (x : X) → found (e ∷ es) q ≡ Some x → is_below k q ≡ true → is_below q p.0 ≡ false
    later_least e es k p b next q x stands over =
        elim (is_at (byte_cmp q) e.0) as (λ t. is_at (byte_cmp q) e.0 ≡ t → cond t (Some e.1) (found es q) ≡ Some x → is_below q p.0 ≡ false) [
          | true ↦ λ t _. absurd (clash (is_below k q) over (ap (is_below k) ((is_at-Decides q e.0).0 t) ∙ b))
          | false ↦ λ t there. next.least q x there over
        ] refl stands

-- ---- of which entry it is the first

pub nothing_next : {X : Type 0} → (es : List (List ℕ × X)) (k : List ℕ) → is_sorted byte_cmp es ≡ true → ((q : List ℕ) (x : X) → found es q ≡ Some x → is_below k q ≡ false) → next_of es k ≡ None
nothing_next {X} es k sorted nothing =
    elim (next_of es k) as (λ o. next_of es k ≡ o → o ≡ None) [
      | None ↦ λ e. refl
      | Some p ↦ λ e. let next = is_next es k p sorted e in absurd (clash (is_below k p.0) next.above (nothing p.0 p.1 next.stands))
    ] refl

pub this_next : {X : Type 0} → (es : List (List ℕ × X)) (k r : List ℕ) (x : X) → is_sorted byte_cmp es ≡ true → is_below k r ≡ true → found es r ≡ Some x → ((q : List ℕ) (y : X) → found es q ≡ Some y → is_below k q ≡ true → is_below q r ≡ false) → next_of es k ≡ Some (r, x)
this_next {X} es k r x sorted above stands least =
    elim (next_of es k) as (λ o. next_of es k ≡ o → o ≡ Some (r, x)) [
      | None ↦ λ e. absurd (clash (is_below k r) above (none_next es k r x e stands))
      | Some p ↦ λ e.
          let next = is_next es k p sorted e in
          let same : p.0 ≡ r = same_key p.0 r (least p.0 p.1 next.stands next.above) (next.least r x stands above) in
          let value : p.1 ≡ x = some_is p.1 x (sym next.stands ∙ ap (found es) same ∙ stands) in
          λ i. Some (same i, value i)
    ] refl

-- ---- what is left above a key

pub none_left : {X : Type 0} → (es : List (List ℕ × X)) (k : List ℕ) → next_of es k ≡ None → rest_of es k ≡ []
none_left [] k none = refl
none_left (e ∷ es) k none =
    elim (is_below k e.0) as (λ b. cond b (Some e) (next_of es k) ≡ None → cond b (e ∷ rest_of es k) (rest_of es k) ≡ []) [
      | true ↦ λ some. absurd (cc some)
      | false ↦ λ more. none_left es k more
    ] none

pub all_left : {X : Type 0} → (es : List (List ℕ × X)) (k : List ℕ) → below_all byte_cmp k es ≡ true → rest_of es k ≡ es
all_left [] k below = refl
all_left {X} (e ∷ es) k below =
    let parts = and_parts (is_below k e.0) (below_all byte_cmp k es) below in
    ap (λ (b : Bool). cond b (e ∷ rest_of es k) (rest_of es k)) parts.0 ∙ ap (λ (l : List (List ℕ × X)). e ∷ l) (all_left es k parts.1)

pub below_later_all : {X : Type 0} → (es : List (List ℕ × X)) (k j : List ℕ) → is_below k j ≡ true → below_all byte_cmp j es ≡ true → below_all byte_cmp k es ≡ true
below_later_all [] k j h below = refl
below_later_all (e ∷ es) k j h below =
    let parts = and_parts (is_below j e.0) (below_all byte_cmp j es) below in
    rw (below_trans k j e.0 h parts.0, below_later_all es k j h parts.1) refl

-- the first entry above a key, and then those above it
pub next_left : {X : Type 0} → (es : List (List ℕ × X)) (k : List ℕ) (p : List ℕ × X) → is_sorted byte_cmp es ≡ true → next_of es k ≡ Some p → rest_of es k ≡ p ∷ rest_of es p.0
next_left [] k p sorted some = absurd (cc some)
next_left {X} (e ∷ es) k p sorted some =
    let parts = and_parts (below_all byte_cmp e.0 es) (is_sorted byte_cmp es) sorted in
    elim (is_below k e.0) as (λ b. is_below k e.0 ≡ b → cond b (Some e) (next_of es k) ≡ Some p → cond b (e ∷ rest_of es k) (rest_of es k) ≡ p ∷ rest_of (e ∷ es) p.0) [
      | true ↦ λ b here. subst (λ (y : List ℕ × X). e ∷ rest_of es k ≡ y ∷ rest_of (e ∷ es) y.0) (some_is e p here) (
          ap (λ (l : List (List ℕ × X)). e ∷ l) (
          all_left es k (below_later_all es k e.0 b parts.0)
          ∙ sym (all_left es e.0 parts.0)
          ∙ ap (λ (t : Bool). cond t (e ∷ rest_of es e.0) (rest_of es e.0)) (sym (not_itself e.0))
          )
          )
      | false ↦ λ b more.
          let next = is_next es k p parts.1 more in
          next_left es k p parts.1 more
          ∙ ap (λ (t : Bool). p ∷ cond t (e ∷ rest_of es p.0) (rest_of es p.0)) (sym (not_above e.0 p.0 (below_later k e.0 p.0 b next.above)))
    ] refl some

-- nothing is below the empty key
not_below_none : (a : List ℕ) → is_below a [] ≡ false
not_below_none [] = refl
not_below_none (x ∷ a) = refl

-- what stands at the empty key stands first
pub first_entry : {X : Type 0} → (es : List (List ℕ × X)) (x : X) → is_sorted byte_cmp es ≡ true → found es [] ≡ Some x → es ≡ ([], x) ∷ rest_of es []
first_entry [] x sorted stands = absurd (cc stands)
first_entry {X} (e ∷ es) x sorted stands =
    let parts = and_parts (below_all byte_cmp e.0 es) (is_sorted byte_cmp es) sorted in
    elim (is_at (byte_cmp []) e.0) as (λ t. is_at (byte_cmp []) e.0 ≡ t → cond t (Some e.1) (found es []) ≡ Some x → e ∷ es ≡ ([], x) ∷ rest_of (e ∷ es) []) [
      | true ↦ λ t here.
          let key : e.0 ≡ [] = sym ((is_at-Decides [] e.0).0 t) in
          let value : e.1 ≡ x = some_is e.1 x here in
          let others : rest_of (e ∷ es) [] ≡ es = ap (λ (b : Bool). cond b (e ∷ rest_of es []) (rest_of es [])) (ap (is_below []) key) ∙ all_left es [] (subst (λ (k : List ℕ). below_all byte_cmp k es ≡ true) key parts.0) in
          λ i. (key i, value i) ∷ sym others i
      | false ↦ λ t more. absurd (clash (is_below e.0 []) (found_below e.0 es [] x parts.0 more) (not_below_none e.0))
    ] refl stands
