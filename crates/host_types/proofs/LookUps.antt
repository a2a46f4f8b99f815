-- What stands where, once an item is put or taken away.
use Rattle.std.proofs.Common.{◌≡◌, ℕ, true, false, List, Option, Some, None, refl, ap, ◌∙◌, inl, inr, ◌⊎◌}
use Rattle.std.specs.Prelude.{IsTrue}
use Rattle.std.specs.declared.cmp.Ordering.{Ordering}
use Rattle.std.specs.declared.cmp.Ordering.TheVariants.{Less, Equal, Greater}
use Rattle.std.specs.Ordering.{is_eq}
use Rattle.std.specs.BTreeMap.{is_at}
use Rattle.std.specs.FinMap.{is_sorted, slice_cmp-IsAntisymmetric, nat_cmp-IsAntisymmetric}
use Rattle.std.proofs.lemmas.Bool.{cases_Bool, both_ways, cond-true, cond-false, false_from_ne_true}
use Rattle.std.proofs.lemmas.Cmp.{nat_list_cmp_total, eq_by_cmp_equiv}
use Rattle.host_types.specs.Site.{Site, byte_cmp, item_at, with_item, without_item}
use Rattle.host_types.specs.SiteLaws.{item_at-with_item, item_at-without_item}
use Rattle.host_types.specs.declared.item.Item.{Item}

-- ---- one selector, or two

abbrev pub Differ : List ℕ → List ℕ → Type 0
Differ q k = is_at (byte_cmp q) k ≡ false

is_equal : (o : Ordering) → is_eq o ≡ true → o ≡ Equal
is_equal Less h = absurd (cc h)
is_equal Equal h = refl
is_equal Greater h = absurd (cc h)

pub same_selector : (q k : List ℕ) → is_at (byte_cmp q) k ≡ true → q ≡ k
same_selector q k h = slice_cmp-IsAntisymmetric nat_cmp-IsAntisymmetric q k (is_equal (byte_cmp q k) h)

pub own_selector : (k : List ℕ) → is_at (byte_cmp k) k ≡ true
own_selector k = (eq_by_cmp_equiv nat_list_cmp_total).refl k

pub cases_selector : (q k : List ℕ) → (q ≡ k) ⊎ Differ q k
cases_selector q k = elim (cases_Bool (is_at (byte_cmp q) k)) [ inl same ↦ inl (same_selector q k same) | inr other ↦ inr other ]

pub they_differ : (q k : List ℕ) → (q ≡ k → ⊥) → Differ q k
they_differ q k apart = false_from_ne_true (is_at (byte_cmp q) k) (λ h. apart (same_selector q k h))

pub differ_not : (q k : List ℕ) → Differ q k → q ≡ k → ⊥
differ_not q k apart same = both_ways (is_at (byte_cmp q) k) apart (ap (λ x. is_at (byte_cmp x) k) same ∙ own_selector k)

-- ---- what stands there

pub put_here : (s : Site) (k : List ℕ) (v : Item) → item_at (with_item s k v) k ≡ Some v
put_here s k v = item_at-with_item s k v k ∙ cond-true (is_at (byte_cmp k) k) (Some v) (item_at s k) (own_selector k)

pub put_elsewhere : (s : Site) (k : List ℕ) (v : Item) (q : List ℕ) → Differ q k → item_at (with_item s k v) q ≡ item_at s q
put_elsewhere s k v q apart = item_at-with_item s k v q ∙ cond-false (is_at (byte_cmp q) k) (Some v) (item_at s q) apart

pub taken_here : (s : Site) (k : List ℕ) → IsTrue (is_sorted byte_cmp s.items) → item_at (without_item s k) k ≡ None
taken_here s k sorted = item_at-without_item s k k sorted ∙ cond-true (is_at (byte_cmp k) k) None (item_at s k) (own_selector k)

pub taken_elsewhere : (s : Site) (k q : List ℕ) → IsTrue (is_sorted byte_cmp s.items) → Differ q k → item_at (without_item s k) q ≡ item_at s q
taken_elsewhere s k q sorted apart = item_at-without_item s k q sorted ∙ cond-false (is_at (byte_cmp q) k) None (item_at s q) apart

-- ---- options

pub same_some : {A : Type 0} (x y : A) → Some x ≡ Some y → x ≡ y
same_some x y h = cc h

pub some_is_none : {A : Type 0} (x : A) (o : Option A) → o ≡ Some x → o ≡ None → ⊥
some_is_none x o h none = absurd (cc (h, none))
