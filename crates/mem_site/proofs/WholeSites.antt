-- When a site in memory is valid.
use Rattle.std.proofs.Common.{◌≡◌, ℕ, ◌+◌, ◌<◌, ◌≤◌, ◌^◌, Bool, true, false, cond, ◌&&◌, List, [], ◌∷◌, map, Option, Some, None, refl, ap, sym, subst, ◌∙◌, arith}
use Rattle.std.specs.Prelude.{IsTrue, nat_le, Result, Ok, Err, IfOk}
use Rattle.std.specs.Bool.{Decides}
use Rattle.std.specs.List.{AllByRecursion}
use Rattle.std.specs.List.Sorted.{IsStrictlySortedBy}
use Rattle.std.specs.Map.{lookup}
use Rattle.std.specs.BTreeMap.{is_at}
use Rattle.std.specs.FinMap.{is_sorted}
use Rattle.std.specs.FinMap.Entries.{below_all}
use Rattle.std.specs.declared.cmp.Ordering.{Ordering}
use Rattle.std.specs.declared.cmp.Ordering.TheVariants.{Less, Equal, Greater}
use Rattle.std.specs.Ordering.{is_eq, is_lt}
use Rattle.std.proofs.lemmas.Bool.{and_parts, ltb-true, cond-true}
use Rattle.host_types.specs.Items.{has_moments, is_title, is_host, is_admin, is_typed_body, is_typed_item}
use Rattle.host_types.specs.Site.{Site, byte_cmp, item_at, post_selector, board_in, board_at, IsPost, MayStand, IsSite}
use Rattle.mem_site.specs.ValidSites.{IsLast, IsPlainText, BoardsFit, IsTyped, AreTyped, AllMayStand, HasFront}
use Rattle.host_types.specs.declared.item.Item.{Item}
use Rattle.host_types.proofs.LookUps.{same_selector, own_selector, they_differ, some_is_none, same_some}
use Rattle.host_types.proofs.Boards.{body_is}
use Rattle.mem_site.proofs.CutNames.{one_post}

-- ---- posts

-- whose post it is
post_is : (s : Site) (selector : List ℕ) (item : Item) (board : List ℕ) (number : ℕ) → BoardsFit s → number < 2 ^ 64 → selector ≡ post_selector board number → (p : IsPost s selector item) → (p.board ≡ board) × (p.number ≡ number)
post_is s selector item board number fit small named p =
    let next_fits : p.next < 2 ^ 64 = fit p.board p.cap p.next p.stands in
    let given : p.number < p.next = p.given in
    one_post p.board board p.number number (omega arith) small (sym p.named ∙ named)

pub no_board : (s : Site) (selector : List ℕ) (item : Item) (board : List ℕ) (number : ℕ) → BoardsFit s → number < 2 ^ 64 → selector ≡ post_selector board number → board_at s board ≡ None → IsPost s selector item → ⊥
no_board s selector item board number fit small named none p =
    some_is_none (p.cap, p.next) (board_at s p.board) p.stands (ap (board_at s) (post_is s selector item board number fit small named p).0 ∙ none)

one_pair : (x y : ℕ × ℕ) → Some x ≡ Some y → (x.0 ≡ y.0) × (x.1 ≡ y.1)
one_pair x y h = let same : x ≡ y = same_some x y h in (ap (λ (z : ℕ × ℕ). z.0) same, ap (λ (z : ℕ × ℕ). z.1) same)

pub last_of_post : (s : Site) (selector : List ℕ) (item : Item) (board : List ℕ) (number cap next : ℕ) → BoardsFit s → number < 2 ^ 64 → selector ≡ post_selector board number → board_at s board ≡ Some (cap, next) → IsPost s selector item → IsLast number cap next
last_of_post s selector item board number cap next fit small named stands p =
    let own = post_is s selector item board number fit small named p in
    let same = one_pair (p.cap, p.next) (cap, next) (sym p.stands ∙ ap (board_at s) own.0 ∙ stands) in
    let first : 0 < p.number = p.first in
    let given : p.number < p.next = p.given in
    let last : p.next ≤ p.number + p.cap = p.last in
    let numbers : p.number ≡ number = own.1 in
    let caps : p.cap ≡ cap = same.0 in
    let nexts : p.next ≡ next = same.1 in
    record { first = omega arith; given = omega arith; last = omega arith }

pub post_by_text : (s : Site) (selector : List ℕ) (item : Item) (board : List ℕ) (number cap next : ℕ) (plain : Bool) → selector ≡ post_selector board number → board_at s board ≡ Some (cap, next) → IsLast number cap next → Decides plain (IsPlainText item.body) → Decides plain (IsPost s selector item)
post_by_text s selector item board number cap next plain named stands last decides = (
  λ yes. let text = decides.0 yes in record { board = board; number = number; cap = cap; next = next; text = text.text; named = named; stands = stands; first = last.first; given = last.given; last = last.last; document = text.is },
  λ p. decides.1 (record { text = p.text; is = p.document }),
)

-- ---- what stands somewhere is one of the entries

module _ (P : List ℕ × Item → Type 0) where
  pub found_among : (es : List (List ℕ × Item)) (q : List ℕ) (item : Item) → AllByRecursion P es → lookup (is_at (byte_cmp q)) es ≡ Some item → P (q, item)
  found_among [] q item all found = absurd (cc found)
  found_among (e ∷ es) q item all found =
      elim (is_at (byte_cmp q) e.0) as (λ b. is_at (byte_cmp q) e.0 ≡ b → cond b (Some e.1) (lookup (is_at (byte_cmp q)) es) ≡ Some item → P (q, item)) [
        | true ↦ λ at is. subst P (λ i. (sym (same_selector q e.0 at) i, same_some e.1 item is i)) all.0
        | false ↦ λ at is. found_among es q item all.1 is
      ] refl found

boards_fit_at : (o : Option Item) (cap next : ℕ) → ((item : Item) → o ≡ Some item → is_typed_item item ≡ true) → board_in o ≡ Some (cap, next) → next < 2 ^ 64
boards_fit_at None cap next typed is = absurd (cc is)
boards_fit_at (Some item) cap next typed is =
    let parts = and_parts (is_title item.title) (has_moments item && is_typed_body item.body) (typed item refl) in
    let body = (and_parts (has_moments item) (is_typed_body item.body) parts.1).1 in
    ltb-true next (2 ^ 64) (ap is_typed_body (sym (body_is item.body cap next is)) ∙ body)

pub boards_fit : (s : Site) → AreTyped s.items → BoardsFit s
boards_fit s typed = λ board cap next is. boards_fit_at (item_at s board) cap next (λ item stands. (found_among IsTyped s.items board item typed stands).item) is

-- ---- entries in order stand at their keys

not_below : (k q : List ℕ) → is_lt (byte_cmp k q) ≡ true → is_at (byte_cmp q) k ≡ false
not_below k q below = they_differ q k (λ same. below_itself k (ap (λ x. is_lt (byte_cmp k x)) (sym same) ∙ below))
  where
    clash : (o : Ordering) → is_eq o ≡ true → is_lt o ≡ true → ⊥
    clash Less p h = absurd (cc p)
    clash Equal p h = absurd (cc h)
    clash Greater p h = absurd (cc p)

    below_itself : (k : List ℕ) → is_lt (byte_cmp k k) ≡ true → ⊥
    below_itself k h = clash (byte_cmp k k) (own_selector k) h

stand_behind : (k : List ℕ) (v : Item) (es fs : List (List ℕ × Item)) → below_all byte_cmp k fs ≡ true → AllByRecursion (λ e. lookup (is_at (byte_cmp e.0)) es ≡ Some e.1) fs → AllByRecursion (λ e. lookup (is_at (byte_cmp e.0)) ((k, v) ∷ es) ≡ Some e.1) fs
stand_behind k v es [] below all = tt
stand_behind k v es (f ∷ fs) below all =
    let parts = and_parts (is_lt (byte_cmp k f.0)) (below_all byte_cmp k fs) below in
    (ap (λ b. cond b (Some v) (lookup (is_at (byte_cmp f.0)) es)) (not_below k f.0 parts.0) ∙ all.0, stand_behind k v es fs parts.1 all.1)

pub all_stand : (es : List (List ℕ × Item)) → is_sorted byte_cmp es ≡ true → AllByRecursion (λ e. lookup (is_at (byte_cmp e.0)) es ≡ Some e.1) es
all_stand [] sorted = tt
all_stand (e ∷ es) sorted =
    let parts = and_parts (below_all byte_cmp e.0 es) (is_sorted byte_cmp es) sorted in
    (cond-true (is_at (byte_cmp e.0) e.0) (Some e.1) (lookup (is_at (byte_cmp e.0)) es) (own_selector e.0), stand_behind e.0 e.1 es es parts.0 (all_stand es parts.1))

-- ---- keys in order

below_from_keys : (k : List ℕ) (es : List (List ℕ × Item)) → AllByRecursion (λ y. byte_cmp k y ≡ Less) (map (λ e. e.0) es) → below_all byte_cmp k es ≡ true
below_from_keys k [] h = refl
below_from_keys k (e ∷ es) h = ap (λ o. is_lt o && below_all byte_cmp k es) h.0 ∙ below_from_keys k es h.1

pub sorted_from_keys : (es : List (List ℕ × Item)) → IsStrictlySortedBy byte_cmp (map (λ e. e.0) es) → is_sorted byte_cmp es ≡ true
unfolding IsStrictlySortedBy
sorted_from_keys [] h = refl
sorted_from_keys (e ∷ es) h = ap (λ b. b && is_sorted byte_cmp es) (below_from_keys e.0 es h.0) ∙ sorted_from_keys es h.1

-- ---- the site

each_stands : (s : Site) (es : List (List ℕ × Item)) → AllByRecursion (λ e. item_at s e.0 ≡ Some e.1) es → ((selector : List ℕ) (item : Item) → item_at s selector ≡ Some item → MayStand s selector item) → AllMayStand s es
each_stands s [] all each = tt
each_stands s (e ∷ es) all each = (each e.0 e.1 all.0, each_stands s es all.1 each)

pub front_of : (s : Site) → IsSite s → HasFront s
front_of s site = record { port = site.port_given; top = site.top }

pub decides_site : (s : Site) (decided : Bool) → IsTrue (is_sorted byte_cmp s.items) → IsTrue (is_host s.host) → s.port < 2 ^ 16 → IsTrue (is_admin s.admin) → HasFront s → Decides decided (AllMayStand s s.items) → Decides decided (IsSite s)
decides_site s decided sorted host fits admin front decides = (
  λ all. let may = decides.0 all in record { sorted = sorted; host = host; port_given = front.port; port_fits = fits; admin = admin; top = front.top; each = λ selector item stands. found_among (λ e. MayStand s e.0 e.1) s.items selector item may stands },
  λ site. decides.1 (each_stands s s.items (all_stand s.items sorted) site.each),
)

pub decides_in : {E : Type 0} (r : Result Bool E) (s : Site) (es : List (List ℕ × Item)) → IsTrue (is_sorted byte_cmp s.items) → IsTrue (is_host s.host) → s.port < 2 ^ 16 → IsTrue (is_admin s.admin) → HasFront s
    → es ≡ s.items → IfOk r (λ decided. Decides decided (AllMayStand s es)) → IfOk r (λ decided. Decides decided (IsSite s))
decides_in (Ok decided) s es sorted host fits admin front are decides = decides_site s decided sorted host fits admin front (subst (λ fs. Decides decided (AllMayStand s fs)) are decides)
decides_in (Err e) s es sorted host fits admin front are decides = tt
