-- Items that are counted one after another are all counted.
use Rattle.std.proofs.Common.{◌≡◌, ℕ, suc, ◌+◌, List, [], length, Some, None, ap, sym, subst, arith}
use Rattle.host_types.specs.Site.{Site, IsSite}
use Rattle.site_store.specs.Counting.{ItemsSoFar}
use Rattle.site_store.specs.Walking.{selector_after}
use Rattle.site_store.proofs.FoundItems.{kept_sorted}
use Rattle.site_store.proofs.RisingKeys.{rest_of, none_left, next_left, first_entry}
use Rattle.site_store.proofs.ItemWalks.{has_top, next_stands}
use Rattle.site_store.proofs.FilterSearches.{none_above}

-- the first item is one
pub first_counted : (s : Site) (counted : ℕ) (top : List ℕ) → ∥ IsSite s ∥₁ → counted ≡ 1 → top ≡ [] → ItemsSoFar s counted top
first_counted s counted top site one is =
    let t = has_top s site in
    let all : length s.items ≡ suc (length (rest_of s.items [])) = ap length (first_entry s.items t.0 (kept_sorted s site) t.1) in
    subst (λ (q : List ℕ). ItemsSoFar s counted q) (sym is) (record {
      item = t.0;
      stands = t.1;
      rest = omega (arith, all, one);
    })

-- the next is one more
pub next_counted : (s : Site) (counted : ℕ) (selector next : List ℕ) → ∥ IsSite s ∥₁ → ItemsSoFar s counted selector → Some next ≡ selector_after s selector → ItemsSoFar s (counted + 1) next
next_counted s counted selector next site so_far some =
    let n = next_stands s selector next site some in
    let left : length (rest_of s.items selector) ≡ suc (length (rest_of s.items next)) = ap length (next_left s.items selector (next, n.item) (kept_sorted s site) n.is_next) in
    let rest = so_far.rest in
    record {
      item = n.item;
      stands = n.stands;
      rest = omega (arith, left, rest);
    }

-- where none is above, all are counted
pub last_counted : (s : Site) (counted : ℕ) (selector : List ℕ) → ItemsSoFar s counted selector → None ≡ selector_after s selector → counted ≡ length s.items
last_counted s counted selector so_far none =
    let left : length (rest_of s.items selector) ≡ 0 = ap length (none_left s.items selector (none_above s selector none)) in
    let rest = so_far.rest in
    omega (arith, left, rest)
