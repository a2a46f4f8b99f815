-- A search that looks at one item after another finds what is to be found.
use Rattle.std.proofs.Common.{◌≡◌, ℕ, ◌≤◌, Bool, true, false, List, [], ◌∷◌, ◌++◌, length, Option, Some, None, refl, ap, sym, subst, ◌∙◌}
use Rattle.std.specs.Prelude.{◌&&◌, nat_lt, nat_eq, fold, if◌then◌else◌}
use Rattle.std.specs.List.{starts_with}
use Rattle.std.specs.Option.{option_map}
use Rattle.std.proofs.lemmas.Bool.{le-ltb}
use Rattle.host_types.specs.Site.{Site, IsSite, item_after}
use Rattle.host_types.specs.Visible.{visible}
use Rattle.host_types.specs.Words.{words_in}
use Rattle.host_types.specs.declared.item.Item.{Item}
use Rattle.word_search.specs.Gathered.{searched_at}
use Rattle.word_search.specs.Finds.{find_of, finds_of}
use Rattle.word_search.specs.declared.find.Find.{Find}
use Rattle.mem_site.proofs.FoundEntries.{found_all, search_at}
use Rattle.site_store.specs.FilterSearch.{all_found, IsLeftToFilter}
use Rattle.site_store.specs.Walking.{Entry, selector_after}
use Rattle.site_store.proofs.FoundItems.{kept_sorted}
use Rattle.site_store.proofs.RisingKeys.{rest_of, none_left, next_left, first_entry}
use Rattle.site_store.proofs.ItemWalks.{has_top, next_stands}

pub unmoved : (b : Bool) (found more : List Find) → (if b && false then more else found) ≡ found
unmoved true found more = refl
unmoved false found more = refl

pub none_above : (s : Site) (q : List ℕ) → None ≡ selector_after s q → item_after s q ≡ None
none_above s q none =
    elim (item_after s q) as (λ (o : Option Entry). None ≡ option_map {U = List ℕ} (λ e. e.0) o → o ≡ None) [
      | None ↦ λ _. refl
      | Some p ↦ λ some. absurd (cc some)
    ] none

module _ (now : ℕ) where
  -- what is out of the scope is not found
  pub out_of_scope : (scope : List ℕ) (asked : List (List ℕ)) (found : List Find) (e : List ℕ × Item) → starts_with nat_eq e.0 scope ≡ false → found ≡ searched_at now scope asked found e
  unfolding searched_at
  out_of_scope scope asked found e out = rw out (sym (unmoved (nat_lt (length found) 100) found (found ++ find_of e ∷ [])))

  -- where enough are found, no more are
  enough_now : (scope : List ℕ) (asked : List (List ℕ)) (found : List Find) (e : Entry) → 100 ≤ length found → searched_at now scope asked found e ≡ found
  unfolding searched_at
  enough_now scope asked found e many = rw (le-ltb (length found) 100 many) refl

  pub enough : (scope : List ℕ) (asked : List (List ℕ)) (found : List Find) (es : List Entry) → 100 ≤ length found → fold (searched_at now scope asked) found es ≡ found
  enough scope asked found [] many = refl
  enough scope asked found (e ∷ es) many = ap (λ (l : List Find). fold (searched_at now scope asked) l es) (enough_now scope asked found e many) ∙ enough scope asked found es many

  -- ---- one step

  -- what is found once the item at the selector was examined
  abbrev IsFoundNext : (s : Site) (scope : List ℕ) (asked : List (List ℕ)) (old new : List Find) (selector : List ℕ) (left : IsLeftToFilter now s scope asked old selector) → Type 0
  IsFoundNext s scope asked old new selector left = new ≡ searched_at now scope asked old (selector, left.item)

  searched_rest : (s : Site) (scope : List ℕ) (asked : List (List ℕ)) (old new : List Find) (selector : List ℕ) (left : IsLeftToFilter now s scope asked old selector) → IsFoundNext s scope asked old new selector left → fold (searched_at now scope asked) new (rest_of s.items selector) ≡ all_found now s scope asked
  searched_rest s scope asked old new selector left reads_only = ap (λ (l : List Find). fold (searched_at now scope asked) l (rest_of s.items selector)) reads_only ∙ left.rest

  pub stops_full : (s : Site) (scope : List ℕ) (asked : List (List ℕ)) (old new : List Find) (selector : List ℕ) (left : IsLeftToFilter now s scope asked old selector) → IsFoundNext s scope asked old new selector left → 100 ≤ length new → new ≡ all_found now s scope asked
  stops_full s scope asked old new selector left reads_only many = sym (enough scope asked new (rest_of s.items selector) many) ∙ searched_rest s scope asked old new selector left reads_only

  pub stops_last : (s : Site) (scope : List ℕ) (asked : List (List ℕ)) (old new : List Find) (selector : List ℕ) (left : IsLeftToFilter now s scope asked old selector) → IsFoundNext s scope asked old new selector left → None ≡ selector_after s selector → new ≡ all_found now s scope asked
  stops_last s scope asked old new selector left reads_only none =
      ap (fold (searched_at now scope asked) new) (sym (none_left s.items selector (none_above s selector none))) ∙ searched_rest s scope asked old new selector left reads_only

  pub goes_further : (s : Site) (scope : List ℕ) (asked : List (List ℕ)) (old new : List Find) (selector next : List ℕ) → ∥ IsSite s ∥₁ → (left : IsLeftToFilter now s scope asked old selector) → IsFoundNext s scope asked old new selector left → Some next ≡ selector_after s selector → IsLeftToFilter now s scope asked new next
  goes_further s scope asked old new selector next site left reads_only some =
      let n = next_stands s selector next site some in
      record {
        item = n.item;
        stands = n.stands;
        rest = ap (fold (searched_at now scope asked) new) (sym (next_left s.items selector (next, n.item) (kept_sorted s site) n.is_next)) ∙ searched_rest s scope asked old new selector left reads_only;
      }

  -- ---- from the first item to the last

  pub first_left : (s : Site) (scope : List ℕ) (asked : List (List ℕ)) (found : List Find) (top : List ℕ) → ∥ IsSite s ∥₁ → found ≡ [] → top ≡ [] → IsLeftToFilter now s scope asked found top
  first_left s scope asked found top site nothing is =
      let t = has_top s site in
      subst (λ (q : List ℕ). IsLeftToFilter now s scope asked found q) (sym is) (record {
        item = t.0;
        stands = t.1;
        rest = ap (λ (l : List Find). fold (searched_at now scope asked) l (([], t.0) ∷ rest_of s.items [])) nothing ∙ ap (fold (searched_at now scope asked) []) (sym (first_entry s.items t.0 (kept_sorted s site) t.1));
      })

  pub all_searched : (s : Site) (scope query : List ℕ) → ∥ IsSite s ∥₁ → all_found now s scope (words_in query) ≡ finds_of (visible s now) scope query
  all_searched s scope query site = found_all now scope (words_in query) s.items ∙ search_at s now scope query (kept_sorted s site)
