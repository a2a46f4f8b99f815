-- A search over the keys of a word finds what is to be found.
use Rattle.std.proofs.Common.{◌≡◌, ℕ, ◌<◌, ◌≤◌, Bool, true, false, cond, List, [], ◌∷◌, ◌++◌, length, Option, Some, None, refl, ap, sym, ◌∙◌, arith}
use Rattle.std.specs.Prelude.{IsTrue, ◌&&◌, ◌||◌, nat_eq, nat_lt, bytes_eq, fold}
use Rattle.std.specs.List.{list_all, starts_with}
use Rattle.std.specs.Option.{option_map}
use Rattle.std.specs.FinMap.{is_sorted}
use Rattle.std.proofs.lemmas.Bool.{and_parts, eq-eqb, lt-ltb}
use Rattle.std.proofs.lemmas.Slice.Eq.{bytes_eq-Decides}
use Rattle.host_types.specs.Site.{Site, byte_cmp, item_at}
use Rattle.host_types.specs.Visible.{is_fresh}
use Rattle.host_types.specs.Words.{words_of, is_among}
use Rattle.host_types.specs.declared.item.Item.{Item}
use Rattle.site_records.specs.Layout.{has_word}
use Rattle.word_search.specs.Finds.{find_of}
use Rattle.word_search.specs.Gathered.{searched_at}
use Rattle.word_search.specs.declared.find.Find.{Find}
use Rattle.word_search.specs.Search.{holds, is_found}
use Rattle.site_store.specs.FilterSearch.{all_found}
use Rattle.site_store.specs.Walking.{Entry}
use Rattle.site_store.specs.WordWalks.{is_with, items_with, next_with}
use Rattle.site_store.specs.Searching.{found_with, IsLeftToFind}
use Rattle.site_store.proofs.FilterSearches.{unmoved, enough}
use Rattle.site_store.proofs.KeyFronts.{not_below_front}
use Rattle.site_store.proofs.KeptEntries.{sorted_kept, kept_in, kept_there, fold_kept, none_kept, all_above, first_there}
use Rattle.site_store.proofs.RisingKeys.{is_below, found, next_of, rest_of, clash, is_next, none_left, next_left}

-- ---- a word that is asked for

-- an item that has all words has each
has_each : (words asked : List (List ℕ)) (word : List ℕ) → list_all (is_among words) asked ≡ true → is_among asked word ≡ true → is_among words word ≡ true
has_each words [] word all among = absurd (cc among)
has_each words (a ∷ asked) word all among =
    let parts = and_parts (is_among words a) (list_all (is_among words) asked) all in
    elim (bytes_eq word a) as (λ b. bytes_eq word a ≡ b → (b || is_among asked word) ≡ true → is_among words word ≡ true) [
      | true ↦ λ b _. ap (is_among words) ((bytes_eq-Decides word a).0 b) ∙ parts.0
      | false ↦ λ b rest. has_each words asked word parts.1 rest
    ] refl among

-- one word at least is asked for
all_hold : (words asked : List (List ℕ)) (word : List ℕ) → is_among asked word ≡ true → holds words asked ≡ list_all (is_among words) asked
all_hold words [] word among = absurd (cc among)
all_hold words (a ∷ asked) word among = refl

-- what lacks the word is not found
not_found : (scope word : List ℕ) (asked : List (List ℕ)) (e : Entry) → is_among asked word ≡ true → is_with scope word e ≡ false → is_found scope asked e ≡ false
not_found scope word asked e among without =
    elim (is_found scope asked e) as (λ b. is_found scope asked e ≡ b → b ≡ false) [
      | true ↦ λ b.
          let parts = and_parts (starts_with nat_eq e.0 scope) (holds (words_of e.1) asked) b in
          let has = has_each (words_of e.1) asked word (sym (all_hold (words_of e.1) asked word among) ∙ parts.1) among in
          let is : is_with scope word e ≡ true = rw (parts.0, has) refl in
          absurd (clash (is_with scope word e) is without)
      | false ↦ λ b. refl
    ] refl

passed_over : (now : ℕ) (scope word : List ℕ) (asked : List (List ℕ)) → is_among asked word ≡ true → (old : List Find) (e : Entry) → is_with scope word e ≡ false → searched_at now scope asked old e ≡ old
unfolding searched_at
passed_over now scope word asked among old e without =
    ap (λ (b : Bool). cond (nat_lt (length old) 100 && (b && is_fresh now e)) (old ++ find_of e ∷ []) old) (not_found scope word asked e among without) ∙ unmoved (nat_lt (length old) 100) old (old ++ find_of e ∷ [])

-- so only the items that have the word are to be looked at
only_with : (now : ℕ) (s : Site) (scope word : List ℕ) (asked : List (List ℕ)) → is_among asked word ≡ true → fold (searched_at now scope asked) [] (items_with s scope word) ≡ all_found now s scope asked
only_with now s scope word asked among = sym (fold_kept (searched_at now scope asked) (is_with scope word) s.items [] (passed_over now scope word asked among))

looked_at : (now : ℕ) (scope word : List ℕ) (asked : List (List ℕ)) (old : List Find) (selector : List ℕ) (item : Item) → is_among asked word ≡ true → length old < 100 → starts_with nat_eq selector scope ≡ true → searched_at now scope asked old (selector, item) ≡ found_with now asked old selector item
unfolding searched_at
looked_at now scope word asked old selector item among room within = rw (lt-ltb (length old) 100 room, within, all_hold (words_of item) asked word among) refl

-- ---- the scope itself

begins_itself : (a : List ℕ) → starts_with nat_eq a a ≡ true
begins_itself [] = refl
begins_itself (x ∷ a) = rw (eq-eqb x x refl, begins_itself a) refl

none_below : (s : Site) (scope word : List ℕ) (e : Entry) → is_with scope word e ≡ true → is_below e.0 scope ≡ false
none_below s scope word e passes = not_below_front scope e.0 (and_parts (starts_with nat_eq e.0 scope) (is_among (words_of e.1) word) passes).0

-- An item that has the word stands at a selector.
pub record IsHolder (s : Site) (selector word : List ℕ) : Type 0 where
  pub item : Item
  pub stands : item_at s selector ≡ Some item
  pub has : is_among (words_of item) word ≡ true

pub holder : (s : Site) (selector word : List ℕ) → has_word (item_at s selector) word ≡ true → IsHolder s selector word
holder s selector word has =
    elim (item_at s selector) as (λ o. item_at s selector ≡ o → has_word o word ≡ true → IsHolder s selector word) [
      | None ↦ λ e none. absurd (cc none)
      | Some item ↦ λ e is. record { item = item; stands = e; has = is }
    ] refl has

-- the item at the scope has the word
pub begins_here : (now : ℕ) (s : Site) (scope word : List ℕ) (asked : List (List ℕ)) (new : List Find) (item : Item) → IsTrue (is_sorted byte_cmp s.items) → is_among asked word ≡ true → item_at s scope ≡ Some item → is_among (words_of item) word ≡ true → new ≡ found_with now asked [] scope item → IsLeftToFind now s scope word asked new scope
begins_here now s scope word asked new item sorted among stands has is =
    let es = items_with s scope word in
    let passes : is_with scope word (scope, item) ≡ true = rw (begins_itself scope, has) refl in
    let first = first_there es scope item (sorted_kept (is_with scope word) s.items sorted) (none_kept (is_with scope word) scope s.items (none_below s scope word)) (kept_there (is_with scope word) s.items scope item stands passes) in
    record {
      within = begins_itself scope;
      rest =
          ap (λ (l : List Find). fold (searched_at now scope asked) l (rest_of es scope)) (is ∙ sym (looked_at now scope word asked [] scope item among (omega arith) (begins_itself scope)))
          ∙ ap (fold (searched_at now scope asked) []) (sym first)
          ∙ only_with now s scope word asked among;
    }

-- it doesn't, or no item stands there
pub begins_above : (now : ℕ) (s : Site) (scope word : List ℕ) (asked : List (List ℕ)) (new : List Find) → IsTrue (is_sorted byte_cmp s.items) → is_among asked word ≡ true → has_word (item_at s scope) word ≡ false → new ≡ [] → IsLeftToFind now s scope word asked new scope
begins_above now s scope word asked new sorted among lacks is =
    let es = items_with s scope word in
    let nothing : found es scope ≡ None =
    elim (found es scope) as (λ o. found es scope ≡ o → o ≡ None) [
      | None ↦ λ e. refl
      | Some item ↦ λ e.
          let there = kept_in (is_with scope word) s.items scope item sorted e in
          let has = (and_parts (starts_with nat_eq scope scope) (is_among (words_of item) word) there.1).1 in
          absurd (clash (has_word (item_at s scope) word) (ap (λ (o : Option Item). has_word o word) there.0 ∙ has) lacks)
    ] refl in
    record {
      within = begins_itself scope;
      rest =
          ap (λ (l : List Find). fold (searched_at now scope asked) l (rest_of es scope)) is
          ∙ ap (fold (searched_at now scope asked) []) (all_above es scope (none_kept (is_with scope word) scope s.items (none_below s scope word)) nothing)
          ∙ only_with now s scope word asked among;
    }

-- ---- one step

pub stops_full : (now : ℕ) (s : Site) (scope word : List ℕ) (asked : List (List ℕ)) (old : List Find) (last : List ℕ) → IsLeftToFind now s scope word asked old last → 100 ≤ length old → old ≡ all_found now s scope asked
stops_full now s scope word asked old last left many = sym (enough now scope asked old (rest_of (items_with s scope word) last) many) ∙ left.rest

none_with : (o : Option Entry) → None ≡ option_map {U = List ℕ} (λ e. e.0) o → o ≡ None
none_with None none = refl
none_with (Some e) none = absurd (cc none)

pub stops_last : (now : ℕ) (s : Site) (scope word : List ℕ) (asked : List (List ℕ)) (old : List Find) (last : List ℕ) → IsLeftToFind now s scope word asked old last → None ≡ next_with s scope word last → old ≡ all_found now s scope asked
stops_last now s scope word asked old last left none =
    let es = items_with s scope word in
    ap (fold (searched_at now scope asked) old) (sym (none_left es last (none_with (next_of es last) none))) ∙ left.rest

-- The next item that has the word.
pub record IsNextItem (s : Site) (scope word last next : List ℕ) : Type 0 where
  pub item : Item
  pub stands : item_at s next ≡ Some item
  pub within : starts_with nat_eq next scope ≡ true
  pub has : is_among (words_of item) word ≡ true
  pub is_next : next_of (items_with s scope word) last ≡ Some (next, item)

pub next_item : (s : Site) (scope word last next : List ℕ) → IsTrue (is_sorted byte_cmp s.items) → Some next ≡ next_with s scope word last → IsNextItem s scope word last next
next_item s scope word last next sorted is =
    let es = items_with s scope word in
    elim (next_of es last) as (λ o. next_of es last ≡ o → Some next ≡ option_map {U = List ℕ} (λ e. e.0) o → IsNextItem s scope word last next) [
      | None ↦ λ e none. absurd (cc none)
      | Some p ↦ λ e some.
          let same : p.0 ≡ next = cc some in
          let there = kept_in (is_with scope word) s.items p.0 p.1 sorted (is_next es last p (sorted_kept (is_with scope word) s.items sorted) e).stands in
          let parts = and_parts (starts_with nat_eq p.0 scope) (is_among (words_of p.1) word) there.1 in
          record {
            item = p.1;
            stands = ap (item_at s) (sym same) ∙ there.0;
            within = ap (λ (q : List ℕ). starts_with nat_eq q scope) (sym same) ∙ parts.0;
            has = parts.1;
            is_next = e ∙ (λ i. Some (same i, p.1));
          }
    ] refl is

pub goes_further : (now : ℕ) (s : Site) (scope word : List ℕ) (asked : List (List ℕ)) (old new : List Find) (last next : List ℕ) → IsTrue (is_sorted byte_cmp s.items) → is_among asked word ≡ true → length old < 100 → IsLeftToFind now s scope word asked old last → (n : IsNextItem s scope word last next) → new ≡ found_with now asked old next n.item → IsLeftToFind now s scope word asked new next
goes_further now s scope word asked old new last next sorted among room left n is =
    let es = items_with s scope word in
    record {
      within = n.within;
      rest =
          ap (λ (l : List Find). fold (searched_at now scope asked) l (rest_of es next)) (is ∙ sym (looked_at now scope word asked old next n.item among room n.within))
          ∙ ap (fold (searched_at now scope asked) old) (sym (next_left es last (next, n.item) (sorted_kept (is_with scope word) s.items sorted) n.is_next))
          ∙ left.rest;
    }

-- ---- no word is asked for

nothing_asked : (now : ℕ) (scope : List ℕ) (found : List Find) (e : Entry) → searched_at now scope [] found e ≡ found
unfolding searched_at
nothing_asked now scope found e = by (starts_with nat_eq e.0 scope) (nat_lt (length found) 100)
  where
    by : (b c : Bool) → cond (c && ((b && false) && is_fresh now e)) (found ++ find_of e ∷ []) found ≡ found
    by true true = refl
    by false true = refl
    by b false = refl

none_found : (now : ℕ) (scope : List ℕ) (es : List Entry) → fold (searched_at now scope []) [] es ≡ []
none_found now scope [] = refl
none_found now scope (e ∷ es) = ap (λ (l : List Find). fold (searched_at now scope []) l es) (nothing_asked now scope [] e) ∙ none_found now scope es

pub finds_nothing : (now : ℕ) (s : Site) (scope : List ℕ) (asked : List (List ℕ)) → asked ≡ [] → all_found now s scope asked ≡ []
finds_nothing now s scope asked none = ap (all_found now s scope) none ∙ none_found now scope s.items
