-- A search over the keys of a word.
use Rattle.std.specs.Prelude.{◌&&◌, ◌≡◌, ℕ, ◌<◌, ◌≤◌, Bool, true, false, List, [], ◌∷◌, ◌++◌, length, Option, Some, None, nat_eq, nat_lt, fold, filter, if◌then◌else◌}
use Rattle.std.specs.List.{AllByRecursion, list_all, starts_with}
use Rattle.std.specs.Ordering.{is_lt}
use Rattle.host_types.specs.Site.{Site, byte_cmp}
use Rattle.host_types.specs.Card.{card_of}
use Rattle.host_types.specs.Fronts.{front_of}
use Rattle.host_types.specs.Visible.{is_over, is_fresh}
use Rattle.host_types.specs.declared.front.CardFront.{CardFront}
use Rattle.host_types.specs.Words.{words_of, is_among}
use Rattle.host_types.specs.declared.item.Item.{Item}
use Rattle.site_records.specs.Keys.{word_key}
use Rattle.word_search.specs.Finds.{find_of}
use Rattle.word_search.specs.Gathered.{searched_at}
use Rattle.word_search.specs.declared.find.Find.{Find}
use Rattle.site_store.specs.FilterSearch.{all_found}
use Rattle.site_store.specs.declared.word_keys.WordKeys.{WordKeys}
use Rattle.site_store.specs.WordWalks.{items_with}

-- The first of the longest words.
pub record IsLongest (words : List (List ℕ)) (word : List ℕ) : Type 0 where
  pub before : List (List ℕ)
  pub after : List (List ℕ)
  pub stands : words ≡ before ++ word ∷ after
  pub shorter : AllByRecursion (λ w. length w < length word) before
  pub no_longer : AllByRecursion (λ w. length w ≤ length word) after

-- With no words there is none.
abbrev pub IsLongestIn : List (List ℕ) → Option (List ℕ) → Type 0
IsLongestIn words None = words ≡ []
IsLongestIn words (Some word) = IsLongest words word

-- the longer of two words, the first where both are as long; with no first one the other
abbrev pub longer : Option (List ℕ) → List ℕ → List ℕ
longer None other = other
longer (Some first) other = if nat_lt (length first) (length other) then other else first

-- what the line of a menu says of an item, unless it has expired
abbrev pub unless_over : ℕ → CardFront → Option CardFront
unless_over now front = if is_over front.until now then None else Some front

abbrev pub fresh_front : ℕ → Item → Option CardFront
fresh_front now item = unless_over now (front_of (card_of item))

-- what is found once an item has been looked at, where all words that are asked for are to be among its own and it hasn't expired
abbrev pub found_with : ℕ → List (List ℕ) → List Find → List ℕ → Item → List Find
found_with now asked found selector item = if list_all (is_among (words_of item)) asked && is_fresh now (selector, item) then found ++ find_of (selector, item) ∷ [] else found

-- Where the items with the word above a selector of the scope are looked at too, all that is to be found is found.
pub record IsLeftToFind (now : ℕ) (s : Site) (scope word : List ℕ) (asked : List (List ℕ)) (found : List Find) (selector : List ℕ) : Type 0 where
  pub within : starts_with nat_eq selector scope ≡ true
  pub rest : fold (searched_at now scope asked) found (filter (λ e. is_lt (byte_cmp selector e.0)) (items_with s scope word)) ≡ all_found now s scope asked

-- The same of the selector that a key of the word names.
pub record IsLeftBehind (now : ℕ) (s : Site) (keys : WordKeys) (asked : List (List ℕ)) (found : List Find) (key : List ℕ) : Type 0 where
  pub selector : List ℕ
  pub key_is : key ≡ word_key keys.word.now selector
  pub left : IsLeftToFind now s keys.scope.now keys.word.now asked found selector

-- Items are left, or all is found.
abbrev pub IsFurther : ℕ → Site → WordKeys → List (List ℕ) → Bool → List Find → List ℕ → Type 0
IsFurther now s keys asked true found key = IsLeftBehind now s keys asked found key
IsFurther now s keys asked false found key = found ≡ all_found now s keys.scope.now asked
