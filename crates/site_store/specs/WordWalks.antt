-- The items of a site that have a word, one after another.
use Rattle.std.specs.Prelude.{◌≡◌, ℕ, Bool, true, suc, nat_eq, if◌then◌else◌, ◌&&◌, List, filter, find, drop, length, Option, Some, None}
use Rattle.std.specs.List.{starts_with}
use Rattle.std.specs.Option.{option_map}
use Rattle.std.specs.Ordering.{is_lt}
use Rattle.host_types.specs.Site.{Site, byte_cmp}
use Rattle.host_types.specs.Words.{words_of, is_among}
use Rattle.host_types.specs.declared.item.Item.{Item}
use Rattle.page_store.specs.StoreState.{StoreState}
use Rattle.site_records.specs.Keys.{word_key}
use Rattle.site_store.specs.StoreReads.{StandsAt}
use Rattle.site_store.specs.Walking.{Entry}

-- an item within the scope that has the word
abbrev pub is_with : List ℕ → List ℕ → Entry → Bool
is_with scope word e = starts_with nat_eq e.0 scope && is_among (words_of e.1) word

-- the items within the scope that have the word, in byte order
abbrev pub items_with : Site → List ℕ → List ℕ → List Entry
items_with s scope word = filter (is_with scope word) s.items

-- the selector of the first of them above a selector
abbrev pub next_with : Site → List ℕ → List ℕ → List ℕ → Option (List ℕ)
next_with s scope word selector = option_map (λ e. e.0) (find (λ e. is_lt (byte_cmp selector e.0)) (items_with s scope word))

-- the selector of which a key is that of the word, where it begins with the scope; other keys are of none
abbrev pub named_by : List ℕ → List ℕ → List ℕ → Option (List ℕ)
named_by scope word key = if starts_with nat_eq key (word_key word scope) then Some (drop (suc (suc (length word))) key) else None

-- the key of a word and some selector
abbrev pub IsKeyOf : List ℕ → List ℕ → Type 0
IsKeyOf word key = (selector : List ℕ) × (key ≡ word_key word selector)

-- the next item within the scope behind a selector of the scope, by the key of the word and that selector
abbrev pub GoesToNext : Site → List ℕ → List ℕ → List ℕ → Option (List ℕ) → Type 0
GoesToNext s scope word key next = (selector : List ℕ) → key ≡ word_key word selector → starts_with nat_eq selector scope ≡ true → next ≡ next_with s scope word selector

-- This item, which has the word, stands at a selector of the site that is kept.
abbrev pub StandsWith : List ℕ → List ℕ → StoreState → Item → Type 0
StandsWith selector word h item = StandsAt selector h item × (is_among (words_of item) word ≡ true)
