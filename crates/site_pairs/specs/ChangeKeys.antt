-- The keys that a change of a site puts or removes.
use Rattle.std.specs.Prelude.{ℕ, List, [], ◌∷◌, ◌++◌, map, Option, Result, Ok, Err}
use Rattle.std.specs.BTreeSet.{insert_key}
use Rattle.host_types.specs.Site.{Site, byte_cmp, item_at}
use Rattle.host_types.specs.Change.{apply, touched}
use Rattle.host_types.specs.AllChanges.{Changes}
use Rattle.host_types.specs.declared.change.Change.{Change}
use Rattle.host_types.specs.declared.item.Item.{Item}
use Rattle.common_types.specs.declared.refused.Refused.{Refused}
use Rattle.site_pairs.specs.Edits.{pairs_beside}

-- the keys of what stands at a selector, but those of the words that something else has too
abbrev pub keys_beside : List ℕ → Option Item → Option Item → List (List ℕ)
keys_beside selector item other = map (λ p. p.0) (pairs_beside selector item other)

-- the keys of what stands at these selectors in a site, but those of the words that what stands there in another site has too
abbrev pub keys_in : Site → Site → List (List ℕ) → List (List ℕ)
keys_in s other [] = []
keys_in s other (selector ∷ selectors) = keys_beside selector (item_at s selector) (item_at other selector) ++ keys_in s other selectors

-- those of before, and those of after; none where the change is refused
abbrev pub keys_between : Site → Result Site Refused → List (List ℕ) → List (List ℕ)
keys_between s (Ok t) selectors = keys_in s t selectors ++ keys_in t s selectors
keys_between s (Err e) selectors = []

-- some keys in byte order, each once
abbrev pub each_once : List (List ℕ) → List (List ℕ)
each_once [] = []
each_once (key ∷ keys) = insert_key byte_cmp (each_once keys) key

-- the keys of the data of the items that a change changes, before and after, and those of the words that an item has only before or only after: each once, in byte order
unfoldable pub keys_of : Site → Change → ℕ → List (List ℕ)
keys_of s change now = each_once (keys_between s (apply s change now) (touched s change))

-- keys of the changes behind one that is made; of one that is refused there are none
abbrev pub keys_behind : (Site → List (List ℕ)) → Result Site Refused → List (List ℕ)
keys_behind keys (Ok t) = keys t
keys_behind keys (Err e) = []

-- the keys of each of some changes, on the site with those before it
abbrev pub keys_of_each : Site → Changes → List (List ℕ)
keys_of_each s [] = []
keys_of_each s (c ∷ changes) = keys_between s (apply s c.0 c.1) (touched s c.0) ++ keys_behind (λ t. keys_of_each t changes) (apply s c.0 c.1)

-- the keys of all of some changes that are made in one step: each once, in byte order
unfoldable pub keys_of_all : Site → Changes → List (List ℕ)
keys_of_all s changes = each_once (keys_of_each s changes)
