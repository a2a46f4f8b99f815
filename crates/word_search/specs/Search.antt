-- Searches. RFC 1436, section 3.8 (type 7); that all words of the query have to be there, and the greatest count, are this project's profile.
use Rattle.std.specs.Prelude.{ℕ, Bool, false, List, [], ◌∷◌, ◌&&◌, filter, map, take, nat_eq}
use Rattle.std.specs.List.{list_all, starts_with}
use Rattle.host_types.specs.Site.{Site}
use Rattle.host_types.specs.declared.item.Item.{Item}
use Rattle.host_types.specs.Words.{words_in, words_of, is_among}

-- at least one word is asked for, and all are there
abbrev pub holds : List (List ℕ) → List (List ℕ) → Bool
holds words [] = false
holds words (asked ∷ others) = list_all (is_among words) (asked ∷ others)

-- an item whose selector begins with the scope and whose words hold all that are asked for
abbrev pub is_found : List ℕ → List (List ℕ) → List ℕ × Item → Bool
is_found scope asked e = starts_with nat_eq e.0 scope && holds (words_of e.1) asked

-- the selectors of the first 100 items that are found, in byte order
unfoldable pub search_of : Site → List ℕ → List ℕ → List (List ℕ)
search_of s scope query = map (λ e. e.0) (take 100 (filter (is_found scope (words_in query)) s.items))
