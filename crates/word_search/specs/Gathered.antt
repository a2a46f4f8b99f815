-- Words and finds that are gathered one by one.
use Rattle.std.specs.Prelude.{ℕ, Bool, not, List, [], ◌∷◌, ◌++◌, ◌&&◌, length, nat_lt, nat_eq, fold, if◌then◌else◌}
use Rattle.std.specs.List.{starts_with}
use Rattle.host_types.specs.declared.item.Item.{Item}
use Rattle.host_types.specs.Visible.{is_fresh}
use Rattle.host_types.specs.Words.{is_among}
use Rattle.word_search.specs.Finds.{find_of}
use Rattle.word_search.specs.Search.{is_found}
use Rattle.word_search.specs.declared.find.Find.{Find}

-- a word that is new, while there is room
unfoldable pub added : List (List ℕ) → List ℕ → List (List ℕ)
added words word = if nat_lt (length words) 200 && not (is_among words word) then words ++ word ∷ [] else words

abbrev pub gathered : List (List ℕ) → List (List ℕ) → List (List ℕ)
gathered words more = fold added words more

-- an item that is found, and has not expired
abbrev pub is_sought : ℕ → List ℕ → List (List ℕ) → List ℕ × Item → Bool
is_sought now scope asked e = is_found scope asked e && is_fresh now e

-- an item that is found, while there is room
unfoldable pub searched_at : ℕ → List ℕ → List (List ℕ) → List Find → List ℕ × Item → List Find
searched_at now scope asked found e = if nat_lt (length found) 100 && is_sought now scope asked e then found ++ find_of e ∷ [] else found

-- an item whose words are made: there is room, it has not expired, and its selector begins with the scope
abbrev pub is_looked_into : ℕ → List ℕ → List Find → List ℕ × Item → Bool
is_looked_into now scope found e = nat_lt (length found) 100 && (is_fresh now e && starts_with nat_eq e.0 scope)
