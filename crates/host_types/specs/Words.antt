-- The words of an item. This project's profile.
use Rattle.std.specs.Prelude.{ℕ, Bool, not, Option, Some, None, List, [], ◌∷◌, ◌++◌, ◌==◌, length, map, filter, take, bytes_eq}
use Rattle.std.specs.List.{slice_split, list_any}
use Rattle.std.specs.Char.{is_ascii_alphanumeric, to_ascii_lowercase}
use Rattle.host_types.specs.Card.{card_of, viewed}
use Rattle.host_types.specs.declared.item.Item.{Item}
use Rattle.host_types.specs.declared.view.Kind.{Kind}
use Rattle.host_types.specs.declared.view.Kind.TheVariants as kinds
use Rattle.host_types.specs.declared.card.Card.{Card}
use Rattle.host_types.specs.declared.card.CardBody.{CardBody}
use Rattle.host_types.specs.declared.card.CardBody.TheVariants as cards

abbrev pub is_gap : ℕ → Bool
is_gap b = not (is_ascii_alphanumeric b)

abbrev pub is_some_run : List ℕ → Bool
is_some_run run = not (length run == 0)

-- a run of letters and digits as a word: cut to 32 bytes, in lower case
unfoldable pub word_of : List ℕ → List ℕ
word_of run = map to_ascii_lowercase (take 32 run)

-- the words of some bytes in their order: the longest runs of letters and digits
abbrev pub words_in : List ℕ → List (List ℕ)
words_in bytes = map word_of (filter is_some_run (slice_split is_gap bytes))

abbrev pub is_among : List (List ℕ) → List ℕ → Bool
is_among words word = list_any (bytes_eq word) words

-- each word where it stands first
abbrev pub distinct : List (List ℕ) → List (List ℕ)
distinct [] = []
distinct (word ∷ words) = word ∷ filter (λ other. not (bytes_eq word other)) (distinct words)

-- the first 200 different ones
unfoldable pub first_words : List (List ℕ) → List (List ℕ)
first_words words = take 200 (distinct words)

-- a text is searched in its first view, other documents in none
abbrev pub searched_kind : Kind → List ℕ → List ℕ
searched_kind kinds.Text bytes = bytes
searched_kind kinds.BinHex bytes = []
searched_kind kinds.DosArchive bytes = []
searched_kind kinds.Uuencoded bytes = []
searched_kind kinds.Binary bytes = []
searched_kind kinds.Gif bytes = []
searched_kind kinds.Image bytes = []
searched_kind kinds.Html bytes = []

-- what is searched beside title and summary; a moved item has no words at all
abbrev pub searched : CardBody → List ℕ → Option (List ℕ)
searched (cards.Views kind views) bytes = Some (searched_kind kind bytes)
searched (cards.Menu entries) bytes = Some []
searched (cards.Board cap next) bytes = Some []
searched (cards.Form board questions) bytes = Some []
searched (cards.Search scope) bytes = Some []
searched (cards.Moved target) bytes = None

-- all that is said, in its order
abbrev pub said_in : Card → Option (List ℕ) → List (List ℕ)
said_in card None = []
said_in card (Some text) = words_in card.title ++ words_in card.summary ++ words_in text

-- the words of an item by its card and the bytes of its first view
abbrev pub card_words : Card → List ℕ → List (List ℕ)
card_words card bytes = first_words (said_in card (searched card.body bytes))

abbrev pub words_of : Item → List (List ℕ)
words_of item = card_words (card_of item) (viewed item.body 0)
