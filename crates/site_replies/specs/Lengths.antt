-- What a card says of the views of its document.
use Rattle.std.specs.Prelude.{◌≡◌, ◌<◌, ℕ, List, length, slice_index_or}
use Rattle.host_types.specs.declared.card.CardView.{CardView}
use Rattle.host_types.specs.declared.card.CardBody.{CardBody}
use Rattle.host_types.specs.declared.card.CardBody.TheVariants as cards

-- each view is as long as the bytes at its place
abbrev pub AreLengths : List CardView → (ℕ → List ℕ) → Type 0
AreLengths views bytes = (place : ℕ) (none : CardView) → place < length views → length (bytes place) ≡ (slice_index_or views place none).length

-- what is no document has no views
abbrev pub HasLengths : CardBody → (ℕ → List ℕ) → Type 0
HasLengths (cards.Views kind views) bytes = AreLengths views bytes
HasLengths (cards.Menu entries) bytes = Unit {0}
HasLengths (cards.Board cap next) bytes = Unit {0}
HasLengths (cards.Form board questions) bytes = Unit {0}
HasLengths (cards.Search scope) bytes = Unit {0}
HasLengths (cards.Moved target) bytes = Unit {0}
