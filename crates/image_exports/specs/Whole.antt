-- An item that is known by its card, and the bytes of its views.
use Rattle.std.specs.Prelude.{◌≡◌, ℕ, List, map, slice_get}
use Rattle.host_types.specs.Site.{Site}
use Rattle.host_types.specs.Card.{card_view, card_body, bytes_of, viewed, viewed_at}
use Rattle.host_types.specs.declared.card.CardBody.{CardBody}
use Rattle.host_types.specs.declared.card.CardView.{CardView}
use Rattle.host_types.specs.declared.item.Body.{Body}
use Rattle.host_types.specs.declared.view.View.{View}

-- the view of this card, at a place of what stands at a selector
abbrev pub IsViewAt : Site → List ℕ → ℕ → CardView → View → Type 0
IsViewAt s selector place card view = (card ≡ card_view view) × (viewed_at s selector place ≡ view.bytes)

-- all views of these cards
abbrev pub AreViewsAt : Site → List ℕ → List CardView → List View → Type 0
AreViewsAt s selector cards views = (cards ≡ map card_view views) × ((place : ℕ) → viewed_at s selector place ≡ bytes_of (slice_get views place))

-- the body of this card
abbrev pub IsBodyAt : Site → List ℕ → CardBody → Body → Type 0
IsBodyAt s selector card body = (card ≡ card_body body) × ((place : ℕ) → viewed_at s selector place ≡ viewed body place)
