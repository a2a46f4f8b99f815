-- The card of an item is that of a form exactly where the item is one.
use Rattle.std.proofs.Common.{◌≡◌, ℕ, List, refl}
use Rattle.std.specs.Prelude.{Option, Some, None}
use Rattle.std.specs.Option.{option_map}
use Rattle.host_types.specs.Site.{Site, item_at}
use Rattle.host_types.specs.Card.{card_of, card_body, card_at}
use Rattle.host_types.specs.declared.item.Item.{Item}
use Rattle.host_types.specs.declared.item.Body.{Body}
use Rattle.host_types.specs.declared.item.Body.TheVariants as bodies
use Rattle.text_writer.specs.Menu.{is_form as is_form_card}
use Rattle.site_replies.specs.Forms.{is_form, is_form_in, is_form_by}

form_body : (body : Body) → is_form_card (card_body body) ≡ is_form body
form_body (bodies.Views kind views) = refl
form_body (bodies.Menu es) = refl
form_body (bodies.Board cap next) = refl
form_body (bodies.Form board questions) = refl
form_body (bodies.Search scope) = refl
form_body (bodies.Moved target) = refl

form_item : (o : Option Item) → is_form_by (option_map card_of o) ≡ is_form_in o
form_item None = refl
form_item (Some item) = form_body item.body

pub form_card : (s : Site) (q : List ℕ) → is_form_by (card_at s q) ≡ is_form_in (item_at s q)
form_card s q = form_item (item_at s q)
