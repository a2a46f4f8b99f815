-- Where forms stand.
use Rattle.std.specs.Prelude.{Bool, true, false, Option, Some, None}
use Rattle.host_types.specs.declared.item.Item.{Item}
use Rattle.host_types.specs.declared.item.Body.{Body}
use Rattle.host_types.specs.declared.item.Body.TheVariants as bodies
use Rattle.host_types.specs.declared.card.Card.{Card}
use Rattle.text_writer.specs.Menu.{is_form as is_form_card}

abbrev pub is_form : Body → Bool
is_form (bodies.Views kind views) = false
is_form (bodies.Menu es) = false
is_form (bodies.Board cap next) = false
is_form (bodies.Form board questions) = true
is_form (bodies.Search scope) = false
is_form (bodies.Moved target) = false

abbrev pub is_form_in : Option Item → Bool
is_form_in None = false
is_form_in (Some item) = is_form item.body

-- the same by its card
abbrev pub is_form_by : Option Card → Bool
is_form_by None = false
is_form_by (Some card) = is_form_card card.body
