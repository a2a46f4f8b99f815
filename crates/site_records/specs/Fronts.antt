-- What the line of a menu says of an item, by its record.
use Rattle.std.specs.Prelude.{◌≡◌, refl}
use Rattle.host_types.specs.Card.{card_of, card_body}
use Rattle.host_types.specs.Fronts.{front_of, sort_of}
use Rattle.host_types.specs.declared.front.CardFront.{CardFront}
use Rattle.host_types.specs.declared.front.CardSort.{CardSort}
use Rattle.host_types.specs.declared.front.CardSort.TheVariants as sorts
use Rattle.host_types.specs.declared.item.Item.{Item}
use Rattle.host_types.specs.declared.item.Body.{Body}
use Rattle.host_types.specs.declared.item.Body.TheVariants as bodies
use Rattle.site_records.specs.Records.{recorded, recorded_body}
use Rattle.site_records.specs.declared.record.Record.{Record}
use Rattle.site_records.specs.declared.record.RecordBody.{RecordBody}
use Rattle.site_records.specs.declared.record.RecordBody.TheVariants as kept

abbrev pub record_sort : RecordBody → CardSort
record_sort (kept.Views kind cards) = sorts.Document kind
record_sort (kept.Menu size) = sorts.Menu
record_sort (kept.Board cap next) = sorts.Board
record_sort (kept.Form board size) = sorts.Form
record_sort (kept.Search scope) = sorts.Search
record_sort (kept.Moved target) = sorts.Moved

abbrev pub record_front : Record → CardFront
record_front r = record { title = r.title; until = r.until; sort = record_sort r.body }

-- ---- laws

sorts_agree : (body : Body) → record_sort (recorded_body body) ≡ sort_of (card_body body)
sorts_agree (bodies.Views kind views) = refl
sorts_agree (bodies.Menu es) = refl
sorts_agree (bodies.Board cap next) = refl
sorts_agree (bodies.Form board qs) = refl
sorts_agree (bodies.Search scope) = refl
sorts_agree (bodies.Moved target) = refl

-- the record of an item says what its card does
pub fronts_agree : (item : Item) → record_front (recorded item) ≡ front_of (card_of item)
fronts_agree item = λ i. record { title = item.title; until = item.until; sort = sorts_agree item.body i }
