-- The bytes of records and of parts. docs/IMAGE.md, 'Layout of a site'.
use Rattle.std.specs.Prelude.{ℕ, ◌-◌, ◌^◌, List, [], ◌∷◌, ◌++◌, length, flat_map, map, Option, Some, None}
use Rattle.std.specs.Int.{w16, w32, w64, to_be_bytes}
use Rattle.host_types.specs.Items.{kind_letter, link_letter}
use Rattle.host_types.specs.Card.{card_view}
use Rattle.host_types.specs.declared.card.CardView.{CardView}
use Rattle.host_types.specs.declared.menu.Entry.{Entry}
use Rattle.host_types.specs.declared.menu.Entry.TheVariants as entries
use Rattle.host_types.specs.declared.form.Question.{Question}
use Rattle.host_types.specs.declared.form.Question.TheVariants as questions
use Rattle.host_types.specs.declared.item.Item.{Item}
use Rattle.host_types.specs.declared.item.Body.{Body}
use Rattle.host_types.specs.declared.item.Body.TheVariants as bodies
use Rattle.site_records.specs.declared.record.Record.{Record}
use Rattle.site_records.specs.declared.record.RecordBody.{RecordBody}
use Rattle.site_records.specs.declared.record.RecordBody.TheVariants as kept

-- a length in one byte, and that many bytes
abbrev pub short : List ℕ → List ℕ
short text = length text ∷ text

-- a length in two bytes, and that many bytes
abbrev pub long : List ℕ → List ℕ
long text = to_be_bytes w16 (length text) ++ text

-- ---- parts: the byte strings that are kept beside the record

abbrev pub entry_bytes : Entry → List ℕ
entry_bytes (entries.Local selector) = 76 ∷ short selector
entry_bytes (entries.Info title) = 105 ∷ short title
entry_bytes (entries.Url title url) = 104 ∷ short title ++ short url
entry_bytes (entries.Remote kind title selector host port) = 82 ∷ link_letter kind ∷ short title ++ short selector ++ short host ++ to_be_bytes w16 port

-- the entries of a menu, one after another
abbrev pub entries_bytes : List Entry → List ℕ
entries_bytes es = flat_map entry_bytes es

-- choices, one after another
abbrev pub choice_list : List (List ℕ) → List ℕ
choice_list choices = flat_map short choices

-- their number in one byte, and the choices
abbrev pub choices_bytes : List (List ℕ) → List ℕ
choices_bytes choices = length choices ∷ choice_list choices

abbrev pub question_bytes : Question → List ℕ
question_bytes (questions.Ask prompt) = 65 ∷ short prompt
question_bytes (questions.AskL prompt) = 76 ∷ short prompt
question_bytes (questions.AskP prompt word) = 80 ∷ short prompt ++ short word
question_bytes (questions.Choose prompt choices) = 67 ∷ short prompt ++ choices_bytes choices

-- the questions of a form, one after another
abbrev pub questions_bytes : List Question → List ℕ
questions_bytes qs = flat_map question_bytes qs

-- by their numbers: the bytes of each view, the entries of a menu, the questions of a form
abbrev pub parts_of : Body → List (List ℕ)
parts_of (bodies.Views kind views) = map (λ v. v.bytes) views
parts_of (bodies.Menu es) = entries_bytes es ∷ []
parts_of (bodies.Board cap next) = []
parts_of (bodies.Form board qs) = questions_bytes qs ∷ []
parts_of (bodies.Search scope) = []
parts_of (bodies.Moved target) = []

-- ---- records

-- what a record says of a body: lengths in place of its parts
abbrev pub recorded_body : Body → RecordBody
recorded_body (bodies.Views kind views) = kept.Views kind (map card_view views)
recorded_body (bodies.Menu es) = kept.Menu (length (entries_bytes es))
recorded_body (bodies.Board cap next) = kept.Board cap next
recorded_body (bodies.Form board qs) = kept.Form board (length (questions_bytes qs))
recorded_body (bodies.Search scope) = kept.Search scope
recorded_body (bodies.Moved target) = kept.Moved target

abbrev pub recorded : Item → Record
recorded item = record { title = item.title; stamp = item.stamp; until = item.until; summary = item.summary; body = recorded_body item.body }

abbrev pub view_head : CardView → List ℕ
view_head v = short v.name ++ short v.language ++ to_be_bytes w32 v.length

-- `V`, `M`, `B`, `F`, `S`, `R`
abbrev pub tag_of : RecordBody → ℕ
tag_of (kept.Views kind views) = 86
tag_of (kept.Menu size) = 77
tag_of (kept.Board cap next) = 66
tag_of (kept.Form board size) = 70
tag_of (kept.Search scope) = 83
tag_of (kept.Moved target) = 82

abbrev pub tail_bytes : RecordBody → List ℕ
tail_bytes (kept.Views kind views) = kind_letter kind ∷ length views ∷ flat_map view_head views
tail_bytes (kept.Menu size) = to_be_bytes w32 size
tail_bytes (kept.Board cap next) = to_be_bytes w16 cap ++ to_be_bytes w64 next
tail_bytes (kept.Form board size) = short board ++ to_be_bytes w32 size
tail_bytes (kept.Search scope) = short scope
tail_bytes (kept.Moved target) = short target

-- from when on an item isn't found, as a number: the greatest for never
abbrev pub until_number : Option ℕ → ℕ
until_number None = 2 ^ 64 - 1
until_number (Some until) = until

-- the same in eight bytes
abbrev pub until_bytes : Option ℕ → List ℕ
until_bytes until = to_be_bytes w64 (until_number until)

-- the title, the summary, and what the body has
abbrev pub rest_bytes : Record → List ℕ
rest_bytes r = short r.title ++ long r.summary ++ tail_bytes r.body

-- a tag, the stamp, from when on it isn't found, and the rest
unfoldable pub record_bytes : Record → List ℕ
record_bytes r = tag_of r.body ∷ to_be_bytes w64 r.stamp ++ until_bytes r.until ++ rest_bytes r

-- the same as version 1 of images has it: it knows no expiry
unfoldable pub record_bytes_v1 : Record → List ℕ
record_bytes_v1 r = tag_of r.body ∷ to_be_bytes w64 r.stamp ++ rest_bytes r

-- the record of an item in bytes
abbrev pub item_bytes : Item → List ℕ
item_bytes item = record_bytes (recorded item)

abbrev pub item_bytes_v1 : Item → List ℕ
item_bytes_v1 item = record_bytes_v1 (recorded item)
