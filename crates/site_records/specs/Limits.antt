-- Which records, entries and questions an item may have.
use Rattle.std.specs.Prelude.{ℕ, ◌-◌, Option, Bool, is_none, true, false, List, [], ◌∷◌, length, nat_le, nat_lt, not, bytes_eq, sum_by, ◌==◌, ◌^◌, ◌&&◌, ◌||◌}
use Rattle.std.specs.List.{list_all, list_any}
use Rattle.host_types.specs.Names.{is_field, is_visible, is_word}
use Rattle.host_types.specs.Items.{is_selector, is_title, is_typed_entry, is_bad_entry, is_until, is_long_body, is_long_item, most_view_bytes}
use Rattle.host_types.specs.declared.card.CardView.{CardView}
use Rattle.host_types.specs.declared.menu.Entry.{Entry}
use Rattle.host_types.specs.declared.form.Question.{Question}
use Rattle.host_types.specs.declared.form.Question.TheVariants as questions
use Rattle.host_types.specs.declared.item.Item.{Item}
use Rattle.host_types.specs.declared.item.Body.{Body}
use Rattle.host_types.specs.Sizes.{longest_summary}
use Rattle.site_records.specs.declared.record.Record.{Record}
use Rattle.site_records.specs.declared.record.RecordBody.{RecordBody}
use Rattle.site_records.specs.declared.record.RecordBody.TheVariants as kept

-- ---- entries of a menu

abbrev pub is_entry : Entry → Bool
is_entry e = is_typed_entry e && not (is_bad_entry e)

abbrev pub are_entries : List Entry → Bool
are_entries es = nat_le (length es) 100 && list_all is_entry es

-- ---- questions of a form

abbrev pub is_prompt : List ℕ → Bool
is_prompt text = nat_lt 0 (length text) && is_title text

-- a word that has to be known, or a choice
abbrev pub is_answer : List ℕ → Bool
is_answer text = nat_lt 0 (length text) && (nat_le (length text) 40 && is_field text)

abbrev pub is_choice_count : ℕ → Bool
is_choice_count n = nat_le 1 n && nat_le n 10

abbrev pub are_choices : List (List ℕ) → Bool
are_choices choices = is_choice_count (length choices) && list_all is_answer choices

abbrev pub is_question : Question → Bool
is_question (questions.Ask prompt) = is_prompt prompt
is_question (questions.AskL prompt) = is_prompt prompt
is_question (questions.AskP prompt word) = is_prompt prompt && is_answer word
is_question (questions.Choose prompt choices) = is_prompt prompt && are_choices choices

abbrev pub are_questions : List Question → Bool
are_questions qs = nat_lt 0 (length qs) && (nat_le (length qs) 16 && list_all is_question qs)

-- ---- records

abbrev pub is_stamp : ℕ → Bool
is_stamp n = nat_le n 253402300799

abbrev pub is_summary : List ℕ → Bool
is_summary bytes = nat_le (length bytes) longest_summary

abbrev pub is_view_name : List ℕ → Bool
is_view_name name = nat_le (length name) 40 && is_word name

abbrev pub is_language : List ℕ → Bool
is_language language = nat_le (length language) 10 && list_all is_visible language

abbrev pub is_view : CardView → Bool
is_view v = is_view_name v.name && (is_language v.language && nat_lt v.length (2 ^ 32))

abbrev pub is_same_face : CardView → CardView → Bool
is_same_face v w = bytes_eq v.name w.name && bytes_eq v.language w.language

-- two views agree in name and language
abbrev pub have_twins : List CardView → Bool
have_twins [] = false
have_twins (v ∷ vs) = list_any (is_same_face v) vs || have_twins vs

abbrev pub all_lengths : List CardView → ℕ
all_lengths vs = sum_by (λ v. v.length) vs

abbrev pub is_view_count : ℕ → Bool
is_view_count n = nat_le 1 n && nat_le n 8

-- of different faces, and not too long together
unfoldable pub go_together : List CardView → Bool
go_together vs = not (have_twins vs) && not (nat_lt most_view_bytes (all_lengths vs))

abbrev pub are_views : List CardView → Bool
are_views vs = (is_view_count (length vs) && list_all is_view vs) && go_together vs

-- A menu has none, or up to 100 entries of 2 to 431 bytes.
unfoldable pub is_menu_size : ℕ → Bool
is_menu_size n = (n == 0) || (nat_le 2 n && nat_le n 43100)

-- A form has 1 to 16 questions of 3 to 482 bytes.
unfoldable pub is_form_size : ℕ → Bool
is_form_size n = nat_le 3 n && nat_le n 7712

abbrev pub is_cap : ℕ → Bool
is_cap n = nat_le 1 n && nat_le n 100

abbrev pub is_body : RecordBody → Bool
is_body (kept.Views kind views) = are_views views
is_body (kept.Menu size) = is_menu_size size
is_body (kept.Board cap next) = is_cap cap && nat_lt next (2 ^ 64)
is_body (kept.Form board size) = is_selector board && is_form_size size
is_body (kept.Search scope) = is_selector scope
is_body (kept.Moved target) = is_selector target

-- The record of an item that keeps all limits, whose selector is another matter.
abbrev pub is_record : Record → Bool
is_record r = (is_stamp r.stamp && is_until r.until) && (is_title r.title && (is_summary r.summary && is_body r.body))

-- ---- version 1 of images

-- the most bytes of the views together
unfoldable pub most_view_bytes_v1 : ℕ
most_view_bytes_v1 = 65536

abbrev pub is_small : RecordBody → Bool
is_small (kept.Views kind views) = not (nat_lt most_view_bytes_v1 (all_lengths views))
is_small (kept.Menu size) = true
is_small (kept.Board cap next) = true
is_small (kept.Form board size) = true
is_small (kept.Search scope) = true
is_small (kept.Moved target) = true

-- The record of an item as version 1 knows it: it never expires, and its views are smaller.
abbrev pub is_record_v1 : Record → Bool
is_record_v1 r = is_record r && (is_none r.until && is_small r.body)

-- ---- lengths that fit their fields

abbrev pub fits_view : CardView → Bool
fits_view v = nat_le (length v.name) 40 && nat_le (length v.language) 10

abbrev pub fits_body : RecordBody → Bool
fits_body (kept.Views kind views) = nat_le (length views) 8 && list_all fits_view views
fits_body (kept.Menu size) = true
fits_body (kept.Board cap next) = true
fits_body (kept.Form board size) = true
fits_body (kept.Search scope) = true
fits_body (kept.Moved target) = true

-- A record whose lengths fit their fields; each that is read does.
abbrev pub fits_record : Record → Bool
fits_record r = is_summary r.summary && fits_body r.body

-- a body that is not too long, whatever its selector
abbrev pub is_short_body : Body → Bool
is_short_body body = not (is_long_body [] body)

-- An item that is not too long, whatever its selector.
abbrev pub is_short : Item → Bool
is_short item = not (is_long_item [] item)
