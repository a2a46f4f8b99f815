-- Reading records, entries and questions from left to right, or nothing.
use Rattle.std.specs.Prelude.{◌≡◌, ℕ, ◌-◌, ◌^◌, ◌||◌, nat_le, Bool, List, [], ◌∷◌, length, Option, Some, None, Result, Ok, Err, nat_lt, find, ◌==◌, if◌then◌else◌, IsTrue, IsSome}
use Rattle.std.specs.Int.{w16, w32, w64}
use Rattle.host_types.specs.Items.{kind_letter, link_letter, is_selector, is_title, is_host, is_link}
use Rattle.host_types.specs.declared.view.Kind.{Kind}
use Rattle.host_types.specs.declared.view.Kind.TheVariants as kinds
use Rattle.host_types.specs.declared.card.CardView.{CardView}
use Rattle.host_types.specs.declared.menu.Entry.{Entry}
use Rattle.host_types.specs.declared.menu.Entry.TheVariants as entries
use Rattle.host_types.specs.declared.menu.LinkKind.{LinkKind}
use Rattle.host_types.specs.declared.menu.LinkKind.TheVariants as links
use Rattle.host_types.specs.declared.form.Question.{Question}
use Rattle.host_types.specs.declared.form.Question.TheVariants as questions
use Rattle.site_records.specs.Field.{Read, ◌>>=◌, number, byte, counted, passing, both, mapped, known, listed, until_end}
use Rattle.site_records.specs.Limits.{is_stamp, is_small, is_summary, is_view_name, is_language, is_view_count, go_together, is_menu_size, is_form_size, is_cap, is_prompt, is_answer, is_choice_count}
use Rattle.site_records.specs.declared.record.Record.{Record}
use Rattle.site_records.specs.declared.record.RecordBody.{RecordBody}
use Rattle.site_records.specs.declared.record.RecordBody.TheVariants as kept
use Rattle.site_records.specs.declared.record.RecordFault.{RecordFault}
use Rattle.site_records.specs.declared.record.RecordFault.TheVariants as faults

-- ---- fields

abbrev pub stamp_at : Read ℕ
stamp_at = passing is_stamp (number w64)

abbrev pub title_at : Read (List ℕ)
title_at = passing is_title (counted byte)

abbrev pub summary_at : Read (List ℕ)
summary_at = passing is_summary (counted (number w16))

abbrev pub selector_at : Read (List ℕ)
selector_at = passing is_selector (counted byte)

abbrev pub host_at : Read (List ℕ)
host_at = passing is_host (counted byte)

abbrev pub link_at : Read (List ℕ)
link_at = passing is_link (counted byte)

abbrev pub is_port : ℕ → Bool
is_port n = nat_lt 0 n

abbrev pub port_at : Read ℕ
port_at = passing is_port (number w16)

-- ---- letters

abbrev pub all_kinds : List Kind
all_kinds = kinds.Text ∷ kinds.BinHex ∷ kinds.DosArchive ∷ kinds.Uuencoded ∷ kinds.Binary ∷ kinds.Gif ∷ kinds.Image ∷ kinds.Html ∷ []

abbrev pub kind_of : ℕ → Option Kind
kind_of letter = find (λ k. letter == kind_letter k) all_kinds

abbrev pub all_links : List LinkKind
all_links =
    links.Text ∷ links.Menu ∷ links.PhoneBook ∷ links.BinHex ∷ links.DosArchive ∷ links.Uuencoded ∷ links.Search
    ∷ links.Telnet ∷ links.Binary ∷ links.Mirror ∷ links.Tn3270 ∷ links.Gif ∷ links.Image ∷ links.Html ∷ []

abbrev pub link_of : ℕ → Option LinkKind
link_of letter = find (λ k. letter == link_letter k) all_links

-- ---- entries

abbrev pub remote_fields : Read (LinkKind × (((List ℕ × List ℕ) × List ℕ) × ℕ))
remote_fields = both (known link_of) (both (both (both title_at selector_at) host_at) port_at)

abbrev pub local_entry : Read Entry
local_entry = mapped (λ s. entries.Local s) selector_at

abbrev pub info_entry : Read Entry
info_entry = mapped (λ t. entries.Info t) title_at

abbrev pub url_entry : Read Entry
url_entry = mapped (λ e. entries.Url e.0 e.1) (both title_at link_at)

abbrev pub remote_entry : Read Entry
remote_entry = mapped (λ e. entries.Remote e.0 e.1.0.0.0 e.1.0.0.1 e.1.0.1 e.1.1) remote_fields

-- what stands behind a tag
unfoldable pub entry_behind : ℕ → Read Entry
entry_behind tag bytes =
    if tag == 76 then local_entry bytes
    else if tag == 105 then info_entry bytes
    else if tag == 104 then url_entry bytes
    else if tag == 82 then remote_entry bytes
    else None

unfoldable pub entry_at : Read Entry
entry_at bytes = do
  tag ← byte bytes
  entry_behind tag.0 tag.1

-- all of the bytes
unfoldable pub entries_at : List ℕ → Option (List Entry)
entries_at bytes = until_end entry_at 100 bytes

-- ---- questions

abbrev pub prompt_at : Read (List ℕ)
prompt_at = passing is_prompt (counted byte)

abbrev pub answer_at : Read (List ℕ)
answer_at = passing is_answer (counted byte)

abbrev pub choices_at : Read (List (List ℕ))
choices_at = listed (passing is_choice_count byte) answer_at

abbrev pub ask : Read Question
ask = mapped (λ p. questions.Ask p) prompt_at

abbrev pub ask_lines : Read Question
ask_lines = mapped (λ p. questions.AskL p) prompt_at

abbrev pub ask_word : Read Question
ask_word = mapped (λ q. questions.AskP q.0 q.1) (both prompt_at answer_at)

abbrev pub choose : Read Question
choose = mapped (λ q. questions.Choose q.0 q.1) (both prompt_at choices_at)

unfoldable pub question_behind : ℕ → Read Question
question_behind tag bytes =
    if tag == 65 then ask bytes
    else if tag == 76 then ask_lines bytes
    else if tag == 80 then ask_word bytes
    else if tag == 67 then choose bytes
    else None

unfoldable pub question_at : Read Question
question_at bytes = do
  tag ← byte bytes
  question_behind tag.0 tag.1

-- all of the bytes, and at least one question
unfoldable pub questions_at : List ℕ → Option (List Question)
questions_at bytes = if length bytes == 0 then None else until_end question_at 16 bytes

-- ---- records

-- which numbers stand for an expiry, or for none
abbrev pub is_expiry : ℕ → Bool
is_expiry n = nat_le n 253402300799 || n == 2 ^ 64 - 1

abbrev pub until_of : ℕ → Option ℕ
until_of n = if n == 2 ^ 64 - 1 then None else Some n

abbrev pub until_at : Read (Option ℕ)
until_at = mapped until_of (passing is_expiry (number w64))

-- when it last changed, and from when on it isn't found
unfoldable pub moments_at : Read (ℕ × Option ℕ)
moments_at = both stamp_at until_at

abbrev pub never : ℕ → ℕ × Option ℕ
never stamp = (stamp, None)

-- the same in version 1, which knows no expiry
unfoldable pub moments_at_v1 : Read (ℕ × Option ℕ)
moments_at_v1 = mapped never stamp_at

unfoldable pub head_at : Read (List ℕ × List ℕ)
head_at = both title_at summary_at

abbrev pub name_at : Read (List ℕ)
name_at = passing is_view_name (counted byte)

abbrev pub language_at : Read (List ℕ)
language_at = passing is_language (counted byte)

abbrev pub view_fields : Read ((List ℕ × List ℕ) × ℕ)
view_fields = both (both name_at language_at) (number w32)

abbrev pub seen_view : (List ℕ × List ℕ) × ℕ → CardView
seen_view v = record { name = v.0.0; language = v.0.1; length = v.1 }

unfoldable pub view_at : Read CardView
view_at = mapped seen_view view_fields

unfoldable pub views_at : Read (List CardView)
views_at = passing go_together (listed (passing is_view_count byte) view_at)

abbrev pub views_body : Read RecordBody
views_body = mapped (λ v. kept.Views v.0 v.1) (both (known kind_of) views_at)

abbrev pub menu_size_at : Read ℕ
menu_size_at = passing is_menu_size (number w32)

abbrev pub menu_body : Read RecordBody
menu_body = mapped (λ n. kept.Menu n) menu_size_at

unfoldable pub board_at : Read (ℕ × ℕ)
board_at = both (passing is_cap (number w16)) (number w64)

abbrev pub board_body : Read RecordBody
board_body = mapped (λ b. kept.Board b.0 b.1) board_at

abbrev pub form_size_at : Read ℕ
form_size_at = passing is_form_size (number w32)

abbrev pub form_body : Read RecordBody
form_body = mapped (λ f. kept.Form f.0 f.1) (both selector_at form_size_at)

abbrev pub search_body : Read RecordBody
search_body = mapped (λ s. kept.Search s) selector_at

abbrev pub moved_body : Read RecordBody
moved_body = mapped (λ s. kept.Moved s) selector_at

unfoldable pub body_behind : ℕ → Read RecordBody
body_behind tag bytes =
    if tag == 86 then views_body bytes
    else if tag == 77 then menu_body bytes
    else if tag == 66 then board_body bytes
    else if tag == 70 then form_body bytes
    else if tag == 83 then search_body bytes
    else if tag == 82 then moved_body bytes
    else None

-- what stands behind the moments, all of the bytes
unfoldable pub rest_at : ℕ → ℕ × Option ℕ → List ℕ → Option Record
rest_at tag moments bytes = do
  head ← head_at bytes
  body ← body_behind tag head.1
  if length body.1 == 0 then Some (record { title = head.0.0; stamp = moments.0; until = moments.1; summary = head.0.1; body = body.0 }) else None

-- a record by its moments
unfoldable pub record_by : Read (ℕ × Option ℕ) → List ℕ → Option Record
record_by read bytes = do
  tag ← byte bytes
  moments ← read tag.1
  rest_at tag.0 moments.0 moments.1

-- all of the bytes
abbrev pub record_at : List ℕ → Option Record
record_at bytes = record_by moments_at bytes

-- all of the bytes, as version 1 has them
unfoldable pub record_at_v1 : List ℕ → Option Record
record_at_v1 bytes = do
  r ← record_by moments_at_v1 bytes
  if is_small r.body then Some r else None

-- What reading a field returned, seen by view, is what stands at the front: no memory is asked for.
abbrev pub Reads : {X Y : Type 0} → (X → Y) → Result X RecordFault → Option Y → Type 0
Reads view (Ok x) read = read ≡ Some (view x)
Reads view (Err e) read = (e ≡ faults.BadRecord) × (read ≡ None)

-- Memory is lacking only for what is read: bad bytes are told as such.
abbrev pub ReadingFails : {Y : Type 0} → RecordFault → Option Y → Type 0
ReadingFails faults.Memory read = IsSome read
ReadingFails faults.BadRecord read = read ≡ None

-- What a function returned, seen by view, is what reading gives, unless memory ran out.
abbrev pub Gives : {X Y : Type 0} → (X → Y) → Result X RecordFault → Option Y → Type 0
Gives view (Ok x) read = read ≡ Some (view x)
Gives view (Err e) read = ReadingFails e read

-- Memory is lacking only where the bytes are what is written of a value that passes a test.
abbrev pub MemoryOnlyFor : {X : Type 0} → (X → Bool) → (X → List ℕ) → List ℕ → RecordFault → Type 0
MemoryOnlyFor {X = X} test write bytes faults.Memory = (x : X) × IsTrue (test x) × (bytes ≡ write x)
MemoryOnlyFor test write bytes faults.BadRecord = Unit {0}
