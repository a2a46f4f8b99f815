-- A record reads what it writes, and nothing else.
use Rattle.std.proofs.Common.{◌≡◌, ℕ, ◌^◌, ◌-◌, ◌<◌, ◌≤◌, Bool, true, false, cond, eqb, List, [], ◌∷◌, ◌++◌, length, Option, Some, None, Result, Ok, Err, refl, sym, ap, subst, ◌∙◌, arith, inl, inr}
use Rattle.std.specs.Prelude.{IsTrue, nat_le, nat_lt, nat_eq, ◌&&◌, ◌||◌, ◌==◌, is_none, IfOk, flat_map}
use Rattle.std.specs.List.{list_all}
use Rattle.std.specs.Int.{w16, w32, w64, to_be_bytes}
use Rattle.std.proofs.lemmas.Bool.{cases_Bool, eqb-true, ne_eqb, leb-true, ltb-true, lt-ltb}
use Rattle.std.proofs.lemmas.List.{append-nil, nil_from_length}
use Rattle.host_types.specs.Items.{kind_letter, is_selector, is_title, is_until}
use Rattle.host_types.specs.Names.{is_visible, is_word}
use Rattle.host_types.specs.declared.view.Kind.{Kind}
use Rattle.host_types.specs.declared.view.Kind.TheVariants as kinds
use Rattle.host_types.specs.declared.card.CardView.{CardView}
use Rattle.host_types.specs.declared.front.CardFront.{CardFront}
use Rattle.std.specs.Option.{option_map}
use Rattle.site_records.specs.Fronts.{record_front}
use Rattle.site_records.specs.Records.{short, long, view_head, tag_of, tail_bytes, until_number, until_bytes, rest_bytes, record_bytes, record_bytes_v1}
use Rattle.site_records.specs.Limits.{is_stamp, is_summary, is_view_name, is_language, is_view, is_view_count, go_together, is_menu_size, is_form_size, is_cap, is_body, is_small, is_record, is_record_v1, fits_view, fits_body, fits_record}
use Rattle.site_records.specs.Field.{Read, ◌>>=◌, number, byte, counted, passing, both, known, listed, IsBytes, Takes, IsFormat}
use Rattle.site_records.specs.Reading.{stamp_at, is_expiry, until_of, until_at, never, moments_at, moments_at_v1, rest_at, record_by, record_at_v1, title_at, summary_at, selector_at, all_kinds, kind_of, head_at, name_at, language_at, view_fields, seen_view, view_at, views_at, views_body, menu_size_at, menu_body, board_at, board_body, form_size_at, form_body, search_body, moved_body, body_behind, record_at, Reads, Gives}
use Rattle.site_records.specs.declared.record.RecordBody.{RecordBody}
use Rattle.site_records.specs.declared.record.RecordBody.TheVariants.{Views, Menu, Board, Form, Search, Moved}
use Rattle.site_records.specs.declared.record.Record.{Record}
use Rattle.site_records.specs.declared.record.RecordFault.{RecordFault}
use Rattle.site_records.proofs.Formats.{and_first, and_second, and_both, bind_some, guard_some, find_passes, Takes-then, wide16, wide32, wide64, number_format, byte_format, counted_format, passing_format, passing_too_format, both_format, known_format, listed_format, mapped_some, mapped_again, turned_format, Behind, behind_takes, chosen, last_chosen}
use Rattle.site_records.proofs.EntryLaws.{short_format, title_format, selector_format}

-- ---- the head

stamp_format : IsFormat (λ n. IsTrue (is_stamp n)) (to_be_bytes w64) stamp_at
stamp_format = passing_format (λ n. n < 2 ^ 64) (to_be_bytes w64) (number w64) (number_format w64 (2 ^ 64) wide64) is_stamp (λ n h. omega (arith, leb-true n 253402300799 h))

summary_format : IsFormat (λ text. IsTrue (is_summary text)) long summary_at
summary_format = passing_format (λ text. length text < 2 ^ 16) long (counted (number w16)) (counted_format (2 ^ 16) (to_be_bytes w16) (number w16) (number_format w16 (2 ^ 16) wide16)) is_summary (λ text h. omega (arith, leb-true (length text) 400 h))

abbrev HeadFits : List ℕ × List ℕ → Type 0
HeadFits h = IsTrue (is_title h.0) × IsTrue (is_summary h.1)

abbrev head_text : List ℕ × List ℕ → List ℕ
head_text h = short h.0 ++ long h.1

head_format : IsFormat HeadFits head_text head_at
unfolding head_at
head_format = both_format (λ text. IsTrue (is_title text)) (λ text. IsTrue (is_summary text)) short long title_at summary_at title_format summary_format

-- ---- moments

abbrev Moments : Type 0
Moments = ℕ × Option ℕ

-- the second of two tests passes where the first doesn't
second_passes : (a b : Bool) → a ≡ false → (a || b) ≡ true → b ≡ true
second_passes true b none h = absurd (cc none)
second_passes false b none h = h

first_passes : (a b : Bool) → b ≡ false → (a || b) ≡ true → a ≡ true
first_passes true b none h = refl
first_passes false b none h = absurd (cc (none, h))

expiry_small : (n : ℕ) → IsTrue (is_expiry n) → n < 2 ^ 64
expiry_small n h =
    elim (cases_Bool (nat_le n 253402300799)) [
      | inl early ↦ (let e = leb-true n 253402300799 early in omega (arith, e))
      | inr late ↦ (let e = eqb-true n (2 ^ 64 - 1) (second_passes (nat_le n 253402300799) (n == 2 ^ 64 - 1) late h) in omega (arith, e))
    ]

expiry_format : IsFormat (λ n. IsTrue (is_expiry n)) (to_be_bytes w64) (passing is_expiry (number w64))
expiry_format = passing_format (λ n. n < 2 ^ 64) (to_be_bytes w64) (number w64) (number_format w64 (2 ^ 64) wide64) is_expiry expiry_small

until_fits : (n : ℕ) → IsTrue (is_expiry n) → IsTrue (is_until (until_of n)) × (until_number (until_of n) ≡ n)
until_fits n h =
    elim (cases_Bool (n == 2 ^ 64 - 1)) [
      | inl never ↦ rw never (refl, sym (eqb-true n (2 ^ 64 - 1) never))
      | inr some ↦ (let early = first_passes (nat_le n 253402300799) (n == 2 ^ 64 - 1) some h in rw some (early, refl))
    ]

until_back : (u : Option ℕ) → IsTrue (is_until u) → IsTrue (is_expiry (until_number u)) × (until_of (until_number u) ≡ u)
until_back None h = (refl, refl)
until_back (Some n) h =
    let early = leb-true n 253402300799 h in
    let some : (n == 2 ^ 64 - 1) ≡ false = ne_eqb n (2 ^ 64 - 1) (λ e. omega (arith, e, early)) in
    (rw h refl, rw some refl)

until_format : IsFormat (λ u. IsTrue (is_until u)) until_bytes until_at
until_format = turned_format (λ n. IsTrue (is_expiry n)) (λ u. IsTrue (is_until u)) (to_be_bytes w64) (passing is_expiry (number w64)) expiry_format until_of until_number until_fits until_back

abbrev MomentsFit : Moments → Type 0
MomentsFit m = IsTrue (is_stamp m.0) × IsTrue (is_until m.1)

abbrev moments_text : Moments → List ℕ
moments_text m = to_be_bytes w64 m.0 ++ until_bytes m.1

moments_format : IsFormat MomentsFit moments_text moments_at
unfolding moments_at
moments_format = both_format (λ n. IsTrue (is_stamp n)) (λ u. IsTrue (is_until u)) (to_be_bytes w64) until_bytes stamp_at until_at stamp_format until_format

-- those of version 1
abbrev MomentsFitV1 : Moments → Type 0
MomentsFitV1 m = IsTrue (is_stamp m.0) × (m.1 ≡ None)

abbrev moments_text_v1 : Moments → List ℕ
moments_text_v1 m = to_be_bytes w64 m.0

moments_format_v1 : IsFormat MomentsFitV1 moments_text_v1 moments_at_v1
unfolding moments_at_v1
moments_format_v1 = turned_format (λ n. IsTrue (is_stamp n)) MomentsFitV1 (to_be_bytes w64) stamp_at stamp_format never (λ m. m.0) (λ n h. ((h, refl), refl)) (λ m h. (h.0, λ i. (m.0, sym h.1 i)))

-- ---- views

name_format : IsFormat (λ text. IsTrue (is_view_name text)) short name_at
name_format = passing_format (λ text. length text < 256) short (counted byte) short_format is_view_name (λ text h. omega (arith, leb-true (length text) 40 (and_first _ (is_word text) h)))

language_format : IsFormat (λ text. IsTrue (is_language text)) short language_at
language_format = passing_format (λ text. length text < 256) short (counted byte) short_format is_language (λ text h. omega (arith, leb-true (length text) 10 (and_first _ (list_all is_visible text) h)))

abbrev Fields : Type 0
Fields = (List ℕ × List ℕ) × ℕ

abbrev FieldsFit : Fields → Type 0
FieldsFit v = (IsTrue (is_view_name v.0.0) × IsTrue (is_language v.0.1)) × (v.1 < 2 ^ 32)

fields_format : IsFormat FieldsFit (λ v. short v.0.0 ++ short v.0.1 ++ to_be_bytes w32 v.1) view_fields
fields_format = both_format (λ (x : List ℕ × List ℕ). IsTrue (is_view_name x.0) × IsTrue (is_language x.1)) (λ n. n < 2 ^ 32) (λ x. short x.0 ++ short x.1) (to_be_bytes w32) (both name_at language_at) (number w32)
    (both_format (λ text. IsTrue (is_view_name text)) (λ text. IsTrue (is_language text)) short short name_at language_at name_format language_format) (number_format w32 (2 ^ 32) wide32)

fields_of : (v : CardView) → IsTrue (is_view v) → FieldsFit ((v.name, v.language), v.length)
fields_of v h =
    let more = and_second (is_view_name v.name) _ h in
    ((and_first (is_view_name v.name) _ h, and_first (is_language v.language) _ more), ltb-true v.length (2 ^ 32) (and_second (is_language v.language) _ more))

view_takes : (bytes : List ℕ) (v : CardView) (rest : List ℕ) → IsBytes bytes → view_at bytes ≡ Some (v, rest) → Takes bytes (view_head v) rest × IsTrue (is_view v)
unfolding view_at
view_takes bytes v rest fits e =
    let b = mapped_some seen_view view_fields bytes v rest e in
    let k = fields_format.takes bytes b.0 rest fits b.1 in
    let good : IsTrue (is_view (seen_view b.0)) = and_both (is_view_name b.0.0.0) _ k.1.0.0 (and_both (is_language b.0.0.1) _ k.1.0.1 (lt-ltb b.0.1 (2 ^ 32) k.1.1)) in
    subst (λ (x : CardView). Takes bytes (view_head x) rest × IsTrue (is_view x)) b.2 (k.0, good)

view_again : (v : CardView) (rest : List ℕ) → IsTrue (is_view v) → view_at (view_head v ++ rest) ≡ Some (v, rest)
unfolding view_at
view_again v rest h = mapped_again seen_view view_fields (view_head v ++ rest) ((v.name, v.language), v.length) rest (fields_format.again ((v.name, v.language), v.length) rest (fields_of v h))

view_format : IsFormat (λ v. IsTrue (is_view v)) view_head view_at
view_format = record { takes = view_takes; again = view_again }

abbrev views_text : List CardView → List ℕ
views_text vs = length vs ∷ flat_map view_head vs

abbrev ViewsFit : List CardView → Type 0
ViewsFit vs = IsTrue (is_view_count (length vs) && list_all is_view vs) × IsTrue (go_together vs)

views_format : IsFormat ViewsFit views_text views_at
unfolding views_at
views_format = passing_too_format (λ vs. IsTrue (is_view_count (length vs) && list_all is_view vs)) views_text (listed (passing is_view_count byte) view_at)
    (listed_format is_view view_head view_at view_format is_view_count (λ n h. omega (arith, leb-true n 8 (and_second (nat_le 1 n) (nat_le n 8) h)))) go_together

kind_tells : (b : ℕ) (k : Kind) → kind_of b ≡ Some k → b ≡ kind_letter k
kind_tells b k e = eqb-true b (kind_letter k) (find_passes (λ l. nat_eq b (kind_letter l)) all_kinds k e)

kind_again : (k : Kind) → kind_of (kind_letter k) ≡ Some k
kind_again kinds.Text = refl
kind_again kinds.BinHex = refl
kind_again kinds.DosArchive = refl
kind_again kinds.Uuencoded = refl
kind_again kinds.Binary = refl
kind_again kinds.Gif = refl
kind_again kinds.Image = refl
kind_again kinds.Html = refl

kind_small : (k : Kind) → kind_letter k < 256
kind_small k = ltb-true (kind_letter k) 256 (small k)
  where
    small : (k : Kind) → nat_lt (kind_letter k) 256 ≡ true
    small kinds.Text = refl
    small kinds.BinHex = refl
    small kinds.DosArchive = refl
    small kinds.Uuencoded = refl
    small kinds.Binary = refl
    small kinds.Gif = refl
    small kinds.Image = refl
    small kinds.Html = refl

-- ---- bodies by their tags

abbrev BodyBehind : ℕ → List ℕ → RecordBody → List ℕ → Type 0
BodyBehind = Behind tail_bytes is_body tag_of

abbrev Document : Type 0
Document = Kind × List CardView

abbrev DocumentFits : Document → Type 0
DocumentFits d = Unit {0} × ViewsFit d.1

document_format : IsFormat DocumentFits (λ d. (kind_letter d.0 ∷ []) ++ views_text d.1) (both (known kind_of) views_at)
document_format = both_format (λ k. Unit {0}) ViewsFit (λ k. kind_letter k ∷ []) views_text (known kind_of) views_at (known_format kind_letter kind_of kind_tells kind_again kind_small) views_format

views_behind : (tag : ℕ) → tag ≡ 86 → (bytes : List ℕ) (b : RecordBody) (rest : List ℕ) → IsBytes bytes → views_body bytes ≡ Some (b, rest) → BodyBehind tag bytes b rest
views_behind tag is = behind_takes tail_bytes is_body tag_of (λ (d : Document). Views d.0 d.1) DocumentFits (λ d. (kind_letter d.0 ∷ []) ++ views_text d.1) (both (known kind_of) views_at) document_format (λ d. refl) (λ d h. and_both _ (go_together d.1) h.1.0 h.1.1) tag (λ d. is)

menu_small : (n : ℕ) → IsTrue (is_menu_size n) → n < 2 ^ 32
unfolding is_menu_size
menu_small n h = by_cases (nat_eq n 0) (nat_le 2 n) (nat_le n 43100) n h (λ e. eqb-true n 0 e) (λ e. leb-true n 43100 e)
  where
    by_cases : (a b c : Bool) (n : ℕ) → (a || (b && c)) ≡ true → (a ≡ true → n ≡ 0) → (c ≡ true → n ≤ 43100) → n < 2 ^ 32
    by_cases true b c n h zero_is small = omega (arith, zero_is refl)
    by_cases false b c n h zero_is small = omega (arith, small (and_second b c h))

menu_format : IsFormat (λ n. IsTrue (is_menu_size n)) (to_be_bytes w32) menu_size_at
menu_format = passing_format (λ n. n < 2 ^ 32) (to_be_bytes w32) (number w32) (number_format w32 (2 ^ 32) wide32) is_menu_size menu_small

menu_behind : (tag : ℕ) → tag ≡ 77 → (bytes : List ℕ) (b : RecordBody) (rest : List ℕ) → IsBytes bytes → menu_body bytes ≡ Some (b, rest) → BodyBehind tag bytes b rest
menu_behind tag is = behind_takes tail_bytes is_body tag_of (λ n. Menu n) (λ n. IsTrue (is_menu_size n)) (to_be_bytes w32) menu_size_at menu_format (λ n. refl) (λ n h. h) tag (λ n. is)

abbrev BoardFits : ℕ × ℕ → Type 0
BoardFits b = IsTrue (is_cap b.0) × (b.1 < 2 ^ 64)

abbrev board_text : ℕ × ℕ → List ℕ
board_text b = to_be_bytes w16 b.0 ++ to_be_bytes w64 b.1

board_format : IsFormat BoardFits board_text board_at
unfolding board_at
board_format = both_format (λ n. IsTrue (is_cap n)) (λ n. n < 2 ^ 64) (to_be_bytes w16) (to_be_bytes w64) (passing is_cap (number w16)) (number w64)
    (passing_format (λ n. n < 2 ^ 16) (to_be_bytes w16) (number w16) (number_format w16 (2 ^ 16) wide16) is_cap (λ n h. omega (arith, leb-true n 100 (and_second (nat_le 1 n) (nat_le n 100) h)))) (number_format w64 (2 ^ 64) wide64)

board_behind : (tag : ℕ) → tag ≡ 66 → (bytes : List ℕ) (b : RecordBody) (rest : List ℕ) → IsBytes bytes → board_body bytes ≡ Some (b, rest) → BodyBehind tag bytes b rest
board_behind tag is = behind_takes tail_bytes is_body tag_of (λ (b : ℕ × ℕ). Board b.0 b.1) BoardFits board_text board_at board_format (λ b. refl) (λ b h. and_both (is_cap b.0) _ h.0 (lt-ltb b.1 (2 ^ 64) h.1)) tag (λ b. is)

form_small : (n : ℕ) → IsTrue (is_form_size n) → n < 2 ^ 32
unfolding is_form_size
form_small n h = omega (arith, leb-true n 7712 (and_second (nat_le 3 n) (nat_le n 7712) h))

form_size_format : IsFormat (λ n. IsTrue (is_form_size n)) (to_be_bytes w32) form_size_at
form_size_format = passing_format (λ n. n < 2 ^ 32) (to_be_bytes w32) (number w32) (number_format w32 (2 ^ 32) wide32) is_form_size form_small

abbrev FormFits : List ℕ × ℕ → Type 0
FormFits f = IsTrue (is_selector f.0) × IsTrue (is_form_size f.1)

abbrev form_text : List ℕ × ℕ → List ℕ
form_text f = short f.0 ++ to_be_bytes w32 f.1

form_format : IsFormat FormFits form_text (both selector_at form_size_at)
form_format = both_format (λ s. IsTrue (is_selector s)) (λ n. IsTrue (is_form_size n)) short (to_be_bytes w32) selector_at form_size_at selector_format form_size_format

form_behind : (tag : ℕ) → tag ≡ 70 → (bytes : List ℕ) (b : RecordBody) (rest : List ℕ) → IsBytes bytes → form_body bytes ≡ Some (b, rest) → BodyBehind tag bytes b rest
form_behind tag is = behind_takes tail_bytes is_body tag_of (λ (f : List ℕ × ℕ). Form f.0 f.1) FormFits form_text (both selector_at form_size_at) form_format (λ f. refl) (λ f h. and_both (is_selector f.0) _ h.0 h.1) tag (λ f. is)

search_behind : (tag : ℕ) → tag ≡ 83 → (bytes : List ℕ) (b : RecordBody) (rest : List ℕ) → IsBytes bytes → search_body bytes ≡ Some (b, rest) → BodyBehind tag bytes b rest
search_behind tag is = behind_takes tail_bytes is_body tag_of (λ s. Search s) (λ s. IsTrue (is_selector s)) short selector_at selector_format (λ s. refl) (λ s h. h) tag (λ s. is)

moved_behind : (tag : ℕ) → tag ≡ 82 → (bytes : List ℕ) (b : RecordBody) (rest : List ℕ) → IsBytes bytes → moved_body bytes ≡ Some (b, rest) → BodyBehind tag bytes b rest
moved_behind tag is = behind_takes tail_bytes is_body tag_of (λ s. Moved s) (λ s. IsTrue (is_selector s)) short selector_at selector_format (λ s. refl) (λ s h. h) tag (λ s. is)

body_takes : (tag : ℕ) (bytes : List ℕ) (b : RecordBody) (rest : List ℕ) → IsBytes bytes → body_behind tag bytes ≡ Some (b, rest) → BodyBehind tag bytes b rest
unfolding body_behind
body_takes tag bytes b rest fits found =
    elim (chosen (eqb tag 86) _ _ (b, rest) found) [
      | inl h ↦ views_behind tag (eqb-true tag 86 h.0) bytes b rest fits h.1
      | inr g ↦ elim (chosen (eqb tag 77) _ _ (b, rest) g.1) [
        | inl h ↦ menu_behind tag (eqb-true tag 77 h.0) bytes b rest fits h.1
        | inr g ↦ elim (chosen (eqb tag 66) _ _ (b, rest) g.1) [
          | inl h ↦ board_behind tag (eqb-true tag 66 h.0) bytes b rest fits h.1
          | inr g ↦ elim (chosen (eqb tag 70) _ _ (b, rest) g.1) [
            | inl h ↦ form_behind tag (eqb-true tag 70 h.0) bytes b rest fits h.1
            | inr g ↦ elim (chosen (eqb tag 83) _ _ (b, rest) g.1) [
              | inl h ↦ search_behind tag (eqb-true tag 83 h.0) bytes b rest fits h.1
              | inr g ↦ let h = last_chosen (eqb tag 82) _ (b, rest) g.1 in moved_behind tag (eqb-true tag 82 h.0) bytes b rest fits h.1
            ]
          ]
        ]
      ]
    ]

body_again : (b : RecordBody) (rest : List ℕ) → IsTrue (is_body b) → body_behind (tag_of b) (tail_bytes b ++ rest) ≡ Some (b, rest)
unfolding body_behind
body_again (Views kind views) rest h =
    mapped_again (λ (d : Document). Views d.0 d.1) (both (known kind_of) views_at) (kind_letter kind ∷ views_text views ++ rest) (kind, views) rest (document_format.again (kind, views) rest (tt, (and_first _ (go_together views) h, and_second (is_view_count (length views) && list_all is_view views) (go_together views) h)))
body_again (Menu size) rest h = mapped_again (λ n. Menu n) menu_size_at (to_be_bytes w32 size ++ rest) size rest (menu_format.again size rest h)
body_again (Board many next) rest h = mapped_again (λ (b : ℕ × ℕ). Board b.0 b.1) board_at (board_text (many, next) ++ rest) (many, next) rest (board_format.again (many, next) rest (and_first (is_cap many) _ h, ltb-true next (2 ^ 64) (and_second (is_cap many) _ h)))
body_again (Form board size) rest h = mapped_again (λ (f : List ℕ × ℕ). Form f.0 f.1) (both selector_at form_size_at) (form_text (board, size) ++ rest) (board, size) rest (form_format.again (board, size) rest (and_first (is_selector board) _ h, and_second (is_selector board) _ h))
body_again (Search scope) rest h = mapped_again (λ s. Search s) selector_at (short scope ++ rest) scope rest (selector_format.again scope rest h)
body_again (Moved target) rest h = mapped_again (λ s. Moved s) selector_at (short target ++ rest) target rest (selector_format.again target rest h)

-- ---- the record

small_tag : (b : RecordBody) → tag_of b < 256
small_tag (Views kind views) = omega arith
small_tag (Menu size) = omega arith
small_tag (Board many next) = omega arith
small_tag (Form board size) = omega arith
small_tag (Search scope) = omega arith
small_tag (Moved target) = omega arith

-- all that stands in a record beside its moments
record RestFits (r : Record) : Type 0 where
  title : IsTrue (is_title r.title)
  summary : IsTrue (is_summary r.summary)
  body : IsTrue (is_body r.body)

-- whichever way the moments are written
module _ (Fit : Moments → Type 0) (write : Moments → List ℕ) (read : Read Moments) (format : IsFormat Fit write read) where
  abbrev written : Record → List ℕ
  written r = tag_of r.body ∷ write (r.stamp, r.until) ++ rest_bytes r

  abbrev IsTaken : List ℕ → Record → Type 0
  IsTaken bytes r = (Fit (r.stamp, r.until) × RestFits r) × (bytes ≡ written r)

  taken_by : (bytes : List ℕ) (r : Record) → IsBytes bytes → record_by read bytes ≡ Some r → IsTaken bytes r
  unfolding record_by rest_at
  taken_by bytes r fits e =
      let a = bind_some (byte bytes) (λ tag. read tag.1 >>= λ m. rest_at tag.0 m.0 m.1) r e in
      let m = bind_some (read a.0.1) (λ m. rest_at a.0.0 m.0 m.1) r a.2 in
      let b = bind_some (head_at m.0.1) (λ head. body_behind a.0.0 head.1 >>= λ body. cond (eqb (length body.1) 0) (Some (record { title = head.0.0; stamp = m.0.0.0; until = m.0.0.1; summary = head.0.1; body = body.0 })) None) r m.2 in
      let made : RecordBody → Record = λ t. record { title = b.0.0.0; stamp = m.0.0.0; until = m.0.0.1; summary = b.0.0.1; body = t } in
      let c = bind_some (body_behind a.0.0 b.0.1) (λ body. cond (eqb (length body.1) 0) (Some (made body.0)) None) r b.2 in
      let g = guard_some (eqb (length c.0.1) 0) (made c.0.0) r c.2 in
      let t0 = byte_format.takes bytes a.0.0 a.0.1 fits a.1 in
      let tm = format.takes a.0.1 m.0.0 m.0.1 t0.0.rest_fits m.1 in
      let t1 = head_format.takes m.0.1 b.0.0 b.0.1 tm.0.rest_fits b.1 in
      let t2 = body_takes a.0.0 b.0.1 c.0.0 c.0.1 t1.0.rest_fits c.1 in
      let nothing : c.0.1 ≡ [] = nil_from_length c.0.1 (eqb-true _ _ g.0) in
      let e12 = Takes-then m.0.1 (head_text b.0.0) b.0.1 (tail_bytes c.0.0) c.0.1 t1.0 t2.0 in
      let em = Takes-then a.0.1 (write m.0.0) m.0.1 (head_text b.0.0 ++ tail_bytes c.0.0) c.0.1 tm.0 e12 in
      let e02 = Takes-then bytes (a.0.0 ∷ []) a.0.1 (write m.0.0 ++ (head_text b.0.0 ++ tail_bytes c.0.0)) c.0.1 t0.0 em in
      let all : List ℕ = write m.0.0 ++ (head_text b.0.0 ++ tail_bytes c.0.0) in
      let whole : bytes ≡ written (made c.0.0) =
      e02.parts ∙ ap (λ (r : List ℕ). (a.0.0 ∷ all) ++ r) nothing ∙ append-nil (a.0.0 ∷ all) ∙ ap (λ (k : ℕ). k ∷ all) t2.1.1 in
      subst (λ (x : Record). IsTaken bytes x) g.1 ((tm.1, record { title = t1.1.0; summary = t1.1.1; body = t2.1.0 }), whole)

  again_by : (r : Record) → Fit (r.stamp, r.until) → RestFits r → record_by read (written r) ≡ Some r
  unfolding record_by rest_at
  again_by r fit rest =
      let tail : body_behind (tag_of r.body) (tail_bytes r.body) ≡ Some (r.body, []) = ap (body_behind (tag_of r.body)) (sym (append-nil (tail_bytes r.body))) ∙ body_again r.body [] rest.body in
      rw (byte_format.again (tag_of r.body) (write (r.stamp, r.until) ++ rest_bytes r) (small_tag r.body), format.again (r.stamp, r.until) (rest_bytes r) fit, head_format.again (r.title, r.summary) (tail_bytes r.body) (rest.title, rest.summary), tail) refl

rest_of : (r : Record) → IsTrue (is_record r) → RestFits r
rest_of r h =
    let h1 = and_second (is_stamp r.stamp && is_until r.until) _ h in
    let h2 = and_second (is_title r.title) _ h1 in
    record { title = and_first (is_title r.title) _ h1; summary = and_first (is_summary r.summary) _ h2; body = and_second (is_summary r.summary) _ h2 }

whole_of : (r : Record) → IsTrue (is_stamp r.stamp) → IsTrue (is_until r.until) → RestFits r → IsTrue (is_record r)
whole_of r stamp until rest = and_both _ _ (and_both (is_stamp r.stamp) _ stamp until) (and_both _ _ rest.title (and_both _ _ rest.summary rest.body))

moments_of : (r : Record) → IsTrue (is_record r) → MomentsFit (r.stamp, r.until)
moments_of r h = let m = and_first (is_stamp r.stamp && is_until r.until) _ h in (and_first (is_stamp r.stamp) _ m, and_second (is_stamp r.stamp) _ m)

pub record_takes : (bytes : List ℕ) (r : Record) → IsBytes bytes → record_at bytes ≡ Some r → IsTrue (is_record r) × (bytes ≡ record_bytes r)
unfolding record_bytes
record_takes bytes r fits e =
    let t = taken_by MomentsFit moments_text moments_at moments_format bytes r fits e in
    (whole_of r t.0.0.0 t.0.0.1 t.0.1, t.1)

some_record : (o : Option Record) (front : CardFront) → option_map record_front o ≡ Some front → (r : Record) × (o ≡ Some r) × (front ≡ record_front r)
some_record None front h = absurd (cc h)
some_record (Some r) front h = (r, refl, cc h)

-- a front that was read is that of a record
pub front_found : (bytes : List ℕ) (result : Result CardFront RecordFault) → IsBytes bytes → Reads (λ front. front) result (option_map record_front (record_at bytes))
    → IfOk result (λ front. (r : Record) × IsTrue (is_record r) × (bytes ≡ record_bytes r) × (front ≡ record_front r))
front_found bytes (Ok front) fits read =
    let some = some_record (record_at bytes) front read in
    let taken = record_takes bytes some.0 fits some.1 in
    (some.0, taken.0, taken.1, some.2)
front_found bytes (Err e) fits read = tt

pub record_again : (r : Record) → IsTrue (is_record r) → record_at (record_bytes r) ≡ Some r
unfolding record_bytes
record_again r h = again_by MomentsFit moments_text moments_at moments_format r (moments_of r h) (rest_of r h)

-- ---- version 1

none_is : (u : Option ℕ) → is_none u ≡ true → u ≡ None
none_is None h = refl
none_is (Some n) h = absurd (cc h)

pub record_takes_v1 : (bytes : List ℕ) (r : Record) → IsBytes bytes → record_at_v1 bytes ≡ Some r → IsTrue (is_record_v1 r) × (bytes ≡ record_bytes_v1 r)
unfolding record_at_v1 record_bytes_v1
record_takes_v1 bytes r fits e =
    let a = bind_some (record_by moments_at_v1 bytes) (λ x. cond (is_small x.body) (Some x) None) r e in
    let g = guard_some (is_small a.0.body) a.0 r a.2 in
    let t = taken_by MomentsFitV1 moments_text_v1 moments_at_v1 moments_format_v1 bytes a.0 fits a.1 in
    let valid : IsTrue (is_record a.0) = whole_of a.0 t.0.0.0 (ap is_until t.0.0.1) t.0.1 in
    subst (λ (x : Record). IsTrue (is_record_v1 x) × (bytes ≡ record_bytes_v1 x)) g.1 (and_both (is_record a.0) _ valid (and_both (is_none a.0.until) _ (ap is_none t.0.0.1) g.0), t.1)

pub record_again_v1 : (r : Record) → IsTrue (is_record_v1 r) → record_at_v1 (record_bytes_v1 r) ≡ Some r
unfolding record_at_v1 record_bytes_v1
record_again_v1 r h =
    let valid = and_first (is_record r) _ h in
    let more = and_second (is_record r) _ h in
    let none = none_is r.until (and_first (is_none r.until) _ more) in
    rw (again_by MomentsFitV1 moments_text_v1 moments_at_v1 moments_format_v1 r ((moments_of r valid).0, none) (rest_of r valid), and_second (is_none r.until) _ more) refl

pub record_found_v1 : (bytes : List ℕ) (r : Result Record RecordFault) → IsBytes bytes → Gives (λ x. x) r (record_at_v1 bytes) → IfOk r (λ x. IsTrue (is_record_v1 x) × (bytes ≡ record_bytes_v1 x))
record_found_v1 bytes (Ok x) fits given = record_takes_v1 bytes x fits given
record_found_v1 bytes (Err e) fits given = tt

pub record_found : (bytes : List ℕ) (r : Result Record RecordFault) → IsBytes bytes → Gives (λ x. x) r (record_at bytes) → IfOk r (λ x. IsTrue (is_record x) × (bytes ≡ record_bytes x))
record_found bytes (Ok x) fits given = record_takes bytes x fits given
record_found bytes (Err e) fits given = tt

abbrev held : Record → Option Record
held r = Some r

-- records that are written alike are one
pub same_record : (r s : Record) → IsTrue (is_record r) → IsTrue (is_record s) → record_bytes r ≡ record_bytes s → r ≡ s
same_record r s g h e =
    let same : held r ≡ held s = sym (record_again r g) ∙ ap record_at e ∙ record_again s h in
    cc same

-- ---- what is read fits its fields

view_fits : (v : CardView) → IsTrue (is_view v) → IsTrue (fits_view v)
view_fits v h =
    let more = and_second (is_view_name v.name) _ h in
    and_both (nat_le (length v.name) 40) _ (and_first _ (is_word v.name) (and_first (is_view_name v.name) _ h)) (and_first _ (list_all is_visible v.language) (and_first (is_language v.language) _ more))

views_fit : (vs : List CardView) → list_all is_view vs ≡ true → list_all fits_view vs ≡ true
views_fit [] h = refl
views_fit (v ∷ vs) h = and_both (fits_view v) _ (view_fits v (and_first (is_view v) _ h)) (views_fit vs (and_second (is_view v) _ h))

body_fits : (b : RecordBody) → IsTrue (is_body b) → IsTrue (fits_body b)
body_fits (Views kind vs) h =
    let listed = and_first (is_view_count (length vs) && list_all is_view vs) (go_together vs) h in
    and_both (nat_le (length vs) 8) _ (and_second (nat_le 1 (length vs)) (nat_le (length vs) 8) (and_first (is_view_count (length vs)) _ listed)) (views_fit vs (and_second (is_view_count (length vs)) _ listed))
body_fits (Menu size) h = refl
body_fits (Board many next) h = refl
body_fits (Form board size) h = refl
body_fits (Search scope) h = refl
body_fits (Moved target) h = refl

pub record_fits : (r : Record) → IsTrue (is_record r) → IsTrue (fits_record r)
record_fits r h =
    let rest = rest_of r h in
    and_both (is_summary r.summary) _ rest.summary (body_fits r.body rest.body)

pub read_fits : (bytes : List ℕ) (r : Result Record RecordFault) → IsBytes bytes → Gives (λ x. x) r (record_at bytes) → IfOk r (λ x. IsTrue (fits_record x))
read_fits bytes (Ok x) fits given = record_fits x (record_takes bytes x fits given).0
read_fits bytes (Err e) fits given = tt

pub read_fits_v1 : (bytes : List ℕ) (r : Result Record RecordFault) → IsBytes bytes → Gives (λ x. x) r (record_at_v1 bytes) → IfOk r (λ x. IsTrue (fits_record x))
read_fits_v1 bytes (Ok x) fits given = record_fits x (and_first (is_record x) _ (record_takes_v1 bytes x fits given).0)
read_fits_v1 bytes (Err e) fits given = tt
