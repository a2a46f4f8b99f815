-- Lengths of members, and what they leave room for.
use Rattle.std.proofs.Common.{◌≡◌, ℕ, zero, suc, ◌<◌, ◌≤◌, ◌^◌, Bool, true, false, List, [], ◌∷◌, length, map, Result, Ok, Err, refl, sym, ap, subst, arith}
use Rattle.std.specs.Prelude.{IsTrue, IfOk, slice_index_or, nat_le, nat_lt, not, ◌||◌}
use Rattle.std.specs.List.{list_all, list_any}
use Rattle.std.proofs.lemmas.Bool.{ltb-false, le-leb}
use Rattle.std.proofs.lemmas.List.{length-map}
use Rattle.std.proofs.lemmas.List.Sums.{sum_by-cons}
use Rattle.std.specs.declared.alloc.AllocError.{AllocError}
use Rattle.host_types.specs.Items.{is_long_word, is_long_question, is_long_view, view_bytes, most_view_bytes}
use Rattle.host_types.specs.Card.{card_view}
use Rattle.host_types.specs.declared.form.Question.{Question}
use Rattle.host_types.specs.declared.card.CardView.{CardView}
use Rattle.host_types.specs.declared.view.View.{View}
use Rattle.host_types.specs.declared.view.Kind.{Kind}
use Rattle.host_types.specs.declared.item.Item.{Item}
use Rattle.host_types.specs.declared.item.Body.{Body}
use Rattle.host_types.specs.declared.item.Body.TheVariants.{Views, Menu, Board, Form, Search, Moved}
use Rattle.site_records.specs.Limits.{is_summary, fits_view, fits_body, fits_record, is_short_body, is_short}
use Rattle.site_records.specs.Records.{recorded_body, recorded}
use Rattle.site_records.specs.declared.record.Record.{Record}
use Rattle.site_records.proofs.Formats.{and_first, and_second, and_both}

pub or_first : (a b : Bool) → (a || b) ≡ false → a ≡ false
or_first true b h = h
or_first false b h = refl

pub or_second : (a b : Bool) → (a || b) ≡ false → b ≡ false
or_second true b h = absurd cc
or_second false b h = h

pub none_at : {A : Type 0} (test : A → Bool) (xs : List A) (k : ℕ) (d : A) → list_any test xs ≡ false → k < length xs → test (slice_index_or xs k d) ≡ false
none_at test [] k d h less = absurd (omega arith)
none_at test (x ∷ xs) zero d h less = or_first (test x) _ h
none_at test (x ∷ xs) (suc k) d h less = none_at test xs k d (or_second (test x) _ h) (omega (arith, less))

pub each_at : {A : Type 0} (test : A → Bool) (xs : List A) (k : ℕ) (d : A) → list_all test xs ≡ true → k < length xs → test (slice_index_or xs k d) ≡ true
each_at test [] k d h less = absurd (omega arith)
each_at test (x ∷ xs) zero d h less = and_first (test x) _ h
each_at test (x ∷ xs) (suc k) d h less = each_at test xs k d (and_second (test x) _ h) (omega (arith, less))

pub each_word : (words : List (List ℕ)) (k : ℕ) (d : List ℕ) → list_any is_long_word words ≡ false → k < length words → length (slice_index_or words k d) ≤ 40
each_word words k d h less = ltb-false 40 _ (none_at is_long_word words k d h less)

pub each_question : (qs : List Question) (k : ℕ) (d : Question) → list_any is_long_question qs ≡ false → k < length qs → is_long_question (slice_index_or qs k d) ≡ false
each_question qs k d h less = none_at is_long_question qs k d h less

pub each_view : (vs : List CardView) (k : ℕ) (d : CardView) → list_all fits_view vs ≡ true → k < length vs → IsTrue (fits_view (slice_index_or vs k d))
each_view vs k d h less = each_at fits_view vs k d h less

-- ---- items that are not too long

not_true : (b : Bool) → not b ≡ true → b ≡ false
not_true true h = absurd cc
not_true false h = refl

each_within : (vs : List View) (most k : ℕ) (d : View) → view_bytes vs ≤ most → k < length vs → length (slice_index_or vs k d).bytes ≤ most
each_within [] most k d fits less = absurd (omega arith)
each_within (v ∷ vs) most zero d fits less = omega (arith, sum_by-cons (λ (w : View). length w.bytes) v vs)
each_within (v ∷ vs) most (suc k) d fits less = each_within vs most k d (omega (arith, sum_by-cons (λ (w : View). length w.bytes) v vs)) (omega (arith, less))

pub short_views : (body : Body) (kind : Kind) (vs : List View) → body ≡ Views kind vs → IsTrue (is_short_body body) → (k : ℕ) (d : View) → k < length vs → length (slice_index_or vs k d).bytes < 2 ^ 32
unfolding most_view_bytes
short_views body kind vs is short k d less =
    let here = not_true _ (subst (λ (b : Body). IsTrue (is_short_body b)) is short) in
    let fits : view_bytes vs ≤ 262144 = ltb-false 262144 (view_bytes vs) (or_first _ (list_any is_long_view vs) (or_second (nat_lt 8 (length vs)) _ here)) in
    omega (arith, each_within vs 262144 k d fits less)

view_fits : (v : View) → is_long_view v ≡ false → fits_view (card_view v) ≡ true
view_fits v h = and_both _ _ (le-leb (length v.name) 40 (ltb-false 40 (length v.name) (or_first _ (nat_lt 10 (length v.language)) h))) (le-leb (length v.language) 10 (ltb-false 10 (length v.language) (or_second (nat_lt 40 (length v.name)) _ h)))

views_fit : (vs : List View) → list_any is_long_view vs ≡ false → list_all fits_view (map card_view vs) ≡ true
views_fit [] h = refl
views_fit (v ∷ vs) h = and_both (fits_view (card_view v)) _ (view_fits v (or_first (is_long_view v) _ h)) (views_fit vs (or_second (is_long_view v) _ h))

body_fits : (body : Body) → IsTrue (is_short_body body) → IsTrue (fits_body (recorded_body body))
body_fits (Views kind vs) h =
    let here = not_true _ h in
    let more = or_second (nat_lt 8 (length vs)) _ here in
    let count : length (map card_view vs) ≤ 8 = omega (arith, length-map vs card_view, ltb-false 8 (length vs) (or_first (nat_lt 8 (length vs)) _ here)) in
    and_both (nat_le (length (map card_view vs)) 8) _ (le-leb _ 8 count) (views_fit vs (or_second (nat_lt most_view_bytes (view_bytes vs)) _ more))
body_fits (Menu es) h = refl
body_fits (Board many next) h = refl
body_fits (Form board qs) h = refl
body_fits (Search scope) h = refl
body_fits (Moved target) h = refl

pub short_body : (item : Item) → IsTrue (is_short item) → IsTrue (is_short_body item.body)
short_body item h = ap not (or_second (nat_lt 400 (length item.summary)) _ (not_true _ h))

pub short_fits : (item : Item) → IsTrue (is_short item) → IsTrue (fits_record (recorded item))
short_fits item h =
    let here = not_true _ h in
    and_both (is_summary item.summary) _ (le-leb (length item.summary) 400 (ltb-false 400 (length item.summary) (or_first (nat_lt 400 (length item.summary)) _ here))) (body_fits item.body (short_body item h))

pub recorded_fits : (item : Item) (r : Result Record AllocError) → IsTrue (is_short item) → IfOk r (λ x. x ≡ recorded item) → IfOk r (λ x. IsTrue (fits_record x))
recorded_fits item (Ok x) h e = subst (λ (y : Record). IsTrue (fits_record y)) (sym e) (short_fits item h)
recorded_fits item (Err e) h is = tt
