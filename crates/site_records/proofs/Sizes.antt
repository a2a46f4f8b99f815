-- What keeps all limits has a record: sizes of parts, and names of views.
use Rattle.std.proofs.Common.{◌≡◌, ℕ, zero, suc, ◌≤◌, ◌+◌, ◌*◌, ◌^◌, Bool, true, false, eqb, List, [], ◌∷◌, ◌++◌, length, map, refl, sym, ap, ◌∙◌, arith}
use Rattle.std.specs.Prelude.{IsTrue, nat_le, nat_lt, not, ◌||◌}
use Rattle.std.specs.List.{list_all, list_any}
use Rattle.std.specs.Int.{w16, to_be_bytes}
use Rattle.std.proofs.lemmas.Bool.{ltb-false, ltb-true, lt-ltb, leb-true, le-leb}
use Rattle.std.proofs.lemmas.List.{length-append, length-map}
use Rattle.std.proofs.lemmas.List.Sums.{sum_by-cons}
use Rattle.host_types.specs.Names.{is_field, is_word, is_visible, is_url}
use Rattle.host_types.specs.Items.{is_selector, is_title, is_host, is_link, is_typed_entry, is_bad_entry, is_bad_word, is_bad_question, is_long_question, is_long_word, prompt_of, has_bad_name, is_long_view, is_same_view, has_twins, view_bytes, most_view_bytes, is_typed_body, is_bad_body, is_long_body, has_moments, is_typed_item, is_long_item, is_valid_item}
use Rattle.host_types.specs.Card.{card_view}
use Rattle.host_types.specs.declared.view.View.{View}
use Rattle.host_types.specs.declared.card.CardView.{CardView}
use Rattle.host_types.specs.declared.menu.Entry.{Entry}
use Rattle.host_types.specs.declared.menu.Entry.TheVariants.{Local, Info, Url, Remote}
use Rattle.host_types.specs.declared.form.Question.{Question}
use Rattle.host_types.specs.declared.form.Question.TheVariants.{Ask, AskL, AskP, Choose}
use Rattle.host_types.specs.declared.item.Item.{Item}
use Rattle.host_types.specs.declared.item.Body.{Body}
use Rattle.host_types.specs.declared.item.Body.TheVariants.{Views, Menu, Board, Form, Search, Moved}
use Rattle.site_records.specs.Records.{short, entry_bytes, entries_bytes, choice_list, choices_bytes, question_bytes, questions_bytes, recorded_body, recorded}
use Rattle.site_records.specs.Limits.{is_entry, are_entries, is_prompt, is_answer, is_choice_count, is_question, are_questions, is_view, is_view_name, is_language, is_same_face, have_twins, all_lengths, is_view_count, go_together, is_menu_size, is_form_size, is_cap, is_summary, is_body, is_record}
use Rattle.site_records.proofs.Formats.{and_first, and_second, and_both}
use Rattle.site_records.proofs.Lengths.{or_first, or_second}

pub not_true : (b : Bool) → not b ≡ true → b ≡ false
not_true true h = absurd cc
not_true false h = refl

not_false : (b : Bool) → b ≡ false → not b ≡ true
not_false true h = absurd cc
not_false false h = refl

-- ---- entries

title_len : (t : List ℕ) → IsTrue (is_title t) → length t ≤ 69
title_len t h = leb-true (length t) 69 (and_first _ (is_field t) h)

selector_len : (t : List ℕ) → IsTrue (is_selector t) → length t ≤ 255
selector_len t h = leb-true (length t) 255 (and_first _ (is_field t) h)

host_len : (t : List ℕ) → IsTrue (is_host t) → length t ≤ 100
host_len t h = leb-true (length t) 100 (and_first _ (is_word t) h)

link_len : (t : List ℕ) → IsTrue (is_link t) → length t ≤ 251
link_len t h = leb-true (length t) 251 (and_first _ (is_url t) h)

entry_most : (e : Entry) → IsTrue (is_typed_entry e) → length (entry_bytes e) ≤ 431
entry_most (Local selector) h = omega (arith, selector_len selector h)
entry_most (Info title) h = omega (arith, title_len title h)
entry_most (Url title url) h = omega (arith, title_len title (and_first (is_title title) _ h), link_len url (and_second (is_title title) _ h), length-append (short title) (short url))
entry_most (Remote kind title selector host port) h =
    let more = and_second (is_title title) _ h in
    let most = and_second (is_selector selector) _ more in
    omega (
      arith,
      title_len title (and_first (is_title title) _ h),
      selector_len selector (and_first (is_selector selector) _ more),
      host_len host (and_first (is_host host) _ most),
      length-append (short title) (short selector),
      length-append (short title ++ short selector) (short host),
      length-append (short title ++ short selector ++ short host) (to_be_bytes w16 port),
    )

entry_least : (e : Entry) → 2 ≤ length (entry_bytes e)
entry_least (Local selector) = omega arith
entry_least (Info title) = omega arith
entry_least (Url title url) = omega (arith, length-append (short title) (short url))
entry_least (Remote kind title selector host port) = omega arith

entries_most : (es : List Entry) → list_all is_entry es ≡ true → length (entries_bytes es) ≤ 431 * length es
entries_most [] h = omega arith
entries_most (e ∷ es) h =
    omega (arith, length-append (entry_bytes e) (entries_bytes es), entry_most e (and_first (is_typed_entry e) _ (and_first (is_entry e) _ h)), entries_most es (and_second (is_entry e) _ h))

pub entries_size : (es : List Entry) → IsTrue (are_entries es) → length (entries_bytes es) ≤ 43100
entries_size es h = omega (arith, entries_most es (and_second (nat_le (length es) 100) _ h), leb-true (length es) 100 (and_first (nat_le (length es) 100) _ h))

or_true_first : (a b : Bool) → a ≡ true → (a || b) ≡ true
or_true_first true b h = refl
or_true_first false b h = absurd cc

or_true_second : (a b : Bool) → b ≡ true → (a || b) ≡ true
or_true_second true b h = refl
or_true_second false b h = h

pub menu_size : (es : List Entry) → IsTrue (are_entries es) → IsTrue (is_menu_size (length (entries_bytes es)))
unfolding is_menu_size
menu_size [] h = refl
menu_size (e ∷ es) h =
    let least : 2 ≤ length (entries_bytes (e ∷ es)) = omega (arith, length-append (entry_bytes e) (entries_bytes es), entry_least e) in
    or_true_second (eqb (length (entries_bytes (e ∷ es))) 0) _ (and_both (nat_le 2 _) _ (le-leb 2 _ least) (le-leb _ 43100 (entries_size (e ∷ es) h)))

pub valid_entries : (es : List Entry) → list_all is_typed_entry es ≡ true → list_any is_bad_entry es ≡ false → list_all is_entry es ≡ true
valid_entries [] h g = refl
valid_entries (e ∷ es) h g =
    and_both (is_entry e) _ (and_both (is_typed_entry e) _ (and_first (is_typed_entry e) _ h) (not_false (is_bad_entry e) (or_first (is_bad_entry e) _ g)))
    (valid_entries es (and_second (is_typed_entry e) _ h) (or_second (is_bad_entry e) _ g))

-- ---- questions

prompt_len : (t : List ℕ) → IsTrue (is_prompt t) → (1 ≤ length t) × (length t ≤ 69)
prompt_len t h = (ltb-true 0 (length t) (and_first (nat_lt 0 (length t)) _ h), title_len t (and_second (nat_lt 0 (length t)) _ h))

answer_len : (t : List ℕ) → IsTrue (is_answer t) → length t ≤ 40
answer_len t h = leb-true (length t) 40 (and_first _ (is_field t) (and_second (nat_lt 0 (length t)) _ h))

choices_most : (cs : List (List ℕ)) → list_all is_answer cs ≡ true → length (choice_list cs) ≤ 41 * length cs
choices_most [] h = omega arith
choices_most (c ∷ cs) h = omega (arith, length-append (short c) (choice_list cs), answer_len c (and_first (is_answer c) _ h), choices_most cs (and_second (is_answer c) _ h))

question_len : (q : Question) → IsTrue (is_question q) → (3 ≤ length (question_bytes q)) × (length (question_bytes q) ≤ 482)
question_len (Ask prompt) h = let p = prompt_len prompt h in (omega (arith, p.0), omega (arith, p.1))
question_len (AskL prompt) h = let p = prompt_len prompt h in (omega (arith, p.0), omega (arith, p.1))
question_len (AskP prompt word) h =
    let p = prompt_len prompt (and_first (is_prompt prompt) _ h) in
    let w = answer_len word (and_second (is_prompt prompt) _ h) in
    let l = length-append (short prompt) (short word) in
    (omega (arith, p.0, l), omega (arith, p.1, w, l))
question_len (Choose prompt choices) h =
    let p = prompt_len prompt (and_first (is_prompt prompt) _ h) in
    let c = and_second (is_prompt prompt) _ h in
    let many = leb-true (length choices) 10 (and_second (nat_le 1 (length choices)) _ (and_first (is_choice_count (length choices)) _ c)) in
    let most = choices_most choices (and_second (is_choice_count (length choices)) _ c) in
    let l = length-append (short prompt) (choices_bytes choices) in
    (omega (arith, p.0, l), omega (arith, p.1, many, most, l))

questions_most : (qs : List Question) → list_all is_question qs ≡ true → length (questions_bytes qs) ≤ 482 * length qs
questions_most [] h = omega arith
questions_most (q ∷ qs) h = let l = question_len q (and_first (is_question q) _ h) in omega (arith, length-append (question_bytes q) (questions_bytes qs), l.1, questions_most qs (and_second (is_question q) _ h))

pub questions_size : (qs : List Question) → IsTrue (are_questions qs) → (3 ≤ length (questions_bytes qs)) × (length (questions_bytes qs) ≤ 7712)
questions_size [] h = absurd cc
questions_size (q ∷ qs) h =
    let more = and_second (nat_lt 0 (length (q ∷ qs))) _ h in
    let all = and_second (nat_le (length (q ∷ qs)) 16) _ more in
    let many = leb-true (length (q ∷ qs)) 16 (and_first (nat_le (length (q ∷ qs)) 16) _ more) in
    let one = question_len q (and_first (is_question q) _ all) in
    (omega (arith, length-append (question_bytes q) (questions_bytes qs), one.0), omega (arith, many, questions_most (q ∷ qs) all))

pub form_size : (qs : List Question) → IsTrue (are_questions qs) → IsTrue (is_form_size (length (questions_bytes qs)))
unfolding is_form_size
form_size qs h = let s = questions_size qs h in and_both (nat_le 3 _) _ (le-leb 3 _ s.0) (le-leb _ 7712 s.1)

above_zero : (n : ℕ) → eqb n 0 ≡ false → nat_lt 0 n ≡ true
above_zero zero h = absurd cc
above_zero (suc n) h = lt-ltb 0 (suc n) (omega arith)

valid_word : (w : List ℕ) → is_bad_word w ≡ false → is_long_word w ≡ false → is_answer w ≡ true
valid_word w bad long =
    and_both (nat_lt 0 (length w)) _ (above_zero (length w) (or_first (eqb (length w) 0) _ bad))
    (and_both (nat_le (length w) 40) _ (le-leb (length w) 40 (ltb-false 40 (length w) long)) (not_not (is_field w) (or_second (eqb (length w) 0) _ bad)))
  where
    not_not : (b : Bool) → not b ≡ false → b ≡ true
    not_not true h = refl
    not_not false h = absurd cc

valid_words : (ws : List (List ℕ)) → list_any is_bad_word ws ≡ false → list_any is_long_word ws ≡ false → list_all is_answer ws ≡ true
valid_words [] bad long = refl
valid_words (w ∷ ws) bad long = and_both (is_answer w) _ (valid_word w (or_first (is_bad_word w) _ bad) (or_first (is_long_word w) _ long)) (valid_words ws (or_second (is_bad_word w) _ bad) (or_second (is_long_word w) _ long))

valid_prompt : (t : List ℕ) → eqb (length t) 0 ≡ false → is_title t ≡ true → is_prompt t ≡ true
valid_prompt t some h = and_both (nat_lt 0 (length t)) _ (above_zero (length t) some) h

valid_question : (q : Question) → is_title (prompt_of q) ≡ true → is_bad_question q ≡ false → is_long_question q ≡ false → is_question q ≡ true
valid_question (Ask prompt) t bad long = valid_prompt prompt bad t
valid_question (AskL prompt) t bad long = valid_prompt prompt bad t
valid_question (AskP prompt word) t bad long =
    and_both (is_prompt prompt) _ (valid_prompt prompt (or_first (eqb (length prompt) 0) _ bad) t) (valid_word word (or_second (eqb (length prompt) 0) _ bad) long)
valid_question (Choose prompt choices) t bad long =
    let more = or_second (eqb (length prompt) 0) _ bad in
    let some : nat_le 1 (length choices) ≡ true = above_zero (length choices) (or_first (eqb (length choices) 0) _ more) in
    let few = le-leb (length choices) 10 (ltb-false 10 (length choices) (or_first (nat_lt 10 (length choices)) _ long)) in
    and_both (is_prompt prompt) _ (valid_prompt prompt (or_first (eqb (length prompt) 0) _ bad) t)
    (and_both (is_choice_count (length choices)) _ (and_both (nat_le 1 (length choices)) _ some few) (valid_words choices (or_second (eqb (length choices) 0) _ more) (or_second (nat_lt 10 (length choices)) _ long)))

valid_questions : (qs : List Question) → list_all (λ q. is_title (prompt_of q)) qs ≡ true → list_any is_bad_question qs ≡ false → list_any is_long_question qs ≡ false → list_all is_question qs ≡ true
valid_questions [] t bad long = refl
valid_questions (q ∷ qs) t bad long =
    and_both (is_question q) _ (valid_question q (and_first (is_title (prompt_of q)) _ t) (or_first (is_bad_question q) _ bad) (or_first (is_long_question q) _ long))
    (valid_questions qs (and_second (is_title (prompt_of q)) _ t) (or_second (is_bad_question q) _ bad) (or_second (is_long_question q) _ long))

-- ---- views

not_not : (b : Bool) → not b ≡ false → b ≡ true
not_not true h = refl
not_not false h = absurd cc

valid_view : (v : View) → has_bad_name v ≡ false → is_long_view v ≡ false → length v.bytes ≤ 262144 → is_view (card_view v) ≡ true
valid_view v bad long fits =
    and_both (is_view_name v.name) _
    (and_both (nat_le (length v.name) 40) _ (le-leb (length v.name) 40 (ltb-false 40 (length v.name) (or_first _ (nat_lt 10 (length v.language)) long))) (not_not (is_word v.name) (or_first (not (is_word v.name)) _ bad)))
    (and_both (is_language v.language) _
    (and_both (nat_le (length v.language) 10) _ (le-leb (length v.language) 10 (ltb-false 10 (length v.language) (or_second (nat_lt 40 (length v.name)) _ long))) (not_not (list_all is_visible v.language) (or_second (not (is_word v.name)) _ bad)))
    (lt-ltb (length v.bytes) (2 ^ 32) (omega (arith, fits))))

valid_views : (vs : List View) → list_any has_bad_name vs ≡ false → list_any is_long_view vs ≡ false → view_bytes vs ≤ 262144 → list_all is_view (map card_view vs) ≡ true
valid_views [] bad long fits = refl
valid_views (v ∷ vs) bad long fits =
    let sum = sum_by-cons (λ (w : View). length w.bytes) v vs in
    and_both (is_view (card_view v)) _ (valid_view v (or_first (has_bad_name v) _ bad) (or_first (is_long_view v) _ long) (omega (arith, fits, sum)))
    (valid_views vs (or_second (has_bad_name v) _ bad) (or_second (is_long_view v) _ long) (omega (arith, fits, sum)))

same_faces : (v : View) (vs : List View) → list_any (is_same_face (card_view v)) (map card_view vs) ≡ list_any (is_same_view v) vs
same_faces v [] = refl
same_faces v (w ∷ vs) = ap (λ (b : Bool). is_same_view v w || b) (same_faces v vs)

pub twins : (vs : List View) → have_twins (map card_view vs) ≡ has_twins vs
twins [] = refl
twins (v ∷ vs) = ap (λ (b : Bool). b || have_twins (map card_view vs)) (same_faces v vs) ∙ ap (λ (b : Bool). list_any (is_same_view v) vs || b) (twins vs)

pub lengths : (vs : List View) → all_lengths (map card_view vs) ≡ view_bytes vs
lengths [] = refl
lengths (v ∷ vs) = sum_by-cons (λ (w : CardView). w.length) (card_view v) (map card_view vs) ∙ ap (λ (n : ℕ). length v.bytes + n) (lengths vs) ∙ sym (sum_by-cons (λ (w : View). length w.bytes) v vs)

-- ---- bodies

pub menu_entries : (es : List Entry) → IsTrue (is_typed_body (Menu es)) → is_bad_body (Menu es) ≡ false → is_long_body [] (Menu es) ≡ false → IsTrue (are_entries es)
menu_entries es typed bad long = and_both (nat_le (length es) 100) _ (le-leb (length es) 100 (ltb-false 100 (length es) long)) (valid_entries es typed bad)

pub form_questions : (board : List ℕ) (qs : List Question) → IsTrue (is_typed_body (Form board qs)) → is_bad_body (Form board qs) ≡ false → is_long_body [] (Form board qs) ≡ false → IsTrue (are_questions qs)
form_questions board qs typed bad long =
    and_both (nat_lt 0 (length qs)) _ (above_zero (length qs) (or_first (eqb (length qs) 0) _ bad))
    (and_both (nat_le (length qs) 16) _ (le-leb (length qs) 16 (ltb-false 16 (length qs) (or_first (nat_lt 16 (length qs)) _ long)))
    (valid_questions qs (and_second (is_selector board) _ typed) (or_second (eqb (length qs) 0) _ bad) (or_second (nat_lt 16 (length qs)) _ long)))

body_record : (body : Body) → IsTrue (is_typed_body body) → is_bad_body body ≡ false → is_long_body [] body ≡ false → IsTrue (is_body (recorded_body body))
unfolding go_together most_view_bytes
body_record (Views kind vs) typed bad long =
    let names = or_second (eqb (length vs) 0) _ bad in
    let sizes = or_second (nat_lt 8 (length vs)) _ long in
    let count : length (map card_view vs) ≡ length vs = length-map vs card_view in
    let some : 1 ≤ length (map card_view vs) = omega (arith, count, ltb-true 0 (length vs) (above_zero (length vs) (or_first (eqb (length vs) 0) _ bad))) in
    let few : length (map card_view vs) ≤ 8 = omega (arith, count, ltb-false 8 (length vs) (or_first (nat_lt 8 (length vs)) _ long)) in
    let large = or_first (nat_lt 262144 (view_bytes vs)) _ sizes in
    let fits : view_bytes vs ≤ 262144 = ltb-false 262144 (view_bytes vs) large in
    and_both _ _
    (and_both (is_view_count (length (map card_view vs))) _ (and_both (nat_le 1 (length (map card_view vs))) _ (le-leb 1 _ some) (le-leb _ 8 few)) (valid_views vs (or_first (list_any has_bad_name vs) _ names) (or_second (nat_lt 262144 (view_bytes vs)) _ sizes) fits))
    (and_both (not (have_twins (map card_view vs))) _ (not_false _ (twins vs ∙ or_second (list_any has_bad_name vs) _ names)) (not_false _ (ap (nat_lt 262144) (lengths vs) ∙ large)))
body_record (Menu es) typed bad long = menu_size es (menu_entries es typed bad long)
body_record (Board many next) typed bad long =
    and_both (is_cap many) _ (and_both (nat_le 1 many) _ (above_zero many bad) (le-leb many 100 (ltb-false 100 many (or_first (nat_lt 100 many) _ long)))) typed
body_record (Form board qs) typed bad long = and_both (is_selector board) _ (and_first (is_selector board) _ typed) (form_size qs (form_questions board qs typed bad long))
body_record (Search scope) typed bad long = typed
body_record (Moved target) typed bad long = typed

pub short_anywhere : (selector : List ℕ) (body : Body) → is_long_body selector body ≡ false → is_long_body [] body ≡ false
short_anywhere selector (Views kind vs) h = h
short_anywhere selector (Menu es) h = h
short_anywhere selector (Board many next) h = rw (or_first (nat_lt 100 many) _ h) refl
short_anywhere selector (Form board qs) h = h
short_anywhere selector (Search scope) h = h
short_anywhere selector (Moved target) h = h

-- the body of an item that keeps all limits
pub record IsValid (body : Body) : Type 0 where
  pub typed : IsTrue (is_typed_body body)
  pub not_bad : is_bad_body body ≡ false
  pub not_long : is_long_body [] body ≡ false

pub valid_body : (selector : List ℕ) (item : Item) → IsTrue (is_valid_item selector item) → IsValid item.body
valid_body selector item h =
    let rest = and_second (is_typed_item item) _ h in
    let long = not_true (is_long_item selector item) (and_second (not (is_bad_body item.body)) _ rest) in
    record {
      typed = and_second (has_moments item) _ (and_second (is_title item.title) _ (and_first (is_typed_item item) _ h));
      not_bad = not_true (is_bad_body item.body) (and_first (not (is_bad_body item.body)) _ rest);
      not_long = short_anywhere selector item.body (or_second (nat_lt 400 (length item.summary)) _ long);
    }

pub item_record : (selector : List ℕ) (item : Item) → IsTrue (is_valid_item selector item) → IsTrue (is_record (recorded item))
item_record selector item h =
    let typed = and_first (is_typed_item item) _ h in
    let rest = and_second (is_typed_item item) _ h in
    let bad = not_true (is_bad_body item.body) (and_first (not (is_bad_body item.body)) _ rest) in
    let long = not_true (is_long_item selector item) (and_second (not (is_bad_body item.body)) _ rest) in
    let more = and_second (is_title item.title) _ typed in
    let moments = and_first (has_moments item) _ more in
    let body = body_record item.body (and_second (has_moments item) _ more) bad (short_anywhere selector item.body (or_second (nat_lt 400 (length item.summary)) _ long)) in
    let summary = le-leb (length item.summary) 400 (ltb-false 400 (length item.summary) (or_first (nat_lt 400 (length item.summary)) _ long)) in
    and_both _ _ moments (and_both (is_title item.title) _ (and_first (is_title item.title) _ typed) (and_both (is_summary item.summary) _ summary body))
