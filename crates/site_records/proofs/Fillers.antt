-- Each record that keeps the limits is that of an item: parts of any length that the limits allow.
use Rattle.std.proofs.Common.{◌≡◌, ℕ, zero, suc, ◌<◌, ◌≤◌, ◌+◌, ◌-◌, true, false, cond, eqb, List, [], ◌∷◌, ◌++◌, length, map, refl, sym, ap, ◌∙◌, inl, inr, arith}
use Rattle.std.specs.Prelude.{IsTrue, nat_le, nat_lt, not, ◌&&◌, ◌||◌, replicate, if◌then◌else◌}
use Rattle.std.specs.List.{list_all, list_any, AllByRecursion}
use Rattle.std.proofs.lemmas.Bool.{cases_lt, eqb-true, le-leb, leb-true, leb-false, lt-ltb, le-ltb, ltb-true, ne_eqb}
use Rattle.std.proofs.lemmas.List.{length-append, length-map, length-replicate}
use Rattle.host_types.specs.Names.{is_field, is_forbidden, is_word, is_visible}
use Rattle.host_types.specs.Items.{is_until, is_selector, is_title, is_host, is_typed_entry, is_bad_entry, is_bad_word, is_bad_question, prompt_of, has_bad_name, is_long_view, has_twins, view_bytes, most_view_bytes, is_bad_body, is_typed_item, is_valid_item}
use Rattle.host_types.specs.Card.{card_view}
use Rattle.host_types.specs.declared.view.View.{View}
use Rattle.host_types.specs.declared.card.CardView.{CardView}
use Rattle.host_types.specs.declared.menu.Entry.{Entry}
use Rattle.host_types.specs.declared.menu.Entry.TheVariants.{Local, Remote}
use Rattle.host_types.specs.declared.menu.LinkKind.TheVariants as links
use Rattle.host_types.specs.declared.form.Question.{Question}
use Rattle.host_types.specs.declared.form.Question.TheVariants.{Ask, AskL, AskP, Choose}
use Rattle.host_types.specs.declared.item.Item.{Item}
use Rattle.host_types.specs.declared.item.Body.{Body}
use Rattle.host_types.specs.declared.item.Body.TheVariants.{Views, Menu, Board, Form, Search, Moved}
use Rattle.site_records.specs.Records.{short, entry_bytes, entries_bytes, question_bytes, questions_bytes, choice_list, choices_bytes, recorded_body, recorded}
use Rattle.site_records.specs.Limits.{is_entry, are_entries, is_question, are_questions, is_prompt, is_answer, is_choice_count, is_view, is_view_name, is_language, have_twins, all_lengths, is_view_count, go_together, is_menu_size, is_form_size, is_cap, is_stamp, is_summary, is_body, is_record}
use Rattle.site_records.specs.declared.record.Record.{Record}
use Rattle.site_records.specs.declared.record.RecordBody.{RecordBody}
use Rattle.site_records.specs.declared.record.RecordBody.TheVariants as kept
use Rattle.site_records.proofs.Formats.{and_first, and_second, and_both}
use Rattle.site_records.proofs.QuestionLaws.{or_false, short_questions}
use Rattle.site_records.proofs.Sizes.{not_true, IsValid, twins, lengths}

-- ---- a number as a sum of a few numbers between two bounds

total : ℕ → ℕ → ℕ
total most zero = 0
total most (suc k) = most + total most k

abbrev summands : ℕ → ℕ → ℕ → ℕ → List ℕ
summands least most zero n = []
summands least most (suc k) n =
    if nat_le n most then n ∷ []
    else if nat_le (most + least) n then most ∷ summands least most k (n - most)
    else (most - least) ∷ summands least most k (n - (most - least))

abbrev sum_of : List ℕ → ℕ
sum_of [] = 0
sum_of (n ∷ ns) = n + sum_of ns

abbrev IsBetween : ℕ → ℕ → ℕ → Type 0
IsBetween least most n = (least ≤ n) × (n ≤ most)

record Sums (least most k n : ℕ) (ns : List ℕ) : Type 0 where
  pub adds : sum_of ns ≡ n
  pub each : AllByRecursion (IsBetween least most) ns
  pub few : length ns ≤ k
  pub some : 1 ≤ length ns

within : (least most k n : ℕ) → least + least ≤ most → n ≤ most + total most k → most < n → n < most + least → n - (most - least) ≤ total most k
unfolding total
within least most zero n wide high above under = absurd (omega (arith, high, above))
within least most (suc k) n wide high above under = omega (arith, wide, above, under)

summands_add : (least most : ℕ) → least + least ≤ most → 0 < least → (k n : ℕ) → least ≤ n → n ≤ total most k → Sums least most k n (summands least most k n)
unfolding total
summands_add least most wide some zero n low high = absurd (omega (arith, low, high, some))
summands_add least most wide some (suc k) n low high =
    let others = summands_add least most wide some k in
    elim (nat_le n most) as (λ b. nat_le n most ≡ b → Sums least most (suc k) n (cond b (n ∷ []) (cond (nat_le (most + least) n) (most ∷ summands least most k (n - most)) ((most - least) ∷ summands least most k (n - (most - least)))))) [
      | true ↦ λ t. record { adds = omega arith; each = ((low, leb-true n most t), tt); few = omega arith; some = omega arith }
      | false ↦ λ t. elim (nat_le (most + least) n) as (λ b. nat_le (most + least) n ≡ b → Sums least most (suc k) n (cond b (most ∷ summands least most k (n - most)) ((most - least) ∷ summands least most k (n - (most - least))))) [
        | true ↦ λ u.
            let over = leb-true (most + least) n u in
            let rest = others (n - most) (omega (arith, over)) (omega (arith, high, over)) in
            record { adds = omega (arith, rest.adds, over); each = ((omega (arith, wide), omega arith), rest.each); few = omega (arith, rest.few); some = omega arith }
        | false ↦ λ u.
            let above = leb-false n most t in
            let under = leb-false (most + least) n u in
            let rest = others (n - (most - least)) (omega (arith, above, wide)) (within least most k n wide high above under) in
            record { adds = omega (arith, rest.adds, above, wide); each = ((omega (arith, wide), omega (arith, wide)), rest.each); few = omega (arith, rest.few); some = omega arith }
      ] refl
    ] refl

-- ---- texts

abbrev letters : ℕ → List ℕ
letters n = replicate n 97

letters_long : (n : ℕ) → length (letters n) ≡ n
letters_long n = length-replicate n 97

letters_plain : (n : ℕ) → list_any is_forbidden (letters n) ≡ false
letters_plain zero = refl
letters_plain (suc n) = letters_plain n

letters_seen : (n : ℕ) → list_all is_visible (letters n) ≡ true
letters_seen zero = refl
letters_seen (suc n) = letters_seen n

letters_field : (n : ℕ) → is_field (letters n) ≡ true
letters_field n = ap not (letters_plain n)

a_selector : (n : ℕ) → n ≤ 255 → is_selector (letters n) ≡ true
a_selector n h = and_both (nat_le (length (letters n)) 255) _ (le-leb _ 255 (omega (arith, h, letters_long n))) (letters_field n)

a_title : (n : ℕ) → n ≤ 69 → is_title (letters n) ≡ true
a_title n h = and_both (nat_le (length (letters n)) 69) _ (le-leb _ 69 (omega (arith, h, letters_long n))) (letters_field n)

a_host : (n : ℕ) → 1 ≤ n → n ≤ 100 → is_host (letters n) ≡ true
a_host n low h =
    and_both (nat_le (length (letters n)) 100) _ (le-leb _ 100 (omega (arith, h, letters_long n))) (and_both (nat_lt 0 (length (letters n))) _ (lt-ltb 0 _ (omega (arith, low, letters_long n))) (letters_seen n))

a_prompt : (n : ℕ) → 1 ≤ n → n ≤ 69 → is_prompt (letters n) ≡ true
a_prompt n low h = and_both (nat_lt 0 (length (letters n))) _ (lt-ltb 0 _ (omega (arith, low, letters_long n))) (a_title n h)

an_answer : (n : ℕ) → 1 ≤ n → n ≤ 40 → is_answer (letters n) ≡ true
an_answer n low h =
    and_both (nat_lt 0 (length (letters n))) _ (lt-ltb 0 _ (omega (arith, low, letters_long n))) (and_both (nat_le (length (letters n)) 40) _ (le-leb _ 40 (omega (arith, h, letters_long n))) (letters_field n))

-- ---- an entry of any length

abbrev AnEntry : ℕ → Type 0
AnEntry n = (e : Entry) × (length (entry_bytes e) ≡ n) × (is_entry e ≡ true)

local_entry : (n : ℕ) → 2 ≤ n → n ≤ 257 → AnEntry n
local_entry n low high = (Local (letters (n - 2)), omega (arith, low, letters_long (n - 2)), and_both (is_selector (letters (n - 2))) true (a_selector (n - 2) (omega (arith, high))) refl)

remote_entry : (t s h n : ℕ) → t ≤ 69 → s ≤ 255 → 1 ≤ h → h ≤ 100 → t + s + h + 7 ≡ n → AnEntry n
remote_entry t s h n title selector host hosts sum = (
  Remote links.Text (letters t) (letters s) (letters h) 70,
  omega (
    arith,
    sum,
    letters_long t,
    letters_long s,
    letters_long h,
    length-append (short (letters t)) (short (letters s)),
    length-append (short (letters t) ++ short (letters s)) (short (letters h)),
    length-append (short (letters t) ++ short (letters s) ++ short (letters h)) (0 ∷ 70 ∷ []),
  ),
  and_both _ true (and_both (is_title (letters t)) _ (a_title t title) (and_both (is_selector (letters s)) _ (a_selector s selector) (and_both (is_host (letters h)) _ (a_host h host hosts) refl))) refl,
)

pub an_entry : (n : ℕ) → 2 ≤ n → n ≤ 431 → AnEntry n
an_entry n low high =
    elim (cases_lt n 258) [
      | inl small ↦ local_entry n low (omega (arith, small))
      | inr more ↦ elim (cases_lt n 358) [
        | inl small ↦ remote_entry 0 250 (n - 257) n (omega arith) (omega arith) (omega (arith, more)) (omega (arith, small)) (omega (arith, more))
        | inr most ↦ elim (cases_lt n 427) [
          | inl small ↦ remote_entry (n - 357) 250 100 n (omega (arith, small)) (omega arith) (omega arith) (omega arith) (omega (arith, most))
          | inr large ↦ remote_entry 69 (n - 176) 100 n (omega arith) (omega (arith, high)) (omega arith) (omega arith) (omega (arith, large))
        ]
      ]
    ]

-- ---- a question of any length

abbrev AQuestion : ℕ → Type 0
AQuestion n = (q : Question) × (length (question_bytes q) ≡ n) × (is_question q ≡ true)

choices_of : (ns : List ℕ) → AllByRecursion (IsBetween 2 41) ns → (cs : List (List ℕ)) × (length (choice_list cs) ≡ sum_of ns) × (list_all is_answer cs ≡ true) × (length cs ≡ length ns)
choices_of [] h = ([], refl, refl, refl)
choices_of (n ∷ ns) h =
    let rest = choices_of ns h.1 in
    let word = letters (n - 1) in
    (word ∷ rest.0, omega (arith, rest.1, letters_long (n - 1), length-append (short word) (choice_list rest.0), h.0.0), and_both (is_answer word) _ (an_answer (n - 1) (omega (arith, h.0.0)) (omega (arith, h.0.1))) rest.2, ap suc rest.3)

ask : (n : ℕ) → 3 ≤ n → n ≤ 71 → AQuestion n
ask n low high = (Ask (letters (n - 2)), omega (arith, low, letters_long (n - 2)), a_prompt (n - 2) (omega (arith, low)) (omega (arith, high)))

ask_word : (n : ℕ) → 72 ≤ n → n ≤ 111 → AQuestion n
ask_word n low high = (
  AskP (letters 68) (letters (n - 71)),
  omega (arith, low, letters_long 68, letters_long (n - 71), length-append (short (letters 68)) (short (letters (n - 71)))),
  and_both (is_prompt (letters 68)) _ (a_prompt 68 (omega arith) (omega arith)) (an_answer (n - 71) (omega (arith, low)) (omega (arith, high))),
)

choices_by : (k n : ℕ) → 2 ≤ n → n ≤ total 41 k → (cs : List (List ℕ)) × (length (choice_list cs) ≡ n) × (list_all is_answer cs ≡ true) × (1 ≤ length cs) × (length cs ≤ k)
choices_by k n low high =
    let sums = summands_add 2 41 (omega arith) (omega arith) k n low high in
    let cs = choices_of (summands 2 41 k n) sums.each in
    (cs.0, cs.1 ∙ sums.adds, cs.2, omega (arith, cs.3, sums.some), omega (arith, cs.3, sums.few))

ten : total 41 10 ≡ 410
unfolding total
ten = refl

choose : (n : ℕ) → 112 ≤ n → n ≤ 482 → AQuestion n
choose n low high =
    let cs = choices_by 10 (n - 72) (omega (arith, low)) (omega (arith, high, ten)) in
    let many : is_choice_count (length cs.0) ≡ true = and_both (nat_le 1 (length cs.0)) _ (le-leb 1 _ cs.3) (le-leb _ 10 cs.4) in (
      Choose (letters 69) cs.0,
      omega (arith, low, cs.1, letters_long 69, length-append (short (letters 69)) (choices_bytes cs.0)),
      and_both (is_prompt (letters 69)) _ (a_prompt 69 (omega arith) (omega arith)) (and_both (is_choice_count (length cs.0)) _ many cs.2),
    )

a_question : (n : ℕ) → 3 ≤ n → n ≤ 482 → AQuestion n
a_question n low high =
    elim (cases_lt n 72) [
      | inl small ↦ ask n low (omega (arith, small))
      | inr more ↦ elim (cases_lt n 112) [
        | inl small ↦ ask_word n more (omega (arith, small))
        | inr most ↦ choose n most high
      ]
    ]

-- ---- parts of any length

entries_of : (ns : List ℕ) → AllByRecursion (IsBetween 2 431) ns → (es : List Entry) × (length (entries_bytes es) ≡ sum_of ns) × (list_all is_entry es ≡ true) × (length es ≡ length ns)
entries_of [] h = ([], refl, refl, refl)
entries_of (n ∷ ns) h =
    let rest = entries_of ns h.1 in
    let e = an_entry n h.0.0 h.0.1 in
    (e.0 ∷ rest.0, omega (arith, rest.1, e.1, length-append (entry_bytes e.0) (entries_bytes rest.0)), and_both (is_entry e.0) _ e.2 rest.2, ap suc rest.3)

questions_of : (ns : List ℕ) → AllByRecursion (IsBetween 3 482) ns → (qs : List Question) × (length (questions_bytes qs) ≡ sum_of ns) × (list_all is_question qs ≡ true) × (length qs ≡ length ns)
questions_of [] h = ([], refl, refl, refl)
questions_of (n ∷ ns) h =
    let rest = questions_of ns h.1 in
    let q = a_question n h.0.0 h.0.1 in
    (q.0 ∷ rest.0, omega (arith, rest.1, q.1, length-append (question_bytes q.0) (questions_bytes rest.0)), and_both (is_question q.0) _ q.2 rest.2, ap suc rest.3)

abbrev AMenu : ℕ → Type 0
AMenu n = (es : List Entry) × (length (entries_bytes es) ≡ n) × IsTrue (are_entries es)

entries_by : (k n : ℕ) → 2 ≤ n → n ≤ total 431 k → (es : List Entry) × (length (entries_bytes es) ≡ n) × (list_all is_entry es ≡ true) × (length es ≤ k)
entries_by k n low high =
    let sums = summands_add 2 431 (omega arith) (omega arith) k n low high in
    let es = entries_of (summands 2 431 k n) sums.each in
    (es.0, es.1 ∙ sums.adds, es.2, omega (arith, es.3, sums.few))

hundred : total 431 100 ≡ 43100
unfolding total
hundred = refl

filled_menu : (n : ℕ) → 2 ≤ n → n ≤ 43100 → AMenu n
filled_menu n low high =
    let es = entries_by 100 n low (omega (arith, high, hundred)) in
    (es.0, es.1, and_both (nat_le (length es.0) 100) _ (le-leb _ 100 es.3) es.2)

a_menu : (n : ℕ) → IsTrue (is_menu_size n) → AMenu n
unfolding is_menu_size
a_menu n h =
    elim (eqb n 0) as (λ b. eqb n 0 ≡ b → (b || (nat_le 2 n && nat_le n 43100)) ≡ true → AMenu n) [
      | true ↦ λ t _. ([], sym (eqb-true n 0 t), refl)
      | false ↦ λ _ g. filled_menu n (leb-true 2 n (and_first (nat_le 2 n) _ g)) (leb-true n 43100 (and_second (nat_le 2 n) _ g))
    ] refl h

abbrev AForm : ℕ → Type 0
AForm n = (qs : List Question) × (length (questions_bytes qs) ≡ n) × IsTrue (are_questions qs)

questions_by : (k n : ℕ) → 3 ≤ n → n ≤ total 482 k → (qs : List Question) × (length (questions_bytes qs) ≡ n) × (list_all is_question qs ≡ true) × (1 ≤ length qs) × (length qs ≤ k)
questions_by k n low high =
    let sums = summands_add 3 482 (omega arith) (omega arith) k n low high in
    let qs = questions_of (summands 3 482 k n) sums.each in
    (qs.0, qs.1 ∙ sums.adds, qs.2, omega (arith, qs.3, sums.some), omega (arith, qs.3, sums.few))

sixteen : total 482 16 ≡ 7712
unfolding total
sixteen = refl

filled_form : (n : ℕ) → 3 ≤ n → n ≤ 7712 → AForm n
filled_form n low high =
    let qs = questions_by 16 n low (omega (arith, high, sixteen)) in
    (qs.0, qs.1, and_both (nat_lt 0 (length qs.0)) _ (lt-ltb 0 _ qs.3) (and_both (nat_le (length qs.0) 16) _ (le-leb _ 16 qs.4) qs.2))

a_form : (n : ℕ) → IsTrue (is_form_size n) → AForm n
unfolding is_form_size
a_form n h = filled_form n (leb-true 3 n (and_first (nat_le 3 n) _ h)) (leb-true n 7712 (and_second (nat_le 3 n) _ h))

-- ---- valid parts, as changes test them

typed_entries : (es : List Entry) → list_all is_entry es ≡ true → (list_all is_typed_entry es ≡ true) × (list_any is_bad_entry es ≡ false)
typed_entries [] h = (refl, refl)
typed_entries (e ∷ es) h =
    let rest = typed_entries es (and_second (is_entry e) _ h) in
    let one = and_first (is_entry e) _ h in
    (and_both (is_typed_entry e) _ (and_first (is_typed_entry e) _ one) rest.0, or_false (is_bad_entry e) _ (not_true (is_bad_entry e) (and_second (is_typed_entry e) _ one)) rest.1)

not_zero : (n : ℕ) → nat_lt 0 n ≡ true → eqb n 0 ≡ false
not_zero n h = ne_eqb n 0 (λ e. omega (arith, e, ltb-true 0 n h))

good_word : (w : List ℕ) → is_answer w ≡ true → is_bad_word w ≡ false
good_word w h = or_false (eqb (length w) 0) _ (not_zero (length w) (and_first (nat_lt 0 (length w)) _ h)) (ap not (and_second (nat_le (length w) 40) _ (and_second (nat_lt 0 (length w)) _ h)))

good_words : (ws : List (List ℕ)) → list_all is_answer ws ≡ true → list_any is_bad_word ws ≡ false
good_words [] h = refl
good_words (w ∷ ws) h = or_false (is_bad_word w) _ (good_word w (and_first (is_answer w) _ h)) (good_words ws (and_second (is_answer w) _ h))

good_question : (q : Question) → is_question q ≡ true → (is_title (prompt_of q) ≡ true) × (is_bad_question q ≡ false)
good_question (Ask prompt) h = (and_second (nat_lt 0 (length prompt)) _ h, not_zero (length prompt) (and_first (nat_lt 0 (length prompt)) _ h))
good_question (AskL prompt) h = (and_second (nat_lt 0 (length prompt)) _ h, not_zero (length prompt) (and_first (nat_lt 0 (length prompt)) _ h))
good_question (AskP prompt word) h =
    let p = and_first (is_prompt prompt) _ h in
    (and_second (nat_lt 0 (length prompt)) _ p, or_false (eqb (length prompt) 0) _ (not_zero (length prompt) (and_first (nat_lt 0 (length prompt)) _ p)) (good_word word (and_second (is_prompt prompt) _ h)))
good_question (Choose prompt choices) h =
    let p = and_first (is_prompt prompt) _ h in
    let c = and_second (is_prompt prompt) _ h in
    let some = and_first (nat_le 1 (length choices)) _ (and_first (is_choice_count (length choices)) _ c) in (
      and_second (nat_lt 0 (length prompt)) _ p,
      or_false (eqb (length prompt) 0) _ (not_zero (length prompt) (and_first (nat_lt 0 (length prompt)) _ p))
          (or_false (eqb (length choices) 0) _ (ne_eqb (length choices) 0 (λ e. omega (arith, e, leb-true 1 (length choices) some))) (good_words choices (and_second (is_choice_count (length choices)) _ c))),
    )

good_questions : (qs : List Question) → list_all is_question qs ≡ true → (list_all (λ q. is_title (prompt_of q)) qs ≡ true) × (list_any is_bad_question qs ≡ false)
good_questions [] h = (refl, refl)
good_questions (q ∷ qs) h =
    let rest = good_questions qs (and_second (is_question q) _ h) in
    let one = good_question q (and_first (is_question q) _ h) in
    (and_both (is_title (prompt_of q)) _ one.0 rest.0, or_false (is_bad_question q) _ one.1 rest.1)

-- ---- views of any length

abbrev filled : CardView → View
filled c = record { name = c.name; language = c.language; bytes = letters c.length }

card_again : (cs : List CardView) → map card_view (map filled cs) ≡ cs
card_again [] = refl
card_again (c ∷ cs) =
    let lens : length (letters c.length) ≡ c.length = letters_long c.length in
    let others = card_again cs in
    λ i. record { name = c.name; language = c.language; length = lens i } ∷ others i

good_views : (cs : List CardView) → list_all is_view cs ≡ true → (list_any has_bad_name (map filled cs) ≡ false) × (list_any is_long_view (map filled cs) ≡ false)
good_views [] h = (refl, refl)
good_views (c ∷ cs) h =
    let rest = good_views cs (and_second (is_view c) _ h) in
    let one = and_first (is_view c) _ h in
    let name = and_first (is_view_name c.name) _ one in
    let language = and_first (is_language c.language) _ (and_second (is_view_name c.name) _ one) in (
      or_false (has_bad_name (filled c)) _ (or_false (not (is_word c.name)) _ (ap not (and_second (nat_le (length c.name) 40) _ name)) (ap not (and_second (nat_le (length c.language) 10) _ language))) rest.0,
      or_false (is_long_view (filled c)) _
          (or_false (nat_lt 40 (length c.name)) _ (le-ltb 40 (length c.name) (leb-true (length c.name) 40 (and_first (nat_le (length c.name) 40) _ name))) (le-ltb 10 (length c.language) (leb-true (length c.language) 10 (and_first (nat_le (length c.language) 10) _ language)))) rest.1,
    )

-- ---- bodies and items

abbrev ABody : RecordBody → Type 0
ABody b = (body : Body) × IsValid body × (recorded_body body ≡ b)

a_body : (b : RecordBody) → IsTrue (is_body b) → ABody b
unfolding go_together most_view_bytes
a_body (kept.Views kind cs) h =
    let listed = and_first (is_view_count (length cs) && list_all is_view cs) _ h in
    let apart = and_second (is_view_count (length cs) && list_all is_view cs) _ h in
    let count = and_first (is_view_count (length cs)) _ listed in
    let some = leb-true 1 (length cs) (and_first (nat_le 1 (length cs)) _ count) in
    let few = leb-true (length cs) 8 (and_second (nat_le 1 (length cs)) _ count) in
    let good = good_views cs (and_second (is_view_count (length cs)) _ listed) in
    let again = card_again cs in
    let len = length-map cs filled in
    let not_twins : has_twins (map filled cs) ≡ false = sym (twins (map filled cs)) ∙ ap have_twins again ∙ not_true _ (and_first (not (have_twins cs)) _ apart) in
    let small : nat_lt 262144 (view_bytes (map filled cs)) ≡ false = ap (nat_lt 262144) (sym (lengths (map filled cs)) ∙ ap all_lengths again) ∙ not_true _ (and_second (not (have_twins cs)) _ apart) in (
      Views kind (map filled cs),
      record {
        typed = refl;
        not_bad = or_false (eqb (length (map filled cs)) 0) _ (ne_eqb _ 0 (λ e. omega (arith, e, len, some))) (or_false (list_any has_bad_name (map filled cs)) _ good.0 not_twins);
        not_long = or_false (nat_lt 8 (length (map filled cs))) _ (le-ltb 8 _ (omega (arith, len, few))) (or_false (nat_lt 262144 (view_bytes (map filled cs))) _ small good.1);
      },
      ap (kept.Views kind) again,
    )
a_body (kept.Menu size) h =
    let m = a_menu size h in
    let t = typed_entries m.0 (and_second (nat_le (length m.0) 100) _ m.2) in
    (Menu m.0, record { typed = t.0; not_bad = t.1; not_long = le-ltb 100 _ (leb-true _ 100 (and_first (nat_le (length m.0) 100) _ m.2)) }, ap kept.Menu m.1)
a_body (kept.Board many next) h =
    let count = and_first (is_cap many) _ h in (
      Board many next,
      record {
        typed = and_second (is_cap many) _ h;
        not_bad = ne_eqb many 0 (λ e. omega (arith, e, leb-true 1 many (and_first (nat_le 1 many) _ count)));
        not_long = or_false (nat_lt 100 many) _ (le-ltb 100 many (leb-true many 100 (and_second (nat_le 1 many) _ count))) refl;
      },
      refl,
    )
a_body (kept.Form board size) h =
    let f = a_form size (and_second (is_selector board) _ h) in
    let more = and_second (nat_lt 0 (length f.0)) _ f.2 in
    let all = and_second (nat_le (length f.0) 16) _ more in
    let good = good_questions f.0 all in (
      Form board f.0,
      record {
        typed = and_both (is_selector board) _ (and_first (is_selector board) _ h) good.0;
        not_bad = or_false (eqb (length f.0) 0) _ (not_zero (length f.0) (and_first (nat_lt 0 (length f.0)) _ f.2)) good.1;
        not_long = or_false (nat_lt 16 (length f.0)) _ (le-ltb 16 _ (leb-true _ 16 (and_first (nat_le (length f.0) 16) _ more))) (short_questions f.0 all);
      },
      ap (kept.Form board) f.1,
    )
a_body (kept.Search scope) h = (Search scope, record { typed = h; not_bad = refl; not_long = refl }, refl)
a_body (kept.Moved target) h = (Moved target, record { typed = h; not_bad = refl; not_long = refl }, refl)

pub an_item : (r : Record) → IsTrue (is_record r) → (item : Item) × IsTrue (is_valid_item [] item) × (recorded item ≡ r)
an_item r h =
    let moments = and_first (is_stamp r.stamp && is_until r.until) _ h in
    let titled = and_second (is_stamp r.stamp && is_until r.until) _ h in
    let more = and_second (is_title r.title) _ titled in
    let b = a_body r.body (and_second (is_summary r.summary) _ more) in
    let summary = le-ltb 400 (length r.summary) (leb-true (length r.summary) 400 (and_first (is_summary r.summary) _ more)) in
    let item : Item = record { title = r.title; stamp = r.stamp; until = r.until; summary = r.summary; body = b.0 } in (
      item,
      and_both (is_typed_item item) _ (and_both (is_title r.title) _ (and_first (is_title r.title) _ titled) (and_both (is_stamp r.stamp && is_until r.until) _ moments b.1.typed))
          (and_both (not (is_bad_body b.0)) _ (ap not b.1.not_bad) (ap not (or_false (nat_lt 400 (length r.summary)) _ summary b.1.not_long))),
      λ i. record { title = r.title; stamp = r.stamp; until = r.until; summary = r.summary; body = b.2 i },
    )
