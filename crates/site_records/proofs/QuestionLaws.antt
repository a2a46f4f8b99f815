-- The questions of a form read what they write, and nothing else.
use Rattle.std.proofs.Common.{◌≡◌, ℕ, ◌<◌, Bool, true, false, cond, eqb, List, [], ◌∷◌, ◌++◌, length, Option, Some, None, Result, Ok, Err, refl, sym, ap, subst, ◌∙◌, arith, inl, inr}
use Rattle.std.specs.Prelude.{IsTrue, nat_le, nat_lt, ◌||◌, IfOk}
use Rattle.std.specs.List.{list_all, list_any}
use Rattle.std.proofs.lemmas.Bool.{le-ltb, eqb-true, ne_eqb, leb-true, le-leb, ltb-true, lt-ltb}
use Rattle.host_types.specs.Items.{is_long_word, is_long_question}
use Rattle.host_types.specs.Names.{is_field}
use Rattle.host_types.specs.declared.form.Question.{Question}
use Rattle.host_types.specs.declared.form.Question.TheVariants.{Ask, AskL, AskP, Choose}
use Rattle.site_records.specs.Records.{short, choices_bytes, question_bytes, questions_bytes}
use Rattle.site_records.specs.Limits.{is_prompt, is_answer, is_choice_count, are_choices, is_question, are_questions}
use Rattle.site_records.specs.Field.{◌>>=◌, byte, counted, both, until_end, IsBytes, Takes, IsFormat}
use Rattle.site_records.specs.Reading.{prompt_at, answer_at, choices_at, ask, ask_lines, ask_word, choose, question_behind, question_at, questions_at, Gives}
use Rattle.site_records.specs.declared.record.RecordFault.{RecordFault}
use Rattle.site_records.proofs.Formats.{and_first, and_second, and_both, bind_some, Takes-then, byte_format, passing_format, both_format, listed_format, mapped_again, until_takes, until_again, Behind, behind_takes, chosen, last_chosen}
use Rattle.site_records.proofs.EntryLaws.{short_format}

prompt_format : IsFormat (λ text. IsTrue (is_prompt text)) short prompt_at
prompt_format = passing_format (λ text. length text < 256) short (counted byte) short_format is_prompt (λ text h. omega (arith, leb-true (length text) 69 (and_first _ (is_field text) (and_second (nat_lt 0 (length text)) _ h))))

answer_format : IsFormat (λ text. IsTrue (is_answer text)) short answer_at
answer_format = passing_format (λ text. length text < 256) short (counted byte) short_format is_answer (λ text h. omega (arith, leb-true (length text) 40 (and_first _ (is_field text) (and_second (nat_lt 0 (length text)) _ h))))

choices_format : IsFormat (λ choices. IsTrue (are_choices choices)) choices_bytes choices_at
choices_format = listed_format is_answer short answer_at answer_format is_choice_count (λ n h. omega (arith, leb-true n 10 (and_second (nat_le 1 n) (nat_le n 10) h)))

abbrev question_tag : Question → ℕ
question_tag (Ask prompt) = 65
question_tag (AskL prompt) = 76
question_tag (AskP prompt word) = 80
question_tag (Choose prompt choices) = 67

abbrev question_tail : Question → List ℕ
question_tail (Ask prompt) = short prompt
question_tail (AskL prompt) = short prompt
question_tail (AskP prompt word) = short prompt ++ short word
question_tail (Choose prompt choices) = short prompt ++ choices_bytes choices

question_split : (q : Question) → question_bytes q ≡ question_tag q ∷ question_tail q
question_split (Ask prompt) = refl
question_split (AskL prompt) = refl
question_split (AskP prompt word) = refl
question_split (Choose prompt choices) = refl

abbrev QuestionBehind : ℕ → List ℕ → Question → List ℕ → Type 0
QuestionBehind = Behind question_tail is_question question_tag

ask_behind : (tag : ℕ) → tag ≡ 65 → (bytes : List ℕ) (q : Question) (rest : List ℕ) → IsBytes bytes → ask bytes ≡ Some (q, rest) → QuestionBehind tag bytes q rest
ask_behind tag is = behind_takes question_tail is_question question_tag (λ p. Ask p) (λ p. IsTrue (is_prompt p)) short prompt_at prompt_format (λ p. refl) (λ p h. h) tag (λ p. is)

lines_behind : (tag : ℕ) → tag ≡ 76 → (bytes : List ℕ) (q : Question) (rest : List ℕ) → IsBytes bytes → ask_lines bytes ≡ Some (q, rest) → QuestionBehind tag bytes q rest
lines_behind tag is = behind_takes question_tail is_question question_tag (λ p. AskL p) (λ p. IsTrue (is_prompt p)) short prompt_at prompt_format (λ p. refl) (λ p h. h) tag (λ p. is)

word_format : IsFormat (λ (q : List ℕ × List ℕ). IsTrue (is_prompt q.0) × IsTrue (is_answer q.1)) (λ q. short q.0 ++ short q.1) (both prompt_at answer_at)
word_format = both_format (λ p. IsTrue (is_prompt p)) (λ w. IsTrue (is_answer w)) short short prompt_at answer_at prompt_format answer_format

word_behind : (tag : ℕ) → tag ≡ 80 → (bytes : List ℕ) (q : Question) (rest : List ℕ) → IsBytes bytes → ask_word bytes ≡ Some (q, rest) → QuestionBehind tag bytes q rest
word_behind tag is = behind_takes question_tail is_question question_tag (λ (q : List ℕ × List ℕ). AskP q.0 q.1) (λ q. IsTrue (is_prompt q.0) × IsTrue (is_answer q.1)) (λ q. short q.0 ++ short q.1) (both prompt_at answer_at) word_format (λ q. refl) (λ q h. and_both (is_prompt q.0) (is_answer q.1) h.0 h.1) tag (λ q. is)

choose_format : IsFormat (λ (q : List ℕ × List (List ℕ)). IsTrue (is_prompt q.0) × IsTrue (are_choices q.1)) (λ q. short q.0 ++ choices_bytes q.1) (both prompt_at choices_at)
choose_format = both_format (λ p. IsTrue (is_prompt p)) (λ w. IsTrue (are_choices w)) short choices_bytes prompt_at choices_at prompt_format choices_format

choose_behind : (tag : ℕ) → tag ≡ 67 → (bytes : List ℕ) (q : Question) (rest : List ℕ) → IsBytes bytes → choose bytes ≡ Some (q, rest) → QuestionBehind tag bytes q rest
choose_behind tag is = behind_takes question_tail is_question question_tag (λ (q : List ℕ × List (List ℕ)). Choose q.0 q.1) (λ q. IsTrue (is_prompt q.0) × IsTrue (are_choices q.1)) (λ q. short q.0 ++ choices_bytes q.1) (both prompt_at choices_at) choose_format (λ q. refl) (λ q h. and_both (is_prompt q.0) (are_choices q.1) h.0 h.1) tag (λ q. is)

question_behind_takes : (tag : ℕ) (bytes : List ℕ) (q : Question) (rest : List ℕ) → IsBytes bytes → question_behind tag bytes ≡ Some (q, rest) → QuestionBehind tag bytes q rest
unfolding question_behind
question_behind_takes tag bytes q rest fits found =
    elim (chosen (eqb tag 65) _ _ (q, rest) found) [
      | inl h ↦ ask_behind tag (eqb-true tag 65 h.0) bytes q rest fits h.1
      | inr g ↦ elim (chosen (eqb tag 76) _ _ (q, rest) g.1) [
        | inl h ↦ lines_behind tag (eqb-true tag 76 h.0) bytes q rest fits h.1
        | inr g ↦ elim (chosen (eqb tag 80) _ _ (q, rest) g.1) [
          | inl h ↦ word_behind tag (eqb-true tag 80 h.0) bytes q rest fits h.1
          | inr g ↦ let h = last_chosen (eqb tag 67) _ (q, rest) g.1 in choose_behind tag (eqb-true tag 67 h.0) bytes q rest fits h.1
        ]
      ]
    ]

question_behind_again : (q : Question) (rest : List ℕ) → IsTrue (is_question q) → question_behind (question_tag q) (question_tail q ++ rest) ≡ Some (q, rest)
unfolding question_behind
question_behind_again (Ask prompt) rest h = mapped_again (λ p. Ask p) prompt_at (short prompt ++ rest) prompt rest (prompt_format.again prompt rest h)
question_behind_again (AskL prompt) rest h = mapped_again (λ p. AskL p) prompt_at (short prompt ++ rest) prompt rest (prompt_format.again prompt rest h)
question_behind_again (AskP prompt word) rest h =
    mapped_again (λ (q : List ℕ × List ℕ). AskP q.0 q.1) (both prompt_at answer_at) ((short prompt ++ short word) ++ rest) (prompt, word) rest (word_format.again (prompt, word) rest (and_first (is_prompt prompt) _ h, and_second (is_prompt prompt) _ h))
question_behind_again (Choose prompt choices) rest h =
    mapped_again (λ (q : List ℕ × List (List ℕ)). Choose q.0 q.1) (both prompt_at choices_at) ((short prompt ++ choices_bytes choices) ++ rest) (prompt, choices) rest (choose_format.again (prompt, choices) rest (and_first (is_prompt prompt) _ h, and_second (is_prompt prompt) _ h))

question_takes : (bytes : List ℕ) (q : Question) (rest : List ℕ) → IsBytes bytes → question_at bytes ≡ Some (q, rest) → Takes bytes (question_bytes q) rest × IsTrue (is_question q)
unfolding question_at
question_takes bytes q rest fits found =
    let a = bind_some (byte bytes) (λ tag. question_behind tag.0 tag.1) (q, rest) found in
    let t = byte_format.takes bytes a.0.0 a.0.1 fits a.1 in
    let b = question_behind_takes a.0.0 a.0.1 q rest t.0.rest_fits a.2 in
    let all = Takes-then bytes (a.0.0 ∷ []) a.0.1 (question_tail q) rest t.0 b.0 in
    (subst (λ (l : List ℕ). Takes bytes l rest) (ap (λ (n : ℕ). n ∷ question_tail q) b.1.1 ∙ sym (question_split q)) all, b.1.0)

question_again : (q : Question) (rest : List ℕ) → IsTrue (is_question q) → question_at (question_bytes q ++ rest) ≡ Some (q, rest)
unfolding question_at
question_again q rest h =
    ap (λ (l : List ℕ). byte (l ++ rest) >>= λ tag. question_behind tag.0 tag.1) (question_split q)
    ∙ rw (byte_format.again (question_tag q) (question_tail q ++ rest) (small q)) (question_behind_again q rest h)
  where
    small : (q : Question) → question_tag q < 256
    small (Ask prompt) = omega arith
    small (AskL prompt) = omega arith
    small (AskP prompt word) = omega arith
    small (Choose prompt choices) = omega arith

question_format : IsFormat (λ q. IsTrue (is_question q)) question_bytes question_at
question_format = record { takes = question_takes; again = question_again }

-- ---- all questions

abbrev unread : Option (List Question)
unread = None

some_question : (q : Question) → 0 < length (question_bytes q)
some_question q = rw (question_split q) (omega arith)

pub questions_take : (bytes : List ℕ) (qs : List Question) → IsBytes bytes → questions_at bytes ≡ Some qs → IsTrue (are_questions qs) × (bytes ≡ questions_bytes qs)
unfolding questions_at
questions_take bytes qs fits found =
    let g = given (eqb (length bytes) 0) (until_end question_at 16 bytes) qs found in
    let t = until_takes is_question question_bytes question_at question_format 16 bytes qs fits g.1 in
    (and_both (nat_lt 0 (length qs)) _ (lt-ltb 0 (length qs) (at_least_one qs (λ e. absurd (eqb_no bytes g.0 (t.0 ∙ ap questions_bytes e))))) (and_both (nat_le (length qs) 16) (list_all is_question qs) (le-leb (length qs) 16 t.1.1) t.1.0), t.0)
  where
    given : (b : Bool) (r : Option (List Question)) (qs : List Question) → cond b None r ≡ Some qs → (b ≡ false) × (r ≡ Some qs)
    given true r qs e = absurd cc
    given false r qs e = (refl, e)

    eqb_no : (bytes : List ℕ) → eqb (length bytes) 0 ≡ false → bytes ≡ [] → ⊥
    eqb_no bytes h e = let k : eqb 0 0 ≡ false = subst (λ (l : List ℕ). eqb (length l) 0 ≡ false) e h in cc k

    at_least_one : (qs : List Question) → (qs ≡ [] → ⊥) → 0 < length qs
    at_least_one [] apart = absurd (apart refl)
    at_least_one (q ∷ qs) apart = omega arith

pub questions_again : (qs : List Question) → IsTrue (are_questions qs) → questions_at (questions_bytes qs) ≡ Some qs
unfolding questions_at
questions_again qs h =
    let some : 0 < length qs = ltb-true 0 (length qs) (and_first (nat_lt 0 (length qs)) _ h) in
    let more = and_second (nat_lt 0 (length qs)) _ h in
    let begun : eqb (length (questions_bytes qs)) 0 ≡ false = not_empty qs some in
    ap (λ (b : Bool). cond b unread (until_end question_at 16 (questions_bytes qs))) begun ∙ (until_again is_question question_bytes question_at question_format some_question 16 qs (and_second (nat_le (length qs) 16) _ more) (leb-true (length qs) 16 (and_first (nat_le (length qs) 16) _ more)))
  where
    not_empty : (qs : List Question) → 0 < length qs → eqb (length (questions_bytes qs)) 0 ≡ false
    not_empty [] h = absurd (omega (arith, h))
    not_empty (q ∷ qs) h = rw (question_split q) (ne_eqb (length (question_tag q ∷ question_tail q ++ questions_bytes qs)) 0 (λ e. omega (arith, e)))

pub questions_found : (bytes : List ℕ) (r : Result (List Question) RecordFault) → IsBytes bytes → Gives (λ x. x) r (questions_at bytes) → IfOk r (λ qs. IsTrue (are_questions qs) × (bytes ≡ questions_bytes qs))
questions_found bytes (Ok qs) fits given = questions_take bytes qs fits given
questions_found bytes (Err e) fits given = tt

-- ---- what is read is not too long

short_word : (w : List ℕ) → is_answer w ≡ true → is_long_word w ≡ false
short_word w h = le-ltb 40 (length w) (leb-true (length w) 40 (and_first _ (is_field w) (and_second (nat_lt 0 (length w)) _ h)))

pub or_false : (a b : Bool) → a ≡ false → b ≡ false → (a || b) ≡ false
or_false true b h k = h
or_false false b h k = k

short_words : (ws : List (List ℕ)) → list_all is_answer ws ≡ true → list_any is_long_word ws ≡ false
short_words [] h = refl
short_words (w ∷ ws) h = or_false (is_long_word w) _ (short_word w (and_first (is_answer w) _ h)) (short_words ws (and_second (is_answer w) _ h))

short_question : (q : Question) → is_question q ≡ true → is_long_question q ≡ false
short_question (Ask prompt) h = refl
short_question (AskL prompt) h = refl
short_question (AskP prompt word) h = short_word word (and_second (is_prompt prompt) _ h)
short_question (Choose prompt choices) h =
    let c = and_second (is_prompt prompt) _ h in
    or_false (nat_lt 10 (length choices)) _ (le-ltb 10 (length choices) (leb-true (length choices) 10 (and_second (nat_le 1 (length choices)) _ (and_first (is_choice_count (length choices)) _ c)))) (short_words choices (and_second (is_choice_count (length choices)) _ c))

pub short_questions : (qs : List Question) → list_all is_question qs ≡ true → list_any is_long_question qs ≡ false
short_questions [] h = refl
short_questions (q ∷ qs) h = or_false (is_long_question q) _ (short_question q (and_first (is_question q) _ h)) (short_questions qs (and_second (is_question q) _ h))

pub questions_short : (bytes : List ℕ) (r : Result (List Question) RecordFault) → IsBytes bytes → Gives (λ x. x) r (questions_at bytes) → IfOk r (λ qs. list_any is_long_question qs ≡ false)
questions_short bytes (Ok qs) fits given =
    let all = (questions_take bytes qs fits given).0 in
    short_questions qs (and_second (nat_le (length qs) 16) _ (and_second (nat_lt 0 (length qs)) _ all))
questions_short bytes (Err e) fits given = tt
