-- The answers that are read are those of the relation.
use Rattle.std.proofs.Common.{◌≡◌, ℕ, ◌≤◌, true, List, [], ◌∷◌, ◌++◌, length, take, drop, arith, ap, sym, subst, ◌∙◌, inl, inr, refl, nat_le, length-append, length-take}
use Rattle.std.specs.Prelude.{Option, Some, None}
use Rattle.std.proofs.Math.Seq.{take-append_seam, drop-append_seam}
use Rattle.std.proofs.lemmas.List.{take-append-drop}
use Rattle.std.proofs.lemmas.Bool.{cases_Bool, leb-true, le-leb}
use Rattle.common_types.specs.Digits.{is_number, number_of}
use Rattle.host_types.specs.declared.form.Question.{Question}
use Rattle.host_types.specs.declared.form.Question.TheVariants.{Ask, AskL, AskP, Choose}
use Rattle.ask_forms.specs.declared.answer.Answer.{Answer}
use Rattle.ask_forms.specs.declared.answer.Answer.TheVariants.{One, Many}
use Rattle.ask_forms.specs.Answers.{Answers, AnswersAll, Chooses, is_among}
use Rattle.ask_forms.specs.Reading.{AnswerRead, ReadsAnswers, first_read, chosen, lines_read, one_read, answers_behind, onto_answers, if_none_left, answers_of}

abbrev read_as : Answer → List (List ℕ) → Option AnswerRead
read_as a rest = Some (record { answer = a; rest = rest })

choice_complete : (choices : List (List ℕ)) (line choice : List ℕ) (rest : List (List ℕ)) → Chooses choices line choice → one_read (chosen choices line) rest ≡ read_as (One choice) rest
choice_complete choices line choice rest (inl h) = rw h.0 (ap (λ x. read_as (One x) rest) (sym h.1))
choice_complete choices line choice rest (inr h) = rw (h.0, h.1, h.2) refl

count_complete : (count : List ℕ) (lines rest : List (List ℕ)) → is_number 5 count ≡ true → number_of count ≡ length lines → lines_read count (lines ++ rest) ≡ read_as (Many lines) rest
count_complete count lines rest num len =
    let room : nat_le (length lines) (length (lines ++ rest)) ≡ true = le-leb (length lines) (length (lines ++ rest)) (omega (arith, length-append {A = List ℕ})) in
    rw (num, len, room) (ap (λ x. read_as (Many x) (drop (length lines) (lines ++ rest))) (take-append_seam lines rest) ∙ ap (λ x. read_as (Many lines) x) (drop-append_seam lines rest))

first_complete : (q : Question) (own : List (List ℕ)) (a : Answer) (rest : List (List ℕ)) → Answers q own a → first_read q (own ++ rest) ≡ read_as a rest
first_complete (Ask prompt) own (One line) rest h = ap (λ o. first_read (Ask prompt) (o ++ rest)) h
first_complete (AskP prompt word) own (One line) rest h = ap (λ o. first_read (AskP prompt word) (o ++ rest)) h
first_complete (Choose prompt choices) own (One choice) rest h = ap (λ o. first_read (Choose prompt choices) (o ++ rest)) h.1 ∙ choice_complete choices h.0 choice rest h.2
first_complete (AskL prompt) own (Many lines) rest h = ap (λ o. first_read (AskL prompt) (o ++ rest)) h.1 ∙ count_complete h.0 lines rest h.2 h.3
first_complete (Ask prompt) own (Many lines) rest h = absurd h
first_complete (AskP prompt word) own (Many lines) rest h = absurd h
first_complete (Choose prompt choices) own (Many lines) rest h = absurd h
first_complete (AskL prompt) own (One line) rest h = absurd h

complete : (questions : List Question) (lines : List (List ℕ)) (answers : List Answer) → AnswersAll questions lines answers → answers_of questions lines ≡ Some answers
complete [] lines [] h = ap if_none_left h
complete [] lines (a ∷ answers) h = absurd h
complete (q ∷ questions) lines [] h = absurd h
complete (q ∷ questions) lines (a ∷ answers) h =
    ap (λ l. answers_behind (first_read q l) (answers_of questions)) h.2
    ∙ ap (λ r. answers_behind r (answers_of questions)) (first_complete q h.0 a h.1 h.3)
    ∙ ap (onto_answers a) (complete questions h.1 answers h.4)

-- what was read, with the lines that it took
abbrev Took : Question → List (List ℕ) → AnswerRead → Type 0
Took q lines r = (own : List (List ℕ)) × (lines ≡ own ++ r.rest) × Answers q own r.answer

is_read : (r s : AnswerRead) → Some r ≡ Some s → r ≡ s
is_read r s e = cc e

one_sound : (prompt : List ℕ) (choices : List (List ℕ)) (line : List ℕ) (rest : List (List ℕ)) (r : AnswerRead) (o : Option (List ℕ)) →
    ((choice : List ℕ) → o ≡ Some choice → Chooses choices line choice) → one_read o rest ≡ Some r → Took (Choose prompt choices) (line ∷ rest) r
one_sound prompt choices line rest r None chooses e = absurd (cc e)
one_sound prompt choices line rest r (Some choice) chooses e =
    subst (Took (Choose prompt choices) (line ∷ rest)) (is_read (record { answer = One choice; rest = rest }) r e)
    (line ∷ [], refl, (line, refl, chooses choice refl))

chosen_chooses : (choices : List (List ℕ)) (line choice : List ℕ) → chosen choices line ≡ Some choice → Chooses choices line choice
chosen_chooses choices line choice e =
    elim (cases_Bool (is_among choices line)) [
      | inl is ↦ (let k = rw is at e in inl (is, cc k))
      | inr isnt ↦ elim (cases_Bool (is_number 2 line)) [
        | inl num ↦ inr (isnt, num, rw (isnt, num) at e)
        | inr none ↦ (let k = rw (isnt, none) at e in absurd (cc k))
      ]
    ]

choice_sound : (prompt : List ℕ) (choices : List (List ℕ)) (line : List ℕ) (rest : List (List ℕ)) (r : AnswerRead) → one_read (chosen choices line) rest ≡ Some r → Took (Choose prompt choices) (line ∷ rest) r
choice_sound prompt choices line rest r e = one_sound prompt choices line rest r (chosen choices line) (chosen_chooses choices line) e

count_sound : (prompt count : List ℕ) (rest : List (List ℕ)) (r : AnswerRead) → lines_read count rest ≡ Some r → Took (AskL prompt) (count ∷ rest) r
count_sound prompt count rest r e =
    elim (cases_Bool (is_number 5 count)) [
      | inl num ↦ elim (cases_Bool (nat_le (number_of count) (length rest))) [
        | inl room ↦
            let enough : number_of count ≤ length rest = leb-true (number_of count) (length rest) room in
            let long : number_of count ≡ length (take (number_of count) rest) = simp length-take (omega arith) in
            subst (Took (AskL prompt) (count ∷ rest)) (is_read (record { answer = Many (take (number_of count) rest); rest = drop (number_of count) rest }) r (sym (rw (num, room) refl) ∙ e))
            (count ∷ take (number_of count) rest, ap (λ l. count ∷ l) (sym (take-append-drop (number_of count) rest)), (count, refl, num, long))
        | inr short ↦ (let k = rw (num, short) at e in absurd (cc k))
      ]
      | inr none ↦ (let k = rw none at e in absurd (cc k))
    ]

first_sound : (q : Question) (lines : List (List ℕ)) (r : AnswerRead) → first_read q lines ≡ Some r → Took q lines r
first_sound (Ask prompt) [] r e = absurd (cc e)
first_sound (AskL prompt) [] r e = absurd (cc e)
first_sound (AskP prompt word) [] r e = absurd (cc e)
first_sound (Choose prompt choices) [] r e = absurd (cc e)
first_sound (Ask prompt) (line ∷ rest) r e = subst (Took (Ask prompt) (line ∷ rest)) (is_read (record { answer = One line; rest = rest }) r e) (line ∷ [], refl, refl)
first_sound (AskP prompt word) (line ∷ rest) r e = subst (Took (AskP prompt word) (line ∷ rest)) (is_read (record { answer = One line; rest = rest }) r e) (line ∷ [], refl, refl)
first_sound (Choose prompt choices) (line ∷ rest) r e = choice_sound prompt choices line rest r e
first_sound (AskL prompt) (line ∷ rest) r e = count_sound prompt line rest r e

mutual_answers : (q : Question) (questions : List Question) (lines : List (List ℕ)) (answers others : List Answer) (r : AnswerRead) →
    Took q lines r → AnswersAll questions r.rest others → Some (r.answer ∷ others) ≡ Some answers → AnswersAll (q ∷ questions) lines answers
mutual_answers q questions lines answers others r took behind e =
    let same : r.answer ∷ others ≡ answers = cc e in
    subst (AnswersAll (q ∷ questions) lines) same (took.0, r.rest, took.1, took.2, behind)

none_sound : (lines : List (List ℕ)) (answers : List Answer) → if_none_left lines ≡ Some answers → AnswersAll [] lines answers
none_sound [] answers e = let same : [] ≡ answers = cc e in subst (AnswersAll [] []) same refl
none_sound (line ∷ lines) answers e = absurd (cc e)

module _ (q : Question) (questions : List Question) (behind : (lines : List (List ℕ)) (answers : List Answer) → answers_of questions lines ≡ Some answers → AnswersAll questions lines answers) where
  others_sound : (lines : List (List ℕ)) (answers : List Answer) (r : AnswerRead) (o : Option (List Answer)) → Took q lines r → answers_of questions r.rest ≡ o → onto_answers r.answer o ≡ Some answers → AnswersAll (q ∷ questions) lines answers
  others_sound lines answers r None took is e = absurd (cc e)
  others_sound lines answers r (Some others) took is e = mutual_answers q questions lines answers others r took (behind r.rest others is) e

  behind_sound : (lines : List (List ℕ)) (answers : List Answer) (o : Option AnswerRead) → first_read q lines ≡ o → answers_behind o (answers_of questions) ≡ Some answers → AnswersAll (q ∷ questions) lines answers
  behind_sound lines answers None is e = absurd (cc e)
  behind_sound lines answers (Some r) is e = others_sound lines answers r (answers_of questions r.rest) (first_sound q lines r is) refl e

sound : (questions : List Question) (lines : List (List ℕ)) (answers : List Answer) → answers_of questions lines ≡ Some answers → AnswersAll questions lines answers
sound [] lines answers e = none_sound lines answers e
sound (q ∷ questions) lines answers e = behind_sound q questions (sound questions) lines answers (first_read q lines) refl e

pub both : ReadsAnswers
both questions lines answers = (sound questions lines answers, complete questions lines answers)
