-- Answers to a form, as a relation that uses up its questions and the lines of data. The Gopher+ paper, section 2.9 (Ask); counts, and a choice by its place, are this project's profile.
use Rattle.std.specs.Prelude.{◌≡◌, ◌⊎◌, ℕ, Bool, true, false, List, [], ◌∷◌, ◌++◌, length, Some, slice_get}
use Rattle.std.specs.List.{list_any, list_all, zip}
use Rattle.std.specs.Str.{bytes_eq}
use Rattle.host_types.specs.declared.form.Question.{Question}
use Rattle.host_types.specs.declared.form.Question.TheVariants.{Ask, AskL, AskP, Choose}
use Rattle.common_types.specs.Digits.{is_number, number_of}
use Rattle.ask_forms.specs.declared.answer.Answer.{Answer}
use Rattle.ask_forms.specs.declared.answer.Answer.TheVariants.{One, Many}

abbrev pub is_among : List (List ℕ) → List ℕ → Bool
is_among choices line = list_any (λ choice. bytes_eq choice line) choices

-- A line chooses a choice by its text, or else by its place, counted from 0 in one or two digits.
abbrev pub Chooses : List (List ℕ) → List ℕ → List ℕ → Type 0
Chooses choices line choice =
    ((is_among choices line ≡ true) × (choice ≡ line))
    ⊎ ((is_among choices line ≡ false) × (is_number 2 line ≡ true) × (slice_get choices (number_of line) ≡ Some choice))

-- These lines, and no others, answer the question so. Many lines have a line with their count in front, of one to five digits.
abbrev pub Answers : Question → List (List ℕ) → Answer → Type 0
Answers (Ask prompt) own (One line) = own ≡ line ∷ []
Answers (AskP prompt word) own (One line) = own ≡ line ∷ []
Answers (Choose prompt choices) own (One choice) = (line : List ℕ) × (own ≡ line ∷ []) × Chooses choices line choice
Answers (AskL prompt) own (Many lines) = (count : List ℕ) × (own ≡ count ∷ lines) × (is_number 5 count ≡ true) × (number_of count ≡ length lines)
Answers (Ask prompt) own (Many lines) = ⊥
Answers (AskP prompt word) own (Many lines) = ⊥
Answers (Choose prompt choices) own (Many lines) = ⊥
Answers (AskL prompt) own (One line) = ⊥

-- Question by question the lines are used up.
abbrev pub AnswersAll : List Question → List (List ℕ) → List Answer → Type 0
AnswersAll [] lines [] = lines ≡ []
AnswersAll [] lines (a ∷ answers) = ⊥
AnswersAll (q ∷ questions) lines [] = ⊥
AnswersAll (q ∷ questions) lines (a ∷ answers) =
    (own rest : List (List ℕ)) × (lines ≡ own ++ rest) × Answers q own a × AnswersAll questions rest answers

-- a word that is asked for is answered by itself
abbrev pub is_word_right : Question → Answer → Bool
is_word_right (Ask prompt) a = true
is_word_right (AskL prompt) a = true
is_word_right (Choose prompt choices) a = true
is_word_right (AskP prompt word) (One line) = bytes_eq line word
is_word_right (AskP prompt word) (Many lines) = true

abbrev pub are_words_right : List Question → List Answer → Bool
are_words_right questions answers = list_all (λ p. is_word_right p.0 p.1) (zip questions answers)
