-- The answers that lines give, as a function.
use Rattle.std.specs.Prelude.{◌≡◌, ◌↔◌, ℕ, List, [], ◌∷◌, ◌&&◌, if◌then◌else◌, length, take, drop, nat_le, Option, Some, None, slice_get, Result, Ok, Err}
use Rattle.host_types.specs.declared.form.Question.{Question}
use Rattle.host_types.specs.declared.form.Question.TheVariants.{Ask, AskL, AskP, Choose}
use Rattle.common_types.specs.Digits.{is_number, number_of}
use Rattle.ask_forms.specs.declared.answer.Answer.{Answer}
use Rattle.ask_forms.specs.declared.answer.Answer.TheVariants.{One, Many}
use Rattle.ask_forms.specs.declared.ask_fault.AskFault.{AskFault}
use Rattle.ask_forms.specs.declared.ask_fault.AskFault.TheVariants.{WrongAnswers, WrongWord, Memory}
use Rattle.ask_forms.specs.Answers.{AnswersAll, is_among, are_words_right}

-- An answer, and the lines behind it.
pub record AnswerRead : Type 0 where
  pub answer : Answer
  pub rest : List (List ℕ)

-- the choice that a line chooses
abbrev pub chosen : List (List ℕ) → List ℕ → Option (List ℕ)
chosen choices line =
    if is_among choices line then Some line
    else if is_number 2 line then slice_get choices (number_of line)
    else None

abbrev pub one_read : Option (List ℕ) → List (List ℕ) → Option AnswerRead
one_read None rest = None
one_read (Some line) rest = Some (record { answer = One line; rest = rest })

abbrev pub lines_read : List ℕ → List (List ℕ) → Option AnswerRead
lines_read count rest =
    if is_number 5 count && nat_le (number_of count) (length rest)
    then Some (record { answer = Many (take (number_of count) rest); rest = drop (number_of count) rest })
    else None

-- the answer to the first question
abbrev pub first_read : Question → List (List ℕ) → Option AnswerRead
first_read q [] = None
first_read (Ask prompt) (line ∷ rest) = one_read (Some line) rest
first_read (AskP prompt word) (line ∷ rest) = one_read (Some line) rest
first_read (Choose prompt choices) (line ∷ rest) = one_read (chosen choices line) rest
first_read (AskL prompt) (line ∷ rest) = lines_read line rest

abbrev pub onto_answers : Answer → Option (List Answer) → Option (List Answer)
onto_answers a None = None
onto_answers a (Some answers) = Some (a ∷ answers)

abbrev pub answers_behind : Option AnswerRead → (List (List ℕ) → Option (List Answer)) → Option (List Answer)
answers_behind None others = None
answers_behind (Some read) others = onto_answers read.answer (others read.rest)

abbrev pub if_none_left : List (List ℕ) → Option (List Answer)
if_none_left [] = Some []
if_none_left (line ∷ lines) = None

-- the answers that use up all lines, where there are such
abbrev pub answers_of : List Question → List (List ℕ) → Option (List Answer)
answers_of [] lines = if_none_left lines
answers_of (q ∷ questions) lines = answers_behind (first_read q lines) (answers_of questions)

abbrev pub judged : List Question → Option (List Answer) → Result (List Answer) AskFault
judged questions None = Err WrongAnswers
judged questions (Some answers) = if are_words_right questions answers then Ok answers else Err WrongWord

-- the answers that lines give to a form, or else why there are none
abbrev pub read_by : List Question → List (List ℕ) → Result (List Answer) AskFault
read_by questions lines = judged questions (answers_of questions lines)

-- a fault that the lines have, or lack of memory
abbrev pub IsFault : Result (List Answer) AskFault → AskFault → Type 0
IsFault read WrongAnswers = read ≡ Err WrongAnswers
IsFault read WrongWord = read ≡ Err WrongWord
IsFault read Memory = Unit {0}

-- The function gives the answers of the relation, and no others.
abbrev pub ReadsAnswers : Type 0
ReadsAnswers = (questions : List Question) (lines : List (List ℕ)) (answers : List Answer) →
    (answers_of questions lines ≡ Some answers) ↔ AnswersAll questions lines answers
