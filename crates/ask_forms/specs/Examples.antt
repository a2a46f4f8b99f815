-- Worked examples of answers and posts.
use Rattle.std.specs.Prelude.{◌≡◌, ℕ, List, [], ◌∷◌, ◌++◌, Ok, Err, codes, replicate}
use Rattle.host_types.specs.declared.form.Question.{Question}
use Rattle.host_types.specs.declared.form.Question.TheVariants.{Ask, AskL, AskP, Choose}
use Rattle.ask_forms.specs.Reading.{read_by}
use Rattle.ask_forms.specs.Post.{post_text, post_title, title_of}
use Rattle.ask_forms.specs.declared.answer.Answer.TheVariants.{One, Many}
use Rattle.ask_forms.specs.declared.ask_fault.AskFault.TheVariants.{WrongAnswers, WrongWord}

-- a name and some lines
abbrev pub guest_book : List Question
guest_book = Ask (codes "Your name") ∷ AskL (codes "Message") ∷ []

-- a choice whose texts are also places
abbrev pub colours : List Question
colours = Choose (codes "Colour") (codes "1" ∷ codes "0" ∷ []) ∷ []

abbrev pub guarded : List Question
guarded = AskP (codes "Pass") (codes "xyz") ∷ []

-- a name, some lines and a choice
abbrev pub survey : List Question
survey = Ask (codes "Name") ∷ AskL (codes "Message") ∷ Choose (codes "Rating") (codes "good" ∷ codes "bad" ∷ []) ∷ []

abbrev pub six_lines : List (List ℕ)
six_lines = codes "hello" ∷ codes ".second line" ∷ [] ∷ [] ∷ codes "pw" ∷ [] ∷ []

pub record ReadAnswers : Type 0 where
  pub two_lines : read_by guest_book (codes "Ann" ∷ codes "2" ∷ codes "Hi" ∷ codes ".x" ∷ []) ≡ Ok (One (codes "Ann") ∷ Many (codes "Hi" ∷ codes ".x" ∷ []) ∷ [])
  pub no_lines : read_by guest_book (codes "Bob" ∷ codes "0" ∷ []) ≡ Ok (One (codes "Bob") ∷ Many [] ∷ [])
  pub leading_zeros : read_by guest_book (codes "Ann" ∷ codes "00001" ∷ codes "Hi" ∷ []) ≡ Ok (One (codes "Ann") ∷ Many (codes "Hi" ∷ []) ∷ [])
  pub too_few : read_by guest_book (codes "Ann" ∷ codes "3" ∷ codes "Hi" ∷ codes "x" ∷ []) ≡ Err WrongAnswers
  pub too_many : read_by guest_book (codes "Ann" ∷ codes "1" ∷ codes "Hi" ∷ codes "x" ∷ []) ≡ Err WrongAnswers
  pub no_count : read_by guest_book (codes "Ann" ∷ []) ≡ Err WrongAnswers
  pub great_count : read_by guest_book (codes "Ann" ∷ codes "99999" ∷ codes "x" ∷ []) ≡ Err WrongAnswers
  pub six_digits : read_by guest_book (codes "Ann" ∷ codes "000001" ∷ codes "Hi" ∷ []) ≡ Err WrongAnswers
  pub no_digits : read_by guest_book (codes "Ann" ∷ [] ∷ []) ≡ Err WrongAnswers
  pub nothing_asked : read_by [] [] ≡ Ok []
  pub nothing_asked_for : read_by [] (codes "Ann" ∷ []) ≡ Err WrongAnswers
  pub by_text : read_by colours (codes "1" ∷ []) ≡ Ok (One (codes "1") ∷ [])
  pub by_place : read_by colours (codes "01" ∷ []) ≡ Ok (One (codes "0") ∷ [])
  pub no_place : read_by colours (codes "2" ∷ []) ≡ Err WrongAnswers
  pub three_digits : read_by colours (codes "001" ∷ []) ≡ Err WrongAnswers
  pub no_choice : read_by colours (codes "red" ∷ []) ≡ Err WrongAnswers
  pub right_word : read_by guarded (codes "xyz" ∷ []) ≡ Ok (One (codes "xyz") ∷ [])
  pub wrong_word : read_by guarded (codes "abc" ∷ []) ≡ Err WrongWord
  pub wrong_answers_first : read_by guarded (codes "abc" ∷ codes "more" ∷ []) ≡ Err WrongAnswers
  -- as clients of the University of Minnesota send them
  pub survey_sent : read_by survey (codes "alice" ∷ codes "6" ∷ six_lines ++ codes "good" ∷ []) ≡ Ok (One (codes "alice") ∷ Many six_lines ∷ One (codes "good") ∷ [])

pub record Posts : Type 0 where
  pub text : post_text guest_book (One (codes "Ann") ∷ Many (codes "Hi" ∷ codes ".x" ∷ []) ∷ []) ≡ codes "Your name: Ann\nMessage:\nHi\n.x\n"
  pub title : post_title guest_book (One (codes "Ann") ∷ Many (codes "Hi" ∷ codes ".x" ∷ []) ∷ []) ≡ codes "Ann"
  pub no_lines : post_text guest_book (One (codes "Bob") ∷ Many [] ∷ []) ≡ codes "Your name: Bob\nMessage:\n"
  pub choice : post_text colours (One (codes "0") ∷ []) ≡ codes "Colour: 0\n"
  pub hidden : post_text guarded (One (codes "xyz") ∷ []) ≡ []
  pub untitled : post_title guarded (One (codes "xyz") ∷ []) ≡ codes "Untitled"
  pub first_shown : post_title (guarded ++ guest_book) (One (codes "xyz") ∷ One (codes "Ann") ∷ Many [] ∷ []) ≡ codes "Ann"
  pub first_line : post_title (AskL (codes "Message") ∷ []) (Many (codes "Hi" ∷ codes "all" ∷ []) ∷ []) ≡ codes "Hi"
  pub empty_lines : post_title (AskL (codes "Message") ∷ Ask (codes "Name") ∷ []) (Many [] ∷ One (codes "Ann") ∷ []) ≡ codes "Untitled"
  pub spaces : title_of (codes "a\tb\rc\0") ≡ codes "a b c "
  pub cut : title_of (replicate 70 97) ≡ replicate 69 97
  pub survey_text : post_text survey (One (codes "alice") ∷ Many six_lines ∷ One (codes "good") ∷ []) ≡ codes "Name: alice\nMessage:\nhello\n.second line\n\n\npw\n\nRating: good\n"
