-- The post that answers make. This project's profile.
use Rattle.std.specs.Prelude.{ℕ, Bool, true, false, List, [], ◌∷◌, ◌++◌, if◌then◌else◌, map, filter, flat_map, take, codes}
use Rattle.std.specs.List.{zip}
use Rattle.host_types.specs.Items.{prompt_of}
use Rattle.host_types.specs.Names.{is_forbidden}
use Rattle.host_types.specs.declared.form.Question.{Question}
use Rattle.host_types.specs.declared.form.Question.TheVariants.{Ask, AskL, AskP, Choose}
use Rattle.ask_forms.specs.declared.answer.Answer.{Answer}
use Rattle.ask_forms.specs.declared.answer.Answer.TheVariants.{One, Many}

-- a word that is asked for is not shown
abbrev pub is_shown : Question → Bool
is_shown (Ask prompt) = true
is_shown (AskL prompt) = true
is_shown (AskP prompt word) = false
is_shown (Choose prompt choices) = true

-- the questions that are shown, each with its answer
abbrev pub shown : List Question → List Answer → List (Question × Answer)
shown questions answers = filter (λ p. is_shown p.0) (zip questions answers)

abbrev pub ended : List ℕ → List ℕ
ended line = line ++ codes "\n"

abbrev pub answer_text : List ℕ → Answer → List ℕ
answer_text prompt (One line) = prompt ++ codes ": " ++ ended line
answer_text prompt (Many lines) = prompt ++ codes ":\n" ++ flat_map ended lines

unfoldable pub post_text : List Question → List Answer → List ℕ
post_text questions answers = flat_map (λ p. answer_text (prompt_of p.0) p.1) (shown questions answers)

abbrev pub first_line : Answer → List ℕ
first_line (One line) = line
first_line (Many []) = []
first_line (Many (line ∷ lines)) = line

-- the first line of the first answer
abbrev pub first_answered : List (Question × Answer) → List ℕ
first_answered [] = []
first_answered (p ∷ pairs) = first_line p.1

-- TAB, CR and NUL become a space; a line has no LF
abbrev pub title_byte : ℕ → ℕ
title_byte b = if is_forbidden b then 32 else b

abbrev pub or_untitled : List ℕ → List ℕ
or_untitled [] = codes "Untitled"
or_untitled (b ∷ bs) = b ∷ bs

unfoldable pub title_of : List ℕ → List ℕ
title_of line = or_untitled (map title_byte (take 69 line))

abbrev pub post_title : List Question → List Answer → List ℕ
post_title questions answers = title_of (first_answered (shown questions answers))
