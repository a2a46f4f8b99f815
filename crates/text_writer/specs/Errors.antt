-- Replies that tell an error. RFC 1436, section 3.8 (type 3); the Gopher+ paper, section 2.3 (`--1` and the codes); the texts, the host and the port are this project's profile.
use Rattle.std.specs.Prelude.{ℕ, Bool, List, ◌++◌, if◌then◌else◌, codes, decimal}
use Rattle.text_writer.specs.Text.{line_end, text_end}
use Rattle.text_writer.specs.declared.error.ErrorText.{ErrorText}
use Rattle.text_writer.specs.declared.error.ErrorText.TheVariants as errors

-- a menu of one line of type 3
unfoldable pub plain_error : List ℕ → List ℕ
plain_error reason = codes "3" ++ reason ++ codes "\t\terror.host\t1\r\n.\r\n"

-- the lines are those of a new place, or none
unfoldable pub plus_error : ℕ → List ℕ → List ℕ → List ℕ
plus_error code reason place = codes "--1\r\n" ++ decimal code ++ codes " " ++ reason ++ line_end ++ place ++ text_end

unfoldable pub words_of : ErrorText → List ℕ
words_of errors.ItemNotFound = codes "Item not found"
words_of errors.ViewNotFound = codes "View not found"
words_of errors.NotAMenu = codes "Not a menu"
words_of errors.FormNeedsAnswers = codes "Form needs answers"
words_of errors.AnswersDoNotFit = codes "Answers do not fit the form"
words_of errors.WrongWord = codes "Wrong word"
words_of errors.BoardNotFound = codes "Board not found"
words_of errors.BoardIsFull = codes "Board is full"
words_of errors.UrlNotAllowed = codes "URL not allowed"
words_of errors.RequestTooLong = codes "Request too long"
words_of errors.RequestNotUnderstood = codes "Request not understood"
words_of errors.TryAgainLater = codes "Try again later"
words_of errors.ItemHasMoved = codes "Item has moved"

-- 1: not available; 2: try again later; 3: moved
abbrev pub code_of : ErrorText → ℕ
code_of errors.ItemNotFound = 1
code_of errors.ViewNotFound = 1
code_of errors.NotAMenu = 1
code_of errors.FormNeedsAnswers = 1
code_of errors.AnswersDoNotFit = 1
code_of errors.WrongWord = 1
code_of errors.BoardNotFound = 1
code_of errors.BoardIsFull = 1
code_of errors.UrlNotAllowed = 1
code_of errors.RequestTooLong = 1
code_of errors.RequestNotUnderstood = 1
code_of errors.TryAgainLater = 2
code_of errors.ItemHasMoved = 3

-- A client that asked by Gopher+ gets its error by Gopher+, with the line of a new place where there is one.
abbrev pub error_reply : Bool → ErrorText → List ℕ → List ℕ
error_reply is_plus error place = if is_plus then plus_error (code_of error) (words_of error) place else plain_error (words_of error)
