-- The line of the log for a client that has gone, without its LF.
use Rattle.std.specs.Prelude.{ℕ, zero, suc, Option, Some, None, List, [], ◌∷◌, ◌++◌, codes, decimal}
use Rattle.plus_blocks.specs.Date.{log_date}
use Rattle.common_types.specs.Shown.{shown}
use Rattle.daily_turns.specs.declared.ready_connection.Ending.{Ending}
use Rattle.daily_turns.specs.declared.ready_connection.Ending.TheVariants.{Served, Full, Failed, Cut, Late, Crowd, Often}
use Rattle.daily_server.specs.declared.terms.LogForm.{LogForm}
use Rattle.daily_server.specs.declared.terms.LogForm.TheVariants.{Own, Common}

abbrev pub ending_word : Ending → List ℕ
ending_word Served = codes "served"
ending_word Full = codes "full"
ending_word Failed = codes "failed"
ending_word Cut = codes "cut"
ending_word Late = codes "late"
ending_word Crowd = codes "crowd"
ending_word Often = codes "often"

-- in this program's own form
-- the post that was stored, if one was
abbrev pub stored_words : Option (List ℕ) → List ℕ
stored_words (Some selector) = codes " " ++ shown selector
stored_words None = []

abbrev pub own_line : ℕ → List ℕ → List ℕ → Ending → ℕ → Option (List ℕ) → List ℕ
own_line now from selector ending taken stored =
    decimal now ++ codes " " ++ from ++ codes " \"" ++ shown selector ++ codes "\" " ++ ending_word ending ++ codes " " ++ decimal taken ++ stored_words stored

-- ---- the common log format, `%h %l %u %t "%r" %>s %b` of the Apache HTTP Server's documentation

-- the status of HTTP that says the same
abbrev pub status_of : Ending → List ℕ
status_of Served = codes "200"
status_of Full = codes "503"
status_of Failed = codes "500"
status_of Cut = codes "499"
status_of Late = codes "408"
status_of Crowd = codes "429"
status_of Often = codes "429"

-- a selector as the path of a request
abbrev pub path_of : List ℕ → List ℕ
path_of [] = codes "/"
path_of (b ∷ bytes) = shown (b ∷ bytes)

-- how many bytes were sent; of none it has a sign
abbrev pub size_of : ℕ → List ℕ
size_of zero = codes "-"
size_of (suc n) = decimal (suc n)

abbrev pub common_line : ℕ → List ℕ → List ℕ → Ending → ℕ → List ℕ
common_line now from selector ending taken =
    from ++ codes " - - [" ++ log_date now ++ codes "] \"GET " ++ path_of selector ++ codes " HTTP/1.0\" " ++ status_of ending ++ codes " " ++ size_of taken

-- ---- both

abbrev pub log_line : LogForm → ℕ → List ℕ → List ℕ → Ending → ℕ → Option (List ℕ) → List ℕ
log_line Own now from selector ending taken stored = own_line now from selector ending taken stored
log_line Common now from selector ending taken stored = common_line now from selector ending taken
