-- The reply to a request on the administrator's socket, which goes until the connection ends.
use Rattle.std.specs.Prelude.{Bool, true, false, ◌==◌, if◌then◌else◌, nat_eq, Result, Ok, Err, List, [], ◌∷◌, ◌++◌, codes, ℕ}
use Rattle.std.specs.List.{list_any, starts_with}
use Rattle.admin_lines.specs.Heads.{is_lf}
use Rattle.admin_lines.specs.declared.reply.AdminReply.{AdminReply}
use Rattle.admin_lines.specs.declared.reply.ReplyFault.{ReplyFault}
use Rattle.admin_lines.specs.declared.reply.ReplyFault.TheVariants.{Cut, NoReply}

-- the first line, by whether all was done that was asked for
abbrev pub first_line : Bool → List ℕ
first_line true = codes "done" ++ 10 ∷ []
first_line false = codes "fault" ++ 10 ∷ []

-- The first line, and behind it a line of text: for standard output where all was done, and else for standard error.
abbrev pub reply : Bool → List ℕ → List ℕ
reply done text = first_line done ++ text ++ 10 ∷ []

abbrev pub reply_of : Bool → ℕ → AdminReply
reply_of done start = record { done = done; start = start }

-- What a reply says that has ended: whether all was done, and where the text begins; or why it is none.
abbrev pub reply_in : List ℕ → Result AdminReply ReplyFault
reply_in bytes =
    if starts_with nat_eq bytes (first_line true) then Ok (reply_of true 5)
    else (if starts_with nat_eq bytes (first_line false) then Ok (reply_of false 6)
    else (if list_any is_lf bytes then Err NoReply else Err Cut))
