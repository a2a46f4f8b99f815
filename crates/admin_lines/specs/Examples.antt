-- Worked examples of heads and replies.
use Rattle.std.specs.Prelude.{◌≡◌, true, false, Some, None, Ok, Err, [], ◌∷◌, ◌++◌, codes}
use Rattle.admin_lines.specs.Heads.{apply_head, head_in}
use Rattle.admin_lines.specs.Holds.{is_hold}
use Rattle.admin_lines.specs.Replies.{reply, reply_in, reply_of}
use Rattle.admin_lines.specs.declared.fault.RequestFault.TheVariants.{LongLine, NoRequest, NoLength, TooMuch}
use Rattle.admin_lines.specs.declared.reply.ReplyFault.TheVariants.{Cut, NoReply}

pub record HeadExamples : Type 0 where
  pub written : apply_head 5 ≡ codes "apply 5" ++ 10 ∷ []
  pub whole : head_in (codes "apply 5" ++ 10 ∷ codes "a = 1") ≡ Ok (Some (record { start = 8; count = 5 }))
  pub empty : head_in (codes "apply 0" ++ 10 ∷ []) ≡ Ok (Some (record { start = 8; count = 0 }))
  pub not_whole : head_in (codes "apply 5") ≡ Ok None
  pub nothing : head_in [] ≡ Ok None
  pub most : head_in (codes "apply 67108864" ++ 10 ∷ []) ≡ Ok (Some (record { start = 15; count = 67108864 }))
  pub too_much : head_in (codes "apply 67108865" ++ 10 ∷ []) ≡ Err TooMuch
  pub zero_in_front : head_in (codes "apply 05" ++ 10 ∷ []) ≡ Err NoLength
  pub no_digits : head_in (codes "apply " ++ 10 ∷ []) ≡ Err NoLength
  pub return_in_front : head_in (codes "apply 5" ++ 13 ∷ 10 ∷ []) ≡ Err NoLength
  pub another_word : head_in (codes "show" ++ 10 ∷ []) ≡ Err NoRequest
  pub hold : is_hold (codes "hold" ++ 10 ∷ codes "x") ≡ true
  pub hold_not_whole : is_hold (codes "hold") ≡ false
  pub no_end : head_in (codes "apply 00000000000000000000") ≡ Err LongLine

pub record ReplyExamples : Type 0 where
  pub written : reply true (codes "applied 2") ≡ codes "done" ++ 10 ∷ codes "applied 2" ++ 10 ∷ []
  pub done : reply_in (codes "done" ++ 10 ∷ codes "applied 2" ++ 10 ∷ []) ≡ Ok (reply_of true 5)
  pub fault : reply_in (codes "fault" ++ 10 ∷ codes "file: not TOML" ++ 10 ∷ []) ≡ Ok (reply_of false 6)
  pub cut : reply_in (codes "don") ≡ Err Cut
  pub gone : reply_in [] ≡ Err Cut
  pub another : reply_in (codes "yes" ++ 10 ∷ []) ≡ Err NoReply
