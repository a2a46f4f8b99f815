-- What the text behind a reply's first line says.
use Rattle.std.proofs.Common.{◌≡◌, ℕ, ◌-◌, length-drop, Bool, true, false, List, [], ◌∷◌, ◌++◌, length, take, drop, refl, sym, ap, subst, ◌∙◌, arith, Ok, Err}
use Rattle.std.specs.Prelude.{nat_eq, Result, if◌then◌else◌}
use Rattle.std.specs.List.{starts_with, list_any}
use Rattle.std.proofs.lemmas.Bool.{eqb-true, and_parts}
use Rattle.std.proofs.lemmas.List.{take_all}
use Rattle.admin_lines.specs.Heads.{is_lf}
use Rattle.admin_lines.specs.Replies.{first_line, reply, reply_in, reply_of}
use Rattle.admin_lines.specs.Laws.{RepliesAreRead}
use Rattle.admin_lines.specs.declared.reply.AdminReply.{AdminReply}
use Rattle.admin_lines.specs.declared.reply.ReplyFault.{ReplyFault}
use Rattle.admin_lines.specs.declared.reply.ReplyFault.TheVariants.{Cut, NoReply}

-- what begins so is that front and the rest
front_and_rest : (front a : List ℕ) → starts_with nat_eq a front ≡ true → a ≡ front ++ drop (length front) a
front_and_rest [] a h = refl
front_and_rest (x ∷ front) [] h = absurd (cc h)
front_and_rest (x ∷ front) (y ∷ a) h =
    let parts = and_parts (nat_eq x y) (starts_with nat_eq a front) h in
    λ i. sym (eqb-true x y parts.0) i ∷ front_and_rest front a parts.1 i

-- the text behind the first line
pub behind_first : (bytes : List ℕ) (read : AdminReply) → reply_in bytes ≡ Ok read → bytes ≡ first_line read.done ++ drop read.start bytes
behind_first bytes read is = by (starts_with nat_eq bytes (first_line true)) (starts_with nat_eq bytes (first_line false)) (list_any is_lf bytes) refl refl is
  where
    by : (a b c : Bool) → starts_with nat_eq bytes (first_line true) ≡ a → starts_with nat_eq bytes (first_line false) ≡ b → (if a then Ok (reply_of true 5) else (if b then Ok (reply_of false 6) else (if c then Err NoReply else Err Cut))) ≡ Ok read → bytes ≡ first_line read.done ++ drop read.start bytes
    by true b c well badly e =
        let same : reply_of true 5 ≡ read = cc in
        subst (λ r. bytes ≡ first_line r.done ++ drop r.start bytes) same (front_and_rest (first_line true) bytes well)
    by false true c well badly e =
        let same : reply_of false 6 ≡ read = cc in
        subst (λ r. bytes ≡ first_line r.done ++ drop r.start bytes) same (front_and_rest (first_line false) bytes badly)
    by false false true well badly e = absurd (cc e)
    by false false false well badly e = absurd (cc e)

-- what is read of a reply
pub is_read : (law : RepliesAreRead) (bytes text : List ℕ) (done : Bool) (result : Result AdminReply ReplyFault) → result ≡ reply_in bytes → bytes ≡ reply done text → result ≡ Ok (reply_of done (length (first_line done)))
is_read law bytes text done result is reply_is = is ∙ ap reply_in reply_is ∙ law done text

-- all that is left behind a place
pub rest_of : (n : ℕ) (xs : List ℕ) → take (length xs - n) (drop n xs) ≡ drop n xs
rest_of n xs = take_all (length xs - n) (drop n xs) (omega (arith, length-drop n xs))
