-- Calls of an adapter in turn.
use Rattle.std.proofs.Common.{◌≡◌, ℕ, List, [], ◌∷◌, ◌++◌, ap, sym, ◌∙◌, append_assoc}
use Rattle.old_clients.specs.Laws.{GiveTheReply, PassTheInput, TellOfTheInput}
use Rattle.old_clients.specs.Streams.{Call, Next, Finish, HasGiven, HasPassed, HasAdapted, Hearing, Informing, fresh_reply, fresh_request, part_of, parts_of, will_give, will_pass, will_rewrite}
use Rattle.old_clients.proofs.Joins.{given_reply}

-- a call's part and what is to be given then, and what is said then
call_passes : (call : Call) (old new : Hearing) (rest left : List ℕ) → HasPassed old rest call new left → part_of call ++ will_pass new left ≡ will_pass old rest
call_passes (Next chunk taken part) old new rest left (more, whole, behind, passes, keeps) = ap (λ l. part ++ will_pass new l) behind ∙ passes more ∙ ap (will_pass old) (sym whole)
call_passes (Finish part) old new rest left (whole, behind, ends, keeps) = ap (λ l. part ++ will_pass new l) behind ∙ ends ∙ ap (will_pass old) (sym whole)

call_tells : (call : Call) (old new : Hearing) (rest left : List ℕ) → HasPassed old rest call new left → will_rewrite new left ≡ will_rewrite old rest
call_tells (Next chunk taken part) old new rest left (more, whole, behind, passes, keeps) = ap (will_rewrite new) behind ∙ keeps more ∙ ap (will_rewrite old) (sym whole)
call_tells (Finish part) old new rest left (whole, behind, ends, keeps) = ap (will_rewrite new) behind ∙ keeps ∙ ap (will_rewrite old) (sym whole)

call_gives : (call : Call) (old new : Informing) (rest left : List ℕ) → HasGiven old rest call new left → part_of call ++ will_give new left ≡ will_give old rest
call_gives (Next chunk taken part) old new rest left (more, whole, behind, passes) = ap (λ l. part ++ will_give new l) behind ∙ passes more ∙ ap (will_give old) (sym whole)
call_gives (Finish part) old new rest left (whole, behind, ends) = ap (λ l. part ++ will_give new l) behind ∙ ends ∙ ap (will_give old) (sym whole)

run_gives : {S : Type 0} (Called : S → List ℕ → Call → S → List ℕ → Type 0) (gives : S → List ℕ → List ℕ) →
    ((call : Call) (old new : S) (rest left : List ℕ) → Called old rest call new left → part_of call ++ gives new left ≡ gives old rest) →
    (calls : List Call) (old new : S) (rest left : List ℕ) → HasAdapted Called old rest calls new left → parts_of calls ++ gives new left ≡ gives old rest
run_gives {S} Called gives each [] old new rest left (same, whole) = ap (λ s. gives s left) (sym same) ∙ ap (gives old) (sym whole)
run_gives {S} Called gives each (call ∷ calls) old new rest left (between, later, called, run) =
    append_assoc (part_of call) (parts_of calls) (gives new left)
    ∙ ap (λ l. part_of call ++ l) (run_gives Called gives each calls between new later left run)
    ∙ each call old between rest later called

run_tells : (calls : List Call) (old new : Hearing) (rest left : List ℕ) → HasAdapted HasPassed old rest calls new left → will_rewrite new left ≡ will_rewrite old rest
run_tells [] old new rest left (same, whole) = ap (λ s. will_rewrite s left) (sym same) ∙ ap (will_rewrite old) (sym whole)
run_tells (call ∷ calls) old new rest left (between, later, called, run) = run_tells calls between new later left run ∙ call_tells call old between rest later called

pub input_passed : PassTheInput
input_passed input left calls adapter run = run_gives HasPassed will_pass call_passes calls fresh_request adapter input left run

pub input_told : TellOfTheInput
input_told input left calls adapter run = run_tells calls fresh_request adapter input left run

pub reply_given : GiveTheReply
reply_given rewritten reply left calls adapter run = run_gives HasGiven will_give call_gives calls (fresh_reply rewritten) adapter reply left run ∙ given_reply rewritten reply
