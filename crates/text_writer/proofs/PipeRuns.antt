-- Calls of a pipe in turn.
use Rattle.std.proofs.Common.{◌≡◌, ℕ, List, [], ◌∷◌, ◌++◌, ap, sym, ◌∙◌, refl, append_assoc, append-nil}
use Rattle.std.specs.Prelude.{Option, Some, None}
use Rattle.text_writer.specs.Text.{text}
use Rattle.text_writer.specs.Pipe.{Piped, PipeCall, Next, Finish, HasCalled, HasPiped, fresh, part_of, parts_of, will_give, given_behind}
use Rattle.text_writer.specs.declared.place.LinePlace.{LinePlace}
use Rattle.text_writer.proofs.Joins.{given_text}
use Rattle.text_writer.proofs.Pipes.{some_is_left}

-- a call's part and what is to be given then
call_gives : (call : PipeCall) (old new : Piped) (rest left : List ℕ) → HasCalled old rest call new left → part_of call ++ will_give new left ≡ will_give old rest
call_gives (Next chunk taken part) old new rest left (more, whole, behind, passes) = ap (λ l. part ++ will_give new l) behind ∙ passes more ∙ ap (will_give old) (sym whole)
call_gives (Finish part) old new rest left (whole, behind, ends) = ends left ∙ ap (will_give old) (sym whole)

run_gives : (calls : List PipeCall) (old new : Piped) (rest left : List ℕ) → HasPiped old rest calls new left → parts_of calls ++ will_give new left ≡ will_give old rest
run_gives [] old new rest left (same, whole) = ap (λ pipe. will_give pipe left) (sym same) ∙ ap (will_give old) (sym whole)
run_gives (call ∷ calls) old new rest left (between, later, called, run) =
    append_assoc (part_of call) (parts_of calls) (will_give new left)
    ∙ ap (λ l. part_of call ++ l) (run_gives calls between new later left run)
    ∙ call_gives call old between rest later called

pub run_text : (body left : List ℕ) (calls : List PipeCall) (pipe : Piped) → HasPiped fresh body calls pipe left → parts_of calls ++ will_give pipe left ≡ text body
run_text body left calls pipe run = run_gives calls fresh pipe body left run ∙ given_text body

behind_end : (pipe : Piped) (place : Option LinePlace) (rest : List ℕ) → pipe.place ≡ place → will_give pipe [] ≡ [] → will_give pipe rest ≡ []
behind_end pipe None rest is none = ap (λ p. pipe.ready ++ given_behind p rest) is ∙ ap (λ p. pipe.ready ++ given_behind p []) (sym is) ∙ none
behind_end pipe (Some place) rest is none = absurd (some_is_left pipe place is none)

pub whole_text : (body left : List ℕ) (calls : List PipeCall) (pipe : Piped) → HasPiped fresh body calls pipe left → will_give pipe [] ≡ [] → parts_of calls ≡ text body
whole_text body left calls pipe run none =
    sym (append-nil (parts_of calls)) ∙ ap (λ l. parts_of calls ++ l) (sym (behind_end pipe pipe.place left refl none)) ∙ run_text body left calls pipe run
