-- An office that was asked to hold still, and let go on, put together.
use Rattle.std.proofs.Common.{◌≡◌, ℕ, Bool, true, false, List, [], ◌∷◌, ◌++◌, refl, sym, ap, subst, ◌∙◌, append_assoc, Ok, Err}
use Rattle.std.specs.Prelude.{Result, IfOk, string_bytes}
use Rattle.std.proofs.lemmas.List.{append-nil}
use Rattle.turns.specs.WireCalls.{WireCall, HasMade, IsSent}
use Rattle.admin_lines.specs.Holds.{hold_line}
use Rattle.admin_lines.specs.Replies.{reply}
use Rattle.admin_client.specs.declared.answer.AdminAnswer.{AdminAnswer}
use Rattle.admin_client.specs.Asking.{IsAllHeard}
use Rattle.admin_client.specs.Holding.{HearsHeld, IsHoldAsked, IsReleased}

-- the request was taken whole, and answered
pub asked_whole : (held : Bool) (old mid new : List WireCall) → HasMade old mid (λ made. IsSent hold_line made true) → HasMade mid new (λ made. HearsHeld made held) → HasMade old new (λ made. IsHoldAsked made held)
asked_whole held old mid new sent heard = (
  sent.0 ++ heard.0,
  heard.1 ∙ ap (λ l. l ++ heard.0) sent.1 ∙ append_assoc old sent.0 heard.0,
  record {
    first = sent.0;
    second = heard.0;
    whole = true;
    made_are = refl;
    sent = sent.2;
    heard = heard.2;
  },
)

-- it was not
pub asked_in_part : (old new : List WireCall) → HasMade old new (λ made. IsSent hold_line made false) → HasMade old new (λ made. IsHoldAsked made false)
asked_in_part old new sent = (
  sent.0,
  sent.1,
  record {
    first = sent.0;
    second = [];
    whole = false;
    made_are = sym (append-nil sent.0);
    sent = sent.2;
    heard = (refl, refl);
  },
)

pub released : (reply : List ℕ) (whole : Bool) (old mid new : List WireCall) → HasMade old mid (λ made. IsSent (10 ∷ []) made whole) → HasMade mid new (λ made. IsAllHeard reply made) → HasMade old new (λ made. IsReleased reply made)
released reply whole old mid new sent heard = (
  sent.0 ++ heard.0,
  heard.1 ∙ ap (λ l. l ++ heard.0) sent.1 ∙ append_assoc old sent.0 heard.0,
  record {
    first = sent.0;
    second = heard.0;
    whole = whole;
    made_are = refl;
    sent = sent.2;
    heard = heard.2;
  },
)

-- an answer is what was heard
pub answered_so : {E : Type 0} (result : Result AdminAnswer E) (heard bytes : List ℕ) (old new : List WireCall) → heard ≡ bytes → IfOk result (λ a. heard ≡ reply a.done (string_bytes a.text)) → HasMade old new (λ made. IsReleased bytes made) →
    IfOk result (λ a. HasMade old new (λ made. IsReleased (reply a.done (string_bytes a.text)) made))
answered_so (Ok a) heard bytes old new same is made = subst (λ b. HasMade old new (λ m. IsReleased b m)) (sym same ∙ is) made
answered_so (Err e) heard bytes old new same is made = tt
