use Rattle.std.proofs.Common.{refl, ap, ◌∙◌, inl, inr, Err}
use Rattle.gopher_host.proofs.holding.let_go.Goals as goal

pub returns-in-Err-Reply : goal.returns-in-Err-Reply
returns-in-Err-Reply c = let made = c.release.ensures.refused c.in-Err-Reply.field-0-0 (c.in-Err-Reply.is ∙ ap (λ f. Err f) c.in-Err-Reply.field-0-is) in inl (refl, (made.0, made.1, inr made.2))
