-- What is to be told, where there was memory for it or not.
use Rattle.std.proofs.Common.{◌≡◌, ℕ, List, Result, Ok, Err, ap, ◌∙◌, inl, inr}
use Rattle.std.specs.Prelude.{IfOk, OnErr, false, true}
use Rattle.std.specs.String.{string_bytes}
use Rattle.std.specs.declared.alloc.Global.{Global}
use Rattle.std.specs.declared.string.String.{String}
use Rattle.admin_lines.specs.Replies.{reply}
use Rattle.admin_office.specs.Lines.{no_memory}
use Rattle.admin_office.specs.Requests.{Agrees, Refuses}
use Rattle.admin_office.specs.Tasks.{Telling}

pub refused : {E : Type 0} (made : Result (String Global) E) (text unsent : List ℕ) → IfOk made (λ t. unsent ≡ string_bytes t) → OnErr made (unsent ≡ no_memory) → IfOk made (λ t. string_bytes t ≡ reply false text) → Refuses text (Telling unsent)
refused (Ok t) text unsent is none of = inl (ap Telling (is ∙ of))
refused (Err e) text unsent is none of = inr (ap Telling none)

pub agreed : {E : Type 0} (made : Result (String Global) E) (text unsent : List ℕ) → IfOk made (λ t. unsent ≡ string_bytes t) → OnErr made (unsent ≡ no_memory) → IfOk made (λ t. string_bytes t ≡ reply true text) → Agrees text (Telling unsent)
agreed (Ok t) text unsent is none of = inl (ap Telling (is ∙ of))
agreed (Err e) text unsent is none of = inr (ap Telling none)
