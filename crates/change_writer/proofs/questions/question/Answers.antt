use Rattle.std.proofs.Common.{◌≡◌, Err, List, ℕ, subst, sym, OnOk, rules}
use Rattle.std.specs.List.{All}
use Rattle.std.specs.Str.{IsUtf8}
use Rattle.change_writer.specs.Said.{IsSaidPrompt, IsSaidQuestion}
use Rattle.change_writer.proofs.questions.question.Goals as goal

pub returns-in-Choose-clause-said : goal.returns-in-Choose-clause-said
returns-in-Choose-clause-said c =
    rw c.in-Choose.is (subst (λ cs. OnOk c.choose.result (IsSaidPrompt c.in-Choose.prompt × All IsUtf8 cs)) c.as_slice.ensures c.choose.ensures.said)

pub returns-in-Choose-clause-unsaid : goal.returns-in-Choose-clause-unsaid
returns-in-Choose-clause-unsaid c err said =
    let is : IsSaidPrompt c.in-Choose.prompt × All IsUtf8 c.in-Choose.choices = subst IsSaidQuestion c.in-Choose.is said in
    c.choose.ensures.unsaid err (subst (λ cs. IsSaidPrompt c.in-Choose.prompt × All IsUtf8 cs) (sym c.as_slice.ensures) is)
