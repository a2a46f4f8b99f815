use Rattle.std.proofs.Common.{◌≡◌, ℕ, List, ◌∷◌, [], ◌++◌, Result, Ok, Err, ap, subst, ◌∙◌}
use Rattle.std.specs.Prelude.{IfOk, IsOkAnd}
use Rattle.std.specs.Global.{Vec}
use Rattle.daily_server.specs.Logged.{IsWritten, line_written, no_memory}
use Rattle.daily_server.proofs.serving.write_line.Goals as goal

ended : {E : Type 0} (line : Result (Vec ℕ) E) (text bytes : List ℕ) → IsOkAnd line (λ l. text ≡ l.items ++ 10 ∷ []) → IfOk line (λ l. l.items ≡ bytes) → text ≡ bytes ++ 10 ∷ []
ended (Ok l) text bytes is of = is ∙ ap (λ x. x ++ 10 ∷ []) of
ended (Err e) text bytes is of = absurd is

pub returns-in-Ok : goal.returns-in-Ok
returns-in-Ok g c = λ bytes is. line_written c.write_out.result
    (subst (λ text. IsWritten g.L.Write.contents (c.args.log.now, c.args.written.now.calls) (c.write_out.new.log, c.write_out.new.written.calls) text c.write_out.result) (c.deref.ensures.value ∙ ended c.args.line _ bytes c.in-Ok.ensures is) c.write_out.ensures)

pub returns-in-Err : goal.returns-in-Err
returns-in-Err g c = λ bytes is. no_memory c.write_out-in-Err.result c.write_out-in-Err.ensures
