use Rattle.std.proofs.Common.{inl, refl}
use Rattle.gopher_host.proofs.AskedInstead.{asked_instead}
use Rattle.gopher_host.proofs.Ended.{opened_then}
use Rattle.gopher_host.proofs.commands.apply_said.Goals as goal

pub returns-in-Err : goal.returns-in-Err
returns-in-Err g c = asked_instead _ _ _ (λ text. text) _ _ _ _ _ _ _ c.ask_instead-answer.result _ _ c.in-Err.ensures.noted c.ask_instead-answer.ensures c.print_answer.ensures

pub returns : goal.returns
returns g c =
    inl (opened_then _ _ _ _ c.in-Ok.device _ _ _ c.in-Ok.ensures.noted c.closed.ensures.left c.in-Ok.ensures.named c.in-Ok.ensures.opened c.in-Ok.ensures.unused (
      refl,
      record {
        given = c.apply_on-applied.result;
        handed = refl;
        printed = rw c.closed.ensures.given at c.print_applied.ensures;
        applied = c.apply_on-applied.ensures.applied refl;
        all = c.apply_on-applied.ensures.count;
        refused = c.apply_on-applied.ensures.refused;
      },
    ))
