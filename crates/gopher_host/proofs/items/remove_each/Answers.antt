use Rattle.std.proofs.Common.{◌∙◌, inl, inr, refl}
use Rattle.gopher_host.proofs.Applied.{each_removal}
use Rattle.gopher_host.proofs.AskedInstead.{drops_instead}
use Rattle.gopher_host.proofs.Ended.{opened_then}
use Rattle.gopher_host.proofs.items.remove_each.Goals as goal

pub returns-in-Err : goal.returns-in-Err
returns-in-Err g c = drops_instead g.W.Write.contents _ _ _ c.args.now _ _ _ _ _ _ _ c.in-Err.ensures.noted c.remove_instead.ensures

pub returns : goal.returns
returns g c =
    let same = c.in_ok-changes.ensures.changes ∙ each_removal c.args.selectors.now in
    inr (inl (opened_then _ _ _ _ c.in-Ok.device _ _ _ c.in-Ok.ensures.noted c.closed.ensures.left c.in-Ok.ensures.named c.in-Ok.ensures.opened c.in-Ok.ensures.unused (
      refl,
      record {
        given = c.apply_on-applied.result;
        handed = refl;
        printed = rw c.closed.ensures.given at c.print_dropped.ensures;
        applied = rw same at (c.apply_on-applied.ensures.applied refl);
        all = rw same at c.apply_on-applied.ensures.count;
        refused = c.apply_on-applied.ensures.refused;
      },
    )))
