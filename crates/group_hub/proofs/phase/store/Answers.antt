use Rattle.std.proofs.Common.{ℕ, ◌≤◌, subst}
use Rattle.group_hub.proofs.ValidSites.{still_valid}
use Rattle.group_hub.proofs.phase.store.Goals as goal

pub returns-in-Ok-clause-valid : goal.returns-in-Ok-clause-valid
returns-in-Ok-clause-valid g c = λ honest site.
    let early : c.args.now ≤ 253402300799 = subst (λ (n : ℕ). n ≤ 253402300799) c.seconds.ensures.value c.seconds.ensures.range in
    still_valid c.changes_keep_sites_valid.ensures.changed _ _ c.in-Some.change c.args.now site c.valid_names.ensures early (c.in-Ok.ensures.done.done honest)
