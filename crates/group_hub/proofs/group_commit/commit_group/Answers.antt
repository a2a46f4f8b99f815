use Rattle.std.proofs.Common.{◌≡◌, ◌<◌, length, rules, arith, sym, subst}
use Rattle.std.specs.Prelude.{IsTrue}
use Rattle.std.proofs.lemmas.Grind.{common_steps}
use Rattle.host_types.specs.Site.{Site, IsSite}
use Rattle.group_hub.specs.Flushing.{ChangesAreTyped}
use Rattle.group_hub.proofs.GroupsMade.{same_site, not_refused, still_valid, crashes, failed_now}
use Rattle.group_hub.proofs.group_commit.commit_group.Goals as goal

pub returns-in-Ok : goal.returns-in-Ok
returns-in-Ok g c =
    let s = g.S.SiteKeeper in
    let k = c.args.site.now in
    let l = c.change_all.new.self in
    let all = c.args.changes.items in
    let site = (s.site_state k).site in
    let e = c.in-Ok.ensures in
    let typed : ChangesAreTyped all = subst ChangesAreTyped c.deref.ensures.value c.valid_changes.ensures in
    record {
      whole = λ honest is. same_site site (s.site_state l).site all (c.requires.right honest) (e.done.done honest);
      still_usable = search rules;
      too_large = search rules;
      fault = search rules;
      tried = search rules;
      counts = search rules;
      at_crash = λ honest. crashes s.represents (s.crash_states k) (s.crash_states l) site all (c.requires.right honest) (e.at_crash.at_crash honest c.requires.usable);
      unchanged = search rules;
      too_large_adds_none = search rules;
      valid = λ honest. still_valid c.changes_keep_sites_valid.ensures.changed site (s.site_state l).site all typed (e.done.done honest);
    }

pub returns-in-Err-Failed : goal.returns-in-Err-Failed
returns-in-Err-Failed g c =
    let s = g.S.SiteKeeper in
    let k = c.args.site.now in
    let l = c.change_all.new.self in
    let all = c.args.changes.items in
    let site = (s.site_state k).site in
    let e = c.in-Err-Failed.ensures in
    let failed = rw c.in-Err-Failed.field-0-is at e.fault.cause in
    let some : 0 < length all = grind (arith, common_steps) in
    record {
      whole = search rules;
      still_usable = search rules;
      too_large = search rules;
      fault = failed_now (s.site_state k) (s.site_state l) all c.requires.usable some failed;
      tried = search rules;
      counts = grind (arith, common_steps);
      at_crash = λ honest. crashes s.represents (s.crash_states k) (s.crash_states l) site all (c.requires.right honest) (e.at_crash.at_crash honest c.requires.usable);
      unchanged = search rules;
      too_large_adds_none = search rules;
      valid = λ honest valid. subst (λ (x : Site). ∥ IsSite x ∥₁) (sym (failed.site honest)) valid;
    }

pub returns-in-Err-RefusedAt : goal.returns-in-Err-RefusedAt
returns-in-Err-RefusedAt g c =
    let s = g.S.SiteKeeper in
    let k = s.site_state c.args.site.now in
    let l = s.site_state c.change_all.new.self in
    let e = c.in-Err-RefusedAt.ensures in
    let refused = rw c.in-Err-RefusedAt.field-0-is at e.fault.cause in
    let never : IsTrue k.honest → ⊥ = λ honest. not_refused k.site c.args.changes.items c.in-Err-RefusedAt.field-0-1 (c.requires.right honest) (refused.1 honest) in
    let writes : l.failed_writes ≡ k.failed_writes = grind (arith, common_steps) in
    record {
      whole = search rules;
      still_usable = search rules;
      too_large = search rules;
      fault = (refused.0, λ honest. absurd (never honest));
      tried = search rules;
      counts = record { reads = λ honest. absurd (never honest); writes = writes };
      at_crash = λ honest. absurd (never honest);
      unchanged = search rules;
      too_large_adds_none = search rules;
      valid = λ honest. absurd (never honest);
    }
