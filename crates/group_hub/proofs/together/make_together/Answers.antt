use Rattle.std.proofs.Common.{sym, subst}
use Rattle.std.specs.Prelude.{IsTrue}
use Rattle.host_types.specs.Site.{Site, IsSite}
use Rattle.group_hub.proofs.MadeTogether.{not_prepared, changes_right, made_together}
use Rattle.group_hub.proofs.together.make_together.Goals as goal

pub commit_group-requires-clause-right : goal.commit_group-requires-clause-right
commit_group-requires-clause-right g c =
    let s = g.S.SiteKeeper in
    let k = c.args.site.now in
    let done = c.in-Ok.ensures in
    changes_right s.site_state s.lacks s.crash_states s.represents s.pinned c.args.sessions.now c.prepare.new.next.items k c.prepare.new.site c.requires.usable (g.met.S.SiteKeeper.crash_states_represent k) done.group.sound done.group.stands
    c.prepare.new.changes.items done.prepares done.group.prepared done.group.waiting

pub returns-in-Ok-clause-makes : goal.returns-in-Ok-clause-makes
returns-in-Ok-clause-makes g c =
    let s = g.S.SiteKeeper in
    let k = c.args.site.now in
    let done = c.in-Ok.ensures in
    made_together s.site_state s.lacks s.crash_states s.represents s.pinned c.args.sessions.now c.prepare.new.next.items k c.prepare.new.site c.requires.usable (g.met.S.SiteKeeper.crash_states_represent k) done.group.sound done.group.stands
    c.prepare.new.changes.items done.prepares done.group.prepared done.group.waiting c.commit_group.new.site c.commit_group.result c.commit_group.ensures

pub returns-in-Ok-clause-valid : goal.returns-in-Ok-clause-valid
returns-in-Ok-clause-valid g c = λ honest.
    let s = g.S.SiteKeeper in
    let prepares = c.in-Ok.ensures.prepares in
    let now : IsTrue (s.site_state c.prepare.new.site).honest = subst IsTrue (sym prepares.honest) honest in
    c.commit_group.ensures.valid now (subst (λ (x : Site). ∥ IsSite x ∥₁) (sym (prepares.site honest)) (c.requires.valid honest))

pub returns-in-Err-clause-makes : goal.returns-in-Err-clause-makes
returns-in-Err-clause-makes g c =
    let s = g.S.SiteKeeper in
    let k = c.args.site.now in
    let failed = c.in-Err.ensures in
    not_prepared s.site_state s.lacks s.crash_states s.represents s.pinned c.args.sessions.now c.prepare.new.next.items k c.prepare.new.site c.requires.usable (g.met.S.SiteKeeper.crash_states_represent k) failed.group.sound failed.group.stands c.in-Err.fault failed.prepares
