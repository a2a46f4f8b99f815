use Rattle.std.proofs.Common.{◌≡◌, ◌≤◌, true, false, List, [], ◌∷◌, not, refl, sym, ap, subst, ◌∙◌, rules, inl, arith}
use Rattle.std.specs.Prelude.{ℕ, IsTrue}
use Rattle.group_world.specs.World.{Phase, count_waiting}
use Rattle.group_world.specs.Outcomes.{fault_of}
use Rattle.group_world.specs.declared.event.Event.TheVariants.{Admin}
use Rattle.group_world.specs.declared.event.Outcome.{Outcome}
use Rattle.group_world.specs.declared.event.Outcome.TheVariants.{Done, Fault}
use Rattle.group_world.specs.declared.fault.HubFault.{HubFault}
use Rattle.group_hub.specs.Calls.{CallOverKeeper}
use Rattle.group_hub.specs.Hub.{world_of}
use Rattle.group_hub.specs.Sessions.{sessions_of}
use Rattle.group_hub.specs.Worlds.{world_at}
use Rattle.group_hub.proofs.AdminCalls.{made_call, not_made_call, keeps_valid}
use Rattle.group_hub.proofs.CallsMade.{shut_call}
use Rattle.group_hub.proofs.CountedCalls.{shut_counts, change_fault_counts}
use Rattle.group_hub.proofs.SessionsMoved.{sessions_stay}
use Rattle.group_hub.proofs.hub.Hub.admin.Goals as goal

pub returns-then-not-is_usable : goal.returns-then-not-is_usable
returns-then-not-is_usable g c =
    let k = g.S.SiteKeeper.site_state c.args.self.now.site in
    let w = world_of g.S.SiteKeeper.site_state c.args.self.now in
    let shut : k.usable ≡ false = search rules in
    let counts = shut_counts {T = Outcome} k shut in
    shut_call _ _ _ _ w c.args.self.now.site (Admin c.args.change c.args.now) (g.met.S.SiteKeeper.crash_states_represent c.args.self.now.site) (ap not shut) refl (λ honest. inl shut) (record { reads = counts.reads; writes = counts.writes }) refl refl

pub invariant_of-self : goal.invariant_of-self
invariant_of-self g c =
    let s = g.S.SiteKeeper in
    let hub = c.args.self.now in
    let k = s.site_state hub.site in
    let l = s.site_state c.change.new.self in
    let stayed = sessions_stay s.pinned k l hub.sessions.items c.change.ensures.counts.tried.pins hub.held in
    let was = λ (honest : IsTrue l.honest). subst IsTrue c.change.ensures.counts.tried.honest honest in
    record {
      room = hub.room;
      few = hub.few;
      held = stayed.held;
      sound = λ honest. stayed.sound (hub.sound (was honest));
      valid = λ groups honest.
          let early : c.args.now ≤ 253402300799 = omega (arith, c.seconds.ensures.value, c.seconds.ensures.range) in
          keeps_valid c.changes_keep_sites_valid.ensures.changed k l c.args.change c.args.now (s.lacks hub.site ((c.args.change, c.args.now) ∷ [])) c.change.result (was honest) c.valid_names.ensures early (c.change.ensures.done.done (was honest)) c.change.ensures.fault (hub.valid groups (was honest));
      alone = λ single honest. ap count_waiting stayed.seen ∙ hub.alone single (was honest);
    }

pub returns-in-Ok : goal.returns-in-Ok
returns-in-Ok g c =
    let s = g.S.SiteKeeper in
    let hub = c.args.self.now in
    let made = c.change.new.self in
    let usable : (s.site_state hub.site).usable ≡ true = search rules in
    let stayed = sessions_stay s.pinned (s.site_state hub.site) (s.site_state made) hub.sessions.items c.change.ensures.counts.tried.pins hub.held in
    subst (λ (sessions : List (ℕ × Phase)). CallOverKeeper s.site_state s.lacks s.crash_states s.represents (world_of s.site_state hub) hub.site (Admin c.args.change c.args.now) Done (world_at (s.site_state made) hub.next hub.grouped sessions) made) (sym stayed.seen)
    (made_call s.site_state s.lacks s.crash_states s.represents hub.site made hub.next hub.grouped (sessions_of s.pinned (s.site_state hub.site) hub.sessions.items) c.args.change c.args.now
    (record { reads = c.in-Ok.ensures.counts.reads; writes = c.in-Ok.ensures.counts.writes }) usable c.in-Ok.ensures.done.still_usable c.change.ensures.counts.tried.honest c.in-Ok.ensures.done.done (g.met.S.SiteKeeper.crash_states_represent made) (λ honest. c.change.ensures.at_crash.at_crash honest usable))

pub returns-in-Err : goal.returns-in-Err
returns-in-Err g c =
    let s = g.S.SiteKeeper in
    let hub = c.args.self.now in
    let made = c.change.new.self in
    let usable : (s.site_state hub.site).usable ≡ true = search rules in
    let all_sessions = sessions_of s.pinned (s.site_state hub.site) hub.sessions.items in
    let stayed = sessions_stay s.pinned (s.site_state hub.site) (s.site_state made) hub.sessions.items c.change.ensures.counts.tried.pins hub.held in
    subst (λ (sessions : List (ℕ × Phase)). CallOverKeeper s.site_state s.lacks s.crash_states s.represents (world_of s.site_state hub) hub.site (Admin c.args.change c.args.now) (Fault c.of_site.result) (world_at (s.site_state made) hub.next hub.grouped sessions) made) (sym stayed.seen)
    (subst (λ (fault : HubFault). CallOverKeeper s.site_state s.lacks s.crash_states s.represents (world_of s.site_state hub) hub.site (Admin c.args.change c.args.now) (Fault fault) (world_at (s.site_state made) hub.next hub.grouped all_sessions) made) (sym c.of_site.ensures)
    (not_made_call s.site_state s.lacks s.crash_states s.represents hub.site made hub.next hub.grouped all_sessions c.args.change c.args.now c.in-Err.fault
    (change_fault_counts {T = Outcome} c.in-Err.fault (fault_of c.in-Err.fault) (s.site_state hub.site) (s.site_state made) refl c.in-Err.ensures.counts.reads c.in-Err.ensures.counts.writes) usable c.change.ensures.counts.tried.honest
    (g.met.S.SiteKeeper.crash_states_represent hub.site) (λ honest. c.change.ensures.at_crash.at_crash honest usable) (λ honest. c.in-Err.ensures.at_crash.no_new_crash_state honest) c.in-Err.ensures.fault (c.in-Err.ensures.ended.spent usable)))
