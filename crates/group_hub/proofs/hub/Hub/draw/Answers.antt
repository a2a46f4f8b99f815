use Rattle.std.proofs.Common.{◌≡◌, true, false, not, length, set, refl, sym, ap, subst, ◌∙◌, arith, rules}
use Rattle.host_types.specs.Site.{Site, IsSite}
use Rattle.group_world.specs.declared.event.Outcome.{Outcome}
use Rattle.group_world.specs.declared.event.Outcome.TheVariants.{Fault}
use Rattle.group_hub.proofs.CountedCalls.{shut_counts}
use Rattle.std.specs.Prelude.{◌==◌, IsTrue, Some, None, IfErr}
use Rattle.std.specs.List.{position}
use Rattle.group_world.specs.World as world
use Rattle.group_world.specs.Step.{draws}
use Rattle.group_hub.specs.Understood.{IsDrawFault}
use Rattle.group_hub.specs.declared.session.Session.{Session}
use Rattle.group_hub.specs.Sessions.{phase_of, sessions_of}
use Rattle.group_world.specs.Outcomes.{draw_outcome}
use Rattle.group_world.specs.declared.fault.HubFault.TheVariants.{Unknown}
use Rattle.group_hub.proofs.SessionPlaces.{place_found, place_below, nobody}
use Rattle.group_hub.proofs.SessionsMoved.{session_moves}
use Rattle.group_hub.proofs.SessionsHeld.{own_is_out, sound_at}
use Rattle.group_hub.proofs.Steps.{draws_so, draw_breaks, all_sessions_stay, unknown, same_phase, begun_at}
use Rattle.group_hub.proofs.CallsMade.{quiet, shut_call}
use Rattle.group_hub.proofs.Draws.{drawn_call, drawn_waits, untouched_at}
use Rattle.group_hub.proofs.Waits.{count_moved}
use Rattle.group_world.proofs.Leaving.{no_commits}
use Rattle.group_world.specs.World.{count_waiting}
use Rattle.group_hub.specs.Hub.{world_of}
use Rattle.group_hub.specs.Worlds.{world_at}
use Rattle.group_world.specs.Run.{Step}
use Rattle.group_world.specs.declared.event.Event.TheVariants.{Draw}
use Rattle.group_hub.proofs.hub.Hub.draw.Goals as goal

pub returns-then-not-is_usable-clause-call : goal.returns-then-not-is_usable-clause-call
returns-then-not-is_usable-clause-call g c =
    let k = g.S.SiteKeeper.site_state c.args.self.now.site in
    let w = world_of g.S.SiteKeeper.site_state c.args.self.now in
    let shut : k.usable ≡ false = search rules in
    let counts = shut_counts {T = Outcome} k shut in
    shut_call _ _ _ _ w c.args.self.now.site (Draw c.args.id (length c.args.out.now)) (g.met.S.SiteKeeper.crash_states_represent c.args.self.now.site) (ap not shut) refl shut (record { reads = counts.reads; writes = counts.writes }) refl refl

pub returns-in_default-clause-reply : goal.returns-in_default-clause-reply
returns-in_default-clause-reply g c = λ honest usable rest has.
    let s = g.S.SiteKeeper in
    let k = s.site_state c.args.self.now.site in
    let items = c.args.self.now.sessions.items in
    let found = ap (position (λ (x : Session g.row.S-Pin.Denot). x.id == c.args.id)) (sym c.deref.ensures.value) ∙ sym c.place_in.ensures.place ∙ c.in_default.is in
    let no : None ≡ Some (world.Reply rest) = sym (nobody s.pinned k items c.args.id found) ∙ has in
    absurd (cc no)

pub returns-in_default-clause-call : goal.returns-in_default-clause-call
returns-in_default-clause-call g c =
    let s = g.S.SiteKeeper in
    let k = s.site_state c.args.self.now.site in
    let w = world_of s.site_state c.args.self.now in
    let items = c.args.self.now.sessions.items in
    let usable : k.usable ≡ true = search rules in
    let found = ap (position (λ (x : Session g.row.S-Pin.Denot). x.id == c.args.id)) (sym c.deref.ensures.value) ∙ sym c.place_in.ensures.place ∙ c.in_default.is in
    let none = nobody s.pinned k items c.args.id found in
    let answers = unknown k c.args.self.now.next c.args.self.now.grouped (sessions_of s.pinned k items) c.args.id (Draw c.args.id (length c.args.out.now)) (draws (length c.args.out.now)) usable none refl in
    quiet _ _ _ _ w c.args.self.now.site (Draw c.args.id (length c.args.out.now)) _ w (g.met.S.SiteKeeper.crash_states_represent c.args.self.now.site) answers (no_commits w (Draw c.args.id (length c.args.out.now)) (Fault Unknown) refl) usable (record { reads = refl; writes = refl }) refl refl refl refl refl

pub draw-requires-clause-out : goal.draw-requires-clause-out
draw-requires-clause-out g c =
    let s = g.S.SiteKeeper in
    let found = ap (position (λ (x : Session g.row.S-Pin.Denot). x.id == c.args.id)) (sym c.deref.ensures.value) ∙ sym c.in-Some.ensures.place in
    own_is_out s.pinned (s.site_state c.args.self.now.site) c.args.self.now.sessions.items c.args.id c.in-Some.at c.index_mut-session.result.now found c.index_mut-session.ensures.value c.args.self.now.held

pub draw-requires-clause-sound : goal.draw-requires-clause-sound
draw-requires-clause-sound g c = λ honest.
    let s = g.S.SiteKeeper in
    let items = c.args.self.now.sessions.items in
    let found = ap (position (λ (x : Session g.row.S-Pin.Denot). x.id == c.args.id)) (sym c.deref.ensures.value) ∙ sym c.in-Some.ensures.place in
    sound_at s.pinned (s.site_state c.args.self.now.site) items c.in-Some.at c.index_mut-session.result.now (place_below s.pinned items c.args.id c.in-Some.at found) c.index_mut-session.ensures.value (c.args.self.now.sound honest)

pub invariant_of-self-2 : goal.invariant_of-self-2
invariant_of-self-2 g c =
    let s = g.S.SiteKeeper in
    let k = s.site_state c.args.self.now.site in
    let l = s.site_state c.draw.new.site in
    let items = c.args.self.now.sessions.items in
    let found = ap (position (λ (x : Session g.row.S-Pin.Denot). x.id == c.args.id)) (sym c.deref.ensures.value) ∙ sym c.in-Some.ensures.place in
    let moved = session_moves s.pinned k l items c.args.id c.in-Some.at c.index_mut-session.result.now c.draw.new.phase found c.index_mut-session.ensures.value c.args.self.now.held c.draw.ensures.pins in
    record {
      room = search rules;
      few = search rules;
      held = moved.held;
      sound = λ honest. (let before = subst IsTrue c.draw.ensures.draws.kept.honest honest in moved.sound (c.args.self.now.sound before) (c.draw.ensures.still_sound before));
      valid = λ groups honest. (let before = subst IsTrue c.draw.ensures.draws.kept.honest honest in subst (λ (t : Site). ∥ IsSite t ∥₁) (sym (c.draw.ensures.draws.kept.site before)) (c.args.self.now.valid groups before));
      alone = λ plain honest.
          let before = subst IsTrue c.draw.ensures.draws.kept.honest honest in
          let there = (place_found s.pinned k items c.args.id c.in-Some.at c.index_mut-session.result.now found c.index_mut-session.ensures.value).there in
          let one = drawn_waits (length c.args.out.now) (phase_of s.pinned k c.index_mut-session.result.now.phase) (phase_of s.pinned l c.draw.new.phase) c.draw.result (c.draw.ensures.draws.phase before) c.draw.ensures.draws.err in
          ap count_waiting moved.seen ∙ omega (arith, c.args.self.now.alone plain before, count_moved (sessions_of s.pinned k items) c.args.id (phase_of s.pinned k c.index_mut-session.result.now.phase) (phase_of s.pinned l c.draw.new.phase) there, one);
    }

pub returns-clause-reply : goal.returns-clause-reply
returns-clause-reply g c = λ honest usable rest has.
    let s = g.S.SiteKeeper in
    let k = s.site_state c.args.self.now.site in
    let l = s.site_state c.draw.new.site in
    let items = c.args.self.now.sessions.items in
    let x = c.index_mut-session.result.now in
    let found = ap (position (λ (x : Session g.row.S-Pin.Denot). x.id == c.args.id)) (sym c.deref.ensures.value) ∙ sym c.in-Some.ensures.place in
    let there = (place_found s.pinned k items c.args.id c.in-Some.at x found c.index_mut-session.ensures.value).there in
    draw_breaks k l rest c.draw.result honest (subst (λ (p : world.Phase). IfErr c.draw.result (IsDrawFault k l p)) (same_phase _ _ _ there has) c.draw.ensures.draws.fault)

pub returns-clause-out : goal.returns-clause-out
returns-clause-out g c =
    let s = g.S.SiteKeeper in
    let k = s.site_state c.args.self.now.site in
    let items = c.args.self.now.sessions.items in
    let x = c.index_mut-session.result.now in
    let found = ap (position (λ (x : Session g.row.S-Pin.Denot). x.id == c.args.id)) (sym c.deref.ensures.value) ∙ sym c.in-Some.ensures.place in
    let there = (place_found s.pinned k items c.args.id c.in-Some.at x found c.index_mut-session.ensures.value).there in
    record {
      within = c.draw.ensures.draws.within;
      behind = c.draw.ensures.draws.behind;
      untouched = untouched_at k (s.site_state c.draw.new.site) (phase_of s.pinned k x.phase) c.args.out.now c.draw.new.out c.draw.result c.draw.ensures.draws.fault c.draw.ensures.draws.untouched;
      begun = begun_at k.honest _ (phase_of s.pinned k x.phase) _ _ c.draw.result there c.draw.ensures.draws.begun;
    }

pub returns-clause-call : goal.returns-clause-call
returns-clause-call g c =
    let s = g.S.SiteKeeper in
    let k = s.site_state c.args.self.now.site in
    let l = s.site_state c.draw.new.site in
    let items = c.args.self.now.sessions.items in
    let x = c.index_mut-session.result.now in
    let w = world_of s.site_state c.args.self.now in
    let v = world_at l c.args.self.now.next c.args.self.now.grouped (sessions_of s.pinned l (set items c.in-Some.at (record { id = x.id; phase = c.draw.new.phase }))) in
    let usable : k.usable ≡ true = search rules in
    let found = ap (position (λ (x : Session g.row.S-Pin.Denot). x.id == c.args.id)) (sym c.deref.ensures.value) ∙ sym c.in-Some.ensures.place in
    let place = place_found s.pinned k items c.args.id c.in-Some.at x found c.index_mut-session.ensures.value in
    let moved = session_moves s.pinned k l items c.args.id c.in-Some.at x c.draw.new.phase found c.index_mut-session.ensures.value c.args.self.now.held c.draw.ensures.pins in
    let step : IsTrue k.honest → Step w (Draw c.args.id (length c.args.out.now)) (draw_outcome c.draw.result c.draw.new.out) v = λ honest. draws_so k l c.args.self.now.next c.args.self.now.grouped (sessions_of s.pinned k items) _ c.args.id c.args.out.now c.draw.new.out (phase_of s.pinned k x.phase) (phase_of s.pinned l c.draw.new.phase) c.draw.result honest usable
    (c.draw.ensures.draws.kept.site honest) c.draw.ensures.draws.kept.usable place.there moved.seen place.stays (c.draw.ensures.draws.gives honest) (c.draw.ensures.draws.phase honest) c.draw.ensures.draws.err c.draw.ensures.draws.fault in
    let kept = all_sessions_stay (sessions_of s.pinned k items) _ c.args.id (phase_of s.pinned k x.phase) (phase_of s.pinned l c.draw.new.phase) c.draw.result moved.seen place.stays c.draw.ensures.draws.err in
    drawn_call s.site_state s.lacks s.crash_states s.represents w c.args.self.now.site c.args.id (length c.args.out.now) v c.draw.new.site (phase_of s.pinned k x.phase) c.draw.result c.draw.new.out
    (g.met.S.SiteKeeper.crash_states_represent c.args.self.now.site) (g.met.S.SiteKeeper.crash_states_represent c.draw.new.site)
    step usable c.draw.ensures.draws.kept.honest c.draw.ensures.draws.kept.usable refl refl kept c.draw.ensures.draws.fault c.draw.ensures.draws.counts c.draw.ensures.draws.at_crash refl refl refl refl
