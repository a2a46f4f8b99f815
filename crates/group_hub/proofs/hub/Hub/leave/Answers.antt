use Rattle.std.proofs.Common.{◌≡◌, List, refl, sym, ap, subst, ◌∙◌, arith, rules}
use Rattle.std.specs.Prelude.{◌==◌, IsTrue}
use Rattle.std.specs.List.{position}
use Rattle.host_types.specs.SiteState.{SiteState}
use Rattle.group_world.specs.World.{count_waiting}
use Rattle.group_world.specs.declared.event.Event.TheVariants.{Leave}
use Rattle.group_world.specs.declared.event.Outcome.TheVariants.{Gone, Fault}
use Rattle.group_world.specs.declared.fault.HubFault.TheVariants.{Unknown}
use Rattle.group_world.proofs.Leaving.{no_commits}
use Rattle.group_hub.specs.HeldPins.{HoldsAll}
use Rattle.group_hub.specs.Hub.{world_of}
use Rattle.group_hub.specs.Sessions.{phase_of, sessions_of, pins_of, AreSound}
use Rattle.group_hub.specs.Worlds.{IsValidWhereGrouped}
use Rattle.group_hub.specs.declared.session.Session.{Session}
use Rattle.group_hub.proofs.SessionPlaces.{place_found, nobody}
use Rattle.group_hub.proofs.SessionsMoved.{session_goes}
use Rattle.group_hub.proofs.SessionsHeld.{own_is_out}
use Rattle.group_hub.proofs.Steps.{answered_by, leaves, nobody_leaves}
use Rattle.group_hub.proofs.CallsMade.{quiet, left_call}
use Rattle.group_hub.proofs.Waits.{count_gone}
use Rattle.group_hub.proofs.hub.Hub.leave.Goals as goal

pub returns-in_default : goal.returns-in_default
returns-in_default g c =
    let s = g.S.SiteKeeper in
    let k = s.site_state c.args.self.now.site in
    let w = world_of s.site_state c.args.self.now in
    let items = c.args.self.now.sessions.items in
    let found = ap (position (λ (x : Session g.row.S-Pin.Denot). x.id == c.args.id)) (sym c.deref.ensures.value) ∙ sym c.place_in.ensures.place ∙ c.in_default.is in
    let answers = nobody_leaves k c.args.self.now.next c.args.self.now.grouped (sessions_of s.pinned k items) c.args.id (nobody s.pinned k items c.args.id found) in
    record {
      step = answered_by w.failed w (Leave c.args.id) _ w answers;
      at_crash = search rules;
      call = quiet _ _ _ _ w c.args.self.now.site (Leave c.args.id) _ w (g.met.S.SiteKeeper.crash_states_represent c.args.self.now.site) answers (no_commits w (Leave c.args.id) (Fault Unknown) refl) (answers.0, record { same = refl; free = omega arith }) (record { reads = refl; writes = refl }) refl refl refl refl refl;
    }

pub give_back-requires : goal.give_back-requires
give_back-requires g c =
    let s = g.S.SiteKeeper in
    let found = ap (position (λ (x : Session g.row.S-Pin.Denot). x.id == c.args.id)) (sym c.deref.ensures.value) ∙ sym c.in-Some.ensures.place in
    record { out = own_is_out s.pinned (s.site_state c.args.self.now.site) c.args.self.now.sessions.items c.args.id c.in-Some.at c.remove-phase.result found c.remove-phase.ensures.value c.args.self.now.held }

pub invariant_of-self : goal.invariant_of-self
invariant_of-self g c =
    let s = g.S.SiteKeeper in
    let k = s.site_state c.args.self.now.site in
    let l = s.site_state c.give_back.new.site in
    let items = c.args.self.now.sessions.items in
    let found = ap (position (λ (x : Session g.row.S-Pin.Denot). x.id == c.args.id)) (sym c.deref.ensures.value) ∙ sym c.in-Some.ensures.place in
    let gone = session_goes s.pinned k l items c.args.id c.in-Some.at c.remove-phase.result found c.remove-phase.ensures.value c.args.self.now.held c.give_back.ensures.pins in
    let there = (place_found s.pinned k items c.args.id c.in-Some.at c.remove-phase.result found c.remove-phase.ensures.value).there in
    let honest_is : l.honest ≡ k.honest = ap (λ (h : SiteState). h.honest) c.give_back.ensures.only.same in
    record {
      room = search rules;
      few = search rules;
      held = subst (λ (xs : List (Session g.row.S-Pin.Denot)). HoldsAll l (pins_of s.pinned xs)) (sym c.remove-phase.ensures.items) gone.held;
      sound = λ honest. subst (λ (xs : List (Session g.row.S-Pin.Denot)). AreSound s.pinned l xs) (sym c.remove-phase.ensures.items) (gone.sound (c.args.self.now.sound (subst IsTrue honest_is honest)));
      valid = subst (IsValidWhereGrouped c.args.self.now.grouped) (sym c.give_back.ensures.only.same) c.args.self.now.valid;
      alone = λ plain honest. ap (λ (xs : List (Session g.row.S-Pin.Denot)). count_waiting (sessions_of s.pinned l xs)) c.remove-phase.ensures.items ∙ ap count_waiting gone.seen
          ∙ omega (arith, c.args.self.now.alone plain (subst IsTrue honest_is honest), count_gone (sessions_of s.pinned k items) c.args.id (phase_of s.pinned k c.remove-phase.result.phase) there);
    }

pub returns : goal.returns
returns g c =
    let s = g.S.SiteKeeper in
    let k = s.site_state c.args.self.now.site in
    let l = s.site_state c.give_back.new.site in
    let w = world_of s.site_state c.args.self.now in
    let items = c.args.self.now.sessions.items in
    let x = c.remove-phase.result in
    let found = ap (position (λ (x : Session g.row.S-Pin.Denot). x.id == c.args.id)) (sym c.deref.ensures.value) ∙ sym c.in-Some.ensures.place in
    let gone = session_goes s.pinned k l items c.args.id c.in-Some.at x found c.remove-phase.ensures.value c.args.self.now.held c.give_back.ensures.pins in
    let there = (place_found s.pinned k items c.args.id c.in-Some.at x found c.remove-phase.ensures.value).there in
    let answers = leaves k l c.args.self.now.next c.args.self.now.grouped (sessions_of s.pinned k items) (sessions_of s.pinned l c.remove-phase.new.self.items) c.args.id (phase_of s.pinned k x.phase)
    (ap (λ (h : SiteState). h.site) c.give_back.ensures.only.same) (ap (λ (h : SiteState). h.usable) c.give_back.ensures.only.same) there
    (ap (λ (xs : List (Session g.row.S-Pin.Denot)). sessions_of s.pinned l xs) c.remove-phase.ensures.items ∙ gone.seen) in
    record {
      step = answered_by w.failed w (Leave c.args.id) _ _ answers;
      at_crash = c.give_back.ensures.at_crash;
      call = left_call s.site_state s.lacks s.crash_states s.represents w c.args.self.now.site c.args.id _ c.give_back.new.site (g.met.S.SiteKeeper.crash_states_represent c.args.self.now.site) (g.met.S.SiteKeeper.crash_states_represent c.give_back.new.site)
          answers (no_commits w (Leave c.args.id) Gone refl) c.give_back.ensures.only c.give_back.ensures.at_crash refl refl refl refl refl;
    }
