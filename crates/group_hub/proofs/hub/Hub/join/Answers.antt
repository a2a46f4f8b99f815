use Rattle.std.proofs.Common.{◌≡◌, true, false, [], ◌∷◌, ◌++◌, refl, sym, ap, subst, ◌∙◌, arith, rules}
use Rattle.std.specs.Prelude.{List, not}
use Rattle.group_world.specs.World.{count_waiting}
use Rattle.group_world.specs.declared.event.Event.TheVariants.{Join}
use Rattle.group_world.specs.declared.event.Outcome.{Outcome}
use Rattle.group_world.specs.declared.event.Outcome.TheVariants.{Joined, Fault}
use Rattle.group_world.specs.declared.fault.HubFault.TheVariants.{Crowded, Spent, Failed}
use Rattle.group_hub.proofs.CountedCalls.{shut_counts}
use Rattle.group_world.proofs.Leaving.{no_commits, closed_stores}
use Rattle.group_hub.specs.HeldPins.{HoldsAll}
use Rattle.group_hub.specs.Hub.{world_of}
use Rattle.group_hub.specs.Sessions.{sessions_of, pins_of, AreSound}
use Rattle.group_hub.specs.declared.session.Session.{Session}
use Rattle.group_hub.proofs.SessionsHeld.{none_added, sound_added, seen_added, seen_length}
use Rattle.group_hub.proofs.Steps.{answered_by, crowded, spent, joins}
use Rattle.group_hub.proofs.CallsMade.{quiet, shut_answer}
use Rattle.group_hub.proofs.Waits.{count_more}
use Rattle.group_hub.proofs.hub.Hub.join.Goals as goal

pub returns-then-not-is_usable-clause-call : goal.returns-then-not-is_usable-clause-call
returns-then-not-is_usable-clause-call g c =
    let k = g.S.SiteKeeper.site_state c.args.self.now.site in
    let w = world_of g.S.SiteKeeper.site_state c.args.self.now in
    let shut : k.usable ≡ false = search rules in
    let answers = shut_answer w Join (ap not shut) refl in
    quiet _ _ _ _ w c.args.self.now.site Join _ w (g.met.S.SiteKeeper.crash_states_represent c.args.self.now.site) answers (closed_stores w Join (Fault Failed) (ap not shut)) (answers.0, refl) (let counts = shut_counts {T = Outcome} k shut in record { reads = counts.reads; writes = counts.writes }) refl refl refl refl refl

pub returns-then-len-ge-MOST_SESSIONS : goal.returns-then-len-ge-MOST_SESSIONS
returns-then-len-ge-MOST_SESSIONS g c =
    let s = g.S.SiteKeeper in
    let k = s.site_state c.args.self.now.site in
    let w = world_of s.site_state c.args.self.now in
    let usable : k.usable ≡ true = search rules in
    let items = c.args.self.now.sessions.items in
    let answers = crowded k c.args.self.now.next c.args.self.now.grouped (sessions_of s.pinned k items) usable (omega (arith, c.len.ensures, c.if-len-ge-MOST_SESSIONS.true, seen_length s.pinned k items)) in
    record {
      step = answered_by w.failed w Join _ w answers;
      keeper = refl;
      call = quiet _ _ _ _ w c.args.self.now.site Join _ w (g.met.S.SiteKeeper.crash_states_represent c.args.self.now.site) answers (no_commits w Join (Fault Crowded) refl) (answers.0, refl) (record { reads = refl; writes = refl }) refl refl refl refl refl;
    }

pub returns-then-self : goal.returns-then-self
returns-then-self g c =
    let s = g.S.SiteKeeper in
    let k = s.site_state c.args.self.now.site in
    let w = world_of s.site_state c.args.self.now in
    let usable : k.usable ≡ true = search rules in
    let items = c.args.self.now.sessions.items in
    let answers = spent k c.args.self.now.next c.args.self.now.grouped (sessions_of s.pinned k items) usable (omega (arith, c.len.ensures, c.if-len-ge-MOST_SESSIONS.false, seen_length s.pinned k items)) c.if-self.true in
    record {
      step = answered_by w.failed w Join _ w answers;
      keeper = refl;
      call = quiet _ _ _ _ w c.args.self.now.site Join _ w (g.met.S.SiteKeeper.crash_states_represent c.args.self.now.site) answers (no_commits w Join (Fault Spent) refl) (answers.0, refl) (record { reads = refl; writes = refl }) refl refl refl refl refl;
    }

pub invariant_of-self : goal.invariant_of-self
invariant_of-self g c =
    let s = g.S.SiteKeeper in
    let k = s.site_state c.args.self.now.site in
    let items = c.args.self.now.sessions.items in
    let x : Session g.row.S-Pin.Denot = record { id = c.args.self.now.next; phase = c.new_phase-phase.result } in
    let pushed : c.push.new.self.items ≡ items ++ x ∷ [] = rw c.unwrap.ensures at c.push.ensures.items in
    let seen = seen_added s.pinned k items x (c.new_phase-phase.ensures.phase s.pinned k) in
    record {
      room = search rules;
      few = search rules;
      held = subst (λ (xs : List (Session g.row.S-Pin.Denot)). HoldsAll k (pins_of s.pinned xs)) (sym pushed) (subst (HoldsAll k) (sym (none_added s.pinned items x (c.new_phase-phase.ensures.no_pin s.pinned))) c.args.self.now.held);
      sound = λ honest. subst (λ (xs : List (Session g.row.S-Pin.Denot)). AreSound s.pinned k xs) (sym pushed) (sound_added s.pinned k items x (c.new_phase-phase.ensures.sound s.pinned k) (c.args.self.now.sound honest));
      valid = c.args.self.now.valid;
      alone = λ plain honest. ap (λ (xs : List (Session g.row.S-Pin.Denot)). count_waiting (sessions_of s.pinned k xs)) pushed ∙ ap count_waiting seen ∙ count_more (sessions_of s.pinned k items) _ ∙ omega (arith, c.args.self.now.alone plain honest);
    }

pub returns : goal.returns
returns g c =
    let s = g.S.SiteKeeper in
    let k = s.site_state c.args.self.now.site in
    let w = world_of s.site_state c.args.self.now in
    let items = c.args.self.now.sessions.items in
    let x : Session g.row.S-Pin.Denot = record { id = c.args.self.now.next; phase = c.new_phase-phase.result } in
    let pushed : c.push.new.self.items ≡ items ++ x ∷ [] = rw c.unwrap.ensures at c.push.ensures.items in
    let usable : k.usable ≡ true = search rules in
    let answers = joins k c.args.self.now.next c.args.self.now.grouped (sessions_of s.pinned k items) (sessions_of s.pinned k c.push.new.self.items) usable (omega (arith, c.len.ensures, c.if-len-ge-MOST_SESSIONS.false, seen_length s.pinned k items)) c.if-self.false
    (ap (λ (xs : List (Session g.row.S-Pin.Denot)). sessions_of s.pinned k xs) pushed ∙ seen_added s.pinned k items x (c.new_phase-phase.ensures.phase s.pinned k)) in
    record {
      step = answered_by w.failed w Join _ _ answers;
      keeper = refl;
      call = quiet _ _ _ _ w c.args.self.now.site Join _ _ (g.met.S.SiteKeeper.crash_states_represent c.args.self.now.site) answers (no_commits w Join (Joined c.args.self.now.next) refl) (answers.0, refl) (record { reads = refl; writes = refl }) refl refl refl refl refl;
    }
