use Rattle.std.proofs.Common.{◌≡◌, ◌+◌, ◌++◌, ◌∷◌, [], take, length, ap, sym, subst, ◌∙◌, arith, rules, length-append}
use Rattle.std.specs.Prelude.{Some, IsTrue}
use Rattle.std.proofs.lemmas.Grind.{common_steps}
use Rattle.host_types.specs.Site.{Site}
use Rattle.host_types.specs.SiteState.{SiteState}
use Rattle.group_world.specs.Laws.{all_made}
use Rattle.group_hub.specs.Flushing.{next_pins, IsNextReply, AreNextSound, AreForWaiting, ArePrepared, StandsBeside}
use Rattle.group_hub.specs.Sessions.{phase_of, session_of, sessions_of}
use Rattle.group_hub.proofs.NextSessions.{taken_one, group_of, prepared_made, prepared_more, sessions_more}
use Rattle.group_hub.proofs.NextPins.{one_beside, none_beside, room_beside, sound_more, for_more}
use Rattle.group_hub.proofs.PreparesThen.{done, not_ok, prepares_then, prepares_as, prepares_on}
use Rattle.group_hub.proofs.group.prepare.Goals as goal

pub next_for-requires-clause-room : goal.next_for-requires-clause-room
next_for-requires-clause-room g c = λ waits.
    let s = g.S.SiteKeeper in
    let inv = c.loop-session.invariant in
    room_beside s.pinned (s.site_state c.args.site.now) (s.site_state c.loop-session.site) c.args.sessions.now c.loop-session.next.items c.loop-session.session-index c.session-item.result inv.waiting c.loop-session-test.true c.session-item.is waits inv.stands c.requires.few

pub returns-in_err-made-clause-group : goal.returns-in_err-made-clause-group
returns-in_err-made-clause-group g c =
    let s = g.S.SiteKeeper in
    let inv = c.loop-session.invariant in
    let beside = none_beside s.pinned (s.site_state c.args.site.now) (s.site_state c.loop-session.site) (s.site_state c.next_for.new.site) c.args.sessions.now c.loop-session.next.items inv.stands c.in_err-made.ensures.takes_pin.pins_after_fault in
    record {
      prepared = λ honest. not_ok _ c.from_residual.result c.in_err-made.field-0.0 c.from_residual.ensures.1;
      sound = λ honest. beside.sound (inv.sound honest);
      waiting = not_ok _ c.from_residual.result c.in_err-made.field-0.0 c.from_residual.ensures.1;
      stands = beside.stands;
    }

pub returns-in_err-made-clause-prepares : goal.returns-in_err-made-clause-prepares
returns-in_err-made-clause-prepares g c =
    let s = g.S.SiteKeeper in
    prepares_on s.site_state s.lacks s.crash_states c.args.site.now c.loop-session.site c.next_for.new.site tt c.from_residual.result c.in_err-made.field-0.0 c.from_residual.ensures.1 c.loop-session.invariant.prepares c.in_err-made.ensures.prepares

pub loop-session-preserved : goal.loop-session-preserved
loop-session-preserved g c =
    let s = g.S.SiteKeeper in
    let inv = c.loop-session.invariant in
    let k = s.site_state c.args.site.now in
    let m = s.site_state c.loop-session.site in
    let h = s.site_state c.next_for.new.site in
    let ss = c.args.sessions.now in
    let i = c.loop-session.session-index in
    let x = c.session-item.result in
    let ns = c.loop-session.next.items in
    let n = c.in_ok-made.made in
    let before = c.loop-session.changes.items in
    let after = c.next_for.new.changes.items in
    let all_sessions = sessions_of s.pinned k (take i ss) in
    let within = c.loop-session-test.true in
    let more : c.push.new.self.items ≡ ns ++ n ∷ [] = grind (arith, common_steps) in
    let one = one_beside s.pinned k m h ss ns n inv.stands c.in_ok-made.ensures.takes_pin.pins in
    let on : IsTrue k.honest → IsTrue m.honest = λ honest. subst IsTrue (sym inv.prepares.honest) honest in
    let taken : take (i + 1) ss ≡ take i ss ++ x ∷ [] = taken_one ss i x within c.session-item.is in
    record {
      as_many = ap length more ∙ omega (arith, length-append ns (n ∷ []), inv.as_many);
      room = omega (arith, inv.room, c.push.ensures.capacity);
      prepared = λ honest.
          let next = subst (λ (u : Site). (g : SiteState) (t : Site) → all_made u before ≡ Some t → IsNextReply s.pinned h u t before after (phase_of s.pinned g x.phase) n) (inv.prepares.site honest) (λ g t made. c.in_ok-made.ensures.next g t made (on honest)) in
          let still = one.prepared k.site all_sessions before (inv.prepared honest) in
          let lengths : length ns ≡ length all_sessions = inv.as_many ∙ grind (arith, common_steps) in
          let all = prepared_more s.pinned h k.site all_sessions ns before after (session_of s.pinned k x) n lengths still (next k (group_of s.pinned k.site all_sessions).site (prepared_made s.pinned h k.site all_sessions ns before still)) in
          subst (λ l. ArePrepared s.pinned h k.site l c.push.new.self.items after) (sym (sessions_more s.pinned k ss i x within c.session-item.is)) (subst (λ l. ArePrepared s.pinned h k.site (all_sessions ++ session_of s.pinned k x ∷ []) l after) (sym more) all);
      sound = λ honest. subst (λ l. AreNextSound s.pinned h l) (sym more) (sound_more s.pinned h ns n (one.sound (inv.sound honest)) (c.in_ok-made.ensures.takes_pin.sound (on honest)));
      waiting = subst (λ l. AreForWaiting l c.push.new.self.items) (sym taken) (subst (λ l. AreForWaiting (take i ss ++ x ∷ []) l) (sym more) (for_more s.pinned (take i ss) ns x n inv.waiting c.in_ok-made.ensures.waiting));
      stands = subst (λ l. StandsBeside s.pinned k h (next_pins s.pinned l) ss) (sym more) one.stands;
      prepares = prepares_then s.site_state s.lacks s.crash_states c.args.site.now c.loop-session.site c.next_for.new.site tt done inv.prepares (prepares_as s.site_state s.lacks s.crash_states c.loop-session.site c.next_for.new.site n tt c.in_ok-made.ensures.prepares);
    }

pub returns-clause-group : goal.returns-clause-group
returns-clause-group g c =
    let s = g.S.SiteKeeper in
    let k = s.site_state c.args.site.now in
    let all : take c.loop-session.session-index c.args.sessions.now ≡ c.args.sessions.now = grind (arith, common_steps) in
    record {
      prepared = λ honest. subst (λ l. ArePrepared s.pinned (s.site_state c.loop-session.site) k.site (sessions_of s.pinned k l) c.loop-session.next.items c.loop-session.changes.items) all (c.loop-session.invariant.prepared honest);
      sound = search rules;
      waiting = search rules;
      stands = search rules;
    }
