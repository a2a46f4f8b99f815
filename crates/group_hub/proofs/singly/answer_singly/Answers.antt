use Rattle.std.proofs.Common.{◌≡◌, ◌+◌, ◌<◌, ◌++◌, List, length, length-set, get_or, set, take, drop, refl, sym, ap, ◌∙◌, arith, rules}
use Rattle.group_hub.specs.declared.session.Session.{Session}
use Rattle.group_hub.proofs.SessionsHeld.{room_beside}
use Rattle.group_hub.proofs.SessionsPut.{none_waits, written_back}
use Rattle.group_hub.proofs.SinglySoFar.{FailsSo, singly_none, turn_none, turn_done, turn_left, turn_fails, singly_all}
use Rattle.group_hub.proofs.singly.answer_singly.Given.{Over}
use Rattle.group_hub.proofs.singly.answer_singly.Goals as goal
use Rattle.group_hub.proofs.singly.answer_singly.Goals.{In-Failed, then-is_waiting+in-Ok, then-is_waiting+in-Err+in_default, else-is_waiting}

pub loop-session-init : goal.loop-session-init
loop-session-init g c =
    let s = g.S.SiteKeeper in
    rw c.deref_mut-session-items.ensures.value (singly_none s.pinned s.site_state s.lacks s.crash_states s.represents g.met.S.SiteKeeper.crash_states_represent c.args.site.now c.args.sessions.now.items c.requires.usable c.requires.stand.held c.requires.stand.sound)

pub answer_alone-requires-clause-may_pin : goal.answer_alone-requires-clause-may_pin
answer_alone-requires-clause-may_pin g c =
    let s = g.S.SiteKeeper in
    let items = c.loop-session.session-items in
    let i = c.loop-session.session-index in
    let x = get_or items i c.session-item.result in
    record {
      usable = c.loop-session.invariant.works.usable;
      room = room_beside s.pinned (s.site_state c.loop-session.site) items i x (omega arith) (ap (get_or items i) c.session-item.is) (none_waits s.pinned x.phase (sym c.is_waiting.ensures ∙ c.if-is_waiting.true)) c.loop-session.invariant.held (omega arith);
    }

pub loop-session-preserved : goal.loop-session-preserved
loop-session-preserved g c =
    let s = g.S.SiteKeeper in
    let items = c.loop-session.session-items in
    let i = c.loop-session.session-index in
    let left = c.loop-session.left in
    let k = c.loop-session.site in
    let x = get_or items i c.session-item.result in
    let within : i < length items = omega arith in
    let read : x ≡ get_or items i x = ap (get_or items i) c.session-item.is in
    elim c.if-is_waiting.branch [
      | then-is_waiting+in-Ok w ↦
          let y : Session g.row.S-Pin.Denot = record { id = x.id; phase = w.answer_alone.new.phase } in
          let alone = w.in-Ok.ensures in
          let left_is : c.if-is_waiting.left ≡ left = omega (arith, w.left-is) in
          rw (w.site-is, left_is, w.session-items-is) (turn_done s.pinned s.site_state s.lacks s.crash_states s.represents g.met.S.SiteKeeper.crash_states_represent c.args.site.now c.args.sessions.now.items k items i left x within read c.loop-session.invariant
          w.answer_alone.new.site y (sym c.is_waiting.ensures ∙ w.if-is_waiting.true) refl alone.answers.answered alone.answers.phase alone.answers.sound alone.answers.pins alone.valid alone.site)
      | then-is_waiting+in-Err+in_default w ↦
          let y : Session g.row.S-Pin.Denot = record { id = x.id; phase = w.answer_alone.new.phase } in
          let alone = w.in-Err.ensures in
          let left_is : c.if-is_waiting.left ≡ left + 1 = omega (arith, w.left-is) in
          rw (w.site-is, left_is, w.session-items-is) (turn_left s.pinned s.site_state s.lacks s.crash_states s.represents g.met.S.SiteKeeper.crash_states_represent c.args.site.now c.args.sessions.now.items k items i left x within read c.loop-session.invariant
          w.answer_alone.new.site y w.in-Err.fault w.in_default.not-Failed (sym c.is_waiting.ensures ∙ w.if-is_waiting.true) refl alone.answers.err alone.answers.sound alone.answers.pins alone.valid alone.site)
      | else-is_waiting w ↦ rw (w.site-is, w.left-is, w.session-items-is) (turn_none s.pinned s.site_state s.lacks s.crash_states s.represents g.met.S.SiteKeeper.crash_states_represent c.args.site.now c.args.sessions.now.items k items i left x within read c.loop-session.invariant (sym c.is_waiting.ensures ∙ w.if-is_waiting.false))
    ]

-- the sessions once a commit has failed
abbrev changed : (g : Over) (c : In-Failed g) → List (Session g.row.S-Pin.Denot)
changed g c =
    let x = get_or c.loop-session.session-items c.loop-session.session-index c.session-item.result in
    set c.loop-session.session-items c.loop-session.session-index (record { id = x.id; phase = c.answer_alone.new.phase })

failed : (g : Over) (c : In-Failed g) → FailsSo g.S.SiteKeeper.pinned g.S.SiteKeeper.site_state g.S.SiteKeeper.lacks g.S.SiteKeeper.crash_states g.S.SiteKeeper.represents g.met.S.SiteKeeper.crash_states_represent c.args.site.now c.args.sessions.now.items c.answer_alone.new.site (changed g c)
failed g c =
    let s = g.S.SiteKeeper in
    let items = c.loop-session.session-items in
    let i = c.loop-session.session-index in
    let x = get_or items i c.session-item.result in
    let within : i < length items = omega arith in
    let read : x ≡ get_or items i x = ap (get_or items i) c.session-item.is in
    let y : Session g.row.S-Pin.Denot = record { id = x.id; phase = c.answer_alone.new.phase } in
    let alone = rw c.in-Failed.is at c.in-Err.ensures in
    turn_fails s.pinned s.site_state s.lacks s.crash_states s.represents g.met.S.SiteKeeper.crash_states_represent c.args.site.now c.args.sessions.now.items c.loop-session.site items i c.loop-session.left x within read c.loop-session.invariant
    c.answer_alone.new.site y c.requires.usable (sym c.is_waiting.ensures ∙ c.if-is_waiting.true) refl alone.answers.err alone.answers.sound alone.answers.pins alone.valid alone.site

written : (g : Over) (c : In-Failed g) → take c.args.sessions.now.len (changed g c ++ drop (length (changed g c)) c.args.sessions.now.items) ≡ changed g c
written g c = written_back c.args.sessions.now.items (changed g c) c.args.sessions.now.len (omega (arith, length-set {A = Session g.row.S-Pin.Denot}))

pub returns-in-Failed-clause-takes : goal.returns-in-Failed-clause-takes
returns-in-Failed-clause-takes g c = record { takes = search rules; fails = rw (written g c.before) (failed g c.before).fails }

pub returns-in-Failed-clause-works : goal.returns-in-Failed-clause-works
returns-in-Failed-clause-works g c = (failed g c.before).works

pub returns-in-Failed-clause-sessions : goal.returns-in-Failed-clause-sessions
returns-in-Failed-clause-sessions g c = let f = failed g c.before in rw (written g c.before) (record { held = f.held; sound = f.sound; fewer = f.fewer })

pub returns-clause-takes : goal.returns-clause-takes
returns-clause-takes g c =
    let s = g.S.SiteKeeper in
    let all = singly_all s.pinned s.site_state s.lacks s.crash_states s.represents g.met.S.SiteKeeper.crash_states_represent c.args.site.now c.args.sessions.now.items c.loop-session.site c.loop-session.session-items c.loop-session.session-index c.loop-session.left (omega arith) c.loop-session.invariant in
    record { takes = rw (written_back c.args.sessions.now.items c.loop-session.session-items c.args.sessions.now.len (omega arith)) all.takes; fails = search rules }
