use Rattle.std.proofs.Common.{◌≡◌, ◌<◌, ◌∷◌, length, get_or, refl, ap, arith, rules}
use Rattle.std.proofs.lemmas.Grind.{common_steps}
use Rattle.host_types.specs.CrashStates.{no_new_crash_state, adds_none_again}
use Rattle.group_hub.specs.declared.session.Session.{Session}
use Rattle.group_hub.proofs.PinsMoved.{gives_again, still_honest}
use Rattle.group_hub.proofs.SessionsPut.{put_nothing, some_left, none_left, turn_waits, turn_out, turn, all_put, written_back}
use Rattle.group_hub.proofs.putting.put_next.Goals as goal

pub remove-requires : goal.remove-requires
remove-requires g c =
    let some : 0 < length c.loop-session.next.items = some_left g.S.SiteKeeper.pinned c.loop-session.session-items c.loop-session.session-index c.loop-session.next.items (omega arith) c.loop-session.invariant.put.waiting in
    omega arith

pub loop-session-init : goal.loop-session-init
loop-session-init g c = record { put = rw c.deref_mut-session-items.ensures.value (put_nothing g.S.SiteKeeper.pinned c.args.putting _ c.args.sessions.now.items c.args.next.items c.requires.waiting c.requires.held); keeper = record { same = refl; free = omega arith }; at_crash = λ honest. no_new_crash_state _ }

pub put_one-requires : goal.put_one-requires
put_one-requires g c =
    let s = g.S.SiteKeeper in
    let items = c.loop-session.session-items in
    let i = c.loop-session.session-index in
    let x = get_or items i c.session-item.result in
    let within : i < length items = omega arith in
    let read : x ≡ get_or items i x = ap (get_or items i) c.session-item.is in
    let is : c.loop-session.next.items ≡ c.remove.result ∷ c.remove.new.self.items = grind (arith, common_steps, rules) in
    record {
      waiting = turn_waits s.pinned c.args.putting (s.site_state c.args.site.now) (s.site_state c.loop-session.site) c.args.sessions.now.items c.args.next.items c.loop-session.next.items c.remove.new.self.items c.remove.result items i x within read is c.loop-session.invariant.put;
      out = turn_out s.pinned c.args.putting (s.site_state c.args.site.now) (s.site_state c.loop-session.site) c.args.sessions.now.items c.args.next.items c.loop-session.next.items c.remove.new.self.items c.remove.result items i x within read is c.loop-session.invariant.put;
    }

pub loop-session-preserved : goal.loop-session-preserved
loop-session-preserved g c =
    let s = g.S.SiteKeeper in
    let items = c.loop-session.session-items in
    let i = c.loop-session.session-index in
    let x = get_or items i c.session-item.result in
    let within : i < length items = omega arith in
    let read : x ≡ get_or items i x = ap (get_or items i) c.session-item.is in
    let is : c.loop-session.next.items ≡ c.remove.result ∷ c.remove.new.self.items = grind (arith, common_steps, rules) in
    let before = c.loop-session.invariant in
    let one = c.put_one.ensures in
    let y : Session g.row.S-Pin.Denot = record { id = x.id; phase = c.put_one.new.phase } in
    record {
      put = turn s.pinned c.args.putting (s.site_state c.args.site.now) (s.site_state c.loop-session.site) c.args.sessions.now.items c.args.next.items c.loop-session.next.items c.remove.new.self.items c.remove.result items i x within read is (s.site_state c.put_one.new.site) y refl one.phase one.pins (λ none. ap s.site_state (one.same none)) before.put;
      keeper = gives_again _ _ _ before.keeper one.keeper;
      at_crash = λ honest. adds_none_again _ _ _ (before.at_crash honest) (one.at_crash (still_honest _ _ before.keeper honest));
    }

pub destroy_empty-requires : goal.destroy_empty-requires
destroy_empty-requires g c =
    let none = none_left g.S.SiteKeeper.pinned c.loop-session.session-items c.loop-session.session-index c.loop-session.next.items (omega arith) c.loop-session.invariant.put.waiting in
    let zero : length c.loop-session.next.items ≡ 0 = ap length none in
    omega arith

pub returns-clause-puts : goal.returns-clause-puts
returns-clause-puts g c =
    let all = all_put g.S.SiteKeeper.pinned c.args.putting _ _ _ _ _ _ c.loop-session.session-index c.requires.waiting (omega arith) c.loop-session.invariant.put in
    rw (written_back c.args.sessions.now.items c.loop-session.session-items c.args.sessions.now.len (omega arith)) (record { sessions = all.sessions; held = all.held; sound = λ honest. all.sound; fewer = all.fewer; keeper = c.loop-session.invariant.keeper })
