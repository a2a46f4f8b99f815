use Rattle.std.proofs.Common.{◌≡◌, ◌<◌, List, [], length, remove, refl, sym, ap, subst, ◌∙◌, arith, rules}
use Rattle.std.specs.Prelude.{IsTrue}
use Rattle.host_types.specs.SiteState.{SiteState}
use Rattle.host_types.specs.CrashStates.{no_new_crash_state, adds_none_again}
use Rattle.group_hub.specs.HeldPins.{HoldsAll}
use Rattle.group_hub.specs.Sessions.{pins_of}
use Rattle.group_hub.specs.declared.session.Session.{Session}
use Rattle.group_hub.proofs.PinsMoved.{gives_again, none_out, no_length}
use Rattle.group_hub.proofs.SessionsMoved.{own_pin_is_held}
use Rattle.group_hub.proofs.SessionsHeld.{out_at}
use Rattle.group_hub.proofs.pins.end_all.Goals as goal

pub loop-sessions-init : goal.loop-sessions-init
loop-sessions-init g c = (c.requires, record { same = refl; free = omega arith }, λ honest. no_new_crash_state _, refl, λ none. (refl, none))

pub give_back-requires : goal.give_back-requires
give_back-requires g c =
    let s = g.S.SiteKeeper in
    let items = c.loop-sessions.sessions.items in
    let some : 0 < length items = search rules in
    record { out = out_at s.pinned (s.site_state c.loop-sessions.site) items 0 c.remove-phase.result some c.remove-phase.ensures.value c.loop-sessions.invariant.0 }

pub loop-sessions-preserved : goal.loop-sessions-preserved
loop-sessions-preserved g c =
    let s = g.S.SiteKeeper in
    let items = c.loop-sessions.sessions.items in
    let before = c.loop-sessions.invariant in
    let l = s.site_state c.give_back.new.site in
    let some : 0 < length items = search rules in
    let left : HoldsAll l (pins_of s.pinned (remove items 0)) = c.give_back.ensures.pins.all (pins_of s.pinned (remove items 0)) (own_pin_is_held s.pinned (s.site_state c.loop-sessions.site) items 0 c.remove-phase.result some c.remove-phase.ensures.value before.0) in (
      subst (λ (xs : List (Session g.row.S-Pin.Denot)). HoldsAll l (pins_of s.pinned xs)) (sym c.remove-phase.ensures.items) left,
      gives_again _ _ _ before.1 c.give_back.ensures.only,
      λ honest. adds_none_again _ _ _ (before.2 honest) (c.give_back.ensures.at_crash (subst IsTrue (sym (ap (λ (h : SiteState). h.honest) before.1.same)) honest)),
      c.give_back.ensures.moment ∙ before.3,
      λ none. (let no : length items ≡ 0 = ap length (before.4 none).1 in absurd (omega (arith, some, no))),
    )

pub returns-clause-closed : goal.returns-clause-closed
returns-clause-closed g c =
    let s = g.S.SiteKeeper in
    let items = c.loop-sessions.sessions.items in
    let all = c.loop-sessions.invariant in
    let zero : length items ≡ 0 = search rules in
    let none : items ≡ [] = no_length items zero in
    record {
      unpinned = none_out (s.site_state c.loop-sessions.site) (subst (λ (xs : List (Session g.row.S-Pin.Denot)). HoldsAll (s.site_state c.loop-sessions.site) (pins_of s.pinned xs)) none all.0);
      keeper = all.1;
      no_new_crash_state = all.2;
      moment = all.3;
    }

pub returns-clause-none : goal.returns-clause-none
returns-clause-none g c = λ none. (c.loop-sessions.invariant.4 none).0
