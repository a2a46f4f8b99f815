use Rattle.std.proofs.Common.{◌≡◌, ◌∷◌, refl, ap, arith, rules, ⊎_elim}
use Rattle.std.proofs.lemmas.Grind.{common_steps}
use Rattle.host_types.specs.CrashStates.{no_new_crash_state, adds_none_again}
use Rattle.group_hub.specs.Flushing.{next_pin}
use Rattle.group_hub.specs.Sessions.{pin_of}
use Rattle.group_hub.proofs.PinsMoved.{gives_again, still_honest}
use Rattle.group_hub.proofs.SessionsPut.{beside_front, beside_back, front_held, front_out, front_back}
use Rattle.group_hub.proofs.putting.put_nobody.Goals as goal

pub loop-next-init : goal.loop-next-init
loop-next-init g c = record { held = c.requires.held; stands = λ sessions held. record { held = held; seen = refl; sound = λ sound. sound }; keeper = record { same = refl; free = omega arith }; at_crash = λ honest. no_new_crash_state _ }

pub give_back-requires : goal.give_back-requires
give_back-requires g c =
    let s = g.S.SiteKeeper in
    let is : c.loop-next.next.items ≡ c.remove.result ∷ c.remove.new.self.items = grind (arith, common_steps, rules) in
    let own : next_pin s.pinned c.remove.result ≡ pin_of s.pinned c.in-Gone.phase = ⊎_elim (λ gone. ap (next_pin s.pinned) gone) (λ replied. ap (next_pin s.pinned) replied) c.in-Gone.is in
    record { out = front_out s.pinned _ _ _ (front_held s.pinned _ _ _ _ _ is own c.loop-next.invariant.held) }

pub loop-next-preserved : goal.loop-next-preserved
loop-next-preserved g c =
    let s = g.S.SiteKeeper in
    let before = c.loop-next.invariant in
    let back = c.give_back.ensures in
    let is : c.loop-next.next.items ≡ c.remove.result ∷ c.remove.new.self.items = grind (arith, common_steps, rules) in
    let own : next_pin s.pinned c.remove.result ≡ pin_of s.pinned c.in-Gone.phase = ⊎_elim (λ gone. ap (next_pin s.pinned) gone) (λ replied. ap (next_pin s.pinned) replied) c.in-Gone.is in
    record {
      held = front_back s.pinned _ _ _ _ (front_held s.pinned _ _ _ _ _ is own before.held) back.pins;
      stands = λ sessions held. beside_back s.pinned _ _ (s.site_state c.give_back.new.site) (pin_of s.pinned c.in-Gone.phase) _ sessions (beside_front s.pinned _ _ _ _ _ _ sessions is own (before.stands sessions held)) back.pins;
      keeper = gives_again _ _ _ before.keeper back.only;
      at_crash = λ honest. adds_none_again _ _ _ (before.at_crash honest) (back.at_crash (still_honest _ _ before.keeper honest));
    }
