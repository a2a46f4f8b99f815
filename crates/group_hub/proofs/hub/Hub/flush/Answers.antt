use Rattle.std.proofs.Common.{◌≡◌, false, not, refl, ap, subst, inl, inr, rules, arith}
use Rattle.std.specs.Prelude.{IsTrue}
use Rattle.std.proofs.lemmas.Bool.{cases_Bool}
use Rattle.group_world.specs.declared.event.Event.TheVariants.{Flush}
use Rattle.group_world.specs.declared.event.Outcome.{Outcome}
use Rattle.group_hub.specs.Hub.{world_of}
use Rattle.group_hub.proofs.CallsMade.{shut_call}
use Rattle.group_hub.proofs.CountedCalls.{shut_counts}
use Rattle.group_hub.proofs.hub.Hub.flush.Goals as goal

pub returns-then-not-is_usable : goal.returns-then-not-is_usable
returns-then-not-is_usable g c =
    let k = g.S.SiteKeeper.site_state c.args.self.now.site in
    let w = world_of g.S.SiteKeeper.site_state c.args.self.now in
    let shut : k.usable ≡ false = search rules in
    let counts = shut_counts {T = Outcome} k shut in
    shut_call _ _ _ _ w c.args.self.now.site Flush (g.met.S.SiteKeeper.crash_states_represent c.args.self.now.site) (ap not shut) refl (λ honest. inl shut) (record { reads = λ honest. (0, omega arith, refl); writes = counts.writes }) refl refl

pub flush-requires-clause-valid : goal.flush-requires-clause-valid
flush-requires-clause-valid g c = λ some honest.
    elim (cases_Bool c.args.self.now.grouped) [
      | inl groups ↦ c.args.self.now.valid groups honest
      | inr single ↦ (let none = c.args.self.now.alone single honest in absurd (omega (arith, none, some)))
    ]

pub invariant_of-self : goal.invariant_of-self
invariant_of-self g c =
    let hub = c.args.self.now in
    let l = g.S.SiteKeeper.site_state c.flush.new.site in
    let was = λ (honest : IsTrue l.honest). subst IsTrue (c.flush.ensures.call hub.next hub.grouped).honest honest in
    record {
      room = omega (arith, hub.room, c.flush.ensures.places.1);
      few = omega (arith, hub.few, c.flush.ensures.places.0);
      held = c.flush.ensures.sessions.held;
      sound = c.flush.ensures.sessions.sound;
      valid = λ groups honest. c.flush.ensures.valid (hub.valid groups) honest;
      alone = λ single honest. omega (arith, hub.alone single (was honest), c.flush.ensures.sessions.fewer);
    }

pub returns : goal.returns
returns g c = c.flush.ensures.call c.args.self.now.next c.args.self.now.grouped
