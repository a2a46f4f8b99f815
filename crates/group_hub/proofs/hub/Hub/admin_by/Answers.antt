use Rattle.std.proofs.Common.{◌≡◌, true, false, not, refl, ap, rules, subst, inl}
use Rattle.host_types.specs.CrashStates.{no_new_crash_state}
use Rattle.host_types.specs.declared.change.Change.{Change}
use Rattle.host_types.specs.declared.site_fault.SiteFault.TheVariants as faults
use Rattle.group_hub.specs.Calls.{HubCall}
use Rattle.group_hub.specs.Hub.{world_of, sessions_in_hub}
use Rattle.group_world.proofs.Leaving.{weaker}
use Rattle.group_world.specs.declared.event.Event.TheVariants.{Admin}
use Rattle.group_world.specs.declared.event.Outcome.{Outcome}
use Rattle.group_world.specs.declared.event.Outcome.TheVariants.{Fault}
use Rattle.group_hub.proofs.AdminCalls.{not_made_call}
use Rattle.group_hub.proofs.CallsMade.{shut_call}
use Rattle.group_hub.proofs.CountedCalls.{shut_counts}
use Rattle.group_hub.proofs.hub.Hub.admin_by.Goals as goal

pub returns-then-not-is_usable : goal.returns-then-not-is_usable
returns-then-not-is_usable g c =
    let k = g.S.SiteKeeper.site_state c.args.self.now.site in
    let shut : k.usable ≡ false = search rules in
    let counts = shut_counts {T = Outcome} k shut in
    shut_call _ _ _ _ (world_of g.S.SiteKeeper.site_state c.args.self.now) c.args.self.now.site (Admin c.args.change.now c.args.now) (g.met.S.SiteKeeper.crash_states_represent c.args.self.now.site) (ap not shut) refl (λ honest. inl shut)
    (record { reads = counts.reads; writes = counts.writes }) refl refl

pub returns-in_default : goal.returns-in_default
returns-in_default g c =
    let s = g.S.SiteKeeper in
    let hub = c.args.self.now in
    let usable : (s.site_state hub.site).usable ≡ true = search rules in
    let stays = no_new_crash_state (s.crash_states hub.site) in
    not_made_call s.site_state s.lacks s.crash_states s.represents hub.site hub.site hub.next hub.grouped (sessions_in_hub hub) c.args.change.now c.args.now faults.Memory (record { reads = refl; writes = refl }) usable refl
    (g.met.S.SiteKeeper.crash_states_represent hub.site) (λ honest. weaker _ _ _ _ stays (λ x may. inl (g.met.S.SiteKeeper.crash_states_represent hub.site x honest usable may))) (λ honest up. stays)
    (record { site = λ honest. refl; usable = refl; free = refl }) tt

pub returns-in-Err : goal.returns-in-Err
returns-in-Err g c =
    let s = g.S.SiteKeeper in
    let same : c.in-Ok.change ≡ c.args.change.now = search rules in
    subst (λ (x : Change). HubCall s.site_state s.lacks s.crash_states s.represents c.args.self.now (Admin x c.args.now) (Fault c.in-Err.fault) c.admin.new.self) same c.in-Err.ensures
