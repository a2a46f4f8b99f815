-- Runs of a hub that go on.
use Rattle.std.proofs.Common.{◌≡◌, ℕ, List, [], ◌∷◌, ◌++◌, refl, sym, ap, ◌∙◌, append_assoc}
use Rattle.std.proofs.lemmas.List.{append-nil}
use Rattle.std.proofs.lemmas.Grind.{flat_map-append}
use Rattle.std.specs.Prelude.{IsTrue, true}
use Rattle.host_types.specs.AllChanges.{Changes}
use Rattle.host_types.specs.Site.{Site}
use Rattle.host_types.specs.SiteState.{SiteState}
use Rattle.host_types.specs.CrashStates.{CrashStates, may_crash_to}
use Rattle.host_types.specs.declared.site_fault.SiteFault.{SiteFault}
use Rattle.group_hub.specs.Calls.{HubCall, HubRun}
use Rattle.group_hub.specs.Hub.{keeper_of, world_of}
use Rattle.group_hub.specs.declared.hub.Hub.{Hub}
use Rattle.group_world.specs.declared.event.Event.{Event}
use Rattle.group_world.specs.declared.event.Outcome.{Outcome}
use Rattle.group_hub.proofs.CallLaws.{hub_run, hub_rests, hub_goes_on}
use Rattle.turns.specs.Runs.{moment_of, moments, HasRun}

-- What holds of some events holds otherwise of the same.
pub run_as : {H : Type 0} (ran : H → List Event → List Outcome → H → Type 0) (old new : H) (t u : List ℕ) (P Q : List Event → List Outcome → Type 0) → HasRun ran old new t u P → ((es : List Event) (os : List Outcome) → P es os → Q es os) → HasRun ran old new t u Q
run_as ran old new t u P Q r f = record { events = r.events; outcomes = r.outcomes; led = r.led; moments_are = r.moments_are; holds = f r.events r.outcomes r.holds }

-- A clock that was not asked gave nothing, whatever it gave before.
pub untold : {H : Type 0} (ran : H → List Event → List Outcome → H → Type 0) (old new : H) (t : List ℕ) (P : List Event → List Outcome → Type 0) → HasRun ran old new [] [] P → HasRun ran old new t t P
untold ran old new t P r = record { events = r.events; outcomes = r.outcomes; led = r.led; moments_are = sym (append-nil t) ∙ ap (λ l. t ++ l) r.moments_are; holds = r.holds }

module _ {S L : Type 0} (site_state : S → SiteState) (lacks : S → Changes → SiteFault → Type 0) (crash_states : S → CrashStates L) (stands : L → Site → Type 0)
    (law : (k : S) (c : L) → IsTrue (site_state k).honest → (site_state k).usable ≡ true → may_crash_to (crash_states k) c → stands c (site_state k).site) where
  -- no event
  pub run_none : {bound : _} {ghosts : _} (hub : Hub S bound ghosts) (t : List ℕ) (P : List Event → List Outcome → Type 0) → P [] [] → HasRun (HubRun site_state lacks crash_states stands) hub hub t t P
  run_none hub t P p = record { events = []; outcomes = []; led = hub_rests site_state lacks crash_states stands law hub; moments_are = sym (append-nil t); holds = p }

  -- one call
  pub run_one : {bound : _} {ghosts : _} (old new : Hub S bound ghosts) (e : Event) (o : Outcome) (t u : List ℕ) (P : List Event → List Outcome → Type 0) → HubCall site_state lacks crash_states stands old e o new → u ≡ t ++ moment_of e → P (e ∷ []) (o ∷ []) → HasRun (HubRun site_state lacks crash_states stands) old new t u P
  run_one old new e o t u P call given p = record {
    events = e ∷ [];
    outcomes = o ∷ [];
    led = hub_run site_state lacks crash_states stands law old new (e ∷ []) (o ∷ []) (world_of site_state new, keeper_of new, call, (refl, refl));
    moments_are = given ∙ ap (λ l. t ++ l) (sym (append-nil (moment_of e)));
    holds = p;
  }

  -- some events and then others
  pub run_both : {bound : _} {ghosts : _} (old mid new : Hub S bound ghosts) (t u v : List ℕ) (P Q R : List Event → List Outcome → Type 0) → HasRun (HubRun site_state lacks crash_states stands) old mid t u P → HasRun (HubRun site_state lacks crash_states stands) mid new u v Q →
      ((es fs : List Event) (os ps : List Outcome) → P es os → Q fs ps → R (es ++ fs) (os ++ ps)) → HasRun (HubRun site_state lacks crash_states stands) old new t v R
  run_both old mid new t u v P Q R first second f = record {
    events = first.events ++ second.events;
    outcomes = first.outcomes ++ second.outcomes;
    led = hub_goes_on site_state lacks crash_states stands law old mid new first.events second.events first.outcomes second.outcomes first.led second.led;
    moments_are = second.moments_are ∙ ap (λ l. l ++ moments second.events) first.moments_are ∙ append_assoc t (moments first.events) (moments second.events) ∙ ap (λ l. t ++ l) (sym (flat_map-append moment_of first.events second.events));
    holds = f first.events second.events first.outcomes second.outcomes first.holds second.holds;
  }
