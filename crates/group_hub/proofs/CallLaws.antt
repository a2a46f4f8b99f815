-- Runs of calls: they join and part, and what a crash leaves of them.
use Rattle.std.proofs.Common.{◌≡◌, List, [], ◌∷◌, ◌++◌, length, refl, sym, ap, ◌∙◌, subst, arith}
use Rattle.std.proofs.Props.{props}
use Rattle.std.specs.Prelude.{IsTrue, true}
use Rattle.host_types.specs.AllChanges.{Changes}
use Rattle.host_types.specs.Site.{Site}
use Rattle.host_types.specs.SiteState.{SiteState}
use Rattle.host_types.specs.CrashStates.{CrashStates, may_crash_to}
use Rattle.host_types.specs.declared.site_fault.SiteFault.{SiteFault}
use Rattle.group_world.specs.World.{World}
use Rattle.group_world.specs.CrashStates.{Link, LeavesInTurn, HasCrashStates, last_keeper}
use Rattle.group_world.specs.declared.event.Event.{Event}
use Rattle.group_world.specs.declared.event.Outcome.{Outcome}
use Rattle.group_world.proofs.Crashes.{calls_leave, calls_since as links_since}
use Rattle.group_hub.specs.Calls.{CallOverKeeper, Calls, Splits, link, links_of, HubCalls, HubRun}
use Rattle.group_hub.specs.Hub.{keeper_of, world_of}
use Rattle.group_hub.specs.Runs.{CallsJoin, CallsPart, CallsRun, CallsCrash, CallsMoments}
use Rattle.group_hub.specs.declared.hub.Hub.{Hub}

module _ {S L : Type 0} (site_state : S → SiteState) (lacks : S → Changes → SiteFault → Type 0) (crash_states : S → CrashStates L) (stands : L → Site → Type 0) where
  abbrev One : World → S → Event → Outcome → World → S → Type 0
  One w k e o v l = CallOverKeeper site_state lacks crash_states stands w k e o v l

  abbrev All : World → S → List Event → List Outcome → World → S → Type 0
  All w k es os v l = Calls site_state lacks crash_states stands w k es os v l

  abbrev links : (w : World) (k : S) (es : List Event) (os : List Outcome) (v : World) (l : S) → IsTrue (site_state k).honest → All w k es os v l → List (Link S)
  links w k es os v l honest calls = links_of site_state lacks crash_states stands w k es os v l honest calls

  abbrev InTurn : World → S → List (Link S) → Type 0
  InTurn w k ls = LeavesInTurn crash_states stands (λ j x e. Splits site_state lacks j x e) w k ls

  abbrev Honest : S → Type 0
  Honest k = IsTrue (site_state k).honest

  honest_once : (k : S) → IsProp (Honest k)
  honest_once k = hlevel props

  -- ---- one run after another

  abbrev Joined : (w m v : World) (k j l : S) (es fs : List Event) (os ps : List Outcome) → All w k es os m j → All m j fs ps v l → Type 0
  Joined w m v k j l es fs os ps first second = (both : All w k (es ++ fs) (os ++ ps) v l)
      × ((honest : Honest k) (still : Honest j) → links w k (es ++ fs) (os ++ ps) v l honest both ≡ links w k es os m j honest first ++ links m j fs ps v l still second)

  -- a run that begins where nothing has come yet
  from_there : (w m v : World) (k j l : S) (fs : List Event) (ps : List Outcome) → m ≡ w → j ≡ k → (second : All m j fs ps v l) →
      (both : All w k fs ps v l) × ((honest : Honest k) (still : Honest j) → links w k fs ps v l honest both ≡ links m j fs ps v l still second)
  from_there w m v k j l fs ps world keeper second =
      subst (λ (x : World). (both : All x k fs ps v l) × ((honest : Honest k) (still : Honest j) → links x k fs ps v l honest both ≡ links m j fs ps v l still second)) world
      (subst (λ (x : S). (both : All m x fs ps v l) × ((honest : Honest x) (still : Honest j) → links m x fs ps v l honest both ≡ links m j fs ps v l still second)) keeper
      (second, λ honest still. ap (λ h. links m j fs ps v l h second) (honest_once j honest still)))

  pub calls_join : CallsJoin site_state lacks crash_states stands
  calls_join w m v k j l [] fs [] ps first second = from_there w m v k j l fs ps first.0 first.1 second
  calls_join w m v k j l (e ∷ es) fs (o ∷ os) ps first second =
      let rest = calls_join first.0 m v first.1 j l es fs os ps first.3 second in
      ((first.0, first.1, first.2, rest.0), λ honest still. ap (λ ls. link e o (first.2.leaves honest).0 first.0 first.1 ∷ ls) (rest.1 (first.2.honest ∙ honest) still))
  calls_join w m v k j l [] fs (o ∷ os) ps first second = absurd first
  calls_join w m v k j l (e ∷ es) fs [] ps first second = absurd first

  pub calls_part : CallsPart site_state lacks crash_states stands
  calls_part w v k l [] fs [] ps run n = record {
    world = w;
    keeper = k;
    front = (refl, refl);
    rest = run;
    same_links = λ honest still. ap (λ h. links w k fs ps v l h run) (honest_once k honest still);
  }
  calls_part w v k l (e ∷ es) fs (o ∷ os) ps run n =
      let parts = calls_part run.0 v run.1 l es fs os ps run.3 (omega (arith, n)) in
      record {
        world = parts.world;
        keeper = parts.keeper;
        front = (run.0, run.1, run.2, parts.front);
        rest = parts.rest;
        same_links = λ honest still. ap (λ ls. link e o (run.2.leaves honest).0 run.0 run.1 ∷ ls) (parts.same_links (run.2.honest ∙ honest) still);
      }
  calls_part w v k l [] fs (o ∷ os) ps run n = absurd (omega (arith, n))
  calls_part w v k l (e ∷ es) fs [] ps run n = absurd (omega (arith, n))

  -- a run goes on by one call
  pub calls_more : (w m v : World) (k j l : S) (es : List Event) (os : List Outcome) (e : Event) (o : Outcome) → All w k es os m j → One m j e o v l → All w k (es ++ e ∷ []) (os ++ o ∷ []) v l
  calls_more w m v k j l es os e o run call = (calls_join w m v k j l es (e ∷ []) os (o ∷ []) run (v, l, call, (refl, refl))).0

  -- each event has an outcome
  pub calls_each : (w v : World) (k l : S) (es : List Event) (os : List Outcome) → All w k es os v l → length os ≡ length es
  calls_each w v k l [] [] run = refl
  calls_each w v k l (e ∷ es) (o ∷ os) run = omega (arith, calls_each run.0 v run.1 l es os run.3)
  calls_each w v k l [] (o ∷ os) run = absurd run
  calls_each w v k l (e ∷ es) [] run = absurd run

  pub calls_honest : (w v : World) (k l : S) (es : List Event) (os : List Outcome) → All w k es os v l → (site_state l).honest ≡ (site_state k).honest
  calls_honest w v k l [] [] run = ap (λ x. (site_state x).honest) run.1
  calls_honest w v k l (e ∷ es) (o ∷ os) run = calls_honest run.0 v run.1 l es os run.3 ∙ run.2.honest
  calls_honest w v k l [] (o ∷ os) run = absurd run
  calls_honest w v k l (e ∷ es) [] run = absurd run

  pub calls_run : CallsRun site_state lacks crash_states stands
  calls_run w v k l [] [] honest run = tt
  calls_run w v k l (e ∷ es) (o ∷ os) honest run = (run.2.step honest, calls_run run.0 v run.1 l es os (run.2.honest ∙ honest) run.3)
  calls_run w v k l [] (o ∷ os) honest run = absurd run
  calls_run w v k l (e ∷ es) [] honest run = absurd run

  -- ---- what they leave

  pub leaves_in_turn : (w v : World) (k l : S) (es : List Event) (os : List Outcome) (honest : Honest k) (run : All w k es os v l) → InTurn w k (links w k es os v l honest run)
  leaves_in_turn w v k l [] [] honest run = tt
  leaves_in_turn w v k l (e ∷ es) (o ∷ os) honest run = ((run.2.leaves honest).1, leaves_in_turn run.0 v run.1 l es os (run.2.honest ∙ honest) run.3)
  leaves_in_turn w v k l [] (o ∷ os) honest run = absurd run
  leaves_in_turn w v k l (e ∷ es) [] honest run = absurd run

  last_is : (w v : World) (k l : S) (es : List Event) (os : List Outcome) (honest : Honest k) (run : All w k es os v l) → last_keeper k (links w k es os v l honest run) ≡ l
  last_is w v k l [] [] honest run = sym run.1
  last_is w v k l (e ∷ es) (o ∷ os) honest run = last_is run.0 v run.1 l es os (run.2.honest ∙ honest) run.3
  last_is w v k l [] (o ∷ os) honest run = absurd run
  last_is w v k l (e ∷ es) [] honest run = absurd run

  -- of a keeper where a crash between two calls leaves what represents its site
  module _ (crash_states_represent : (k : S) (c : L) → IsTrue (site_state k).honest → (site_state k).usable ≡ true → may_crash_to (crash_states k) c → stands c (site_state k).site) where
    stands_first : (w : World) (k : S) → Honest k → (site_state k).usable ≡ true → w.site ≡ (site_state k).site → (c : L) → may_crash_to (crash_states k) c → stands c w.site
    stands_first w k honest usable site c left = subst (stands c) (sym site) (crash_states_represent k c honest usable left)

    pub calls_crash : CallsCrash site_state lacks crash_states stands
    calls_crash w v k l es os honest usable site run =
        let ls = links w k es os v l honest run in
        subst (λ (x : S). HasCrashStates stands w.site (crash_states k) (crash_states x) ls) (last_is w v k l es os honest run)
        (calls_leave crash_states stands (λ j x e. Splits site_state lacks j x e) w k ls (stands_first w k honest usable site) (leaves_in_turn w v k l es os honest run))

    pub calls_since : CallsMoments site_state lacks crash_states stands
    calls_since w m v k j l es fs os ps c honest still usable site first second left =
        let ls = links w k es os m j honest first in
        let ms = links m j fs ps v l still second in
        let both = calls_join w m v k j l es fs os ps first second in
        let same = both.1 honest still in
        let turn : InTurn w k (ls ++ ms) = subst (InTurn w k) same (leaves_in_turn w v k l (es ++ fs) (os ++ ps) honest both.0) in
        let last : last_keeper k (ls ++ ms) ≡ l = ap (last_keeper k) (sym same) ∙ last_is w v k l (es ++ fs) (os ++ ps) honest both.0 in
        links_since crash_states stands (λ j x e. Splits site_state lacks j x e) w k ls ms (stands_first w k honest usable site) turn c
        (subst (λ (x : S). (crash_states x).possible_since (crash_states (last_keeper k ls)).moment c) (sym last)
        (subst (λ (x : S). (crash_states l).possible_since (crash_states x).moment c) (sym (last_is w m k j es os honest first)) left))

    -- ---- of hubs

    pub hub_run : {bound : _} {ghosts : _} (old new : Hub S bound ghosts) (es : List Event) (os : List Outcome) → HubCalls site_state lacks crash_states stands old es os new → HubRun site_state lacks crash_states stands old es os new
    hub_run old new es os calls = record {
      calls = calls;
      at_crash = λ honest usable. calls_crash (world_of site_state old) (world_of site_state new) (keeper_of old) (keeper_of new) es os honest usable refl calls;
    }

    pub hub_rests : {bound : _} {ghosts : _} (hub : Hub S bound ghosts) → HubRun site_state lacks crash_states stands hub [] [] hub
    hub_rests hub = hub_run hub hub [] [] (refl, refl)

    pub hub_goes_on : {bound : _} {ghosts : _} (old mid new : Hub S bound ghosts) (es fs : List Event) (os ps : List Outcome) → HubRun site_state lacks crash_states stands old es os mid → HubRun site_state lacks crash_states stands mid fs ps new → HubRun site_state lacks crash_states stands old (es ++ fs) (os ++ ps) new
    hub_goes_on old mid new es fs os ps first second =
        hub_run old new (es ++ fs) (os ++ ps) (calls_join (world_of site_state old) (world_of site_state mid) (world_of site_state new) (keeper_of old) (keeper_of mid) (keeper_of new) es fs os ps first.calls second.calls).0
