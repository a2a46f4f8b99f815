-- Runs over a site that is handed in, and over a device.
use Rattle.std.proofs.Common.{◌≡◌, ◌⊎◌, ⊎_elim, inl, inr, ℕ, zero, suc, ◌≤◌, Bool, true, List, [], ◌∷◌, ◌++◌, length, take, IsTrue, refl, ap, sym, subst, ◌∙◌, arith, length-append}
use Rattle.std.proofs.Props.{props}
use Rattle.std.proofs.lemmas.List.{take_all}
use Rattle.host_types.specs.AllChanges.{Changes}
use Rattle.host_types.specs.SiteState.{SiteState}
use Rattle.host_types.specs.declared.site_fault.SiteFault.{SiteFault}
use Rattle.host_types.specs.Site.{Site}
use Rattle.host_types.specs.CrashStates.{CrashStates, AddsNone, may_crash_to}
use Rattle.sector_device.specs.Device.{State, NothingCounted}
use Rattle.page_store.specs.Sectors.{Image}
use Rattle.group_world.specs.World.{World, started_as}
use Rattle.group_world.specs.CrashStates.{CommitOfChanges, Link, Stored, IsStored, HasCrashStates, HoldsCommits, acknowledged, in_flight, accepted}
use Rattle.group_world.specs.declared.event.Event.{Event}
use Rattle.group_world.specs.declared.event.Outcome.{Outcome}
use Rattle.group_hub.specs.Calls.{Calls, links_of}
use Rattle.group_hub.specs.HeldPins.{IsClosed}
use Rattle.group_hub.proofs.CallLaws.{calls_honest}
use Rattle.host_on_disk.specs.ImageSites.{ImageRepresents}
use Rattle.host_on_disk.specs.Headline.{IsFound, IsRunFrom, on_device, links_on, Survives, RunsOver, RunsAndSurvives}

-- ---- the end of a hub

-- the end of a hub leaves its device as honest as it was
pub closed_honest : {S L : Type 0} (site_state : S → SiteState) (crash_states : S → CrashStates L) (new result : S) → IsClosed site_state crash_states new result → (site_state result).honest ≡ (site_state new).honest
closed_honest site_state crash_states new result closes = ap (λ (h : SiteState). h.honest) closes.keeper.same

-- the first calls acknowledge no more than all
fewer : {S : Type 0} (ls : List (Link S)) (n : ℕ) → length (acknowledged (take n ls)) ≤ length (acknowledged ls)
fewer [] zero = omega arith
fewer [] (suc n) = omega arith
fewer (l ∷ ls) zero = omega arith
fewer (l ∷ ls) (suc n) = omega (arith, fewer ls n, length-append l.stored.commits (acknowledged (take n ls)), length-append l.stored.commits (acknowledged ls))

-- what has at least so many commits has at least fewer
at_least_fewer : {L : Type 0} (stands : L → Site → Type 0) (site : Site) (commits : List CommitOfChanges) (a b : ℕ) (c : L) → b ≤ a → HoldsCommits stands site commits a c → HoldsCommits stands site commits b c
at_least_fewer stands site commits a b c le h = record { count = h.count; at_least = omega (arith, le, h.at_least); at_most = h.at_most; represented = h.represented }

-- Where nothing is written after a run, and no time passes, what a crash leaves is as before.
closed_run : {S L : Type 0} (stands : L → Site → Type 0) (site : Site) (first last closed : CrashStates L) (ls : List (Link S)) → HasCrashStates stands site first last ls → AddsNone last closed → closed.moment ≡ last.moment → HasCrashStates stands site first closed ls
closed_run stands site first last closed ls r none same =
    let n = length ls in
    let start : first.moment ≤ last.moment = subst (λ t. t ≤ last.moment) r.begins (subst (λ t. r.at 0 ≤ t) r.is_now (r.rises 0 n (omega arith))) in
    let all : take n ls ≡ ls = take_all n ls (omega arith) in
    let at_end : (c : _) → may_crash_to last c → HoldsCommits stands site (accepted ls) (length (acknowledged ls)) c =
    λ c left. subst (λ (x : List (Link _)). HoldsCommits stands site (accepted ls) (length (acknowledged x)) c) all (r.each n c (omega arith) (subst (λ t. last.possible_since t c) (sym r.is_now) left)) in
    record {
      at = r.at;
      begins = r.begins;
      is_now = r.is_now ∙ sym same;
      rises = r.rises;
      each = λ k c within left.
          let before : r.at k ≤ last.moment = subst (λ t. r.at k ≤ t) r.is_now (r.rises k n within) in
          ⊎_elim (λ old. r.each k c within old) (λ now. at_least_fewer stands site (accepted ls) (length (acknowledged ls)) (length (acknowledged (take k ls))) c (fewer ls k) (at_end c now)) (none.nothing_else (r.at k) c before left);
      keeps = λ t c le left. none.keeps t c (omega (arith, le, start)) (r.keeps t c le left);
      since = λ t c le left. ⊎_elim (λ old. r.since t c le old) (λ now. inr (at_least_fewer stands site (accepted ls) (length (acknowledged ls)) 0 c (omega arith) (at_end c now))) (none.nothing_else t c (omega (arith, le, start)) left);
    }

-- ---- over a site

module _ {S L : Type 0} (site_state : S → SiteState) (lacks : S → Changes → SiteFault → Type 0) (crash_states : S → CrashStates L) (stands : L → Site → Type 0) where
  abbrev All : World → S → List Event → List Outcome → World → S → Type 0
  All w k es os v l = Calls site_state lacks crash_states stands w k es os v l

  abbrev links : (w : World) (k : S) (es : List Event) (os : List Outcome) (v : World) (l : S) → IsTrue (site_state k).honest → All w k es os v l → List (Link S)
  links w k es os v l honest calls = links_of site_state lacks crash_states stands w k es os v l honest calls

  abbrev Crashes : (w : World) (k : S) (es : List Event) (os : List Outcome) (v : World) (l closed : S) → All w k es os v l → Type 0
  Crashes w k es os v l closed calls = (honest : IsTrue (site_state k).honest) → HasCrashStates stands w.site (crash_states k) (crash_states closed) (links w k es os v l honest calls)

  abbrev Ran : World → S → List Event → List Outcome → World → S → S → Type 0
  Ran w k es os v l closed = (calls : All w k es os v l) × Crashes w k es os v l closed calls

  -- a hub runs over the site that was handed in, and gives it back
  pub handed_over : (site held new result : S) (old last : World) (grouped : Bool) (first : ℕ) (es : List Event) (os : List Outcome) →
      held ≡ site →
      old ≡ started_as grouped (site_state site).site first →
      IsClosed site_state crash_states new result →
      (site_state site).usable ≡ true →
      (calls : All old held es os last new) →
      ((honest : IsTrue (site_state held).honest) → (site_state held).usable ≡ true → HasCrashStates stands old.site (crash_states held) (crash_states new) (links old held es os last new honest calls)) →
      RunsOver site_state lacks crash_states stands site result grouped first es os
  handed_over site held new result old last grouped first es os p q closes usable calls at_crash =
      let still : (site_state held).usable ≡ true = subst (λ x. (site_state x).usable ≡ true) (sym p) usable in
      let closed : Crashes old held es os last new result calls = λ honest.
      let honest_now : IsTrue (site_state new).honest = calls_honest site_state lacks crash_states stands old last held new es os calls ∙ honest in
      closed_run stands old.site (crash_states held) (crash_states new) (crash_states result) (links old held es os last new honest calls) (at_crash honest still) (closes.no_new_crash_state honest_now) closes.moment in
      let start = started_as grouped (site_state site).site first in
      let ran : Ran start site es os last new result = subst (λ (x : S). Ran start x es os last new result) p (subst (λ (w : World). Ran w held es os last new result) q (calls, closed)) in
      record {
        last = last;
        before = new;
        calls = ran.0;
        closes = closes;
        honest = closed_honest site_state crash_states new result closes ∙ calls_honest site_state lacks crash_states stands start last site new es os ran.0;
        at_crash = ran.1;
      }

-- ---- over a device

module _ {S D : Type 0} (device : S → D) where
  acknowledged_on : (ls : List (Link S)) → acknowledged (links_on device ls) ≡ acknowledged ls
  acknowledged_on [] = refl
  acknowledged_on (l ∷ ls) = ap (λ (x : List CommitOfChanges). l.stored.commits ++ x) (acknowledged_on ls)

  in_flight_on : (ls : List (Link S)) → in_flight (links_on device ls) ≡ in_flight ls
  in_flight_on [] = refl
  in_flight_on (l ∷ ls) = ap (λ (x : List CommitOfChanges). l.stored.flying ++ x) (in_flight_on ls)

  accepted_on : (ls : List (Link S)) → accepted (links_on device ls) ≡ accepted ls
  accepted_on ls = ap (λ (x : List CommitOfChanges). x ++ in_flight (links_on device ls)) (acknowledged_on ls) ∙ ap (λ (x : List CommitOfChanges). acknowledged ls ++ x) (in_flight_on ls)

  take_on : (n : ℕ) (ls : List (Link S)) → take n (links_on device ls) ≡ links_on device (take n ls)
  take_on zero [] = refl
  take_on zero (l ∷ ls) = refl
  take_on (suc n) [] = refl
  take_on (suc n) (l ∷ ls) = ap (λ (x : List (Link D)). on_device device l ∷ x) (take_on n ls)

  length_on : (ls : List (Link S)) → length (links_on device ls) ≡ length ls
  length_on [] = refl
  length_on (l ∷ ls) = ap suc (length_on ls)

  -- what a crash leaves of a site it leaves of its device
  crash_on_device : {L : Type 0} (stands : L → Site → Type 0) (site : Site) (first last : CrashStates L) (ls : List (Link S)) → HasCrashStates stands site first last ls → HasCrashStates stands site first last (links_on device ls)
  crash_on_device stands site first last ls h = record {
    at = h.at;
    begins = h.begins;
    is_now = ap h.at (length_on ls) ∙ h.is_now;
    rises = h.rises;
    each = λ k c within left.
        let least : length (acknowledged (take k (links_on device ls))) ≡ length (acknowledged (take k ls)) = ap (λ (x : List (Link D)). length (acknowledged x)) (take_on k ls) ∙ ap (λ (x : List CommitOfChanges). length x) (acknowledged_on (take k ls)) in
        subst (λ (x : List CommitOfChanges). HoldsCommits stands site x (length (acknowledged (take k (links_on device ls)))) c) (sym (accepted_on ls))
        (subst (λ (n : ℕ). HoldsCommits stands site (accepted ls) n c) (sym least) (h.each k c (omega (arith, within, length_on ls)) left));
    keeps = h.keeps;
    since = λ t c le left. ⊎_elim inl (λ from. inr (subst (λ (x : List CommitOfChanges). HoldsCommits stands site x 0 c) (sym (accepted_on ls)) from)) (h.since t c le left);
  }

-- whatever the reason why the changes of an event went one at a time
whatever_the_reason : (split : Type 0) (w : World) (e : Event) (o : Outcome) (v : World) (stored : Stored) → IsStored split w e o v stored → IsStored (Unit {0}) w e o v stored
whatever_the_reason split w e o v stored (inl whole) = inl whole
whatever_the_reason split w e o v stored (inr (usable, why, singly)) = inr (usable, tt, singly)

-- calls over an honest device are a run
calls_are_run : {S D L : Type 0} (device : S → D) (site_state : S → SiteState) (lacks : S → Changes → SiteFault → Type 0) (crash_states : S → CrashStates L) (stands : L → Site → Type 0) (w v : World) (k l : S) (es : List Event) (os : List Outcome) (honest : IsTrue (site_state k).honest) →
    (calls : Calls site_state lacks crash_states stands w k es os v l) → IsRunFrom w es os (links_on device (links_of site_state lacks crash_states stands w k es os v l honest calls))
calls_are_run device site_state lacks crash_states stands w v k l [] [] honest calls = tt
calls_are_run device site_state lacks crash_states stands w v k l (e ∷ es) (o ∷ os) honest calls = (
  record { event = refl; outcome = refl; step = calls.2.step honest; stored = whatever_the_reason _ w e o calls.0 (calls.2.leaves honest).0 (calls.2.leaves honest).1.stored },
  calls_are_run device site_state lacks crash_states stands calls.0 v calls.1 l es os (calls.2.honest ∙ honest) calls.3,
)
calls_are_run device site_state lacks crash_states stands w v k l [] (o ∷ os) honest calls = absurd calls
calls_are_run device site_state lacks crash_states stands w v k l (e ∷ es) [] honest calls = absurd calls

-- what is left represents a site that is found
pub found_at : (first : Site) (commits : List CommitOfChanges) (least : ℕ) (image : Image) → HoldsCommits ImageRepresents first commits least image → (s : Site) × ImageRepresents image s × IsFound first commits least s
found_at first commits least image h = (_, h.represented, record { count = h.count; at_least = h.at_least; at_most = h.at_most; represented = refl })

-- a device is opened, runs, and is given back
unfoldable survives : {D : Type 0} (state : D → State) (crash_states : D → CrashStates Image) (old opened new : D) (grouped : Bool) (first : ℕ) (es : List Event) (os : List Outcome) (site : Site) (ls : List (Link D)) →
    ImageRepresents (state old).disk.view site →
    ((s : Site) → ImageRepresents (state old).disk.view s → s ≡ site) →
    AddsNone (crash_states old) (crash_states opened) →
    IsRunFrom (started_as grouped site first) es os ls →
    HasCrashStates ImageRepresents site (crash_states opened) (crash_states new) ls →
    Survives state crash_states old new grouped first es os
survives state crash_states old opened new grouped first es os site ls stands alone no_new_crash_state run at_crash =
    let from : (c : Image) → (crash_states new).possible_since (crash_states opened).moment c → HoldsCommits ImageRepresents site (accepted ls) 0 c =
    λ c left. at_least_fewer ImageRepresents site (accepted ls) (length (acknowledged (take 0 ls))) 0 c (omega arith) (at_crash.each 0 c (omega arith) (subst (λ t. (crash_states new).possible_since t c) (sym at_crash.begins) left)) in
    record {
      site = site;
      stands = stands;
      alone = alone;
      opened = opened;
      no_new_crash_state = no_new_crash_state;
      links = ls;
      run = run;
      at_crash = at_crash;
      since = λ c left.
          ⊎_elim (λ was. ⊎_elim inl inl (no_new_crash_state.nothing_else (crash_states old).moment c (omega arith) was)) inr
          (at_crash.since (crash_states old).moment c no_new_crash_state.later left);
      again = λ c left. found_at site (accepted ls) 0 c (from c left);
    }

module _ {S D : Type 0} (state : D → State) (device : S → D) (site_state : S → SiteState) (lacks : S → Changes → SiteFault → Type 0) (crash_states : D → CrashStates Image) (as_honest : (s : S) → (site_state s).honest ≡ (state (device s)).honest) where
  abbrev Over : S → S → Bool → ℕ → List Event → List Outcome → Type 0
  Over opened closed grouped first es os = RunsOver site_state lacks (λ s. crash_states (device s)) ImageRepresents opened closed grouped first es os

  -- What a device was opened as, and what stands of that.
  pub record IsOpened (old : D) (opened : S) : Type 0 where
    pub shows : IsTrue (state old).honest → ImageRepresents (state old).disk.view (site_state opened).site
    pub alone : IsTrue (state old).honest → (s : Site) → ImageRepresents (state old).disk.view s → s ≡ (site_state opened).site
    pub counted : NothingCounted (state old) (state (device opened))
    pub usable : (site_state opened).usable ≡ true
    pub no_new_crash_state : IsTrue (state old).honest → AddsNone (crash_states old) (crash_states (device opened))
    pub honest : (state (device opened)).honest ≡ (state old).honest

  -- a device that was opened is run over, and handed back
  pub ran_on : (old new : D) (opened closed : S) (grouped : Bool) (first : ℕ) (es : List Event) (os : List Outcome) → IsOpened old opened → Over opened closed grouped first es os → new ≡ device closed →
      RunsAndSurvives state device site_state lacks (λ s. crash_states (device s)) ImageRepresents crash_states old new grouped first es os
  unfolding survives
  ran_on old new opened closed grouped first es os is over back =
      let still : IsTrue (state old).honest → IsTrue (site_state opened).honest = λ honest. as_honest opened ∙ is.honest ∙ honest in
      let start = started_as grouped (site_state opened).site first in
      let those = λ (honest : IsTrue (site_state opened).honest). links_of site_state lacks (λ s. crash_states (device s)) ImageRepresents start opened es os over.last over.before honest over.calls in
      let once : IsProp (IsTrue (site_state opened).honest) = hlevel props in
      record {
        calls = record {
          opened = opened;
          closed = closed;
          shows = is.shows;
          counted = is.counted;
          usable = is.usable;
          runs = over;
          handed = back;
        };
        survives = λ honest. survives state crash_states old (device opened) new grouped first es os (site_state opened).site (links_on device (those (still honest))) (is.shows honest) (is.alone honest) (is.no_new_crash_state honest)
            (calls_are_run device site_state lacks (λ s. crash_states (device s)) ImageRepresents start over.last opened over.before es os (still honest) over.calls)
            (subst (λ (d : D). HasCrashStates ImageRepresents (site_state opened).site (crash_states (device opened)) (crash_states d) (links_on device (those (still honest)))) (sym back)
            (crash_on_device device ImageRepresents (site_state opened).site (crash_states (device opened)) (crash_states (device closed)) (those (still honest)) (over.at_crash (still honest))));
        opened = λ honest. refl;
        site = λ honest. refl;
        links = λ honest again. ap (λ h. links_on device (those h)) (once (still honest) again);
        honest = ap (λ d. (state d).honest) back ∙ sym (as_honest closed) ∙ over.honest ∙ as_honest opened ∙ is.honest;
      }
